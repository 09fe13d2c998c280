use Rattle.std.proofs.Common.{◌≡◌, ◌-◌, Result, Ok, Err, ap, ◌∙◌, subst, arith, rules}
use Rattle.std.specs.Prelude.{OnOk}
use Rattle.hg_chains.specs.declared.landmarks.Landmark.{Landmark}
use Rattle.hg_chains.specs.declared.node.Strand.{Strand}
use Rattle.hg_chains.specs.Strands.{node_behind}
use Rattle.hg_chains.specs.Arenas.{head_in}
use Rattle.hg_chains.specs.Landmarks.{IsDue, landmarks_of, top_of}
use Rattle.hg_chains.proofs.Removals.{first_within}
use Rattle.hg_chains.proofs.LandmarkFacts.{third_landmark, top_snoc, added}
use Rattle.hg_chains.proofs.landmarks.Landmarks.note.Goals as goal

pub next-requires : goal.next-requires
next-requires c =
    let a = c.args.arena.now in
    let e = ap (λ (s : Strand). s.count) c.strand-first.ensures in
    let f = ap (λ (s : Strand). s.first) c.strand-first.ensures in
    let due : IsDue c.strand-first.result.count = search rules in
    let long = due.0 in
    let k = first_within a.heads.items a.nodes.items a.free c.requires.arena.strands c.args.place (omega (arith, e, long)) in
    omega (arith, f, k)

pub returns-clause-landmarks : goal.returns-clause-landmarks
returns-clause-landmarks c =
    let a = c.args.arena.now in
    let e = ap (λ (s : Strand). s.count) c.strand-first.ensures in
    let due : IsDue c.strand-first.result.count = search rules in
    let long = due.0 in
    let low = c.if-top-count.false in
    let top = c.top.ensures in
    let node : c.next.result ≡ node_behind a.nodes.items 1 (head_in a c.args.place).strand.first = c.next.ensures ∙
    ap (λ (s : Strand). node_behind a.nodes.items 1 s.first) c.strand-first.ensures in
    added a c.args.place c.args.self.now c.add.new.self _ c.add.result c.add.ensures.last c.add.ensures.others c.add.ensures.refused
    (third_landmark a c.args.place (record { node = c.next.result; height = c.strand-first.result.count - 1 }) (subst IsDue e due) (ap (λ n. n - 1) e) node)
    (omega (arith, low, top, long)) c.requires.landmarks

pub returns-clause-laid : goal.returns-clause-laid
returns-clause-laid c =
    let e = ap (λ (s : Strand). s.count) c.strand-first.ensures in
    let m : Landmark = record { node = c.next.result; height = c.strand-first.result.count - 1 } in
    on_ok c.add.result (λ last due. let top = ap top_of last ∙ top_snoc (landmarks_of c.args.self.now c.args.place) m in omega (arith, e, top)) c.add.ensures.last
  where
    on_ok : {T E A B : Type 0} (r : Result T E) → (A → B) → OnOk r A → OnOk r B
    on_ok (Ok x) f a = f a
    on_ok (Err x) f a = a
