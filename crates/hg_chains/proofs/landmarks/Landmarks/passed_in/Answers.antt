use Rattle.std.proofs.Common.{◌≡◌, ◌∙◌, false, take, sym, ap, subst, arith}
use Rattle.hg_chains.specs.declared.node.Strand.{Strand}
use Rattle.hg_base.specs.Lists.{Each}
use Rattle.hg_chains.specs.Versions.{is_at_most}
use Rattle.hg_chains.specs.Strands.{node_at, node_behind, version_in}
use Rattle.hg_chains.specs.Arenas.{head_in, tail_in}
use Rattle.hg_chains.specs.Landmarks.{IsLandmarkIn, landmarks_of}
use Rattle.hg_base.proofs.ListFacts.{each_keeps, false_true}
use Rattle.hg_chains.proofs.LandmarkFacts.{landmark_stands, over_before}
use Rattle.hg_chains.proofs.Walks.{at_there, not_both, passed_many}
use Rattle.hg_chains.proofs.landmarks.Landmarks.passed_in.Goals as goal

pub is_newer-requires : goal.is_newer-requires
is_newer-requires g c = λ less. at_there c.args.arena.now c.args.place c.start-first.result c.requires.arena c.start-first.ensures.at
    (let e = ap (λ (s : Strand). s.count) c.strand.ensures in omega (arith, e, less))

pub returns-then-not-is_newer-clause-kept : goal.returns-then-not-is_newer-clause-kept
returns-then-not-is_newer-clause-kept g c =
    let e = ap (λ (s : Strand). s.count) c.strand.ensures in
    let k = c.start-first.ensures.kept in
    passed_many c.args.arena.now c.args.place c.args.bound c.start-first.result c.requires.chain c.start-first.ensures.at (omega (arith, k))
    (subst (λ n. Each (λ v. is_at_most c.args.bound v ≡ false) (take n (tail_in c.args.arena.now c.args.place))) (sym k) tt)
    (λ less. not_both c.start-first.result.kept c.strand.result.count _ (sym c.is_newer.ensures ∙ c.if-not-is_newer.true) (omega (arith, e, less)))

pub returns-then-not-is_newer-clause-near : goal.returns-then-not-is_newer-clause-near
returns-then-not-is_newer-clause-near g c =
    let a = c.args.arena.now in
    let e = ap (λ (s : Strand). s.count) c.strand.ensures in
    let kept = c.start-first.ensures.kept in
    let first = (head_in a c.args.place).strand.first in
    let here : first ≡ c.start-first.result.at = ap (λ n. node_behind a.nodes.items n first) (sym kept) ∙ c.start-first.ensures.at.at in
    each_keeps (IsLandmarkIn a c.args.place) _ (λ m is over.
    let inside = (landmark_stands a c.args.place m is).less in
    let old = not_both c.start-first.result.kept c.strand.result.count _ (sym c.is_newer.ensures ∙ c.if-not-is_newer.true) (omega (arith, e, kept, inside)) in
    let new = over_before a c.args.place c.args.bound m 0 c.requires.chain is (omega arith) over in
    absurd (false_true (sym new ∙ ap (λ n. is_at_most c.args.bound (version_in (node_at a.nodes.items n))) here ∙ old)))
    (landmarks_of c.args.self.now c.args.place) c.requires.landmarks.each

pub returns-clause-near : goal.returns-clause-near
returns-clause-near g c =
    let cost = c.passed.ensures.cost in
    each_keeps _ _ (λ m near over. let n = near over in omega (arith, n, cost)) (landmarks_of c.args.self.now c.args.place) c.start-start.ensures.near
