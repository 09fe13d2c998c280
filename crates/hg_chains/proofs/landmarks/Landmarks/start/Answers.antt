use Rattle.std.proofs.Common.{◌-◌, sym, ap, subst, arith}
use Rattle.hg_base.proofs.ListFacts.{each_keeps}
use Rattle.hg_chains.specs.declared.node.Strand.{Strand}
use Rattle.hg_chains.specs.declared.cursor.Cursor.{Cursor}
use Rattle.hg_chains.specs.Landmarks.{landmarks_of}
use Rattle.hg_chains.proofs.Walks.{next_at}
use Rattle.hg_chains.proofs.LandmarkFacts.{LandmarkStands, landmark_stands, landmark_low, landmark_newer}
use Rattle.hg_chains.proofs.landmarks.Landmarks.start.Goals as goal
use Rattle.hg_chains.proofs.landmarks.Landmarks.start.Goals.{After-pass}

pub overflow_sub-count : goal.overflow_sub-count
overflow_sub-count c =
    let e = ap (λ (s : Strand). s.count) c.strand-count.ensures in
    let k = landmark_low c.args.arena.now c.args.place c.in-Some.landmark c.in-Some.ensures.landmark in
    omega (arith, e, k)

stands : (c : After-pass) → LandmarkStands c.args.arena.now c.args.place (c.strand-count.result.count - c.in-Some.landmark.height) c.in-Some.landmark.node
stands c = subst (λ (s : Strand). LandmarkStands c.args.arena.now c.args.place (s.count - c.in-Some.landmark.height) c.in-Some.landmark.node) (sym c.strand-count.ensures)
    (landmark_stands c.args.arena.now c.args.place c.in-Some.landmark c.in-Some.ensures.landmark)

pub returns-in-Some-clause-at : goal.returns-in-Some-clause-at
returns-in-Some-clause-at c = let k = stands c in
    rw c.pass.ensures (next_at c.args.arena.now c.args.place (record {
      kept = c.strand-count.result.count - c.in-Some.landmark.height;
      last = c.in-Some.landmark.node;
      at = c.in-Some.landmark.node;
    }) k.at)

pub returns-in-Some-clause-newer : goal.returns-in-Some-clause-newer
returns-in-Some-clause-newer c = rw c.pass.ensures
    (landmark_newer c.args.arena.now c.args.place c.args.bound (c.strand-count.result.count - c.in-Some.landmark.height) c.in-Some.landmark.node c.requires.chain (stands c) c.in-Some.ensures.over)

pub returns-in-Some-clause-near : goal.returns-in-Some-clause-near
returns-in-Some-clause-near c =
    let kept = ap (λ (at : Cursor). at.kept) c.pass.ensures in
    let many = ap (λ (s : Strand). s.count) c.strand-count.ensures in
    each_keeps _ _ (λ m low over. let l = low over in omega (arith, kept, many, l)) (landmarks_of c.args.self.now c.args.place) c.in-Some.ensures.lowest
