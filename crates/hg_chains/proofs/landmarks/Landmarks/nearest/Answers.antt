use Rattle.std.proofs.Common.{◌≡◌, ◌+◌, ◌-◌, ◌<◌, ◌≤◌, ◌/◌, length, sym, subst, arith}
use Rattle.std.specs.Prelude.{IsSomeAnd, nat_lt}
use Rattle.std.proofs.lemmas.List.{get_or_read}
use Rattle.std.proofs.lemmas.Bool.Decides.{nat_tests}
use Rattle.hg_base.specs.Lists.{Each}
use Rattle.hg_base.proofs.ListFacts.{cases}
use Rattle.hg_chains.specs.declared.landmarks.Landmark.{Landmark}
use Rattle.hg_chains.specs.declared.node.Node.{Node}
use Rattle.hg_chains.specs.Strands.{blank, node_at}
use Rattle.hg_chains.specs.Landmarks.{landmarks_at, IsLandmarkIn, IsOver}
use Rattle.hg_chains.proofs.LandmarkFacts.{landmark_read, landmark_within, read_there, each_there, each_of, later_higher, higher_over}
use Rattle.hg_chains.proofs.LandmarkLists.{read}
use Rattle.hg_chains.proofs.landmarks.Landmarks.nearest.Goals as goal

pub index-requires : goal.index-requires
index-requires c =
    let found = c.index-landmark.result.now in
    let ms = c.in_ok-list.list.now.items in
    let has = c.loop-from.invariant.landmarks in
    let test = c.loop-from-test.true in
    let to = c.loop-from.invariant.within in
    let middle = c.loop-from.from + (c.loop-from.to - c.loop-from.from) / 2 in
    let inside : middle < length ms = omega (arith, test, to) in
    let is = landmark_read c.args.arena.now c.args.place ms middle found has inside c.index-landmark.ensures in
    let here = landmark_within c.args.arena.now c.args.place found c.requires.arena is in
    omega (arith, here)

pub loop-from-preserved-then-index-bound : goal.loop-from-preserved-then-index-bound
loop-from-preserved-then-index-bound c =
    let found = c.index-landmark.result.now in
    let ms = c.in_ok-list.list.now.items in
    let has = c.loop-from.invariant.landmarks in
    let test = c.loop-from-test.true in
    let to = c.loop-from.invariant.within in
    let middle = c.loop-from.from + (c.loop-from.to - c.loop-from.from) / 2 in
    let inside : middle < length ms = omega (arith, test, to) in
    let is = landmark_read c.args.arena.now c.args.place ms middle found has inside c.index-landmark.ensures in
    let here = landmark_within c.args.arena.now c.args.place found c.requires.arena is in
    let nodes = c.args.arena.now.nodes.items in
    let there = read_there ms middle found inside c.index-landmark.ensures in
    let node : c.index.result.now ≡ node_at nodes found.node = get_or_read nodes found.node c.index.result.now here c.index.ensures blank in
    record {
      landmarks = has;
      within = omega (arith, test, to);
      landmark = is;
      over = subst (λ (n : Node). c.args.bound < n.number) node c.if-index-bound.true;
      before = c.loop-from.invariant.before;
      from_on = λ k m from less e. later_higher ms middle k found m has.rise from there e;
    }

pub loop-from-preserved : goal.loop-from-preserved
loop-from-preserved c =
    let found = c.index-landmark.result.now in
    let ms = c.in_ok-list.list.now.items in
    let has = c.loop-from.invariant.landmarks in
    let test = c.loop-from-test.true in
    let to = c.loop-from.invariant.within in
    let middle = c.loop-from.from + (c.loop-from.to - c.loop-from.from) / 2 in
    let inside : middle < length ms = omega (arith, test, to) in
    let is = landmark_read c.args.arena.now c.args.place ms middle found has inside c.index-landmark.ensures in
    let here = landmark_within c.args.arena.now c.args.place found c.requires.arena is in
    let nodes = c.args.arena.now.nodes.items in
    let there = read_there ms middle found inside c.index-landmark.ensures in
    let node : c.index.result.now ≡ node_at nodes found.node = get_or_read nodes found.node c.index.result.now here c.index.ensures blank in
    let low : (node_at nodes found.node).number ≤ c.args.bound = subst (λ (n : Node). n.number ≤ c.args.bound) node c.if-index-bound.false in
    record {
      landmarks = has;
      within = to;
      landmark = c.loop-from.invariant.landmark;
      over = c.loop-from.invariant.over;
      before = λ k m less e over.
          let higher = higher_over c.args.arena.now c.args.place c.args.bound m found c.requires.chain (each_there (IsLandmarkIn c.args.arena.now c.args.place) ms k m has.each e) is
          (later_higher ms k middle m found has.rise (omega (arith, less)) e there) over in
          omega (arith, higher, low);
      from_on = c.loop-from.invariant.from_on;
    }

pub returns-clause-lowest : goal.returns-clause-lowest
returns-clause-lowest c =
    let list = c.in_ok-list.list.now in
    let look = c.in_ok-list.ensures.lookup in
    let bound = c.args.bound in
    let a = c.args.arena.now in
    let P = λ (m : Landmark). IsOver a bound m → IsSomeAnd c.loop-from.nearest (λ lowest. lowest.height ≤ m.height) in
    let same = subst (λ ls. landmarks_at ls c.args.place ≡ list.items) c.deref.ensures.value (read c.deref.result.now c.args.place list look.3.0 look.1) in
    let end = c.loop-from-test.false in
    subst (Each P) (sym same) (each_of P list.items (λ k m less e. cases (nat_lt k c.loop-from.from)
    (λ t over. absurd (c.loop-from.invariant.before k m (grind (arith, nat_tests, t)) e over))
    (λ f over. c.loop-from.invariant.from_on k m (let past : c.loop-from.from ≤ k = grind (arith, nat_tests, f) in omega (arith, past, end)) less e)))
