use Rattle.std.proofs.Common.{◌≡◌, ◌<◌, ◌∷◌, ap, sym, ◌∙◌, subst, arith}
use Rattle.hg_chains.specs.Versions.{number_in}
use Rattle.hg_base.specs.Lifetimes.{goes}
use Rattle.hg_chains.specs.Merging.{Follows}
use Rattle.hg_chains.proofs.Merges.{none_behind}
use Rattle.hg_chain.proofs.Turns.{Turned, begun, turn, follows, ended_length}
use Rattle.hg_chain.proofs.chain.sweep_all.Goals as goal

pub loop-rest-init : goal.loop-rest-init
loop-rest-init g c =
    record {
      turned = begun c.args.horizon c.args.snapshots.now c.args.versions.now.items c.len-all.result (omega (arith, c.len-all.ensures)) c.requires.chain;
      passed = none_behind c.args.snapshots.now;
      within = omega arith;
      cost = omega (arith, c.len-all.ensures);
    }

pub loop-rest-preserved-in-Some : goal.loop-rest-preserved-in-Some
loop-rest-preserved-in-Some g c =
    let old = c.args.versions.now.items in
    let v = c.in-Some.version in
    let more = c.pop_front.new.self.items in
    let up = c.loop-rest.merge.successor in
    let some : 0 < c.loop-rest.rest = c.loop-rest-test.true in
    let before : Turned c.args.horizon c.args.snapshots.now old (v ∷ more) c.loop-rest.rest up =
    subst (λ vs. Turned c.args.horizon c.args.snapshots.now old vs c.loop-rest.rest up) c.in-Some.ensures.items c.loop-rest.invariant.turned in
    let gone : goes c.args.horizon c.args.snapshots.now up (number_in v.stamp) ≡ c.settle-goes.result =
    ap (goes c.args.horizon c.args.snapshots.now up) (sym c.number.ensures) ∙ sym c.settle-goes.ensures.goes in
    let next = turn c.args.horizon c.args.snapshots.now old v more c.keep_unless.new.versions.items c.loop-rest.rest up c.settle-goes.result some before gone c.keep_unless.ensures in
    let follows = subst (Follows up) (sym c.number.ensures) (follows c.args.horizon c.args.snapshots.now old v more c.loop-rest.rest up some before) in
    record {
      turned = rw (c.settle-goes.ensures.successor, c.number.ensures) next;
      passed = rw c.settle-goes.ensures.successor (c.settle-goes.ensures.passed follows);
      within = c.settle-goes.ensures.within;
      cost = omega (arith, some, c.settle-goes.ensures.cost, c.loop-rest.invariant.cost);
    }

pub overflow_sub-result : goal.overflow_sub-result
overflow_sub-result g c =
    let e = ended_length c.args.horizon c.args.snapshots.now c.args.versions.now.items c.loop-rest.versions.items c.loop-rest.rest c.loop-rest.merge.successor
    c.loop-rest-test.false c.loop-rest.invariant.turned in
    omega (arith, e, c.len.ensures, c.len-all.ensures)

pub returns-then-is_some-clause-gone : goal.returns-then-is_some-clause-gone
returns-then-is_some-clause-gone g c =
    let e = ended_length c.args.horizon c.args.snapshots.now c.args.versions.now.items c.loop-rest.versions.items c.loop-rest.rest c.loop-rest.merge.successor
    c.loop-rest-test.false c.loop-rest.invariant.turned in
    omega (arith, e, c.len.ensures, c.len-all.ensures)

pub returns-else-is_some-clause-gone : goal.returns-else-is_some-clause-gone
returns-else-is_some-clause-gone g c =
    let e = ended_length c.args.horizon c.args.snapshots.now c.args.versions.now.items c.loop-rest.versions.items c.loop-rest.rest c.loop-rest.merge.successor
    c.loop-rest-test.false c.loop-rest.invariant.turned in
    omega (arith, e, c.len.ensures, c.len-all.ensures)
