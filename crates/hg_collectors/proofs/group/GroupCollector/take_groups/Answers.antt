use Rattle.std.proofs.Common.{Some, refl, ◌∙◌, subst, arith}
use Rattle.hg_rule.specs.Seats.{sizes_of, pass_view}
use Rattle.hg_group.specs.Oldest.{TakesSome}
use Rattle.hg_collectors.proofs.Groups.{groups_none, groups_all, batch_few, turn, turn_few, turn_ends, bound_low}
use Rattle.hg_collectors.proofs.group.GroupCollector.take_groups.Goals as goal

pub loop-last-init : goal.loop-last-init
loop-last-init g c = record {
  takes = groups_none (sizes_of c.args.board.now).buckets c.args.bound (pass_view c.args.self.now.rounds.pass) c.requires.own.1;
  few = c.requires.few;
  own = c.requires.own;
  room = refl;
}

pub take_some-requires-clause-bound : goal.take_some-requires-clause-bound
take_some-requires-clause-bound g c = bound_low (sizes_of c.args.board.now).buckets c.args.bound (pass_view c.args.self.now.rounds.pass)
    (pass_view c.loop-last.pass) c.loop-last.gone c.loop-last.invariant.takes c.requires.bound

pub overflow_add-gone : goal.overflow_add-gone
overflow_add-gone g c =
    let few = batch_few (sizes_of c.args.board.now).buckets c.args.bound (pass_view c.args.self.now.rounds.pass) (pass_view c.loop-last.pass) (pass_view c.take_some.new.pass)
    (pass_view c.cut_batch-gone.new.pass) c.loop-last.gone c.cut_batch-gone.result c.loop-last.rids.items c.take_some.new.into.items (Some c.in-Some.last)
    c.loop-last.invariant.takes c.in-Some.ensures.taken c.cut_batch-gone.ensures.cuts c.cut_batch-gone.ensures.few in
    omega (arith, few)

pub overflow_add-gone-in-Some : goal.overflow_add-gone-in-Some
overflow_add-gone-in-Some g c =
    let few = turn_few (sizes_of c.args.board.now).buckets c.args.bound (pass_view c.args.self.now.rounds.pass) (pass_view c.loop-last.pass) (pass_view c.take_some.new.pass)
    (pass_view c.cut_batch-gone.new.pass) (pass_view c.cut_all-gone.new.pass) c.loop-last.gone c.cut_batch-gone.result c.cut_all-gone.result c.loop-last.rids.items
    c.take_some.new.into.items c.as_slice.result.now c.in-Some.last
    c.loop-last.invariant.takes c.in-Some.ensures.taken c.cut_batch-gone.ensures.cuts c.as_slice.ensures c.cut_all-gone.ensures.cuts c.cut_all-gone.ensures.few in
    omega (arith, few)

pub loop-last-preserved : goal.loop-last-preserved
loop-last-preserved g c =
    let more = turn (sizes_of c.args.board.now).buckets c.args.bound (pass_view c.args.self.now.rounds.pass) (pass_view c.loop-last.pass) (pass_view c.take_some.new.pass)
    (pass_view c.cut_batch-gone.new.pass) (pass_view c.cut_all-gone.new.pass) c.loop-last.gone c.cut_batch-gone.result c.cut_all-gone.result c.loop-last.rids.items
    c.take_some.new.into.items c.as_slice.result.now c.in-Some.last
    c.loop-last.invariant.takes c.in-Some.ensures.taken c.cut_batch-gone.ensures.cuts c.as_slice.ensures c.cut_all-gone.ensures.cuts in
    record { takes = more; few = c.cut_all-gone.ensures.few; own = c.cut_all-gone.ensures.own; room = c.cut_batch-gone.ensures.room ∙ c.in-Some.ensures.same ∙ c.loop-last.invariant.room }

pub loop-last-smaller : goal.loop-last-smaller
loop-last-smaller g c = turn_ends (sizes_of c.args.board.now).buckets c.args.bound (pass_view c.args.self.now.rounds.pass) (pass_view c.loop-last.pass)
    (pass_view c.take_some.new.pass) (pass_view c.cut_batch-gone.new.pass) (pass_view c.cut_all-gone.new.pass) c.loop-last.gone c.cut_batch-gone.result c.cut_all-gone.result
    c.loop-last.rids.items c.take_some.new.into.items c.as_slice.result.now c.in-Some.last
    c.loop-last.invariant.takes c.in-Some.ensures.taken c.cut_batch-gone.ensures.cuts c.as_slice.ensures c.cut_all-gone.ensures.cuts

pub overflow_add-result : goal.overflow_add-result
overflow_add-result g c =
    let few = batch_few (sizes_of c.args.board.now).buckets c.args.bound (pass_view c.args.self.now.rounds.pass) (pass_view c.loop-last.pass) (pass_view c.take_some.new.pass)
    (pass_view c.cut_batch.new.pass) c.loop-last.gone c.cut_batch.result c.loop-last.rids.items c.take_some.new.into.items c.take_some.result
    c.loop-last.invariant.takes c.take_some.ensures.taken c.cut_batch.ensures.cuts c.cut_batch.ensures.few in
    omega (arith, few)

pub returns-clause-takes : goal.returns-clause-takes
returns-clause-takes g c = groups_all (sizes_of c.args.board.now).buckets c.args.bound (pass_view c.args.self.now.rounds.pass) (pass_view c.loop-last.pass)
    (pass_view c.take_some.new.pass) (pass_view c.cut_batch.new.pass) c.loop-last.gone c.cut_batch.result c.loop-last.rids.items c.take_some.new.into.items
    c.loop-last.invariant.takes (subst (λ o. TakesSome (pass_view c.loop-last.pass) c.args.bound c.loop-last.rids.items o c.take_some.new.into.items
    (pass_view c.take_some.new.pass)) c.in_default.is c.take_some.ensures.taken) c.cut_batch.ensures.cuts
