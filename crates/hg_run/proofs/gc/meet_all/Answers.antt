use Rattle.std.proofs.Common.{◌∙◌, ◌<◌, ◌≤◌, ◌+◌, length, refl, arith, rules}
use Rattle.hg_collectors.specs.Collecting.{view_in}
use Rattle.hg_collectors.proofs.Meetings.{met_none, met_more}
use Rattle.hg_run.proofs.MeetingAll.{partly_none, partly_own, partly_next, partly_all}
use Rattle.hg_run.proofs.gc.meet_all.Goals as goal

pub loop-k-init : goal.loop-k-init
loop-k-init c = record {
  met = partly_none c.args.engine.now (view_in c.args.kind c.args.collectors.now) c.args.list.now.items;
  end = search rules;
  all = λ k. met_none (view_in k c.args.collectors.now);
  own = c.requires.collectors;
  removed = λ k. refl;
}

pub meet_at-requires-clause-within : goal.meet_at-requires-clause-within
meet_at-requires-clause-within c = let e = c.loop-k.invariant.end in let m = c.loop-k.invariant.met.many in omega (arith, e, m, c.loop-k-test.true)

pub meet_at-requires-clause-own : goal.meet_at-requires-clause-own
meet_at-requires-clause-own c d =
    let end = c.loop-k.invariant.end in
    let within : c.loop-k.k < length c.args.list.now.items = omega (arith, end, c.loop-k-test.true) in
    partly_own c.args.engine.now _ _ c.loop-k.k c.args.list.now.items c.loop-k.list.items c.loop-k.invariant.met within c.requires.own d

pub meet_at-requires-clause-collectors : goal.meet_at-requires-clause-collectors
meet_at-requires-clause-collectors c = c.loop-k.invariant.own

pub loop-k-preserved : goal.loop-k-preserved
loop-k-preserved c =
    let m = c.meet_at.ensures in
    let end = c.loop-k.invariant.end in
    let within : c.loop-k.k < length c.args.list.now.items = omega (arith, end, c.loop-k-test.true) in
    record {
      met = partly_next c.args.engine.now (view_in c.args.kind c.args.collectors.now) (view_in c.args.kind c.loop-k.collectors)
          (view_in c.args.kind c.meet_at.new.collectors) c.loop-k.k (c.loop-k.k + 1) c.args.list.now.items c.loop-k.list.items c.meet_at.new.list.items refl within
          (record { many = m.others.many; met = m.met; rest = m.others.rest; own = m.own; pass = m.pass c.args.kind; heard = m.heard }) c.loop-k.invariant.met;
      end = end;
      all = λ k. met_more (view_in k c.args.collectors.now) (view_in k c.loop-k.collectors) (view_in k c.meet_at.new.collectors) (c.loop-k.invariant.all k) (m.pass k);
      own = m.collectors;
      removed = λ k. m.removed k ∙ c.loop-k.invariant.removed k;
    }

pub returns-clause-met : goal.returns-clause-met
returns-clause-met c d k within =
    let end = c.loop-k.invariant.end in
    let most : length c.args.list.now.items ≤ c.loop-k.k = omega (arith, end, c.loop-k-test.false) in
    ((partly_all c.args.engine.now _ _ c.loop-k.k c.args.list.now.items c.loop-k.list.items most c.loop-k.invariant.met) d k within).0

pub returns-clause-own : goal.returns-clause-own
returns-clause-own c d k within =
    let end = c.loop-k.invariant.end in
    let most : length c.args.list.now.items ≤ c.loop-k.k = omega (arith, end, c.loop-k-test.false) in
    ((partly_all c.args.engine.now _ _ c.loop-k.k c.args.list.now.items c.loop-k.list.items most c.loop-k.invariant.met) d k within).1

pub returns-clause-pass : goal.returns-clause-pass
returns-clause-pass c k = c.loop-k.invariant.all k
