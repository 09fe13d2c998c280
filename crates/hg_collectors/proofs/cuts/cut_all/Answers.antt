use Rattle.std.proofs.Common.{◌≡◌, ◌+◌, ◌≤◌, ◌++◌, [], length, take, drop, reverse, refl, ap, sym, ◌∙◌, subst, arith}
use Rattle.std.specs.List.{between}
use Rattle.std.proofs.Math.ListN.{drop_of_length-le}
use Rattle.hg_group.proofs.Stamped.{take_all}
use Rattle.hg_rule.specs.Seats.{sizes_of, pass_view}
use Rattle.hg_collectors.specs.Cutting.{AreIn, CutsAll, BeginsElsewhere, stretches, visited}
use Rattle.hg_collectors.proofs.Going.{cuts_none, cuts_more, run_more}
use Rattle.hg_collectors.proofs.Groups.{cut_few}
use Rattle.hg_collectors.proofs.Stretches.{stretch_left}
use Rattle.hg_collectors.proofs.cuts.cut_all.Given as given
use Rattle.hg_collectors.proofs.cuts.cut_all.Goals as goal

pub loop-done-init : goal.loop-done-init
loop-done-init g c = record {
  cuts = cuts_none (sizes_of c.args.board.now).buckets c.args.bound (pass_view c.args.pass.now) c.requires.own.1;
  left = refl;
  within = omega arith;
  few = c.requires.few;
  own = c.requires.own;
}

-- one run more
more : (g : given.Over) (c : goal.After-cut_run-gone g) → CutsAll (sizes_of c.args.board.now).buckets c.args.bound (pass_view c.args.pass.now)
    (take c.run_end-next.result c.args.rids.now) (c.loop-done.gone + c.cut_run-gone.result) (pass_view c.cut_run-gone.new.pass)
more g c =
    let z = (sizes_of c.args.board.now).buckets in
    let v = pass_view c.args.pass.now in
    let w = pass_view c.cut_run-gone.new.pass in
    let rids = c.args.rids.now in
    let done = c.loop-done.done in
    let next = c.run_end-next.result in
    let le : done ≤ next = omega (arith, c.run_end-next.ensures.some.0) in
    subst (λ l. CutsAll z c.args.bound v l (c.loop-done.gone + c.cut_run-gone.result) w) (run_more rids done next le)
    (cuts_more z c.args.bound v (pass_view c.loop-done.pass) w (take done rids) (between done next rids) c.loop-done.gone c.cut_run-gone.result c.loop-done.invariant.cuts c.cut_run-gone.ensures.cuts)

-- the buckets that are left then
left : (g : given.Over) (c : goal.After-cut_run-gone g) → reverse (stretches (sizes_of c.args.board.now).buckets (drop c.run_end-next.result c.args.rids.now)) ++ visited (pass_view c.cut_run-gone.new.pass) ≡
    reverse (stretches (sizes_of c.args.board.now).buckets c.args.rids.now) ++ visited (pass_view c.args.pass.now)
left g c =
    let z = (sizes_of c.args.board.now).buckets in
    let one = c.run_end-next.ensures.one in
    let done = c.loop-done.done in
    let next = c.run_end-next.result in
    let rids = c.args.rids.now in
    let here : AreIn z one.0 (between done next rids) = subst (λ n. AreIn n one.0 (between done next rids)) c.requires.buckets.1 one.1.0 in
    let past : BeginsElsewhere z one.0 (drop next rids) = subst (λ n. BeginsElsewhere n one.0 (drop next rids)) c.requires.buckets.1 one.1.1 in
    stretch_left z one.0 rids done next (visited (pass_view c.loop-done.pass)) (visited (pass_view c.cut_run-gone.new.pass)) _
    c.run_end-next.ensures.some.0 c.run_end-next.ensures.some.1 here past c.loop-done.invariant.left (c.cut_run-gone.ensures.visits one.0 here)

pub overflow_add-gone : goal.overflow_add-gone
overflow_add-gone g c = let few = cut_few (sizes_of c.args.board.now).buckets c.args.bound (pass_view c.args.pass.now) (pass_view c.cut_run-gone.new.pass) _
    (c.loop-done.gone + c.cut_run-gone.result) (more g c) c.cut_run-gone.ensures.few in omega (arith, few)

pub loop-done-preserved : goal.loop-done-preserved
loop-done-preserved g c = record { cuts = more g c; left = left g c; within = c.run_end-next.ensures.some.1; few = c.cut_run-gone.ensures.few; own = c.cut_run-gone.ensures.own }

pub returns-clause-cuts : goal.returns-clause-cuts
returns-clause-cuts g c =
    let rids = c.args.rids.now in
    let end : c.loop-done.done ≡ length rids = omega (arith, c.loop-done.invariant.within, c.loop-done-test.false) in
    subst (λ l. CutsAll (sizes_of c.args.board.now).buckets c.args.bound (pass_view c.args.pass.now) l c.loop-done.gone (pass_view c.loop-done.pass)) (ap (λ n. take n rids) end ∙
    take_all rids) c.loop-done.invariant.cuts

pub returns-clause-visits : goal.returns-clause-visits
returns-clause-visits g c =
    let z = (sizes_of c.args.board.now).buckets in
    let none : drop c.loop-done.done c.args.rids.now ≡ [] = drop_of_length-le c.args.rids.now (omega (arith, c.loop-done-test.false)) in
    ap (λ l. reverse (stretches z l) ++ visited (pass_view c.loop-done.pass)) (sym none) ∙ c.loop-done.invariant.left
