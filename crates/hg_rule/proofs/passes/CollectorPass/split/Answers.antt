use Rattle.std.proofs.Common.{rules, ℕ}
use Rattle.hg_rule.specs.Sharing.{Buds}
use Rattle.hg_rule.specs.Seats.{view, pass_view}
use Rattle.hg_rule.proofs.Shifts.{gives_second}
use Rattle.hg_rule.proofs.Branches.{may_bud, halved_is, branch_is, halved_pass, branch_pass}
use Rattle.hg_rule.proofs.passes.CollectorPass.split.Goals as goal

pub load-requires : goal.load-requires
load-requires c = (search rules, search rules, may_bud _ _ _ _ c.requires.own.1 c.requires.share)

pub split_seat-seat-requires : goal.split_seat-seat-requires
split_seat-seat-requires c = (search rules, search rules, gives_second _ _ _)

pub returns-clause-view : goal.returns-clause-view
returns-clause-view c =
    let b : (n : ℕ) × Buds n (pass_view c.args.self.now) (view c.load.new.seat) = search rules in
    halved_is b.0 (pass_view c.args.self.now) (view c.load.new.seat) (view c.split_seat-seat.new.seat) b.1 (search rules)

pub returns-clause-branch : goal.returns-clause-branch
returns-clause-branch c =
    let b : (n : ℕ) × Buds n (pass_view c.args.self.now) (view c.load.new.seat) = search rules in
    branch_is b.0 (pass_view c.args.self.now) (view c.load.new.seat) (view c.split_seat-seat.result) b.1 (search rules)

pub returns-clause-own : goal.returns-clause-own
returns-clause-own c = (
  (search rules, halved_pass (pass_view c.args.self.now) (view c.split_seat-seat.new.seat) (returns-clause-view c)),
  (search rules, branch_pass _ (pass_view c.args.self.now) (view c.split_seat-seat.result) (returns-clause-branch c)),
)
