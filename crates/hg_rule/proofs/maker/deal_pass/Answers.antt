use Rattle.std.proofs.Common.{rules}
use Rattle.hg_rule.proofs.Shifts.{deals}
use Rattle.hg_rule.proofs.maker.deal_pass.Goals as goal

pub split_seat-seat-requires : goal.split_seat-seat-requires
split_seat-seat-requires c = (search rules, search rules, deals _ _ _)
