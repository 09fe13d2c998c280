use Rattle.std.proofs.Common.{rules}
use Rattle.hg_rule.proofs.Shifts.{joins, gives_second}
use Rattle.hg_rule.proofs.passes.SessionPass.give_part.Goals as goal

pub split_seat-back-requires : goal.split_seat-back-requires
split_seat-back-requires c = (search rules, search rules, gives_second _ _ _)

pub join_seat-requires : goal.join_seat-requires
join_seat-requires c = (search rules, search rules, search rules, search rules, joins _ _ _ _ _)
