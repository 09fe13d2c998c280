use Rattle.std.proofs.Common.{rules}
use Rattle.hg_rule.proofs.Shifts.{joins, gives_all}
use Rattle.hg_rule.proofs.passes.SessionPass.take_part.Goals as goal

pub split_seat-gift-requires : goal.split_seat-gift-requires
split_seat-gift-requires c = (search rules, search rules, gives_all _ _ _)

pub join_seat-requires : goal.join_seat-requires
join_seat-requires c = (search rules, search rules, search rules, search rules, joins _ _ _ _ _)
