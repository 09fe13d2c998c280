use Rattle.std.proofs.Common.{rules}
use Rattle.hg_rounds.proofs.Word.{may_take_back}
use Rattle.hg_rounds.proofs.draws.Draws.take_back.Goals as goal

pub join_seat-requires : goal.join_seat-requires
join_seat-requires c = (search rules, search rules, search rules, search rules, may_take_back _ _ _ _)
