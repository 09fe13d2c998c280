use Rattle.std.proofs.Common.{rules}
use Rattle.hg_rounds.proofs.Word.{may_hire}
use Rattle.hg_rounds.proofs.draws.Draws.hire.Goals as goal

pub split_seat-seat-requires : goal.split_seat-seat-requires
split_seat-seat-requires c = (search rules, search rules, may_hire _ _ c.requires.left)
