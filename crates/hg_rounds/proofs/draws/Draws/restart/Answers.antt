use Rattle.std.proofs.Common.{rules}
use Rattle.hg_rounds.proofs.Word.{may_restart}
use Rattle.hg_rounds.proofs.draws.Draws.restart.Goals as goal

pub store-requires : goal.store-requires
store-requires c = (search rules, search rules, may_restart _ _ _ c.requires.all)
