use Rattle.std.proofs.Common.{rules}
use Rattle.hg_rounds.proofs.Word.{may_draw}
use Rattle.hg_rounds.proofs.draws.Draws.draw.Goals as goal

pub fetch_add-requires : goal.fetch_add-requires
fetch_add-requires c = (search rules, search rules, may_draw _ _ _ c.requires.left)
