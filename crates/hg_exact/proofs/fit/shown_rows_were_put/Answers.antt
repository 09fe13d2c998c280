use Rattle.hg_exact.proofs.PutRows.{shown_was_put}
use Rattle.hg_exact.proofs.fit.shown_rows_were_put.Goals as goal

pub returns : goal.returns
returns c = shown_was_put
