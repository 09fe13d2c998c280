use Rattle.hg_exact.proofs.FitRows.{rows_have_columns}
use Rattle.hg_exact.proofs.fit.rows_have_their_columns.Goals as goal

pub returns : goal.returns
returns c = rows_have_columns
