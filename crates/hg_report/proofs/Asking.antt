-- What a statement asks names the statement's table.
use Rattle.std.proofs.Common.{◌≡◌, Option, refl}
use Rattle.hg_base.specs.declared.rid.TableId.{TableId}
use Rattle.hg_base.specs.declared.statement.Statement.{Statement}
use Rattle.hg_base.specs.declared.statement.Statement.TheVariants.{Begin}
use Rattle.hg_base.specs.Transcript.{table_of}
use Rattle.hg_records.specs.Asked.{asked_by, table_asked}

pub same_table : (cursor : Option TableId) (statement : Statement) → table_asked (asked_by cursor statement) ≡ table_of statement
same_table cursor (Begin scope) = refl
same_table cursor _ = refl
