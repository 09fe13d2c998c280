use Rattle.hg_dump.proofs.Examples.{dump_replayed, dump_rows}
use Rattle.hg_dump.proofs.worked.a_dump_is_replayed.Goals as goal

pub returns-clause-rows : goal.returns-clause-rows
returns-clause-rows c = dump_rows

pub returns-clause-lines : goal.returns-clause-lines
returns-clause-lines c = dump_replayed
