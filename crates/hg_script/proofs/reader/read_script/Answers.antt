use Rattle.hg_script.specs.Fields.{rows_of}
use Rattle.hg_script.proofs.Lawful.{lawful}
use Rattle.hg_script.proofs.reader.read_script.Goals as goal

pub returns-in-Ok-clause-lawful : goal.returns-in-Ok-clause-lawful
returns-in-Ok-clause-lawful c = rw c.in-Ok.ensures.script (lawful (rows_of c.args.bytes.now) c.in-Ok.ensures.valid)
