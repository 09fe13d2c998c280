use Rattle.hg_dump.proofs.Exported.{export_printed}
use Rattle.hg_dump.proofs.laws.an_export_is_of_the_printed_history.Goals as goal

pub returns : goal.returns
returns c = export_printed
