use Rattle.hg_dump.proofs.Exported.{logged_goes, reads_more}
use Rattle.hg_dump.proofs.laws.an_export_reads.Goals as goal

pub returns-clause-reads : goal.returns-clause-reads
returns-clause-reads c = reads_more

pub returns-clause-goes_on : goal.returns-clause-goes_on
returns-clause-goes_on c = logged_goes
