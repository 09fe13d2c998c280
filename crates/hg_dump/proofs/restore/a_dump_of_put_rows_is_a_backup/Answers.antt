use Rattle.hg_dump.proofs.Backup.{backup, readable}
use Rattle.hg_dump.proofs.restore.a_dump_of_put_rows_is_a_backup.Goals as goal

pub returns-clause-readable : goal.returns-clause-readable
returns-clause-readable c = readable

pub returns-clause-backup : goal.returns-clause-backup
returns-clause-backup c = backup
