use Rattle.hg_dump.specs.Rows.{rows_at}
use Rattle.hg_dump.proofs.ReadBack.{accepted, same}
use Rattle.hg_dump.proofs.read_back.a_dump_is_read_back.Goals as goal

pub returns-clause-accepted : goal.returns-clause-accepted
returns-clause-accepted c = accepted

pub returns-clause-same : goal.returns-clause-same
returns-clause-same c = same

pub returns-clause-dump : goal.returns-clause-dump
returns-clause-dump c = λ script h s lawful readable. same script (rows_at script.tables h s) lawful readable
