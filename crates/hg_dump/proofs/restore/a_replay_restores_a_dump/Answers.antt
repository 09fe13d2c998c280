use Rattle.hg_dump.proofs.Restored.{again, nothing_else, rows_again, shown_again, stored_all}
use Rattle.hg_dump.proofs.restore.a_replay_restores_a_dump.Goals as goal

pub returns-clause-stored : goal.returns-clause-stored
returns-clause-stored c = stored_all

pub returns-clause-shown : goal.returns-clause-shown
returns-clause-shown c = shown_again

pub returns-clause-others : goal.returns-clause-others
returns-clause-others c = nothing_else

pub returns-clause-rows : goal.returns-clause-rows
returns-clause-rows c = rows_again

pub returns-clause-dump : goal.returns-clause-dump
returns-clause-dump c = again
