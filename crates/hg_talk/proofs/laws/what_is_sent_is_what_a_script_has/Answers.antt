use Rattle.hg_talk.proofs.Records.{all_are_sent, each_is_sent}
use Rattle.hg_talk.proofs.laws.what_is_sent_is_what_a_script_has.Goals as goal

pub returns-clause-each : goal.returns-clause-each
returns-clause-each c = each_is_sent

pub returns-clause-all : goal.returns-clause-all
returns-clause-all c = all_are_sent
