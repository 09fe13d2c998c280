use Rattle.hg_journal.proofs.Gates.{kept_before, led_whole, plain_whole, whole_joined}
use Rattle.hg_journal.proofs.laws.whole_texts_join.Goals as goal

pub returns-clause-joined : goal.returns-clause-joined
returns-clause-joined c = whole_joined

pub returns-clause-plain : goal.returns-clause-plain
returns-clause-plain c = plain_whole

pub returns-clause-kept : goal.returns-clause-kept
returns-clause-kept c = λ text whole. kept_before text _ whole

pub returns-clause-led : goal.returns-clause-led
returns-clause-led c = λ text leads none. led_whole _ text leads none
