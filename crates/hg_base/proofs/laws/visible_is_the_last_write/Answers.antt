use Rattle.hg_base.proofs.HistoryFacts.{none_visible, last_visible, visible_stays}
use Rattle.hg_base.proofs.laws.visible_is_the_last_write.Goals as goal

pub returns-clause-none : goal.returns-clause-none
returns-clause-none c = none_visible

pub returns-clause-last : goal.returns-clause-last
returns-clause-last c = last_visible

pub returns-clause-stays : goal.returns-clause-stays
returns-clause-stays c = visible_stays
