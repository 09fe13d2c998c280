use Rattle.hg_exact.proofs.Shown.{shown_at_end, shown_first, shown_text}
use Rattle.hg_exact.proofs.laws.shown_first_causes_are_replayed.Goals as goal

pub returns-clause-first : goal.returns-clause-first
returns-clause-first c = shown_first

pub returns-clause-text : goal.returns-clause-text
returns-clause-text c = shown_text

pub returns-clause-at_end : goal.returns-clause-at_end
returns-clause-at_end c = shown_at_end
