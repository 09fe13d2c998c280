use Rattle.hg_exact.proofs.Shown.{shown_answered}
use Rattle.hg_exact.proofs.laws.answered_records_are_replayed.Goals as goal

pub returns : goal.returns
returns c = shown_answered
