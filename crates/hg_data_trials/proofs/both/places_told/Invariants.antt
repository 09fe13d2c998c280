use Rattle.hg_base.specs.Lists.{Each}
use Rattle.hg_chains.specs.Places.{list_at}
use Rattle.hg_chains.specs.Versions.{IsBelow}
use Rattle.hg_data_trials.proofs.both.places_told.Given as goal

abbrev pub invariant-loop-row : goal.invariant-loop-row
invariant-loop-row l =
    goal.iterator-loop-row.can_next l.row-iterator
    × goal.iterator-loop-row.is_finite l.row-iterator
    × (Each (IsBelow l.number) l.third × Each (IsBelow l.number) l.fourth)
    × (Each (IsBelow l.number) (list_at l.chains 3) × Each (IsBelow l.number) (list_at l.chains 4))
