use Rattle.hg_base.specs.Lists.{Each}
use Rattle.hg_chains.specs.Places.{list_at}
use Rattle.hg_chains.specs.Versions.{IsBelow}
use Rattle.hg_data_trials.proofs.both.agreed.Given as goal

abbrev pub invariant-loop-text : goal.invariant-loop-text
invariant-loop-text l =
    goal.iterator-loop-text.can_next l.text-iterator
    × goal.iterator-loop-text.is_finite l.text-iterator
    × Each (IsBelow l.number) l.chain
    × Each (IsBelow l.number) (list_at l.chains 3)
