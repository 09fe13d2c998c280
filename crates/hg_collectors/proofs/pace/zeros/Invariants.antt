use Rattle.std.specs.Prelude.{◌≤◌, ◌-◌, length}
use Rattle.hg_collectors.proofs.pace.zeros.Given as goal

abbrev pub invariant-loop-words : goal.invariant-loop-words
invariant-loop-words l = length l.words.items ≤ l.count

-- the words that are left
abbrev pub decreases-loop-words : goal.decreases-loop-words
decreases-loop-words l = l.count - length l.words.items
