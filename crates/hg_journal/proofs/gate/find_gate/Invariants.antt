use Rattle.std.proofs.Common.{◌≡◌, ◌+◌, length, drop, option_map}
use Rattle.hg_journal.specs.Gate.{before_gate}
use Rattle.hg_journal.specs.declared.gate.Place.TheVariants.{Start}
use Rattle.hg_journal.proofs.gate.find_gate.Given as goal

-- the gate of the whole file is that of what is left, so many bytes on
abbrev pub invariant-loop-n : goal.invariant-loop-n
invariant-loop-n l = option_map length (before_gate Start l.file) ≡ option_map (λ k. l.n + k) (option_map length (before_gate l.place (drop l.n l.file)))
