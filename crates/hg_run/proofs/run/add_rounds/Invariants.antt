use Rattle.std.proofs.Common.{◌≡◌, ◌++◌, length, false}
use Rattle.hg_collectors.specs.Telling.{sweep_lines}
use Rattle.hg_run.proofs.run.add_rounds.Given as goal

abbrev pub invariant-loop-sweep : goal.invariant-loop-sweep
invariant-loop-sweep l = (l.fn.told.sweeps.items ≡ l.yielded ++ l.sweep-iterator.rest.items) × (l.transcript.lines ≡ l.fn.transcript.lines ++ sweep_lines 1 l.yielded) ×
    (l.transcript.tables ≡ l.fn.transcript.tables) × (l.place ≡ length l.yielded) × (l.fn.told.refused ≡ false)
