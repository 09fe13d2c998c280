-- The rounds of a mode.
use Rattle.std.specs.Prelude.{ℕ}
use Rattle.hg_base.specs.Script.{Mode, replay, run}

-- how many rounds each collector makes concurrently with the sessions
abbrev pub rounds_beside : Mode → ℕ
rounds_beside replay = 0
rounds_beside (run rounds) = rounds
