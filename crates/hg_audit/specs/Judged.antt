-- By which command a text is judged.
use Rattle.hg_base.specs.Script.{Mode, replay, run}
use Rattle.hg_audit.specs.declared.shape.Command.{Command}
use Rattle.hg_audit.specs.declared.shape.Command.TheVariants.{Replay, Run}

-- the command without its rounds
abbrev pub IsOf : Command → Mode → Type 0
IsOf Replay replay = Unit {0}
IsOf Run (run rounds) = Unit {0}
IsOf _ _ = ⊥
