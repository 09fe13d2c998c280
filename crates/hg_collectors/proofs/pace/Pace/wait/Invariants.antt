use Rattle.std.specs.Prelude.{◌+◌, ◌-◌, ◌*◌}
use Rattle.hg_collectors.proofs.pace.Pace.wait.Given as goal

-- between two looks more are begun, or it has slept longer
abbrev pub decreases-loop-waiting : goal.decreases-loop-waiting
decreases-loop-waiting g l = (l.due - l.waiting.last) * 200000 + (200000 - l.waiting.still)
