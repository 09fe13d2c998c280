use Rattle.std.proofs.Common.{◌≡◌, take, false}
use Rattle.hg_base.specs.Lists.{Each}
use Rattle.hg_run.specs.declared.work.Worker.{Worker}
use Rattle.hg_run.specs.Working.{lines_in}
use Rattle.hg_run.proofs.run.gather_lines.Given as goal

abbrev pub invariant-loop-worker : goal.invariant-loop-worker
invariant-loop-worker l = (l.transcript.lines ≡ lines_in (take l.worker-index l.workers)) × (l.transcript.tables ≡ l.script.tables) ×
    Each (λ (w : Worker). w.refused ≡ false) (take l.worker-index l.workers)
