use Rattle.std.proofs.Common.{◌≡◌, [], length}
use Rattle.std.specs.Prelude.{◌&&◌}
use Rattle.hg_base.specs.Lists.{onto}
use Rattle.hg_base.specs.Shape.{HasShape}
use Rattle.hg_base.specs.Sound.{IsWhole}
use Rattle.hg_base.specs.Transcript.{history_of}
use Rattle.hg_decide.specs.Audit.{FirstOutOfShape}
use Rattle.hg_known.specs.declared.history.Past.{Past}
use Rattle.hg_known.specs.Context.{IsContext, wants_of}
use Rattle.hg_known.specs.Tallied.{IsTally}
use Rattle.hg_known.specs.Written.{IsOfHistory}
use Rattle.hg_audit.proofs.Sequencing.{shape_length, when_none, when_some}
use Rattle.hg_audit.proofs.fault.find_fault.Goals as goal

pub new-all-requires-clause-same : goal.new-all-requires-clause-same
new-all-requires-clause-same c =
    let records = c.args.records.now in
    let lines = c.args.lines.now in
    shape_length records lines (when_none (HasShape records lines) (FirstOutOfShape records lines) c.in_ok-k.field-0 c.in_default.is c.in_ok-k.ensures)

pub judge-requires-clause-knows : goal.judge-requires-clause-knows
judge-requires-clause-knows c =
    let xs = c.new-all.result in
    let h = history_of xs in
    let gives = when_some (¬ IsWhole xs) (λ (past : Past). IsWhole xs × IsOfHistory h past.writes × (length h ≡ past.groups) × IsTally past.tally xs ×
    IsContext (wants_of c.is_run-run.result xs) past.context (onto xs [])) c.in_ok-past.field-0 c.in-Some-2.past c.in-Some-2.is c.in_ok-past.ensures in
    record {
      writes = gives.1;
      groups = gives.2;
      own = λ run named. gives.4.stored (λ i. c.is_run-run.ensures run i && named i);
      numbers = gives.4.numbers;
      points = gives.4.points;
    }
