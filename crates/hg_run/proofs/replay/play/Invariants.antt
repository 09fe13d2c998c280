use Rattle.std.proofs.Common.{◌≡◌, drop}
use Rattle.hg_base.specs.declared.report.Kind.{Kind}
use Rattle.hg_collectors.specs.Collecting.{removed_of}
use Rattle.hg_run.specs.Collecting.{AreCollectors}
use Rattle.hg_run.specs.Few.{KeepsFew}
use Rattle.hg_run.proofs.Going.{Going}
use Rattle.hg_run.proofs.replay.play.Given as goal

-- the replay goes on with the records that are left
abbrev pub invariant-loop-next : goal.invariant-loop-next
invariant-loop-next g l = record {
  tables : l.transcript.tables ≡ l.script.tables;
  collectors : AreCollectors l.engine l.crew.collectors;
  going : Going l.engine l.long l.initial.crew.collectors l.crew.collectors l.crew.sessions.items l.last l.transcript.lines (drop l.next l.script.records) l.script;
  few : ((k : Kind) → removed_of k l.initial.crew.collectors ≡ 0) → KeepsFew l.script l.transcript.lines;
}
