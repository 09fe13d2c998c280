use Rattle.std.proofs.Common.{◌≡◌, length}
use Rattle.hg_base.specs.declared.report.Kind.{Kind}
use Rattle.hg_run.specs.Collecting.{AreCollectors}
use Rattle.hg_collectors.specs.Collecting.{removed_of, view_in}
use Rattle.hg_collectors.specs.Swept.{HasMetSessions}
use Rattle.hg_run.proofs.MeetingAll.{HavePartlyMet}
use Rattle.hg_run.proofs.gc.meet_all.Given as goal

abbrev pub invariant-loop-k : goal.invariant-loop-k
invariant-loop-k l = record {
  met : HavePartlyMet l.engine (view_in l.kind l.initial.collectors) (view_in l.kind l.collectors) l.initial.list.items l.list.items l.k;
  end : l.k-end ≡ length l.initial.list.items;
  all : (k : Kind) → HasMetSessions (view_in k l.initial.collectors) (view_in k l.collectors);
  own : AreCollectors l.engine l.collectors;
  removed : (k : Kind) → removed_of k l.collectors ≡ removed_of k l.initial.collectors;
}
