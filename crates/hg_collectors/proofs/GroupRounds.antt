-- A gather, and the groups that were taken after it, are one round.
use Rattle.std.proofs.Common.{ℕ}
use Rattle.hg_base.specs.declared.report.Kind.TheVariants.{Group}
use Rattle.hg_base.specs.declared.report.Report.{Report}
use Rattle.hg_core.specs.Passes.{group_bound}
use Rattle.hg_rule.specs.declared.view.View.{View}
use Rattle.hg_rule.specs.declared.view.Sizes.{Sizes}
use Rattle.hg_rule.specs.Facts.{record_of}
use Rattle.hg_rule.specs.Views.{number, pass}
use Rattle.hg_rule.specs.Rounds.{IsRoundOf}
use Rattle.hg_tracker.proofs.Rounds.{gather_events, gather_round, gather_gains, gather_removes_none}
use Rattle.hg_tracker.specs.Begun.{HasGathered}
use Rattle.hg_rounds.specs.Reports.{IsReportBy}
use Rattle.hg_rounds.proofs.Reported.{reports}
use Rattle.hg_collectors.specs.Taking.{noted, TakesAll}
use Rattle.hg_collectors.specs.GroupCollectors.{Collects}

pub collects : (z : Sizes) (v x w : View) (report : Report) (n : ℕ) → HasGathered v z.sessions x → TakesAll z.buckets (group_bound (record_of (pass x))) x report.removed w →
    IsReportBy Group (pass x) n report → Collects z v report w
collects z v x w report n g t told = record {
  gathered = x;
  gathers = g;
  takes = t;
  reports = reports Group v (noted x t.some.taken) w report (gather_events v x) (gather_gains v x z.sessions g) first (gather_removes_none v x) t.some.on n
      (record { kind_is = told.kind_is; mark_is = told.mark_is; horizon_is = told.horizon_is; removed_is = told.removed_is; entries_are = told.entries_are }) t.some.gone_is g.most;
}
  where
    first : IsRoundOf (number v) (pass (noted x t.some.taken)) (gather_events v x)
    first = let r = gather_round v x z.sessions g in record { round = r.round; mark_is = r.mark_is; loaded_is = r.loaded_is }
