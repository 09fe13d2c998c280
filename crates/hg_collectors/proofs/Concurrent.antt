-- All collectors beside each other.
use Rattle.std.proofs.Common.{ℕ}
use Rattle.hg_base.specs.declared.report.Kind.TheVariants.{Group, Table, Interval}
use Rattle.hg_collectors.specs.GroupCollectors as groups
use Rattle.hg_rounds.specs.TableCollectors as tables
use Rattle.hg_rule.specs.declared.view.Sizes.{Sizes}
use Rattle.hg_rule.specs.Seats.{BoardId}
use Rattle.hg_collectors.specs.Workers as intervals
use Rattle.hg_collectors.specs.declared.collectors.Collectors.{Collectors}
use Rattle.hg_collectors.specs.declared.round_lists.RoundLists.{RoundLists}
use Rattle.hg_collectors.specs.Collecting.{AreCollectorsOf, HaveMadeAll}
use Rattle.hg_collectors.proofs.Driving.{lone_rounds}
use Rattle.hg_collectors.proofs.Teams.{worker_pass}

-- collectors that made rounds have their passes alone
pub collectors_made : (t : BoardId) (z : Sizes) (long rounds : ℕ) (old new : Collectors) (told : RoundLists) → AreCollectorsOf t z old → groups.IsCollectorOf t z new.group →
    tables.IsCollectorOf t z new.table → intervals.IsCollectorOf t z new.interval → HaveMadeAll z long rounds old told new → AreCollectorsOf t z new
collectors_made t z long rounds old new told own group table interval made = record {
  group_is = group;
  table_is = table;
  interval_is = interval;
  alone = record {
    group = lone_rounds t 0 Group z long (made Group).sweeps (groups.pass_of old.group) (groups.pass_of new.group) own.alone.group group.0.0 (made Group).made;
    table = lone_rounds t 1 Table z long (made Table).sweeps (tables.pass_of old.table) (tables.pass_of new.table) own.alone.table table.0 (made Table).made;
    interval = lone_rounds t 2 Interval z long (made Interval).sweeps (intervals.pass_of old.interval) (intervals.pass_of new.interval) own.alone.interval
        (worker_pass t z new.interval interval) (made Interval).made;
  };
}
