-- What is known of the collectors of an engine.
use Rattle.std.specs.Prelude.{◌≡◌, ℕ, ◌+◌, List, [], ◌∷◌}
use Rattle.hg_base.specs.declared.report.Kind.{Kind}
use Rattle.hg_base.specs.declared.report.Kind.TheVariants.{Group, Table, Interval}
use Rattle.hg_base.specs.declared.report.Sweep.{Sweep}
use Rattle.hg_rule.specs.declared.passes.CollectorPass.{CollectorPass}
use Rattle.hg_rule.specs.declared.view.Part.TheVariants.{OfPass}
use Rattle.hg_rule.specs.declared.view.View.{View}
use Rattle.hg_rule.specs.declared.view.Sizes.{Sizes}
use Rattle.hg_rule.specs.Keys.{first_share}
use Rattle.hg_rule.specs.Views.{pass}
use Rattle.hg_rule.specs.Seats.{BoardId, pass_view, IsPassOf}
use Rattle.hg_collectors.specs.declared.group.GroupCollector.{GroupCollector}
use Rattle.hg_rounds.specs.declared.table.TableCollector.{TableCollector}
use Rattle.hg_collectors.specs.GroupCollectors as group
use Rattle.hg_rounds.specs.TableCollectors as table
use Rattle.hg_collectors.specs.Workers as interval
use Rattle.hg_core.specs.Counters.{removed_all}
use Rattle.hg_collectors.specs.Rounding.{IsRoundBy, AreRounds, HasMadeAll}
use Rattle.hg_collectors.specs.Lent.{lent_board_id, lent_sizes}
use Rattle.hg_collectors.specs.declared.collectors.Collectors.{Collectors}
use Rattle.hg_collectors.specs.declared.interval.IntervalWorker.{IntervalWorker}
use Rattle.hg_collectors.specs.declared.lent.Lent.{Lent}
use Rattle.hg_collectors.specs.declared.round_list.RoundList.{RoundList}
use Rattle.hg_collectors.specs.declared.round_lists.RoundLists.{RoundLists}

-- the pass of the collector of each kind
abbrev pub pass_in : Kind → Collectors → CollectorPass
pass_in Group c = group.pass_of c.group
pass_in Table c = table.pass_of c.table
pass_in Interval c = interval.pass_of c.interval

-- the view of that pass
abbrev pub view_in : Kind → Collectors → View
view_in kind c = pass_view (pass_in kind c)

-- how many versions their visits removed of a kind
abbrev pub removed_of : Kind → Collectors → ℕ
removed_of kind c = removed_all kind (pass (view_in Group c)).visits + removed_all kind (pass (view_in Table c)).visits + removed_all kind (pass (view_in Interval c)).visits

-- pass p of a board, which has its own part alone, with all of its share
pub record IsLone (t : BoardId) (p : ℕ) (c : CollectorPass) : Type 0 where
  pub own : IsPassOf t c
  pub only : (pass_view c).parts ≡ OfPass p (pass (pass_view c)) ∷ []
  pub share : (pass (pass_view c)).share ≡ first_share

-- each collector's is
pub record AreLone (t : BoardId) (c : Collectors) : Type 0 where
  pub group : IsLone t 0 (pass_in Group c)
  pub table : IsLone t 1 (pass_in Table c)
  pub interval : IsLone t 2 (pass_in Interval c)

-- the collectors of a board, each with room for its rounds, and each pass with its own part alone
pub record AreCollectorsOf (t : BoardId) (z : Sizes) (c : Collectors) : Type 0 where
  pub group_is : group.IsCollectorOf t z c.group
  pub table_is : table.IsCollectorOf t z c.table
  pub interval_is : interval.IsCollectorOf t z c.interval
  pub alone : AreLone t c

-- each collector made the rounds of its kind in their order, and no other; between them its pass may have met sessions
abbrev pub HaveMade : Sizes → ℕ → Collectors → (Kind → List Sweep) → Collectors → Type 0
HaveMade z long before sweeps after = (kind : Kind) → AreRounds (IsRoundBy kind z long) (view_in kind before) (sweeps kind) (view_in kind after)

-- what a collector's rounds were told as
abbrev pub told_in : Kind → RoundLists → RoundList
told_in Group told = told.group
told_in Table told = told.table
told_in Interval told = told.interval

-- each collector made its rounds
abbrev pub HaveMadeAll : Sizes → ℕ → ℕ → Collectors → RoundLists → Collectors → Type 0
HaveMadeAll z long rounds before told after = (kind : Kind) → HasMadeAll kind z long rounds (view_in kind before) (told_in kind told) (view_in kind after)

-- the group collector made its rounds, by a plan with these numbers, and is one of the board still
abbrev pub HasMadeGroups : Lent → ℕ → ℕ → GroupCollector → RoundList → GroupCollector → Type 0
HasMadeGroups lent long rounds before told after = HasMadeAll Group (lent_sizes lent) long rounds (group.view_of before) told (group.view_of after) ×
    group.IsCollectorOf (lent_board_id lent) (lent_sizes lent) after

-- so did the table collector
abbrev pub HasMadeTables : Lent → ℕ → ℕ → TableCollector → RoundList → TableCollector → Type 0
HasMadeTables lent long rounds before told after = HasMadeAll Table (lent_sizes lent) long rounds (table.view_of before) told (table.view_of after) ×
    table.IsCollectorOf (lent_board_id lent) (lent_sizes lent) after

-- and the interval collector
abbrev pub HasMadeIntervals : Lent → ℕ → ℕ → IntervalWorker → RoundList → IntervalWorker → Type 0
HasMadeIntervals lent long rounds before told after = HasMadeAll Interval (lent_sizes lent) long rounds (interval.view_of before) told (interval.view_of after) ×
    interval.IsCollectorOf (lent_board_id lent) (lent_sizes lent) after
