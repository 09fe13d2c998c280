-- The end of a replay or a run.
use Rattle.std.specs.Prelude.{◌≡◌, ℕ, ◌≤◌, ◌<◌, List, length}
use Rattle.hg_base.specs.declared.report.Kind.{Kind}
use Rattle.hg_base.specs.declared.report.Kind.TheVariants.{Group, Table, Interval}
use Rattle.hg_base.specs.declared.line.Totals.{Totals}
use Rattle.hg_base.specs.History.{History}
use Rattle.hg_base.specs.Lists.{Each}
use Rattle.hg_core.specs.State.{CoreState}
use Rattle.hg_core.specs.Steps.{LeadsTo}
use Rattle.hg_rule.specs.declared.view.View.{View}
use Rattle.hg_rule.specs.Facts.{Stands}
use Rattle.hg_rule.specs.New.{EachFrom}
use Rattle.hg_rule.specs.Reading.{passes_in}
use Rattle.hg_rule.specs.Rules.{IsTrueOf, new_state}
use Rattle.hg_rule.specs.Views.{number, pass, HasPass}
use Rattle.hg_headline.specs.Logged.{Logged}
use Rattle.hg_headline.specs.Following.{AreTotalsBy}
use Rattle.hg_headline.specs.OneRun.{AreTotalsAt}
use Rattle.hg_tracker.specs.Begun.{SawGroups}
use Rattle.hg_session.specs.declared.engine.Engine.{Engine}
use Rattle.hg_session.specs.declared.session.Session.{Session}
use Rattle.hg_session.specs.Engines.{engine_sizes}
use Rattle.hg_session.specs.Ended.{visits_in, HasAllPasses}
use Rattle.hg_session.specs.Finished.{logs_of, AreAmong, AreDone, HasNoSession, HaveGone, IsClosed}
use Rattle.hg_session.specs.OneRun.{journals_in}
use Rattle.hg_session.specs.Passing.{journals_of, visits_of}
use Rattle.hg_collectors.specs.declared.collectors.Collectors.{Collectors}
use Rattle.hg_run.specs.Collecting.{passes_of}
use Rattle.hg_collectors.specs.Collecting.{view_in, removed_of}
use Rattle.hg_run.specs.Listed.{SawAt}
use Rattle.hg_collectors.specs.Noted.{HasNoted}
use Rattle.hg_collectors.specs.Rounding.{BeganIn}

-- What one pass had seen another has seen, and what it did is in each state that the other is true of.
pub record HasCome (v w : View) : Type 0 where
  pub seen : AreAmong v.sights w.sights
  pub did : (s : CoreState) → IsTrueOf s w → Each (Stands s) v.events

-- An engine's passes are joined in one view, which has no session yet, has seen all that any of them had seen, and knows what each did.
pub record AreJoined (e : Engine) (collectors : Collectors) (v : View) : Type 0 where
  pub own : HasPass v
  pub passes : HasAllPasses v
  pub three : passes_in v.parts ≡ 3
  pub none : HasNoSession v
  pub visits : visits_in v ≡ visits_of (passes_of collectors)
  pub journals : journals_in v ≡ journals_of (passes_of collectors)
  pub stays : (number v ≡ 1) × (pass v ≡ pass (view_in Table collectors))
  pub seen : (kind : Kind) → AreAmong (view_in kind collectors).sights v.sights
  pub did : AreDone (view_in Group collectors).events v.sights × AreDone (view_in Interval collectors).events v.sights
  pub events : v.events ≡ (view_in Table collectors).events

-- And these sessions went there, the first ones.
pub record HasBrought (e : Engine) (list : List Session) (collectors : Collectors) (w : View) : Type 0 where
  pub joined : View
  pub passes : AreJoined e collectors joined
  pub went : HaveGone list joined w

-- these are all sessions of the engine, and no transaction is open
pub record AreAllThere (e : Engine) (list : List Session) (collectors : Collectors) (w : View) : Type 0 where
  pub brought : HasBrought e list collectors w
  pub closed : EachFrom (IsClosed e) 1 list
  pub many : length list ≡ (engine_sizes e).sessions

-- One list of steps ends with the logs of these sessions, with all that the collectors noted, and with these totals.
pub record StepsEnd (e : Engine) (list : List Session) (collectors : Collectors) (totals : Totals) : Type 0 where
  pub state : CoreState
  pub reached : LeadsTo (new_state (engine_sizes e)) state
  pub buckets : state.buckets ≡ (engine_sizes e).buckets
  pub logs : state.log ≡ logs_of list
  pub passes : state.passes ≡ 3
  pub noted : (kind : Kind) → HasNoted kind state (view_in kind collectors)
  pub counted : AreTotalsAt state totals

-- The totals are those of the logs, over a history that the logs have, and of what the collectors' rounds removed, by kind. What
-- a session or a collector had seen of the groups stands in that history, and each live register that a collector loaded has its
-- begin in the logs. And all of it comes from one list of steps.
pub record IsClosedBy (e : Engine) (list : List Session) (collectors : Collectors) (totals : Totals) : Type 0 where
  pub history : History
  pub logged : Logged (engine_sizes e).buckets history (logs_of list)
  pub saw : (seen last : ℕ) → last < length list → SawAt seen last list → seen ≤ length history
  pub groups : (kind : Kind) (n : ℕ) → SawGroups n (view_in kind collectors).sights → n ≤ length history
  pub began : (kind : Kind) → Each (BeganIn (logs_of list)) (view_in kind collectors).events
  pub counted : AreTotalsBy (engine_sizes e).sessions history (logs_of list) (λ kind. removed_of kind collectors) totals
  pub run : StepsEnd e list collectors totals
