-- One moment that shows all logs and all visits.
use Rattle.std.specs.Prelude.{◌≡◌, ℕ, ◌<◌, List}
use Rattle.hg_core.specs.Invariant.{IsSteady}
use Rattle.hg_core.specs.State.{CoreState}
use Rattle.hg_rule.specs.declared.view.View.{View}
use Rattle.hg_rule.specs.Moves.{meeting}
use Rattle.hg_rule.specs.Rules.{IsSized}
use Rattle.hg_rule.specs.Seats.{pass_view}
use Rattle.hg_session.specs.declared.engine.Engine.{Engine}
use Rattle.hg_session.specs.declared.engine.Passes.{Passes}
use Rattle.hg_session.specs.declared.session.Session.{Session}
use Rattle.hg_session.specs.Engines.{engine_sizes}
use Rattle.hg_session.specs.Finished.{logs_of}
use Rattle.hg_session.specs.Passing.{visits_of}

-- a state that meets the invariant has these sessions' logs, and the visits of these three passes
pub record AreAtOnce (e : Engine) (list : List Session) (passes : Passes) : Type 0 where
  pub state : CoreState
  pub steady : IsSteady state
  pub sized : IsSized (engine_sizes e) state
  pub logs : state.log ≡ logs_of list
  pub three : state.passes ≡ 3
  pub visits : (p : ℕ) → p < 3 → state.visits p ≡ visits_of passes p

-- each of the passes has met one view, and has seen what that had seen
pub record HaveMetOne (was now : Passes) : Type 0 where
  pub one : View
  pub group : pass_view now.group ≡ meeting (pass_view was.group) one
  pub table : pass_view now.table ≡ meeting (pass_view was.table) one
  pub interval : pass_view now.interval ≡ meeting (pass_view was.interval) one
