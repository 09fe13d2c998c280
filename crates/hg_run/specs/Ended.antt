-- What is left of an engine's crew that was taken through a script, and closed then.
use Rattle.std.specs.Prelude.{ℕ, List}
use Rattle.hg_base.specs.declared.line.Line.{Line}
use Rattle.hg_base.specs.declared.line.Totals.{Totals}
use Rattle.hg_base.specs.Script.{Script}
use Rattle.hg_session.specs.declared.engine.Engine.{Engine}
use Rattle.hg_session.specs.declared.session.Session.{Session}
use Rattle.hg_session.specs.Engines.{engine_sizes}
use Rattle.hg_collectors.specs.declared.collectors.Collectors.{Collectors}
use Rattle.hg_run.specs.Closed.{IsClosedBy}
use Rattle.hg_run.specs.Driven.{HasDrivenAll, HasDrivenOne}
use Rattle.hg_run.specs.Played.{HasPlayedOut}

-- A run printed these lines of the sessions and the collectors that an engine had before, and the totals are those of what it left.
pub record HasRunToEnd (e : Engine) (long rounds : ℕ) (script : Script) (old : List Session) (before : Collectors) (lines : List Line) (totals : Totals) : Type 0 where
  pub new : List Session
  pub after : Collectors
  pub driven : HasDrivenAll (engine_sizes e) long rounds script.records old before lines new after
  pub closed : IsClosedBy e new after totals

-- the same of a replay
pub record HasReplayedToEnd (e : Engine) (long : ℕ) (script : Script) (old : List Session) (before : Collectors) (lines : List Line) (totals : Totals) : Type 0 where
  pub new : List Session
  pub after : Collectors
  pub driven : HasDrivenOne (engine_sizes e) long script.records old before lines new after
  pub played : HasPlayedOut e before after new script lines
  pub closed : IsClosedBy e new after totals
