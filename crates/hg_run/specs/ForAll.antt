-- An engine that is opened before its script is known.
use Rattle.std.specs.Prelude.{◌≡◌, ℕ, ◌<◌, List, length}
use Rattle.hg_base.specs.declared.limits.TheConstants.{MOST_SESSIONS, MOST_TABLES}
use Rattle.hg_base.specs.declared.report.Kind.{Kind}
use Rattle.hg_rule.specs.declared.view.Sizes.{Sizes}
use Rattle.hg_rule.specs.Facts.{new_pass}
use Rattle.hg_rule.specs.New.{EachFrom}
use Rattle.hg_rule.specs.Views.{pass}
use Rattle.hg_session.specs.declared.engine.Engine.{Engine}
use Rattle.hg_session.specs.declared.session.Session.{Session}
use Rattle.hg_session.specs.Engines.{engine_sizes}
use Rattle.hg_session.specs.Opened.{IsNewOf}
use Rattle.hg_collectors.specs.declared.collectors.Collectors.{Collectors}
use Rattle.hg_collectors.specs.Collecting.{removed_of, view_in}
use Rattle.hg_run.specs.declared.engine.TheConstants.{MOST_STATEMENTS}
use Rattle.hg_run.specs.Collecting.{AreCollectors}

-- it has these sizes, and its sessions and collectors have done nothing yet
pub record IsOpenedOf (z : Sizes) (e : Engine) (list : List Session) (collectors : Collectors) : Type 0 where
  pub sizes : engine_sizes e ≡ z
  pub all : length list ≡ (engine_sizes e).sessions
  pub new : EachFrom (IsNewOf e (engine_sizes e).quota) 1 list
  pub collectors_are : AreCollectors e collectors
  pub none : (kind : Kind) → removed_of kind collectors ≡ 0
  pub fresh : (kind : Kind) → pass (view_in kind collectors) ≡ new_pass

-- it has all sessions and tables that there may be, and some bucket; each session may run so many statements
pub record IsForAll (e : Engine) : Type 0 where
  pub sessions : (engine_sizes e).sessions ≡ MOST_SESSIONS
  pub tables : (engine_sizes e).tables ≡ MOST_TABLES
  pub quota : (engine_sizes e).quota ≡ MOST_STATEMENTS
  pub some : 0 < (engine_sizes e).buckets

-- so it was opened
pub record IsOpenedForAll (e : Engine) (list : List Session) (collectors : Collectors) : Type 0 where
  pub for_all : IsForAll e
  pub opened : IsOpenedOf (engine_sizes e) e list collectors
