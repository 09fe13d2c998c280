-- A new engine's sessions.
use Rattle.std.specs.Prelude.{◌≡◌, ℕ, [], None}
use Rattle.std.specs.declared.alloc.Global.{Global}
use Rattle.hg_queue.specs.Rids.{no_rids}
use Rattle.hg_rule.specs.declared.passes.SessionPass.{SessionPass}
use Rattle.hg_session.specs.declared.engine.Engine.{Engine}
use Rattle.hg_session.specs.declared.session.Session.{Session}
use Rattle.hg_session.specs.Sessions.{IsOf, number_of, log_of, seen_by, left_of, retries_of, cursor_of}

-- a session on a pass, which may run so many statements
abbrev pub seated : Global → ℕ → SessionPass → Session
seated alloc quota pass = record { pass = pass; opened = None; written = no_rids; cursor = None; left = quota; retries = 0; alloc = alloc }

-- session j of an engine, which ran and saw nothing so far, and may run so many statements
pub record IsNewOf (e : Engine) (quota j : ℕ) (s : Session) : Type 0 where
  pub own : IsOf e s
  pub number_is : number_of s ≡ j
  pub log : log_of s ≡ []
  pub seen : seen_by s ≡ []
  pub left : left_of s ≡ quota
  pub retries : retries_of s ≡ 0
  pub cursor : cursor_of s ≡ None
