-- What a clause says of a session.
use Rattle.std.specs.Prelude.{◌≡◌, ℕ, List, Option, None, is_none, Bool}
use Rattle.hg_base.specs.declared.rid.Rid.{Rid}
use Rattle.hg_base.specs.declared.scope.Snapshot.{Snapshot}
use Rattle.hg_core.specs.declared.log.LogEntry.{LogEntry}
use Rattle.hg_core.specs.Logs.{current}
use Rattle.hg_cursor.specs.declared.cursor.Cursor.{Cursor}
use Rattle.hg_rule.specs.declared.passes.SessionPass.{SessionPass}
use Rattle.hg_rule.specs.declared.view.Sight.{Sight}
use Rattle.hg_rule.specs.declared.view.View.{View}
use Rattle.hg_rule.specs.Views.{number, session, HasOnlySession}
use Rattle.hg_rule.specs.Seats.{session_view, IsSessionOf}
use Rattle.hg_session.specs.declared.engine.Engine.{Engine}
use Rattle.hg_session.specs.declared.session.Session.{Session}
use Rattle.hg_session.specs.Engines.{engine_board_id, engine_sizes}
use Rattle.hg_session.specs.Ties.{Ties, FitsCursor}
use Rattle.hg_rule.specs.Facts.{IsHeard}

-- a session's pass
abbrev pub pass_of : Session → SessionPass
pass_of s = s.pass

-- the view of a session's pass
abbrev pub view_of : Session → View
view_of s = session_view s.pass

-- a session's number
abbrev pub number_of : Session → ℕ
number_of s = number (view_of s)

-- a session's log, newest entry first
abbrev pub log_of : Session → List LogEntry
log_of s = (session (view_of s)).log

-- what a session has seen
abbrev pub seen_by : Session → List Sight
seen_by s = (view_of s).sights

-- the snapshot of a session's open transaction, if one is open
abbrev pub open_of : Session → Option Snapshot
open_of s = current (log_of s)

-- whether no transaction of the session is open
abbrev pub is_alone : Session → Bool
is_alone s = is_none (open_of s)

-- how many statements the session may still run
abbrev pub left_of : Session → ℕ
left_of s = s.left

-- its cursor, if one is open
abbrev pub cursor_of : Session → Option Cursor
cursor_of s = s.cursor

-- how many of its commits ran out of memory
abbrev pub retries_of : Session → ℕ
retries_of s = s.retries

-- the snapshot that the session keeps of its open transaction
abbrev pub opened_of : Session → Option Snapshot
opened_of s = s.opened

-- the records that the session's open transaction has written
abbrev pub written_of : Session → List Rid
written_of s = s.written.list

-- In a call, with no cursor: the session is one of the engine and holds nothing of it, and what it keeps is what its part of
-- the state says. It has heard its own log.
pub record IsIn (e : Engine) (begins writes : ℕ) (s : Session) : Type 0 where
  pub pass : IsSessionOf (engine_board_id e) (engine_sizes e) (pass_of s)
  pub only : HasOnlySession (view_of s)
  pub ties : Ties (engine_sizes e).quota (opened_of s) (written_of s) (left_of s) begins writes (session (view_of s))
  pub heard : IsHeard (number_of s) (log_of s) (seen_by s)
  pub closed : cursor_of s ≡ None

-- the same between calls, where a cursor may be open
pub record IsOf (e : Engine) (s : Session) : Type 0 where
  pub pass : IsSessionOf (engine_board_id e) (engine_sizes e) (pass_of s)
  pub only : HasOnlySession (view_of s)
  pub ties : Ties (engine_sizes e).quota (opened_of s) (written_of s) (left_of s) 0 0 (session (view_of s))
  pub heard : IsHeard (number_of s) (log_of s) (seen_by s)
  pub cursor : FitsCursor (cursor_of s) (opened_of s) (written_of s)
