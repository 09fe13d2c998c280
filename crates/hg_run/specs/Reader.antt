-- What a dump reads, and what is left of the pass that read.
use Rattle.std.specs.Prelude.{◌≡◌, ℕ, suc, List, [], ◌∷◌, ◌++◌, ◌≤◌, length, Result, IfOk, OnErr}
use Rattle.std.specs.declared.alloc.Global.{Global}
use Rattle.hg_base.specs.declared.fault.NoMemory.{NoMemory}
use Rattle.hg_base.specs.declared.report.Kind.{Kind}
use Rattle.hg_base.specs.declared.line.Totals.{Totals}
use Rattle.hg_base.specs.History.{History}
use Rattle.hg_dump.specs.Reader.{reader_of}
use Rattle.hg_base.specs.Lists.{Each}
use Rattle.hg_base.specs.Script.{Script}
use Rattle.hg_core.specs.declared.log.LogEntry.{LogEntry}
use Rattle.hg_core.specs.Logs.{UpTo}
use Rattle.hg_cursor.specs.Logs.{GoesOn}
use Rattle.hg_dump.specs.Exports.{HasReadAt, MayExport}
use Rattle.hg_rule.specs.declared.passes.SessionPass.{SessionPass}
use Rattle.hg_rule.specs.declared.view.View.{View}
use Rattle.hg_rule.specs.Facts.{StartsWith}
use Rattle.hg_rule.specs.Seats.{session_view, IsSessionOf}
use Rattle.hg_session.specs.declared.engine.Engine.{Engine}
use Rattle.hg_session.specs.declared.session.Session.{Session}
use Rattle.hg_session.specs.Engines.{engine_board_id, engine_sizes}
use Rattle.hg_session.specs.Finished.{logs_of}
use Rattle.hg_rule.specs.New.{EachFrom}
use Rattle.hg_session.specs.Opened.{seated, IsNewOf}
use Rattle.hg_session.specs.Sessions.{pass_of}
use Rattle.hg_dump.specs.Records.{dump_text}
use Rattle.hg_dump.specs.Rows.{rows_at}
use Rattle.hg_tracker.specs.Begun.{AtMost}
use Rattle.hg_collectors.specs.declared.collectors.Collectors.{Collectors}
use Rattle.hg_run.specs.declared.reader.Reader.{Reader}
use Rattle.hg_run.specs.Closed.{IsClosedBy}
use Rattle.hg_collectors.specs.Collecting.{view_in}
use Rattle.hg_run.specs.Driven.{IsOpenedWith, sessions_in}
use Rattle.hg_collectors.specs.Rounding.{BeganIn}

-- the allocator of a reader
abbrev pub alloc_in : Reader → Global
alloc_in r = r.alloc

-- the engine that a reader reads
abbrev pub engine_in : Reader → Engine
engine_in r = r.engine.now

-- the script whose tables a reader exports
abbrev pub script_in : Reader → Script
script_in r = r.script.now

-- The dump of the script's tables at a snapshot was appended, that of each history in which the entries of the session's log are
-- right. The snapshot is at or over all that the session had seen. Its log has gained the transaction that read, and nothing else.
pub record HasDumped (e : Engine) (script : Script) (at : ℕ) (old new : View) (before after : List ℕ) : Type 0 where
  pub text : (h : History) (logs : ℕ → List LogEntry) → GoesOn (engine_sizes e).buckets new h logs → after ≡ before ++ dump_text script (rows_at script.tables h at)
  pub fresh : Each (AtMost at) old.sights
  pub read : HasReadAt at old new

-- the session read at some snapshot, which it holds no more
abbrev pub IsOver : View → View → Type 0
IsOver old new = (s : ℕ) × HasReadAt s old new

-- It was tried: it was appended, or nothing was.
pub record HasTried (e : Engine) (script : Script) (result : Result ℕ NoMemory) (old new : SessionPass) (before after : List ℕ) : Type 0 where
  pub dumped : IfOk result (λ at. HasDumped e script at (session_view old) (session_view new) before after)
  pub starts : StartsWith after before
  pub refused : OnErr result (after ≡ before)
  pub over : IsOver (session_view old) (session_view new)
  pub own : IsSessionOf (engine_board_id e) (engine_sizes e) new

-- An engine for a script was opened with one session more than the script has. This is the pass of that session, the last one, and
-- the others are in the list.
pub record IsOpenedBeside (script : Script) (buckets : ℕ) (e : Engine) (list : List Session) (collectors : Collectors) (pass : SessionPass) : Type 0 where
  pub last : Session
  pub opened : IsOpenedWith (reader_of script) script buckets e (list ++ last ∷ []) collectors
  pub reads : 2 ≤ (engine_sizes e).quota
  pub many : length list ≡ sessions_in script
  pub more : (engine_sizes e).sessions ≡ suc (length list)
  pub new : EachFrom (IsNewOf e (engine_sizes e).quota) 1 list
  pub pass_is : pass ≡ pass_of last
  pub may : MayExport (engine_board_id e) (engine_sizes e) pass

-- a list of sessions, and after them the reader's
abbrev pub list_with : Global → List Session → SessionPass → List Session
list_with alloc list pass = list ++ seated alloc 0 pass ∷ []

-- After all other sessions had ended, the dump at a snapshot was appended: no number of any log is over it. The begins of the snapshots
-- that collectors loaded were in the logs before. Then the reader ended as the others had, and the totals are those of all logs.
pub record IsReadAndClosed (alloc : Global) (e : Engine) (script : Script) (list : List Session) (collectors : Collectors) (pass : SessionPass) (before after : List ℕ)
    (totals : Totals) (at : ℕ) : Type 0 where
  pub last : SessionPass
  pub dumped : HasDumped e script at (session_view pass) (session_view last) before after
  pub began : (kind : Kind) → Each (BeganIn (logs_of (list_with alloc list pass))) (view_in kind collectors).events
  pub newest : (j : ℕ) → UpTo at (logs_of (list_with alloc list last) j)
  pub closed : IsClosedBy e (list_with alloc list last) collectors totals
