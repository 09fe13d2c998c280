-- What a statement asks for, and how a replay is answered.
use Rattle.std.specs.Prelude.{◌≡◌, ℕ, suc, ◌<◌, ◌≤◌, List, Bool, Option, Some, None, is_some, IfSome, ⊤}
use Rattle.hg_base.specs.declared.statement.Statement.{Statement}
use Rattle.hg_base.specs.declared.statement.Statement.TheVariants as say
use Rattle.hg_base.specs.declared.report.Kind.{Kind}
use Rattle.hg_base.specs.declared.line.Reply.{Reply}
use Rattle.hg_base.specs.Conflicts.{target}
use Rattle.hg_base.specs.Transcript.{Rest, rest_after}
use Rattle.hg_core.specs.declared.log.LogEntry.{LogEntry}
use Rattle.hg_core.specs.Events.{put}
use Rattle.hg_core.specs.Logs.{current}
use Rattle.hg_core.specs.Shown.{ShowsFirst, reads_at}
use Rattle.hg_core.specs.Reading.{Unprinted, Fits, HasRest, log_after}
use Rattle.hg_core.specs.Words.{IsBelow}
use Rattle.hg_rule.specs.declared.view.Sizes.{Sizes}
use Rattle.hg_script.specs.Lawful.{MayStand}
use Rattle.hg_script.specs.Rules.{reading}
use Rattle.hg_headline.specs.Met.{IsMetAnswer}
use Rattle.hg_headline.specs.Following.{IsFreshIn}
use Rattle.hg_session.specs.declared.engine.Engine.{Engine}
use Rattle.hg_session.specs.declared.session.Session.{Session}
use Rattle.hg_session.specs.Cursors.{HasLeft}
use Rattle.hg_session.specs.Engines.{engine_sizes}
use Rattle.hg_session.specs.Finished.{logs_of}
use Rattle.hg_session.specs.Firsts.{HasFirst}
use Rattle.hg_session.specs.Replies.{AnswersFrom}
use Rattle.hg_session.specs.Sessions.{view_of, open_of, cursor_of}
use Rattle.hg_exact.specs.Opening.{AreOpen}
use Rattle.hg_run.specs.Caught.{HasCaughtUp}
use Rattle.hg_run.specs.Listed.{HaveCursors, SawAt}

-- it names tables that there are, and a fetch wants some rows
abbrev pub IsOnTables : ℕ → Statement → Type 0
IsOnTables tables (say.Begin scope) = IsBelow tables scope
IsOnTables tables (say.Get rid) = rid.table.0 < tables
IsOnTables tables (say.Put rid row) = rid.table.0 < tables
IsOnTables tables (say.Del rid) = rid.table.0 < tables
IsOnTables tables (say.Scan table low high) = table.0 < tables
IsOnTables tables (say.CursorOpen table low high) = table.0 < tables
IsOnTables tables (say.Fetch n) = 1 ≤ n
IsOnTables tables say.CursorClose = ⊤
IsOnTables tables say.Commit = ⊤
IsOnTables tables say.Rollback = ⊤
IsOnTables tables (say.Gc kind) = ⊤

-- the collector that it asks for
abbrev pub collector_asked : Statement → Option Kind
collector_asked (say.Gc kind) = Some kind
collector_asked _ = None

-- it may stand where the session's transaction is open, or its cursor, or neither
pub record MayAsk (s : Session) (statement : Statement) : Type 0 where
  pub within : Bool
  pub opens : AreOpen within (is_some (cursor_of s)) (is_some (open_of s))
  pub may : MayStand within (is_some (cursor_of s)) statement

-- A session answered it. Whatever its cursor had left before, the reply is one from there, and the cursor has left what follows. A
-- write has its first cause.
pub record IsAnswered (z : Sizes) (old : Session) (statement : Statement) (reply : Reply) (new : Session) : Type 0 where
  pub answers : (rest : Option Rest) → HasLeft old rest → AnswersFrom rest z (view_of old) statement reply (view_of new)
  pub moved : (rest : Option Rest) → HasLeft old rest → HasLeft new (rest_after statement reply.answer rest)
  pub reads : is_some (cursor_of new) ≡ reading (is_some (cursor_of old)) statement
  pub first : IfSome (target statement) (λ r. HasFirst (view_of old) r (reads_at (open_of old) reply) reply.answer (view_of new))

-- A statement of session j, whose cursor has this left, with its reply: it shows what is open, its numbers are fresh where so many
-- groups were seen before it and after it, and only the log of session j has gone on.
pub record IsReplied (buckets sessions : ℕ) (old : ℕ → List LogEntry) (seen later : ℕ) (j : ℕ) (rest : Option Rest) (statement : Statement) (reply : Reply) (new : ℕ → List LogEntry) : Type 0 where
  pub u : Unprinted
  pub fits : Fits buckets u (old j) statement reply
  pub rest_is : HasRest statement u.rest rest
  pub met : IsMetAnswer sessions old statement reply.answer
  pub fresh : IsFreshIn old seen later statement reply
  pub logs : new ≡ put old j (log_after buckets u statement reply (old j))

-- The session at i of a list was asked, when it had seen so many groups. It has seen all that the reply says were seen. Each
-- cursor was open or not and had this left, and the one of the session at i goes on. If it has heard no log further than it stands, it
-- had not before, and a write showed its first cause.
pub record HasReplied (e : Engine) (seen : ℕ) (reads : ℕ → Bool) (rest : ℕ → Option Rest) (old : List Session) (i : ℕ) (statement : Statement) (reply : Reply) (new : List Session) : Type 0 where
  pub later : ℕ
  pub replied : IsReplied (engine_sizes e).buckets (engine_sizes e).sessions (logs_of old) seen later (suc i) (rest (suc i)) statement reply (logs_of new)
  pub cursors : HaveCursors (put reads (suc i) (reading (reads (suc i)) statement)) (put rest (suc i) (rest_after statement reply.answer (rest (suc i)))) new
  pub saw : SawAt later i new
  pub caught : HasCaughtUp i new → HasCaughtUp i old
  pub first : HasCaughtUp i new → IfSome (target statement) (λ r. ShowsFirst (logs_of old) (suc i) (reads_at (current (logs_of old (suc i))) reply) r reply.answer)

-- the same whatever it had seen, and whichever cursors were open
abbrev pub Replies : Engine → List Session → ℕ → Statement → Reply → List Session → Type 0
Replies e old i statement reply new = (seen : ℕ) (reads : ℕ → Bool) (rest : ℕ → Option Rest) → SawAt seen i old → HaveCursors reads rest old → HasReplied e seen reads rest old i statement reply new
