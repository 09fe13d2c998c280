-- The replies that a session's log gives are those of a table that never reclaims.
use Rattle.std.specs.Prelude.{◌≡◌, ℕ, ◌≤◌, List, ◌∷◌, ◌++◌, length, Bool, true, false, if◌then◌else◌, Some, Contains, IfSome, IsFalse, is_some, unwrap_or, ⊤}
use Rattle.hg_base.specs.declared.rid.Rid.{Rid}
use Rattle.hg_base.specs.declared.statement.Statement.{Statement}
use Rattle.hg_base.specs.declared.statement.Statement.TheVariants.{Begin, CursorOpen, Commit as CommitIt, Gc}
use Rattle.hg_base.specs.declared.line.Answer.{Answer}
use Rattle.hg_base.specs.declared.line.Answer.TheVariants.{Newer, OpenBy}
use Rattle.hg_base.specs.declared.line.Reply.{Reply}
use Rattle.hg_base.specs.Script.{replay}
use Rattle.hg_base.specs.History.{Write, History, image_in, seen, group_at}
use Rattle.hg_base.specs.Transcript.{Said, only, table_of, committed}
use Rattle.hg_base.specs.Replies.{IsAnswer, is_written}
use Rattle.hg_base.specs.Conflicts.{target}
use Rattle.hg_core.specs.declared.log.LogEntry.{LogEntry}
use Rattle.hg_core.specs.declared.log.LogEntry.TheVariants.{Began}
use Rattle.hg_core.specs.Logs.{current, own_writes, commit_in}
use Rattle.hg_core.specs.Judged.{of_session}
use Rattle.hg_core.specs.Replies.{Refuses}
use Rattle.hg_core.specs.Reading.{Unprinted, begin_entries, own_entries, is_alone}

-- the log at which a statement reads and writes: a begin has begun its transaction, and so has a statement that is one of its own
abbrev pub begun_log : Statement → Reply → List LogEntry → List LogEntry
begun_log (Begin scope) reply log = begin_entries scope reply.answer ++ log
begun_log (CursorOpen table low high) reply log = begin_entries (only (Some table)) reply.answer ++ log
begun_log statement reply log = if is_alone (current log) statement then Began (unwrap_or reply.at 0) (only (table_of statement)) ∷ log else log

-- the log that a commit number of the statement closes
abbrev pub done_log : ℕ → Unprinted → Statement → Reply → List LogEntry → List LogEntry
done_log buckets u CommitIt reply log = log
done_log buckets u statement reply log = own_entries buckets u statement reply.answer ++ begun_log statement reply log

-- whether a statement runs a collector
abbrev pub is_gc : Statement → Bool
is_gc (Gc kind) = true
is_gc _ = false

-- A record with its reply, as the log of session j before it has its transaction. A `gc` belongs to none.
pub record StandsAt (j : ℕ) (before : List LogEntry) (now : Said) : Type 0 where
  pub session : now.session ≡ j
  pub logged : IsFalse (is_gc now.statement)
  pub alone : now.alone ≡ is_alone (current before) now.statement
  pub snapshot : IfSome (current (begun_log now.statement now.reply before)) (λ snapshot. (now.at ≡ snapshot.at) × (now.scope ≡ snapshot.scope))

-- the cause of a refused write of r, which the transaction hasn't written
abbrev pub IsCaused : History → (ℕ → List LogEntry) → ℕ → List Write → ℕ → Rid → Answer → Type 0
IsCaused h log j own at r (Newer c) = IsFalse (is_some (image_in r own)) × Refuses h log j at r (Newer c)
IsCaused h log j own at r (OpenBy writer) = IsFalse (is_some (image_in r own)) × Refuses h log j at r (OpenBy writer)
IsCaused h log j own at r _ = ⊤

-- The snapshot is at or below the number of groups, the answer is the table's, a refusal shows its cause, and a commit number
-- is that of the group that has the transaction.
pub record IsAnswered (buckets : ℕ) (h : History) (log : ℕ → List LogEntry) (j : ℕ) (u : Unprinted) (before : List LogEntry) (now : Said) : Type 0 where
  pub snapshot : IfSome (current (begun_log now.statement now.reply before)) (λ snapshot. snapshot.at ≤ length h)
  pub answer : let own = own_writes (begun_log now.statement now.reply before) in IsAnswer replay (seen h own now.at) (is_written own) u.rest now now.statement
  pub cause : IfSome (target now.statement) (λ r. IsCaused h log j (own_writes (begun_log now.statement now.reply before)) now.at r now.reply.answer)
  pub number : IfSome (committed now) (λ n. Contains (of_session j (group_at h n)) (commit_in j (done_log buckets u now.statement now.reply before)))
