-- What a line of a replay shows of the logs as they stand before it: a replay has all sessions in one hand.
use Rattle.std.specs.Prelude.{◌≡◌, ℕ, List, map, filter_map, IsTrue, IsSome, IfSome, option_map, ⊤}
use Rattle.std.specs.Bool.{MatchBool}
use Rattle.hg_base.specs.declared.rid.Rid.{Rid}
use Rattle.hg_base.specs.declared.writer.Writer.{Writer}
use Rattle.hg_base.specs.declared.report.Kind.{Kind}
use Rattle.hg_base.specs.declared.report.Told.{Told}
use Rattle.hg_base.specs.declared.report.Sweep.{Sweep}
use Rattle.hg_base.specs.declared.statement.Statement.{Statement}
use Rattle.hg_base.specs.declared.statement.Statement.TheVariants.{Put, Del, Gc}
use Rattle.hg_base.specs.declared.statement.Record.{Record}
use Rattle.hg_base.specs.declared.line.Answer.{Answer}
use Rattle.hg_base.specs.declared.line.Answer.TheVariants.{OpenBy, Swept}
use Rattle.hg_base.specs.declared.line.Line.{Line}
use Rattle.hg_base.specs.Lists.{Each, numbers_from}
use Rattle.hg_base.specs.History.{image_in}
use Rattle.hg_base.specs.Shape.{same_kind}
use Rattle.hg_base.specs.Freshness.{is_declared}
use Rattle.hg_core.specs.declared.log.LogEntry.{LogEntry}
use Rattle.hg_core.specs.Logs.{current, begans, own_writes}

-- the open transactions of the first sessions: session and snapshot
abbrev pub live_in : ℕ → (ℕ → List LogEntry) → List (ℕ × ℕ)
live_in sessions logs = filter_map (λ j. option_map (λ snapshot. (j, snapshot.at)) (current (logs j))) (numbers_from 1 sessions)

-- the session's open transaction declared its tables
abbrev pub HasDeclared : (ℕ → List LogEntry) → Told → Type 0
HasDeclared logs told = IfSome (current (logs told.session)) (λ snapshot. IsTrue (is_declared snapshot.scope))

-- A report of that collector: its horizon is the mark, it holds exactly the open snapshots, and those that were moved had
-- declared their tables.
pub record IsMetReport (sessions : ℕ) (logs : ℕ → List LogEntry) (kind : Kind) (sweep : Sweep) : Type 0 where
  pub same : IsTrue (same_kind sweep.kind kind)
  pub horizon : sweep.horizon ≡ sweep.mark
  pub held : map (λ told. (told.session, told.number)) sweep.held ≡ live_in sessions logs
  pub moved : Each (λ told. MatchBool told.moved (HasDeclared logs told) ⊤) sweep.held

-- a write is open there: that transaction of the session is not over, and it wrote r
pub record IsOpenWrite (logs : ℕ → List LogEntry) (r : Rid) (writer : Writer) : Type 0 where
  pub opened : IsSome (current (logs writer.session))
  pub number : begans (logs writer.session) ≡ writer.transaction
  pub does : IsSome (image_in r (own_writes (logs writer.session)))

-- a write is refused for another's while that is open
abbrev pub IsMetWrite : (ℕ → List LogEntry) → Rid → Answer → Type 0
IsMetWrite logs r (OpenBy writer) = IsOpenWrite logs r writer
IsMetWrite logs r _ = ⊤

-- a `gc` is answered by its report
abbrev pub IsMetGc : ℕ → (ℕ → List LogEntry) → Kind → Answer → Type 0
IsMetGc sessions logs kind (Swept sweep) = IsMetReport sessions logs kind sweep
IsMetGc sessions logs kind _ = ⊥

-- what an answer shows of the logs: a refused write shows the open write, and a report shows the live sessions
abbrev pub IsMetAnswer : ℕ → (ℕ → List LogEntry) → Statement → Answer → Type 0
IsMetAnswer sessions logs (Put r row) answer = IsMetWrite logs r answer
IsMetAnswer sessions logs (Del r) answer = IsMetWrite logs r answer
IsMetAnswer sessions logs (Gc kind) answer = IsMetGc sessions logs kind answer
IsMetAnswer sessions logs _ answer = ⊤

-- what a line shows of the logs before it
abbrev pub IsMet : ℕ → (ℕ → List LogEntry) → Record → Line → Type 0
IsMet sessions logs r line = IsMetAnswer sessions logs r.statement line.reply.answer
