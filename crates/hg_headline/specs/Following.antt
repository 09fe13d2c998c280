-- What a replay knows after each record from the logs of its sessions alone: the history is known only at its end.
use Rattle.std.specs.Prelude.{◌≡◌, ℕ, suc, ◌+◌, ◌<◌, ◌≤◌, List, [], ◌∷◌, length, if◌then◌else◌, sum_by, None, IfSome, IsFalse, ⊤}
use Rattle.std.specs.List.{cons_option}
use Rattle.std.specs.Option.{option_map_or}
use Rattle.hg_base.specs.declared.writer.Writer.{Writer}
use Rattle.hg_base.specs.declared.report.Kind.{Kind}
use Rattle.hg_base.specs.declared.report.Kind.TheVariants as kinds
use Rattle.hg_base.specs.declared.statement.Statement.{Statement}
use Rattle.hg_base.specs.declared.statement.Statement.TheVariants.{Gc}
use Rattle.hg_base.specs.declared.statement.Record.{Record}
use Rattle.hg_base.specs.declared.line.Answer.{Answer}
use Rattle.hg_base.specs.declared.line.Reply.{Reply}
use Rattle.hg_base.specs.declared.line.Line.{Line}
use Rattle.hg_base.specs.declared.line.Totals.{Totals}
use Rattle.hg_base.specs.Lists.{Each, greatest}
use Rattle.hg_base.specs.History.{History}
use Rattle.hg_base.specs.Counts.{live}
use Rattle.hg_base.specs.Shape.{HasShape, report_of, same_kind}
use Rattle.hg_core.specs.declared.log.LogEntry.{LogEntry}
use Rattle.hg_core.specs.Logs.{has_end, UpTo}
use Rattle.hg_core.specs.Judged.{Judged}
use Rattle.hg_core.specs.Replies.{AreReplied}
use Rattle.hg_core.specs.Reading.{Follows}
use Rattle.hg_headline.specs.Timely.{Rises, snapshot_in, mark_in, newer_in, commit_in, reads_in}
use Rattle.hg_headline.specs.Met.{IsMet, IsMetGc}
use Rattle.hg_headline.specs.Counted.{made_in, undone_in}

-- each number in each log is at or below n
abbrev pub AreUpTo : ℕ → (ℕ → List LogEntry) → Type 0
AreUpTo n logs = (j : ℕ) → UpTo n (logs j)

-- n is at or over each number in the logs, and over each group that was seen of the history
pub record IsOver (logs : ℕ → List LogEntry) (seen : ℕ) (n : ℕ) : Type 0 where
  pub entries : AreUpTo n logs
  pub groups : seen ≤ n

-- ---- record by record

-- Of the records so far with their lines, over the logs as they stand, where at least `seen` groups are in the history: the lines
-- are the replies that the logs give, each shows what is open there, and no number that they print is over top, which is at or
-- below the greatest of what is in the logs and was seen.
pub record IsFollowing (buckets : ℕ) (sessions : ℕ) (logs : ℕ → List LogEntry) (seen : ℕ) (top : ℕ) (records : List Record) (lines : List Line) : Type 0 where
  pub within : Each (λ (r : Record). (1 ≤ r.session) × (r.session ≤ sessions)) records
  pub shape : HasShape records lines
  pub follows : Follows buckets (IsMet sessions) (λ j. []) (λ j. None) records lines logs
  pub rises : Rises 0 records lines top
  pub known : (n : ℕ) → IsOver logs seen n → top ≤ n

-- What a reply prints, against the logs as they are before it. A snapshot and a mark are at or over all that is there, and a
-- mark is seen from then on. A commit number is the next after one that is at or over all that is there and in its own line.
pub record IsFreshIn (logs : ℕ → List LogEntry) (seen : ℕ) (later : ℕ) (statement : Statement) (reply : Reply) : Type 0 where
  pub grows : seen ≤ later
  pub snapshot : IfSome (snapshot_in reply) (λ at. IsOver logs seen at)
  pub mark : IfSome (mark_in reply) (λ m. IsOver logs seen m × (m ≤ later))
  pub newer : IfSome (newer_in reply) (λ c. 0 < c)
  pub commit : IfSome (commit_in statement reply) (λ c. (n : ℕ) × (c ≡ suc n) × IsOver logs seen n × Each (λ m. m ≤ n) (reads_in reply))

-- the greatest number that is printed, where top was it before
abbrev pub top_after : ℕ → Statement → Reply → ℕ
top_after top statement reply = greatest (top ∷ cons_option (commit_in statement reply) (reads_in reply))

-- ---- a write that is refused for another's

-- What shows that another's write is open, where session j refuses its own for it. In some family of logs the replies of session j
-- are right, and it has the log `after`. There the other's log is as it is known, each of its entries is right, and its
-- transaction was neither published nor ended.
pub record KnowsOpen (buckets : ℕ) (logs : ℕ → List LogEntry) (j : ℕ) (after : List LogEntry) (writer : Writer) : Type 0 where
  pub history : History
  pub more : ℕ → List LogEntry
  pub here : more j ≡ after
  pub there : more writer.session ≡ logs writer.session
  pub replied : AreReplied buckets history more j (more j)
  pub judged : Judged history (logs writer.session)
  pub goes : IsFalse (has_end writer.transaction (logs writer.session))

-- a `gc` is answered by its report, and other statements owe nothing
abbrev pub IsMetIfGc : ℕ → (ℕ → List LogEntry) → Statement → Answer → Type 0
IsMetIfGc sessions logs (Gc kind) answer = IsMetGc sessions logs kind answer
IsMetIfGc sessions logs _ answer = ⊤

-- ---- the end

-- how many versions a line says that a collector of that kind removed
abbrev pub told_by : Kind → Line → ℕ
told_by kind line = option_map_or (λ sweep. if same_kind sweep.kind kind then sweep.removed else 0) (report_of line.reply) 0

-- how many versions all lines say that collectors of that kind removed
abbrev pub told_removed : Kind → List Line → ℕ
told_removed kind lines = sum_by (told_by kind) lines

-- The totals over the logs as they are closed, where the rounds of each kind of collector removed so many versions. More may
-- have gone for tables.
pub record AreTotalsBy (sessions : ℕ) (h : History) (closed : ℕ → List LogEntry) (removed : Kind → ℕ) (totals : Totals) : Type 0 where
  pub made : totals.made ≡ made_in sessions closed
  pub undone : totals.undone ≡ undone_in sessions closed
  pub group : totals.group ≡ removed kinds.Group
  pub table : removed kinds.Table ≤ totals.table
  pub interval : totals.interval ≡ removed kinds.Interval
  pub left : totals.left ≡ length (live h)
  pub balance : totals.made ≡ totals.undone + totals.group + totals.table + totals.interval + totals.left
