-- What a run knows at its end: each session's lines are the replies that its log gives, and each collector's are its reports.
use Rattle.std.specs.Prelude.{◌≡◌, ℕ, suc, ◌≤◌, List, [], ◌∷◌, ◌++◌, length, map, None, IsTrue, ⊤}
use Rattle.std.specs.List.{flat_map}
use Rattle.std.specs.Bool.{MatchBool}
use Rattle.hg_base.specs.declared.report.Kind.{Kind}
use Rattle.hg_base.specs.declared.report.Kind.TheVariants as kinds
use Rattle.hg_base.specs.declared.report.Entry.{Entry}
use Rattle.hg_base.specs.declared.report.Report.{Report}
use Rattle.hg_base.specs.declared.statement.Record.{Record}
use Rattle.hg_base.specs.declared.statement.Statement.{Statement}
use Rattle.hg_base.specs.declared.statement.Statement.TheVariants.{Gc}
use Rattle.hg_base.specs.declared.line.Answer.{Answer}
use Rattle.hg_base.specs.declared.line.Answer.TheVariants.{Swept}
use Rattle.hg_base.specs.declared.line.Line.{Line}
use Rattle.hg_base.specs.Lists.{Each, Ascends}
use Rattle.hg_base.specs.History.{History}
use Rattle.hg_base.specs.Reports.{sweep_of}
use Rattle.hg_base.specs.Transcript.{of_session, sessions_of}
use Rattle.hg_base.specs.Shape.{HasShape}
use Rattle.hg_base.specs.Replies.{IsBeside}
use Rattle.hg_base.specs.Freshness.{is_declared}
use Rattle.hg_core.specs.declared.log.LogEntry.{LogEntry}
use Rattle.hg_core.specs.Reading.{Tells}
use Rattle.hg_headline.specs.Logged.{Logged}
use Rattle.hg_headline.specs.Gathered.{began_at}

-- a session leaves a `gc` to the collectors
abbrev pub LeavesGc : Statement → Answer → Type 0
LeavesGc (Gc kind) answer = IsBeside answer
LeavesGc _ answer = ⊤

-- ---- collectors

-- a live snapshot that a pass met: its session began so, and it was moved only if its tables were declared
abbrev pub WasMet : (ℕ → List LogEntry) → Entry → Type 0
WasMet logs entry = IsTrue (began_at (is_declared entry.scope) entry.number (logs entry.session)) × MatchBool entry.moved (IsTrue (is_declared entry.scope)) ⊤

-- the report of a collector's pass
pub record IsPassReport (h : History) (logs : ℕ → List LogEntry) (collector : Kind) (report : Report) : Type 0 where
  pub kind : report.kind ≡ collector
  pub horizon : report.horizon ≤ report.mark
  pub mark : report.mark ≤ length h
  pub order : Ascends (map (λ e. e.session) report.entries.list)
  pub met : Each (WasMet logs) report.entries.list

-- no later one is lower
abbrev pub NotFalling : List ℕ → Type 0
NotFalling [] = ⊤
NotFalling (m ∷ ms) = Each (λ n. m ≤ n) ms × NotFalling ms

-- the reports of a collector's rounds
pub record AreReports (h : History) (logs : ℕ → List LogEntry) (collector : Kind) (rounds : ℕ) (reports : List Report) : Type 0 where
  pub count : length reports ≡ rounds
  pub each : Each (IsPassReport h logs collector) reports
  pub rising : NotFalling (map (λ r. r.mark) reports)

-- the lines of a collector's reports, the first one in round n
abbrev pub report_lines : ℕ → List Report → List Line
report_lines n [] = []
report_lines n (report ∷ reports) = record { session = 0; place = n; reply = record { at = None; answer = Swept (sweep_of report); number = None } } ∷ report_lines (suc n) reports

-- the lines of a run: the sessions' by number, and then the collectors'
abbrev pub run_lines : List Record → (ℕ → List Line) → List Report → List Report → List Report → List Line
run_lines records lines group table interval = flat_map lines (sessions_of records) ++ (report_lines 1 group ++ (report_lines 1 table ++ report_lines 1 interval))

-- The logs are those before the last rollbacks, which print nothing.
pub record HasRun (buckets : ℕ) (h : History) (logs : ℕ → List LogEntry) (rounds : ℕ) (records : List Record) (lines : ℕ → List Line) (group : List Report) (table : List Report)
    (interval : List Report) : Type 0 where
  pub logged : Logged buckets h logs
  pub numbered : Each (λ (r : Record). 1 ≤ r.session) records
  pub shape : (j : ℕ) → HasShape (of_session j records) (lines j)
  pub tells : (j : ℕ) → Tells buckets (λ r line. LeavesGc r.statement line.reply.answer) [] None (of_session j records) (lines j) (logs j)
  pub of_group : AreReports h logs kinds.Group rounds group
  pub of_table : AreReports h logs kinds.Table rounds table
  pub of_interval : AreReports h logs kinds.Interval rounds interval
