-- What is driven next to a reader, and closed then, is sound with the reader's transactions.
use Rattle.std.proofs.Common.{◌≡◌, ℕ, suc, List, [], ◌∷◌, ◌≤◌, length, map, None, inl, refl, sym, ap, ◌∙◌, subst, arith}
use Rattle.std.specs.Prelude.{if◌then◌else◌, max}
use Rattle.std.specs.declared.alloc.Global.{Global}
use Rattle.hg_dump.specs.Reader.{HasReadAll, IsSoundWith, reader_of}
use Rattle.hg_dump.specs.Ran.{HasRunWith}
use Rattle.hg_dump.proofs.Looks.{read_closed}
use Rattle.hg_dump.proofs.Runs.{sound_with}
use Rattle.hg_dump.proofs.Shown.{many_same, rows_same}
use Rattle.hg_base.specs.declared.line.Line.{Line}
use Rattle.hg_base.specs.declared.line.Totals.{Totals}
use Rattle.hg_base.specs.declared.report.Kind.{Kind}
use Rattle.hg_base.specs.declared.report.Kind.TheVariants.{Group, Table, Interval}
use Rattle.hg_base.specs.declared.report.Report.{Report}
use Rattle.hg_base.specs.declared.statement.Record.{Record}
use Rattle.hg_base.specs.Lists.{Each, greatest}
use Rattle.hg_base.specs.History.{History}
use Rattle.hg_base.specs.Script.{Script, run}
use Rattle.hg_base.specs.Sound.{all_said}
use Rattle.hg_base.specs.Transcript.{history_of, of_session}
use Rattle.hg_dump.specs.Rows.{rows_at}
use Rattle.hg_core.specs.declared.log.LogEntry.{LogEntry}
use Rattle.hg_core.specs.Events.{put}
use Rattle.hg_core.specs.Logs.{current}
use Rattle.hg_core.specs.Reading.{Tells}
use Rattle.hg_core.proofs.Indices.{by_number, put_here, put_else}
use Rattle.hg_headline.specs.Counted.{Closes}
use Rattle.hg_headline.specs.Following.{AreTotalsBy, told_removed}
use Rattle.hg_headline.specs.Ran.{LeavesGc, AreReports, report_lines, run_lines}
use Rattle.hg_headline.proofs.Before.{logged_before}
use Rattle.hg_rule.specs.declared.passes.SessionPass.{SessionPass}
use Rattle.hg_rule.specs.Seats.{session_view}
use Rattle.hg_rule.specs.Views.{session}
use Rattle.hg_session.specs.declared.engine.Engine.{Engine}
use Rattle.hg_session.specs.declared.session.Session.{Session}
use Rattle.hg_session.specs.Engines.{engine_sizes}
use Rattle.hg_session.specs.Finished.{logs_of}
use Rattle.hg_run.proofs.Opened.{log_else, log_last}
use Rattle.hg_session.specs.Opened.{seated}
use Rattle.hg_collectors.specs.declared.collectors.Collectors.{Collectors}
use Rattle.hg_run.specs.Closed.{IsClosedBy}
use Rattle.hg_collectors.specs.Collecting.{removed_of, view_in}
use Rattle.hg_run.specs.Driven.{HasDrivenAll}
use Rattle.hg_run.specs.Reader.{list_with}
use Rattle.hg_collectors.specs.Rounding.{BeganIn}
use Rattle.hg_collectors.specs.Telling.{sweep_lines}
use Rattle.hg_run.proofs.Begun.{began_before}
use Rattle.hg_run.proofs.WholeRun.{lines_told, reports_of, told_all}

-- ---- logs of one session more

abbrev log_in : SessionPass → List LogEntry
log_in p = (session (session_view p)).log

-- ---- the run

module _ (e : Engine) (long rounds : ℕ) (script : Script) (old new : List Session) (before after : Collectors) (all : List Line) (totals : Totals) (alloc : Global)
    (first last : SessionPass) (at n : ℕ)
    (d : HasDrivenAll (engine_sizes e) long rounds script.records old before all new after) (t : IsClosedBy e (list_with alloc new last) after totals) (met : (kind : Kind) →
    Each (BeganIn (logs_of (list_with alloc new first))) (view_in kind after).events)
    (once : HasReadAll (at ∷ []) (log_in first)) (twice : HasReadAll (at ∷ n ∷ []) (log_in last))
    (none : (j : ℕ) → logs_of old j ≡ []) (fresh : (k : Kind) → removed_of k before ≡ 0) (numbered : Each (λ (r : Record). 1 ≤ r.session) script.records)
    (sessions : (engine_sizes e).sessions ≡ suc (length old)) (many : length old ≡ max 1 (greatest (map (λ (r : Record). r.session) script.records))) (same : length new ≡ length old) where
  abbrev j : ℕ
  j = reader_of script

  j_is : j ≡ suc (length new)
  j_is = ap (λ m. suc m) (sym (same ∙ many))

  abbrev worked : ℕ → List LogEntry
  worked k = (d.worked k).log

  -- the logs before the last rollbacks
  abbrev logs : ℕ → List LogEntry
  logs = put worked j (log_in last)

  -- one session's log goes to that of the reader, and each other one to its own
  closes_with : (p : SessionPass) → current (log_in p) ≡ None → (k : ℕ) → Closes (put worked j (log_in p) k) (logs_of (list_with alloc new p) k)
  closes_with p over k = by_number j (λ i b. Closes (if b then log_in p else worked i) (logs_of (list_with alloc new p) i))
      (inl (over, ap (logs_of (list_with alloc new p)) j_is ∙ log_last new (seated alloc 0 p)))
      (λ i other. subst (Closes (worked i)) (sym (log_else new (seated alloc 0 p) i (λ q. other (q ∙ sym j_is)))) (d.worked i).closes) k

  closes : (k : ℕ) → Closes (logs k) (logs_of (list_with alloc new last) k)
  closes = closes_with last (read_closed (at ∷ n ∷ []) (log_in last) twice)

  -- what was put twice is what was put last
  put_twice : (k : ℕ) → put logs j (log_in first) k ≡ put worked j (log_in first) k
  put_twice k = by_number j (λ i b. (if b then log_in first else (if b then log_in last else worked i)) ≡ (if b then log_in first else worked i)) refl (λ i other. refl) k

  closes_then : (k : ℕ) → Closes (put logs j (log_in first) k) (logs_of (list_with alloc new first) k)
  closes_then k = subst (λ l. Closes l (logs_of (list_with alloc new first) k)) (sym (put_twice k)) (closes_with first (read_closed (at ∷ []) (log_in first) once) k)

  pub told_of : (kind : Kind) → (reports : List Report) × (AreReports t.history (put logs j (log_in first)) kind rounds reports × (report_lines 1 reports ≡ sweep_lines 1 (d.sweeps kind)))
  told_of kind = reports_of e long rounds script old new before after all d t.history (put logs j (log_in first)) kind (t.groups kind)
      (began_before (put logs j (log_in first)) (logs_of (list_with alloc new first)) (view_in kind after).events closes_then (met kind))

  abbrev pub reports : Kind → List Report
  reports kind = (told_of kind).0

  pub ran_with_reader : HasRunWith (engine_sizes e).buckets t.history logs rounds script (at ∷ []) d.lines (reports Group) (reports Table) (reports Interval)
  ran_with_reader = record {
    logged = logged_before (engine_sizes e).buckets t.history logs (logs_of (list_with alloc new last)) closes t.logged;
    numbered = numbered;
    shape = λ k. (d.worked k).shape;
    tells = λ k other.
        subst (λ l. Tells (engine_sizes e).buckets (λ (r : Record) (line : Line). LeavesGc r.statement line.reply.answer) [] None (of_session k script.records) (d.lines k) l)
        (sym (put_else worked j k (log_in last) other))
        (subst (λ l. Tells (engine_sizes e).buckets (λ (r : Record) (line : Line). LeavesGc r.statement line.reply.answer) l None (of_session k script.records) (d.lines k)
        (worked k)) (none k) (d.worked k).tells);
    some = omega arith;
    before = log_in first;
    read = once;
    later = n ∷ [];
    ended = subst (HasReadAll (at ∷ n ∷ [])) (sym (put_here worked j (log_in last))) twice;
    of_group = (told_of Group).1.0;
    of_table = (told_of Table).1.0;
    of_interval = (told_of Interval).1.0;
  }

  pub lines_with_reader : all ≡ run_lines script.records d.lines (reports Group) (reports Table) (reports Interval)
  lines_with_reader = lines_told e long rounds script old new before after all d many reports (λ kind. (told_of kind).1.1)

  counted : AreTotalsBy j t.history (logs_of (list_with alloc new last)) (λ kind. told_removed kind (run_lines script.records d.lines (reports Group) (reports Table) (reports Interval))) totals
  counted =
      let told : (λ kind. removed_of kind after) ≡ (λ kind. told_removed kind (run_lines script.records d.lines (reports Group) (reports Table) (reports Interval))) = λ i kind.
      (told_all e long rounds script old new before after all d fresh kind ∙ ap (told_removed kind) lines_with_reader) i in
      subst (λ m. AreTotalsBy m t.history (logs_of (list_with alloc new last))
      (λ kind. told_removed kind (run_lines script.records d.lines (reports Group) (reports Table) (reports Interval))) totals) (sessions ∙ ap (λ m. suc m) many)
      (subst (λ removed. AreTotalsBy (engine_sizes e).sessions t.history (logs_of (list_with alloc new last)) removed totals) told t.counted)

  pub sound_with_reader : IsSoundWith rounds script (at ∷ []) (record { lines = all; totals = totals })
  sound_with_reader =
      subst (λ (ls : List Line). IsSoundWith rounds script (at ∷ []) (record { lines = ls; totals = totals })) (sym lines_with_reader)
      (sound_with (engine_sizes e).buckets t.history logs (logs_of (list_with alloc new last)) rounds script (at ∷ []) d.lines (reports Group) (reports Table)
      (reports Interval) totals ran_with_reader closes counted)

  -- ---- what the lines print

  abbrev printed : History
  printed = history_of (all_said (run rounds) script all)

  pub rows_printed : (s : ℕ) → rows_at script.tables t.history s ≡ rows_at script.tables printed s
  rows_printed s =
      rows_same (engine_sizes e).buckets t.history logs rounds script (at ∷ []) d.lines (reports Group) (reports Table) (reports Interval) ran_with_reader s
      ∙ ap (λ (ls : List Line). rows_at script.tables (history_of (all_said (run rounds) script ls)) s) (sym lines_with_reader)

  pub groups_printed : length t.history ≡ length printed
  groups_printed =
      many_same (engine_sizes e).buckets t.history logs rounds script (at ∷ []) d.lines (reports Group) (reports Table) (reports Interval) ran_with_reader
      ∙ ap (λ (ls : List Line). length (history_of (all_said (run rounds) script ls))) (sym lines_with_reader)
