-- What a driver made of a script is what one list of steps printed.
use Rattle.std.proofs.Common.{◌≡◌, ℕ, ◌+◌, ◌≤◌, List, [], ◌++◌, length, None, sym, ap, ◌∙◌, subst, arith}
use Rattle.std.specs.Prelude.{⊤}
use Rattle.std.specs.List.{flat_map}
use Rattle.std.specs.declared.alloc.Global.{Global}
use Rattle.hg_base.specs.declared.line.Line.{Line}
use Rattle.hg_base.specs.declared.line.Totals.{Totals}
use Rattle.hg_base.specs.declared.report.Kind.{Kind}
use Rattle.hg_base.specs.declared.report.Sweep.{Sweep}
use Rattle.hg_base.specs.declared.statement.Record.{Record}
use Rattle.hg_base.specs.Lists.{numbers_from}
use Rattle.hg_base.specs.Script.{Script}
use Rattle.hg_base.specs.Transcript.{of_session}
use Rattle.hg_core.specs.declared.log.LogEntry.{LogEntry}
use Rattle.hg_core.specs.Phases.{IsSession}
use Rattle.hg_core.specs.Reading.{Follows, Tells}
use Rattle.hg_core.specs.State.{CoreState, opened}
use Rattle.hg_core.specs.Steps.{LeadsTo}
use Rattle.hg_headline.specs.Counted.{Closes}
use Rattle.hg_headline.specs.OneRun.{HasEnded, IsOneRun, reports_in}
use Rattle.hg_headline.specs.Ran.{LeavesGc}
use Rattle.hg_headline.proofs.RunsEnd.{replay_run, run_run}
use Rattle.hg_rule.specs.declared.passes.SessionPass.{SessionPass}
use Rattle.hg_rule.specs.declared.view.Sizes.{Sizes}
use Rattle.hg_rule.specs.Facts.{new_pass}
use Rattle.hg_rule.specs.Views.{pass}
use Rattle.hg_session.specs.declared.engine.Engine.{Engine}
use Rattle.hg_session.specs.declared.session.Session.{Session}
use Rattle.hg_session.specs.Engines.{engine_sizes}
use Rattle.hg_session.specs.Finished.{logs_of}
use Rattle.hg_session.specs.Opened.{seated}
use Rattle.hg_collectors.specs.declared.collectors.Collectors.{Collectors}
use Rattle.hg_collectors.specs.Collecting.{view_in}
use Rattle.hg_collectors.specs.Noted.{AreNoted}
use Rattle.hg_collectors.specs.Rounding.{IsRoundBy, AreRounds}
use Rattle.hg_collectors.proofs.AllNoted.{rounds_noted}
use Rattle.hg_collectors.proofs.OneRun.{has_reported}
use Rattle.hg_run.specs.Closed.{StepsEnd}
use Rattle.hg_run.specs.Driven.{HasDrivenAll, HasDrivenOne, sessions_in}
use Rattle.hg_run.specs.Reader.{list_with}
use Rattle.hg_run.proofs.Opened.{log_else}
use Rattle.hg_run.proofs.ToldRounds.{others, others_outside, told_rounds}

-- ---- where the list ends

module _ (sessions more long : ℕ) (script : Script) (e : Engine) (before after : Collectors) (list : List Session) (lines : List Line) (totals : Totals)
    (many : (engine_sizes e).sessions ≡ more + sessions) (tables : (engine_sizes e).tables ≡ length script.tables)
    (fresh : (kind : Kind) → pass (view_in kind before) ≡ new_pass) (t : StepsEnd e list after totals) where
  abbrev z : Sizes
  z = engine_sizes e

  starts : opened z.sessions z.tables z.buckets 3 z.quota ≡ opened (more + sessions) (length script.tables) z.buckets 3 z.quota
  starts = λ i. opened (many i) (tables i) z.buckets 3 z.quota

  pub has_ended : (logs : ℕ → List LogEntry) → ((j : ℕ) → IsSession sessions j → Closes (logs j) (logs_of list j)) →
      ((kind : Kind) → AreRounds (IsRoundBy kind z long) (view_in kind before) (reports_in kind lines) (view_in kind after)) →
      HasEnded sessions more z.buckets z.quota long script logs lines totals
  has_ended logs closes made = record {
    state = t.state;
    reached = subst (λ (c : CoreState). LeadsTo c t.state) starts t.reached;
    closed = λ j is. subst (Closes (logs j)) (λ i. sym t.logs i j) (closes j is);
    passes = t.passes;
    reported = λ kind. has_reported kind long t.state (view_in kind before) (view_in kind after) (reports_in kind lines) (fresh kind)
        (subst (λ b. AreNoted kind long b (view_in kind before) (reports_in kind lines) (view_in kind after)) (sym t.buckets)
        (rounds_noted kind z long (view_in kind before) (view_in kind after) (reports_in kind lines) (made kind))) (t.noted kind);
    counted = t.counted;
  }

-- ---- on one thread

pub replay_one_run : (long : ℕ) (script : Script) (e : Engine) (before after : Collectors) (old new : List Session) (lines : List Line) (totals : Totals) →
    (engine_sizes e).sessions ≡ sessions_in script → (engine_sizes e).tables ≡ length script.tables → ((j : ℕ) → logs_of old j ≡ []) →
    ((kind : Kind) → pass (view_in kind before) ≡ new_pass) → HasDrivenOne (engine_sizes e) long script.records old before lines new after → StepsEnd e new after totals →
    IsOneRun (sessions_in script) 0 (engine_sizes e).buckets (engine_sizes e).quota long script lines totals
replay_one_run long script e before after old new lines totals many tables none fresh d t =
    let z = engine_sizes e in
    let all : z.sessions ≡ 0 + sessions_in script = omega (arith, many) in
    replay_run (λ logs r line. ⊤) (sessions_in script) 0 z.buckets z.quota long script d.logs lines totals
    (has_ended (sessions_in script) 0 long script e before after new lines totals all tables fresh t d.logs (λ j is. d.closes j) d.rounds) d.shape
    (subst (λ (logs : ℕ → List LogEntry). Follows z.buckets (λ logs r line. ⊤) logs (λ j. None) script.records lines d.logs) (λ i j. none j i) d.follows)

-- ---- in threads

-- further sessions may have ended besides those that were driven
module _ (more long rounds : ℕ) (script : Script) (e : Engine) (before after : Collectors) (old new ended : List Session) (all : List Line) (totals : Totals)
    (sizes : (engine_sizes e).sessions ≡ more + sessions_in script) (many : length old ≡ sessions_in script) (tables : (engine_sizes e).tables ≡ length script.tables)
    (none : (j : ℕ) → logs_of old j ≡ []) (fresh : (kind : Kind) → pass (view_in kind before) ≡ new_pass)
    (d : HasDrivenAll (engine_sizes e) long rounds script.records old before all new after) (t : StepsEnd e ended after totals)
    (same : (j : ℕ) → IsSession (sessions_in script) j → logs_of ended j ≡ logs_of new j) where
  abbrev sizes_of : Sizes
  sizes_of = engine_sizes e

  abbrev logs : ℕ → List LogEntry
  logs j = (d.worked j).log

  abbrev rest : List Line
  rest = others sizes_of long rounds script old new before after all d

  told : all ≡ flat_map d.lines (numbers_from 1 (sessions_in script)) ++ rest
  told = d.told ∙ ap (λ n. flat_map d.lines (numbers_from 1 n) ++ rest) many

  made : (kind : Kind) → AreRounds (IsRoundBy kind sizes_of long) (view_in kind before) (reports_in kind all) (view_in kind after)
  made kind = subst (λ (sweeps : List Sweep). AreRounds (IsRoundBy kind sizes_of long) (view_in kind before) sweeps (view_in kind after))
      (sym (told_rounds sizes_of long rounds script old new before after all d kind)) (d.made kind)

  ends : HasEnded (sessions_in script) more sizes_of.buckets sizes_of.quota long script logs all totals
  ends = has_ended (sessions_in script) more long script e before after ended all totals sizes tables fresh t logs
      (λ j is. subst (Closes (logs j)) (sym (same j is)) (d.worked j).closes) made

  pub run_one_run : IsOneRun (sessions_in script) more sizes_of.buckets sizes_of.quota long script all totals
  run_one_run = subst (λ (ls : List Line). IsOneRun (sessions_in script) more sizes_of.buckets sizes_of.quota long script ls totals) (sym told)
      (run_run (λ r line. LeavesGc r.statement line.reply.answer) (sessions_in script) more sizes_of.buckets sizes_of.quota long script logs d.lines rest totals
      (subst (λ (ls : List Line). HasEnded (sessions_in script) more sizes_of.buckets sizes_of.quota long script logs ls totals) told ends)
      (λ j. (d.worked j).shape)
      (λ j. subst (λ l. Tells sizes_of.buckets (λ (r : Record) (line : Line). LeavesGc r.statement line.reply.answer) l None (of_session j script.records) (d.lines j) (logs j))
      (none j) (d.worked j).tells)
      (others_outside sizes_of long rounds script old new before after all d))

-- the reader's log is the last one
pub read_logs : (alloc : Global) (new : List Session) (last : SessionPass) (j : ℕ) → j ≤ length new → logs_of (list_with alloc new last) j ≡ logs_of new j
read_logs alloc new last j le = log_else new (seated alloc 0 last) j (λ q. absurd (omega (arith, le, q)))
