-- A run or a replay that was closed is sound, and one list of steps printed it.
use Rattle.std.proofs.Common.{◌≡◌, ◌≤◌, ℕ, ◌+◌, List, refl, sym, subst, arith, ◌∙◌}
use Rattle.std.specs.Prelude.{Result, Ok, Err, IfOk, IsOkAnd}
use Rattle.hg_base.specs.declared.line.Line.{Line}
use Rattle.hg_base.specs.declared.line.Totals.{Totals}
use Rattle.hg_base.specs.declared.statement.Record.{Record}
use Rattle.hg_base.specs.Lists.{Each}
use Rattle.hg_base.specs.declared.report.Kind.{Kind}
use Rattle.hg_base.specs.Script.{Script, replay, run}
use Rattle.hg_base.specs.Sound.{IsSound}
use Rattle.hg_base.proofs.ListFacts.{each_keeps}
use Rattle.hg_script.specs.Lawful.{IsLawful, IsStatement}
use Rattle.hg_session.specs.declared.engine.Engine.{Engine}
use Rattle.hg_session.specs.declared.session.Session.{Session}
use Rattle.hg_session.specs.Engines.{engine_sizes}
use Rattle.hg_collectors.specs.declared.collectors.Collectors.{Collectors}
use Rattle.hg_run.specs.Driven.{IsOpenedFor, sessions_in}
use Rattle.hg_run.proofs.Closes.{new_logs}
use Rattle.hg_exact.proofs.Shown.{shown_at_end}
use Rattle.hg_headline.specs.OneRun.{IsOneRun}
use Rattle.hg_headline.specs.Following.{told_removed, AreTotalsBy}
use Rattle.hg_headline.proofs.Closing.{following_last}
use Rattle.hg_session.specs.Finished.{logs_of}
use Rattle.hg_collectors.specs.Collecting.{removed_of}
use Rattle.hg_run.specs.Ended.{HasReplayedToEnd, HasRunToEnd}
use Rattle.hg_run.specs.Printing.{AreExact, PrintsOneRun}
use Rattle.hg_run.specs.Words.{Settings}
use Rattle.hg_run.proofs.OneRun.{replay_one_run, run_one_run}
use Rattle.hg_run.proofs.WholeRun.{driven_sound}

-- what holds of a value where there is one holds of this one
pub of_ok : {T E : Type 0} (r : Result T E) (x : T) (P : T → Type 0) → IsOkAnd r (λ t. t ≡ x) → IfOk r P → P x
of_ok (Ok t) x P same h = subst P same h
of_ok (Err e) x P same h = absurd same

module _ (settings : Settings) (rounds : ℕ) (script : Script) (lawful : IsLawful script) (e : Engine) (list : List Session) (before : Collectors)
    (o : IsOpenedFor script settings.buckets e list before) (lines : List Line) (totals : Totals)
    (h : HasRunToEnd e settings.long rounds script list before lines totals) where
  numbered : Each (λ (r : Record). 1 ≤ r.session) script.records
  numbered = each_keeps (IsStatement script.tables) (λ (r : Record). 1 ≤ r.session) (λ r s. s.some) script.records lawful.statements

  pub run_sound : IsSound (run rounds) script (record { lines = lines; totals = totals })
  run_sound = driven_sound e settings.long rounds script list h.new before h.after lines totals h.driven h.closed
      (new_logs e (engine_sizes e).quota list o.new) o.none numbered (sym o.all) (o.all ∙ o.sessions_are)

  pub run_one : PrintsOneRun 0 settings script lines totals
  run_one =
      let sizes : (engine_sizes e).sessions ≡ 0 + sessions_in script = (let s = o.sessions_are in omega (arith, s)) in
      record {
        quota = (engine_sizes e).quota;
        run = subst (λ b. IsOneRun (sessions_in script) 0 b (engine_sizes e).quota settings.long script lines totals) o.buckets_are
            (run_one_run 0 settings.long rounds script e before h.after list h.new h.new lines totals sizes (o.all ∙ o.sessions_are) o.tables
            (new_logs e (engine_sizes e).quota list o.new) o.fresh h.driven h.closed.run (λ j is. refl));
      }

module _ (settings : Settings) (script : Script) (lawful : IsLawful script) (e : Engine) (list : List Session) (before : Collectors)
    (o : IsOpenedFor script settings.buckets e list before) (lines : List Line) (totals : Totals)
    (h : HasReplayedToEnd e settings.long script list before lines totals) where
  told : (k : Kind) → removed_of k h.after ≡ told_removed k lines
  told k = let first = o.none k in let all = h.played.told k in omega (arith, first, all)

  pub replay_sound : IsSound replay script (record { lines = lines; totals = totals })
  replay_sound =
      let z = engine_sizes e in
      let p = h.played in
      let t = h.closed in
      let logs = logs_of h.new in
      let same_told : (λ (kind : Kind). removed_of kind h.after) ≡ (λ kind. told_removed kind lines) = (λ i kind. told kind i) in
      let counted = subst (λ removed. AreTotalsBy z.sessions t.history logs removed totals) same_told t.counted in
      following_last z.buckets z.sessions p.seen p.top t.history p.logs logs script (record { lines = lines; totals = totals }) p.following p.closes t.logged
      (t.saw p.seen p.last p.within p.saw) counted

  pub replay_exact : AreExact replay script lines
  replay_exact =
      let z = engine_sizes e in
      let p = h.played in
      let t = h.closed in
      shown_at_end z.buckets z.sessions p.seen p.top t.history p.logs (logs_of h.new) script lines p.following p.firsts p.closes t.logged (t.saw p.seen p.last p.within p.saw) lawful

  pub replay_one : PrintsOneRun 0 settings script lines totals
  replay_one = record {
    quota = (engine_sizes e).quota;
    run = subst (λ b. IsOneRun (sessions_in script) 0 b (engine_sizes e).quota settings.long script lines totals) o.buckets_are
        (replay_one_run settings.long script e before h.after list h.new lines totals o.sessions_are o.tables (new_logs e (engine_sizes e).quota list o.new) o.fresh
        h.driven h.closed.run);
  }
