-- Where all sessions and all passes went to one pass, which settled and counted, one list of steps ends with what they had.
use Rattle.std.proofs.Common.{◌≡◌, ℕ, ◌+◌, ◌-◌, ◌^◌, ◌<◌, List, [], ◌∷◌, ◌++◌, refl, sym, ap, ◌∙◌, subst, arith, append-nil}
use Rattle.hg_base.specs.declared.line.Totals.{Totals}
use Rattle.hg_base.specs.declared.report.Kind.{Kind}
use Rattle.hg_base.specs.declared.report.Kind.TheVariants.{Group, Table, Interval}
use Rattle.hg_base.specs.declared.report.Report.{Report}
use Rattle.hg_base.specs.Lists.{Each}
use Rattle.hg_base.specs.Reports.{sweep_of}
use Rattle.hg_core.specs.declared.visit.Visit.{Visit}
use Rattle.hg_core.specs.State.{CoreState}
use Rattle.hg_headline.specs.OneRun.{pass_of, rounds_after, TriesBy}
use Rattle.hg_rule.specs.declared.view.PassPart.{PassPart}
use Rattle.hg_rule.specs.declared.view.Sizes.{Sizes}
use Rattle.hg_rule.specs.declared.view.View.{View}
use Rattle.hg_rule.specs.Facts.{IsAmong, Known, StartsWith}
use Rattle.hg_rule.specs.Views.{number, pass, HasPass}
use Rattle.hg_rule.proofs.Lists.{among_left}
use Rattle.hg_rounds.specs.TableCollectors.{Cuts}
use Rattle.hg_session.specs.declared.engine.Engine.{Engine}
use Rattle.hg_session.specs.declared.session.Session.{Session}
use Rattle.hg_session.specs.Engines.{engine_sizes}
use Rattle.hg_session.specs.Ended.{visits_in}
use Rattle.hg_session.specs.OneRun.{journals_in}
use Rattle.hg_session.specs.Settled.{KeepsOthers}
use Rattle.hg_session.specs.Visited.{AreTotals}
use Rattle.hg_session.proofs.Leaving.{logs_after, passes_after}
use Rattle.hg_collectors.specs.declared.collectors.Collectors.{Collectors}
use Rattle.hg_collectors.specs.Collecting.{view_in}
use Rattle.hg_collectors.specs.Noted.{AreNoted, HasNoted}
use Rattle.hg_collectors.proofs.AllNoted.{rounds_noted}
use Rattle.hg_collectors.proofs.Among.{by_kind, of_among}
use Rattle.hg_collectors.proofs.Driving.{swept_of}
use Rattle.hg_collectors.proofs.Meetings.{met_none}
use Rattle.hg_run.specs.Closed.{AreAllThere, StepsEnd}
use Rattle.hg_run.proofs.Begun.{each_among}
use Rattle.hg_run.proofs.Brought.{brought_come, there_journals, there_logs, there_own, there_three, there_visits}

module _ (e : Engine) (list : List Session) (collectors : Collectors) (x v : View) (report : Report) (there : AreAllThere e list collectors x) (has : HasPass x) (others : KeepsOthers x v)
    (cuts : Cuts (engine_sizes e) (2 ^ 64 - 1) x report v) (totals : Totals) (a : AreTotals (engine_sizes e) v totals) where
  abbrev z : Sizes
  z = engine_sizes e

  abbrev s : CoreState
  s = a.run.state

  own : (number x ≡ 1) × (pass x ≡ pass (view_in Table collectors))
  own = there_own e list collectors x there

  -- the round that settles, as it was noted
  settled : AreNoted Table (2 ^ 64 - 1) z.buckets x (sweep_of report ∷ []) v
  settled = rounds_noted Table z (2 ^ 64 - 1) x v (sweep_of report ∷ []) (x, (met_none x, (v, ((report, (cuts, refl)), met_none v))))

  kept : StartsWith v.sights x.sights
  kept = (swept_of Table z (2 ^ 64 - 1) x v (sweep_of report) (report, (cuts, refl))).kept

  -- what a collector has seen is so at the end
  known : (kind : Kind) → Each (Known s) (view_in kind collectors).sights
  known kind = each_among (Known s) (view_in kind collectors).sights (λ t i. of_among (Known s) t v.sights a.run.seen
      (subst (IsAmong t) (sym kept.1) (among_left t x.sights kept.0 ((brought_come e list collectors x there.brought kind).seen t i))))

  -- the visits and the journal of another pass than the table collector's
  visits_else : (p : ℕ) → (p ≡ 1 → ⊥) → s.visits p ≡ visits_in x p
  visits_else p other = ap (λ (f : ℕ → List Visit). f p) a.run.visits ∙ others.visits p (λ q. other (q ∙ own.0))

  journal_else : (p : ℕ) → (p ≡ 1 → ⊥) → (s.pass p).journal ≡ journals_in x p
  journal_else p other = a.run.journals p ∙ others.journals p (λ q. other (q ∙ own.0))

  noted_else : (kind : Kind) → (pass_of kind ≡ 1 → ⊥) → visits_in x (pass_of kind) ≡ (pass (view_in kind collectors)).visits →
      journals_in x (pass_of kind) ≡ (pass (view_in kind collectors)).journal → HasNoted kind s (view_in kind collectors)
  noted_else kind other visits journal = record {
    notes = [];
    begins = refl;
    rule = tt;
    journal = journal_else (pass_of kind) other ∙ (journal ∙ sym (append-nil (pass (view_in kind collectors)).journal));
    visits = [];
    later = tt;
    more = visits_else (pass_of kind) other ∙ visits;
    seen = known kind;
  }

  noted_table : HasNoted Table s (view_in Table collectors)
  noted_table = record {
    notes = settled.notes;
    begins = settled.begins;
    rule = subst (λ (p : PassPart). Each (TriesBy Table (2 ^ 64 - 1)) (rounds_after p.round settled.notes)) own.1 settled.rule;
    journal = a.run.journals 1 ∙ (ap (journals_in v) (sym own.0) ∙ (others.own_journal ∙ (settled.journal ∙ ap (λ (p : PassPart). p.journal ++ settled.notes) own.1)));
    visits = settled.visits;
    later = subst (λ (p : PassPart). Each (λ (y : Visit). p.round < y.round) settled.visits) own.1 settled.later;
    more = ap (λ (f : ℕ → List Visit). f 1) a.run.visits ∙ (ap (visits_in v) (sym own.0) ∙ (others.own_visits ∙ (settled.more ∙ ap (λ (p : PassPart). settled.visits ++ p.visits) own.1)));
    seen = known Table;
  }

  pub ends_with : StepsEnd e list collectors totals
  ends_with = record {
    state = s;
    reached = a.run.reached;
    buckets = a.run.sized.buckets;
    logs = a.run.logs ∙ (logs_after z x v (2 ^ 64 - 1) report has cuts ∙ there_logs e list collectors x there);
    passes = a.run.passes ∙ (passes_after z x v (2 ^ 64 - 1) report has cuts ∙ there_three e list collectors x there);
    noted = by_kind (λ kind. HasNoted kind s (view_in kind collectors))
        (noted_else Group (λ q. absurd (omega (arith, q))) (λ i. there_visits e list collectors x there i 0) (λ i. there_journals e list collectors x there i 0))
        noted_table
        (noted_else Interval (λ q. absurd (omega (arith, q))) (λ i. there_visits e list collectors x there i 2) (λ i. there_journals e list collectors x there i 2));
    counted = a.run.counted;
  }
