-- What a pass gathered, and the visits that it made after it, are one round.
use Rattle.std.proofs.Common.{◌≡◌, ℕ, List, [], ◌++◌, sym, ap, ◌∙◌, subst, arith, append_assoc}
use Rattle.hg_base.specs.declared.report.Kind.{Kind}
use Rattle.hg_base.specs.declared.report.Report.{Report}
use Rattle.hg_base.specs.Lists.{Each}
use Rattle.hg_core.specs.Passes.{least_entering}
use Rattle.hg_rule.specs.declared.view.Event.{Event}
use Rattle.hg_rule.specs.declared.view.View.{View}
use Rattle.hg_rule.specs.Views.{number, pass}
use Rattle.hg_rule.specs.Rounds.{IsRoundOf, mark_in, loaded_after, entries_of, gone_in}
use Rattle.hg_rule.proofs.Rounds.{round_on, mark_on, loaded_on, gone_on}
use Rattle.hg_tracker.specs.Begun.{AtMost, HasGathered}
use Rattle.hg_tracker.proofs.Rounds.{gather_events, gather_round, gather_gains, gather_removes_none}
use Rattle.hg_rounds.specs.Visits.{GoesOn}
use Rattle.hg_rounds.specs.Reports.{IsReportBy, Reports}
use Rattle.hg_rounds.proofs.Going.{same_pass}

module _ (kind : Kind) (v x w : View) (report : Report) (before : List Event) (gains : x.events ≡ v.events ++ before) (first : IsRoundOf (number v) (pass x) before)
    (none : gone_in before ≡ 0) (on : GoesOn kind x w) where
  abbrev steps : List Event
  steps = before ++ on.steps

  mark_same : mark_in steps ≡ (pass x).mark
  mark_same = mark_on (number v) before on.steps first.round ∙ sym first.mark_is

  loaded_same : loaded_after [] steps ≡ (pass x).loaded
  loaded_same = loaded_on before on.steps on.work ∙ sym first.loaded_is

  -- what the report says of the record
  pub reports : (n : ℕ) → IsReportBy kind (pass x) n report → report.removed ≡ gone_in on.steps → Each (AtMost (pass x).mark) v.sights → Reports kind v report w
  reports n r gone most =
      let s = same_pass kind x w on in record {
        steps = steps;
        events = on.events ∙ (ap (λ l. l ++ on.steps) gains ∙ append_assoc v.events before on.steps);
        round = record {
          round = round_on (number v) before on.steps first.round on.work;
          mark_is = s.mark_is ∙ sym mark_same;
          loaded_is = s.loaded_is ∙ sym loaded_same;
        };
        report_is = record {
          kind_is = r.kind_is;
          mark_is = r.mark_is ∙ sym mark_same;
          horizon_is = r.horizon_is ∙ (λ i. least_entering (sym mark_same i) (sym loaded_same i));
          removed_is = let l = gone_on before on.steps in omega (arith, l, none, gone);
          entries_are = r.entries_are ∙ ap entries_of (sym loaded_same);
        };
        most = subst (λ m. Each (AtMost m) v.sights) (sym r.mark_is) most;
      }

  -- its steps are those before the visits, and those of the visits
  pub reports_steps : (n : ℕ) (r : IsReportBy kind (pass x) n report) (gone : report.removed ≡ gone_in on.steps) (most : Each (AtMost (pass x).mark) v.sights) →
      (reports n r gone most).steps ≡ before ++ on.steps
  unfolding reports
  reports_steps n r gone most = λ i. before ++ on.steps

-- the same of a gather and the visits after it
pub gathered_reports : (kind : Kind) (v x w : View) (sessions : ℕ) (report : Report) (n : ℕ) → HasGathered v sessions x → (on : GoesOn kind x w) →
    IsReportBy kind (pass x) n report → report.removed ≡ gone_in on.steps → Reports kind v report w
gathered_reports kind v x w sessions report n g on r gone =
    reports kind v x w report (gather_events v x) (gather_gains v x sessions g) (gather_round v x sessions g) (gather_removes_none v x) on n r gone g.most
