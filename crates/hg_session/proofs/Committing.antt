-- The committer's part comes to a pass that all others were joined to, and leaves again.
use Rattle.std.proofs.Common.{◌≡◌, ℕ, ◌+◌, ◌<◌, [], ◌∷◌, ◌++◌, length, sym, ap, ◌∙◌, subst, arith}
use Rattle.hg_base.specs.declared.line.Totals.{Totals}
use Rattle.hg_base.specs.Lists.{Each}
use Rattle.hg_core.specs.Logs.{newest_of}
use Rattle.hg_rule.specs.declared.view.CommitPart.{CommitPart}
use Rattle.hg_rule.specs.declared.view.Part.TheVariants.{OfCommit, OfPass}
use Rattle.hg_rule.specs.declared.view.View.{View}
use Rattle.hg_rule.specs.declared.view.Sizes.{Sizes}
use Rattle.hg_rule.specs.Keys.{session_key, pass_key, count, shares}
use Rattle.hg_rule.specs.Views.{number, pass, others, session_there, pass_there, commit_there, part_number, first_in, after_first, HasPass}
use Rattle.hg_rule.specs.Moves.{joined}
use Rattle.hg_rule.specs.Holding.{commit}
use Rattle.hg_rule.specs.Places.{without_commit}
use Rattle.hg_rule.specs.Reading.{seek, passes_in}
use Rattle.hg_rule.proofs.Holders.{pass_joins}
use Rattle.hg_rule.specs.Facts.{Known}
use Rattle.hg_rule.proofs.Lists.{each_left, starts_on}
use Rattle.hg_headline.specs.Logged.{Logged}
use Rattle.hg_headline.specs.Totalled.{TotalsTell}
use Rattle.hg_session.specs.Ended.{logs_in, visits_in, IsEnded}
use Rattle.hg_session.specs.OneRun.{journals_in, EndsOneRun}
use Rattle.hg_session.specs.Visited.{empty_visits, HasVisited, TellOf}

module _ (v w u : View) (part : CommitPart) (own : HasPass v) (only : w.parts ≡ OfCommit part ∷ []) (is : u ≡ joined v w) where
  now : u.parts ≡ OfPass (number v) (pass v) ∷ OfCommit part ∷ others v
  now = pass_joins v w u part own only is

  pub commit_comes : commit u ≡ part
  commit_comes = ap (λ ps. commit_there (first_in (after_first ps))) now

  pub ended_comes : (z : Sizes) → IsEnded z v → IsEnded z u
  ended_comes z e = record {
    sessions = λ j is. subst (λ ps. 0 < count (session_key j) ps) (sym now) (one_more _ (subst (λ ps. 0 < count (session_key j) ps) own (e.sessions j is)));
    passes = ap shares now ∙ same (pass v).share (shares (others v)) ∙ sym (ap shares own) ∙ e.passes;
    rest = λ j. ap (λ ps. (session_there (seek (session_key j) ps)).phase) now ∙ sym (ap (λ ps. (session_there (seek (session_key j) ps)).phase) own) ∙ e.rest j;
  }
    where
      one_more : (n : ℕ) → 0 < 0 + n → 0 < 0 + (0 + n)
      one_more n l = omega arith

      same : (n k : ℕ) → n + (0 + k) ≡ n + k
      same n k = omega arith

  pub logs_come : logs_in u ≡ logs_in v
  logs_come = (λ i j. (session_there (seek (session_key j) (now i))).log) ∙ sym (λ i j. (session_there (seek (session_key j) (own i))).log)

  pub visits_come : visits_in u ≡ visits_in v
  visits_come = (λ i p. (pass_there (seek (pass_key p) (now i))).visits) ∙ sym (λ i p. (pass_there (seek (pass_key p) (own i))).visits)

  pub passes_come : passes_in u.parts ≡ passes_in v.parts
  passes_come = ap passes_in now ∙ sym (ap passes_in own)

  -- what was visited meanwhile is visited once the part has left
  pub visited_alone : (n : ℕ) (x y : View) → HasVisited u n x → y ≡ without_commit x → HasVisited v n y
  visited_alone n x y h left = record {
    contents = h.contents;
    each = h.each;
    parts = ap (λ (t : View). t.parts) left ∙ (λ i. first_in (h.parts i) ∷ after_first (after_first (h.parts i)))
        ∙ (λ i. OfPass (part_number (now i)) (record (pass_there (first_in (now i))) {
          visits = empty_visits (pass_there (first_in (now i))).mark (pass_there (first_in (now i))).round h.contents ++
              (pass_there (first_in (now i))).visits;
        }) ∷ after_first (after_first (now i)));
    kept = starts_on _ x.sights v.sights (starts_on x.sights u.sights v.sights (w.sights, ap (λ (t : View). t.sights) is) h.kept) (_, ap (λ (t : View). t.sights) left);
    events = ap (λ (t : View). t.events) left ∙ h.events ∙ ap (λ (t : View). t.events) is;
  }

  -- what is told with the part is told of what was there before
  totals_before : (z : Sizes) (totals : Totals) → TotalsTell z.sessions z.buckets (passes_in u.parts) (logs_in u) (visits_in u) (commit u).history.list totals →
      TotalsTell z.sessions z.buckets (passes_in v.parts) (logs_in v) (visits_in v) part.history.list totals
  totals_before z totals t =
      subst (λ n. TotalsTell z.sessions z.buckets n (logs_in v) (visits_in v) part.history.list totals) passes_come
      (subst (λ f. TotalsTell z.sessions z.buckets (passes_in u.parts) f (visits_in v) part.history.list totals) logs_come
      (subst (λ f. TotalsTell z.sessions z.buckets (passes_in u.parts) (logs_in u) f part.history.list totals) visits_come
      (subst (λ (c : CommitPart). TotalsTell z.sessions z.buckets (passes_in u.parts) (logs_in u) (visits_in u) c.history.list totals) commit_comes t)))

  logged_before : (buckets : ℕ) → Logged buckets (commit u).history.list (logs_in u) → Logged buckets part.history.list (logs_in v)
  logged_before buckets l = subst (Logged buckets part.history.list) logs_come (subst (λ (c : CommitPart). Logged buckets c.history.list (logs_in u)) commit_comes l)

  newest_before : (sessions : ℕ) → length (commit u).history.list ≡ newest_of sessions (logs_in u) → length part.history.list ≡ newest_of sessions (logs_in v)
  newest_before sessions h = subst (λ f. length part.history.list ≡ newest_of sessions f) logs_come (subst (λ (c : CommitPart). length c.history.list ≡ newest_of sessions (logs_in u)) commit_comes h)

  journals_come : (p : ℕ) → journals_in u p ≡ journals_in v p
  journals_come p = (λ i. (pass_there (seek (pass_key p) (now i))).journal) ∙ sym (λ i. (pass_there (seek (pass_key p) (own i))).journal)

  run_before : (z : Sizes) (totals : Totals) → EndsOneRun z u (commit u).history.list totals → EndsOneRun z v part.history.list totals
  run_before z totals r = record {
    state = r.state;
    reached = r.reached;
    sized = r.sized;
    logs = r.logs ∙ logs_come;
    history_is = r.history_is ∙ ap (λ (c : CommitPart). c.history.list) commit_comes;
    passes = r.passes ∙ passes_come;
    visits = r.visits ∙ visits_come;
    journals = λ p. r.journals p ∙ journals_come p;
    seen = each_left (Known r.state) v.sights w.sights (subst (Each (Known r.state)) (ap (λ (t : View). t.sights) is) r.seen);
    counted = r.counted;
  }

  pub told_before : (z : Sizes) (totals : Totals) → TellOf z u (commit u).history.list totals → TellOf z v part.history.list totals
  told_before z totals t = (totals_before z totals t.0, logged_before z.buckets t.1, newest_before z.sessions t.2, run_before z totals t.3)
