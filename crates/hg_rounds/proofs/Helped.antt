-- A helper's visits, one after the other.
use Rattle.std.proofs.Common.{◌≡◌, ℕ, suc, ◌+◌, ◌<◌, ◌≤◌, ◌^◌, List, [], ◌∷◌, ◌++◌, length, refl, sym, ap, ◌∙◌, subst, arith}
use Rattle.atomic_table.specs.Seated.{TableId}
use Rattle.hg_base.specs.declared.rid.Rid.{Rid}
use Rattle.hg_base.specs.declared.report.Kind.TheVariants.{Interval}
use Rattle.hg_core.specs.declared.version.Version.{Version}
use Rattle.hg_core.specs.declared.visit.Visit.{Visit}
use Rattle.hg_core.specs.Counters.{removed_all}
use Rattle.hg_core.specs.Passes.{PassRecord}
use Rattle.hg_rule.specs.declared.passes.CollectorPass.{CollectorPass}
use Rattle.hg_rule.specs.declared.view.View.{View}
use Rattle.hg_rule.specs.Facts.{record_of}
use Rattle.hg_rule.specs.Views.{pass, HasPass}
use Rattle.hg_rule.specs.Seats.{BoardId, pass_view, IsPassOf}
use Rattle.hg_tracker.specs.declared.gathered.Gathered.{Gathered}
use Rattle.hg_tracker.specs.Gathers.{IsGatherOf}
use Rattle.hg_rounds.specs.Visits.{IsVisitOf, Visits}
use Rattle.hg_rounds.proofs.Going.{same_pass, visits_after, removed_append, goes_none, goes_on}
use Rattle.hg_rounds.specs.Sweeping.{IsCleanBy}
use Rattle.hg_rounds.specs.declared.draws.Drawn.{Drawn}
use Rattle.hg_rounds.specs.declared.helper.Helper.{Helper}
use Rattle.hg_rounds.specs.Word.{Drew, top, helper_quota}
use Rattle.hg_rounds.specs.Helpers.{visited, AreVisits, IsHelperOf, IsReady, Helps, HasHelped}
use Rattle.hg_rounds.specs.Seats.{drawn_by, IsDrawerOf}

module _ (Q : Rid → List Version → Type 0) (buckets : ℕ) where
  pub helps_none : (v : View) → HasPass v → Helps Q buckets v [] 0 v
  helps_none v own = record { on = goes_none Interval v own; gone_is = refl; numbers_are = refl; each = tt }

  -- a visit more
  pub helps_more : (u v w : View) (b m k : ℕ) (numbers : List ℕ) → Helps Q buckets u numbers m v → Visits Interval Q b k v w → b < buckets → Helps Q buckets u (b ∷ numbers) (m + k) w
  helps_more u v w b m k numbers a one low =
      let same = same_pass Interval u v a.on in
      let is : IsVisitOf Interval Q (pass u).mark (pass u).round b one.visit = subst (λ (k : ℕ × ℕ). IsVisitOf Interval Q k.0 k.1 b one.visit) (λ i. (same.mark_is i, same.round_is i)) one.is in
      let at : one.visit.bucket ≡ b = ap (λ (x : Visit). x.bucket) is.is in record {
        on = goes_on Interval u v w a.on one.on;
        gone_is = (let s : removed_all Interval (one.on.visits ++ a.on.visits) ≡ removed_all Interval one.on.visits + removed_all Interval a.on.visits = removed_append Interval
            one.on.visits a.on.visits in omega (arith, s, a.gone_is, one.gone_is, one.on.sum));
        numbers_are = (λ i. sym at i ∷ a.numbers_are i) ∙ ap (λ vs. visited (vs ++ a.on.visits)) (sym one.only);
        each = subst (λ vs. AreVisits Q (pass u).mark (pass u).round buckets (vs ++ a.on.visits)) (sym one.only)
            ((subst (λ n. n < buckets) (sym at) low, subst (λ n. IsVisitOf Interval Q (pass u).mark (pass u).round n one.visit) (sym at) is), a.each);
      }

  -- no more went than the pass ever removed
  pub helps_few : (v w : View) (numbers : List ℕ) (m : ℕ) → Helps Q buckets v numbers m w → removed_all Interval (pass w).visits ≤ 2 ^ 41 → m ≤ 2 ^ 41
  helps_few v w numbers m h few =
      let e : removed_all Interval (pass w).visits ≡ removed_all Interval (h.on.visits ++ (pass v).visits) = ap (removed_all Interval) (visits_after Interval v w h.on) in
      let s = removed_append Interval h.on.visits (pass v).visits in
      omega (arith, e, s, few, h.gone_is)

-- ---- the turns of a helper

-- It has visited the buckets of these numbers, and drew b after them.
pub record Turns (t : BoardId) (d : TableId) (sessions buckets : ℕ) (g : Gathered) (old h : Helper) (b asked : ℕ) : Type 0 where
  pub numbers : List ℕ
  pub helps : Helps (IsCleanBy (record_of (pass (pass_view old.pass)))) buckets (pass_view old.pass) numbers h.removed (pass_view h.pass)
  pub drew : (drawn_by h.drawer).numbers ≡ b ∷ numbers
  pub quota_is : (drawn_by h.drawer).left + suc (length numbers) ≡ helper_quota
  pub short : length numbers ≤ b
  pub asked_is : asked ≡ length numbers
  pub few : h.removed ≤ 2 ^ 41
  pub own : IsHelperOf t d h
  pub number_is : h.number ≡ old.number
  pub shown : IsGatherOf sessions (pass (pass_view h.pass)) g

module _ (t : BoardId) (d : TableId) (sessions buckets : ℕ) (g : Gathered) (old : Helper) where
  pub turn_first : (h : Helper) (b : ℕ) → h.pass ≡ old.pass → h.removed ≡ old.removed → h.number ≡ old.number → IsReady old → IsGatherOf sessions (pass (pass_view old.pass)) g →
      IsHelperOf t d old → IsDrawerOf d h.drawer → Drew (drawn_by old.drawer) b (drawn_by h.drawer)
      → Turns t d sessions buckets g old h b 0
  turn_first h b same removed number ready shown own drawer drew =
      let gone : h.removed ≡ 0 = removed ∙ ready.none in record {
        numbers = [];
        helps = subst (λ n. Helps (IsCleanBy (record_of (pass (pass_view old.pass)))) buckets (pass_view old.pass) [] n (pass_view h.pass)) (sym gone)
            (subst (λ (p : CollectorPass). Helps (IsCleanBy (record_of (pass (pass_view old.pass)))) buckets (pass_view old.pass) [] 0 (pass_view p)) (sym same)
            (helps_none _ buckets (pass_view old.pass) own.0.1));
        drew = drew.numbers ∙ ap (λ (v : Drawn). b ∷ v.numbers) ready.fresh;
        quota_is = (let l : suc (drawn_by h.drawer).left ≡ helper_quota = drew.left ∙ ap (λ (v : Drawn). v.left) ready.fresh in omega arith);
        short = omega arith;
        asked_is = refl;
        few = (let e : h.removed ≡ 0 = gone in omega arith);
        own = (subst (IsPassOf t) (sym same) own.0, drawer);
        number_is = number;
        shown = subst (λ (p : CollectorPass). IsGatherOf sessions (pass (pass_view p)) g) (sym same) shown;
      }

  module _ (h : Helper) (b asked : ℕ) (a : Turns t d sessions buckets g old h b asked) where
    pub left_some : b < 2 ^ 32 → 0 < (drawn_by h.drawer).left
    left_some low = let e = a.quota_is in let s = a.short in omega arith

    -- one bucket more, and one number
    pub turn_more : (later : Helper) (k c : ℕ) → b < buckets → Visits Interval (IsCleanBy (record_of (pass (pass_view h.pass)))) b k (pass_view h.pass) (pass_view later.pass) →
        removed_all Interval (pass (pass_view later.pass)).visits ≤ 2 ^ 41
        → later.removed ≡ h.removed + k → later.number ≡ h.number → IsGatherOf sessions (pass (pass_view later.pass)) g → IsPassOf t later.pass → IsDrawerOf d later.drawer →
        Drew (drawn_by h.drawer) c (drawn_by later.drawer)
        → Turns t d sessions buckets g old later c (asked + 1)
    turn_more later k c low visits few_all removed number shown own drawer drew =
        let Q = IsCleanBy (record_of (pass (pass_view old.pass))) in
        let same = (same_pass Interval (pass_view old.pass) (pass_view h.pass) a.helps.on).record_is in
        let one = subst (λ (p : PassRecord). Visits Interval (IsCleanBy p) b k (pass_view h.pass) (pass_view later.pass)) same visits in
        let helps : Helps Q buckets (pass_view old.pass) (b ∷ a.numbers) (h.removed + k) (pass_view later.pass) = helps_more Q buckets (pass_view old.pass) (pass_view h.pass)
        (pass_view later.pass) b h.removed k a.numbers a.helps one low in
        let few : h.removed + k ≤ 2 ^ 41 = helps_few Q buckets (pass_view old.pass) (pass_view later.pass) (b ∷ a.numbers) (h.removed + k) helps few_all in record {
          numbers = b ∷ a.numbers;
          helps = subst (λ n. Helps Q buckets (pass_view old.pass) (b ∷ a.numbers) n (pass_view later.pass)) (sym removed) helps;
          drew = drew.numbers ∙ ap (λ ns. c ∷ ns) a.drew;
          quota_is = (let l = drew.left in let e = a.quota_is in omega arith);
          short = (let o : suc b ≤ c = subst (λ ns. top ns ≤ c) a.drew drew.over in let s = a.short in omega arith);
          asked_is = (let e = a.asked_is in omega arith);
          few = (let e : later.removed ≡ h.removed + k = removed in omega arith);
          own = (own, drawer);
          number_is = number ∙ a.number_is;
          shown = shown;
        }

    pub turns_end : buckets ≤ b → HasHelped buckets old h
    turns_end over = record { numbers = a.numbers; past = b; helps = a.helps; over = over; drew = a.drew; quota_is = a.quota_is; few = a.few }
