-- A round of a team.
use Rattle.std.proofs.Common.{◌≡◌, ℕ, ◌+◌, ◌<◌, List, [], ◌++◌, length, take, drop, get_or, sym, ap, ◌∙◌, subst, arith}
use Rattle.atomic_table.specs.Seated.{TableId}
use Rattle.hg_base.specs.declared.report.Kind.TheVariants.{Interval}
use Rattle.hg_base.specs.declared.report.Report.{Report}
use Rattle.hg_rule.specs.declared.view.View.{View}
use Rattle.hg_rule.specs.declared.view.Sizes.{Sizes}
use Rattle.hg_rule.specs.Views.{pass, pass_there, first_in}
use Rattle.hg_rule.specs.Seats.{BoardId}
use Rattle.hg_tracker.specs.Begun.{HasGathered}
use Rattle.hg_rounds.specs.Reports.{IsReportBy}
use Rattle.hg_rounds.proofs.Reported.{gathered_reports}
use Rattle.hg_rounds.specs.declared.draws.Drawn.{Drawn}
use Rattle.hg_rounds.specs.declared.helper.Helper.{Helper}
use Rattle.hg_rounds.specs.Word.{AreAll}
use Rattle.hg_rounds.specs.Helpers.{IsHelperOf, HasHelped}
use Rattle.hg_rounds.specs.Crew.{HasHired, Unites}
use Rattle.hg_rounds.specs.Teams.{SweepsBeside, IsShared}
use Rattle.hg_rounds.proofs.Joined.{worked, unites_none, goes, visit_once, take_whole}

-- the helpers are back, and none is united yet
pub all_back : (t : BoardId) (d : TableId) (buckets n : ℕ) (x : View) (hs later : List Helper) (y : View) (drawn : Drawn) → HasHired t d n x hs y drawn → length later ≡ length hs
    → ((i : ℕ) (o : Helper) → i < length hs → HasHelped buckets (get_or hs i o) (get_or later i o) × IsHelperOf t d (get_or later i o)) → Unites t d buckets (length later) x later y drawn 0
all_back t d buckets n x hs later y drawn a same f =
    subst (λ m. Unites t d buckets m x later y drawn 0) (sym (same ∙ a.count)) (unites_none t d buckets n x hs later y drawn a (worked t d buckets x hs later a.each same f))

-- The helpers were lent as a list, and lie in their places again: t is the board, and s what it was named at the call.
module _ (s t : BoardId) (d : TableId) (buckets count len : ℕ) (x y : View) (drawn : Drawn) (hs lent now : List Helper) (ids : s ≡ t) (hired : HasHired t d count x hs y drawn)
    (value : lent ≡ hs) (same : length now ≡ length hs) (long : len ≡ length now) where
  abbrev pub in_places : List Helper
  in_places = take len (now ++ drop (length now) hs)

  in_places_now : in_places ≡ now
  in_places_now = ap (λ (m : ℕ). take m (now ++ drop (length now) hs)) long ∙ take_whole now (drop (length now) hs)

  pub many_back : length in_places ≡ count
  many_back = ap (λ (l : List Helper). length l) in_places_now ∙ (same ∙ hired.count)

  abbrev Ran : BoardId → List Helper → Type 0
  Ran b l = (i : ℕ) (o : Helper) → i < length l → HasHelped buckets (get_or l i o) (get_or now i o) × IsHelperOf b d (get_or now i o)

  pub places_back : ((i : ℕ) (o : Helper) → i < length lent → HasHelped buckets (get_or lent i o) (get_or now i o) × IsHelperOf s d (get_or now i o)) →
      Unites t d buckets (length in_places) x in_places y drawn 0
  places_back ran = subst (λ (l : List Helper). Unites t d buckets (length l) x l y drawn 0) (sym in_places_now)
      (all_back t d buckets count x hs now y drawn hired same (subst (λ b. Ran b hs) ids (subst (Ran s) value ran)))

-- all are united
pub round_made : (t : BoardId) (d : TableId) (z : Sizes) (n : ℕ) (v x w : View) (drawn : Drawn) (removed : ℕ) (report : Report) → HasGathered v z.sessions x →
    Unites t d z.buckets n x [] w drawn removed → 0 < n → AreAll drawn.numbers → IsReportBy Interval (pass x) removed report → SweepsBeside z v report w
round_made t d z n v x w drawn removed report gathers a some all r =
    let on = goes t d z.buckets n x w drawn removed a some all in
    let gone : report.removed ≡ _ = r.removed_is ∙ a.gone_is in record {
      gathered = x;
      gathers = gathers;
      on = on;
      gone_is = gone;
      visit_once = visit_once t d z.buckets n x w drawn removed a some all;
      reports = gathered_reports Interval v x w z.sessions report removed gathers on r gone;
    }

-- each helper had its part
pub round_shared : (t : BoardId) (d : TableId) (z : Sizes) (n : ℕ) (v x w : View) (drawn : Drawn) (removed : ℕ) → HasGathered v z.sessions x →
    Unites t d z.buckets n x [] w drawn removed → 0 < n → AreAll drawn.numbers → IsShared n z.buckets v drawn.joined w
round_shared t d z n v x w drawn removed gathers a some all = record {
  many = (let l : ℕ = length drawn.joined in let e : l + 0 ≡ n = a.many in let h : l ≡ n = omega arith in h);
  ended = a.ended;
  visits = a.visits;
  more = ap (λ ps. (pass_there (first_in ps)).visits) (goes t d z.buckets n x w drawn removed a some all).parts ∙
      ap (λ ps. a.visits ++ (pass_there (first_in ps)).visits) gathers.parts;
  by_helpers = a.by_helpers;
}

-- its share is what it was
pub round_share : (t : BoardId) (d : TableId) (z : Sizes) (n : ℕ) (v x w : View) (drawn : Drawn) (removed : ℕ) → HasGathered v z.sessions x →
    Unites t d z.buckets n x [] w drawn removed → 0 < n → AreAll drawn.numbers → (pass w).share ≡ (pass v).share
round_share t d z n v x w drawn removed gathers a some all =
    ap (λ ps. (pass_there (first_in ps)).share) (goes t d z.buckets n x w drawn removed a some all).parts ∙ ap (λ ps. (pass_there (first_in ps)).share) gathers.parts
