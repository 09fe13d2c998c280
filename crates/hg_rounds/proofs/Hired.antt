-- A crew is hired: the team's pass is split for each helper, and each may work by what was gathered.
use Rattle.std.proofs.Common.{◌≡◌, ℕ, zero, suc, ◌+◌, ◌*◌, ◌-◌, ◌<◌, ◌≤◌, List, [], ◌∷◌, ◌++◌, length, refl, sym, ap, ◌∙◌, subst, arith}
use Rattle.std.proofs.Common.{length-append}
use Rattle.std.specs.Prelude.{All}
use Rattle.atomic_table.specs.Seated.{TableId}
use Rattle.hg_base.specs.Lists.{Each}
use Rattle.hg_rule.specs.declared.view.Part.{Part}
use Rattle.hg_rule.specs.declared.view.Part.TheVariants.{OfPass}
use Rattle.hg_rule.specs.declared.view.View.{View}
use Rattle.hg_rule.specs.declared.view.Sizes.{Sizes}
use Rattle.hg_rule.specs.Sharing.{MaySplit, kept_of, given_of, halved, branch}
use Rattle.hg_rule.specs.Views.{number, pass, others, seeing, HasPass}
use Rattle.hg_rule.specs.Seats.{BoardId, pass_view}
use Rattle.hg_rule.proofs.Branches.{halves_both}
use Rattle.hg_rule.proofs.Lists.{each_append}
use Rattle.hg_tracker.specs.declared.gathered.Gathered.{Gathered}
use Rattle.hg_tracker.specs.Gathers.{IsGatherOf}
use Rattle.hg_rounds.specs.declared.draws.Drawn.{Drawn}
use Rattle.hg_rounds.specs.declared.helper.Helper.{Helper}
use Rattle.hg_rounds.specs.Word.{hired, hirer, whole_quota, helper_quota, IsFresh}
use Rattle.hg_rounds.specs.Helpers.{IsHelperOf}
use Rattle.hg_rounds.specs.Crew.{share_of, shares, branched, IsHiredBy, HasHired, IsWilling}
use Rattle.hg_rounds.specs.Seats.{drawn_by}
use Rattle.hg_rounds.proofs.Adding.{sum_snoc}

-- ---- splitting

-- who may be split once more may be now, and has the rest then
pub record May (m share : ℕ) : Type 0 where
  pub now : 2 ≤ share
  pub rest : (k : ℕ) × (suc k ≡ m) × MaySplit k (kept_of share)

pub may_one : (m share : ℕ) → 0 < m → MaySplit m share → May m share
may_one zero share l may = absurd (omega arith)
may_one (suc k) share l may = record { now = may.0; rest = (k, refl, may.1) }

-- what a pass that was split has left of its share
pub kept_share : (v w : View) → w ≡ halved v → (pass w).share ≡ kept_of (pass v).share
kept_share v w e = ap (λ (u : View). (pass u).share) e

-- ---- a crew is hired

module _ (t : BoardId) (d : TableId) (x : View) where
  pub hired_none : HasPass x → (drawn : Drawn) → IsFresh drawn → HasHired t d 0 x [] x drawn
  hired_none own drawn e = record {
    own_is = ap (λ (ps : List Part). seeing ps x.sights x.events) own;
    shared = (let a : ℕ = (pass x).share in omega arith);
    each = tt;
    count = refl;
    none = e.numbers;
    joined = e.joined;
    left = (let l : drawn.left ≡ whole_quota = e.left in omega arith);
  }

  module _ (n : ℕ) (hs : List Helper) (y : View) (drawn : Drawn) (a : HasHired t d n x hs y drawn) where
    pub still_pass : HasPass y
    still_pass = subst HasPass (sym a.own_is) refl

    pub left_enough : n < 16 → helper_quota ≤ drawn.left
    left_enough l = let e : drawn.left + n * helper_quota ≡ whole_quota = a.left in omega arith

    number_same : number y ≡ number x
    number_same = ap number a.own_is

    pass_same : pass y ≡ record (pass x) { share = (pass y).share }
    pass_same = ap pass a.own_is

    others_same : others y ≡ others x
    others_same = ap others a.own_is

    sights_same : y.sights ≡ x.sights
    sights_same = ap (λ (v : View). v.sights) a.own_is

    events_same : y.events ≡ x.events
    events_same = ap (λ (v : View). v.events) a.own_is

    -- a helper more
    module _ (z : View) (z_is : z ≡ halved y) (h : Helper) (view_is : pass_view h.pass ≡ branch (number (pass_view h.pass)) y) (own : IsHelperOf t d h) (few : h.number ≤ 16)
        (nothing : h.removed ≡ 0) (mine : drawn_by h.drawer ≡ hired) (later : Drawn) (later_is : later ≡ hirer drawn) (enough : helper_quota ≤ drawn.left) where
      kept : (pass z).share ≡ kept_of (pass y).share
      kept = ap (λ (v : View). (pass v).share) z_is

      given : share_of h ≡ given_of (pass y).share
      given = ap (λ (v : View). (pass v).share) view_is

      pub hired_more : HasHired t d (suc n) x (hs ++ h ∷ []) z later
      hired_more = record {
        own_is = z_is ∙ (λ i. seeing (OfPass (number_same i) (record (pass_same i) { share = sym kept i }) ∷ others_same i) (sights_same i) (events_same i));
        shared = (let a1 : ℕ = (pass z).share in let a2 : ℕ = shares (hs ++ h ∷ []) in let a3 : ℕ = shares hs in let a4 : ℕ = share_of h in let a5 : ℕ = (pass y).share in
            let a6 : ℕ = (pass x).share in let a7 : ℕ = kept_of (pass y).share in let a8 : ℕ = given_of (pass y).share in
            let h1 : a2 ≡ a3 + a4 = sum_snoc share_of hs h in let h2 : a5 + a3 ≡ a6 = a.shared in let h3 : a1 ≡ a7 = kept in let h4 : a4 ≡ a8 = given in
            let h5 : a7 + a8 ≡ a5 = halves_both (pass y).share in omega arith);
        each = each_append (IsHiredBy t d x) hs (h ∷ []) a.each (
          record {
            own = own;
            ready = record { few = few; fresh = mine; none = nothing };
            view_is = view_is ∙ (λ i. seeing (OfPass (number (pass_view h.pass)) (record (pass_same i) { visits = []; journal = []; share = sym given i }) ∷ []) (sights_same i) []);
          },
          tt,
        );
        count = (let l : length (hs ++ h ∷ []) ≡ length hs + 1 = length-append hs (h ∷ []) in let e = a.count in omega (arith, l, e));
        none = ap (λ (v : Drawn). v.numbers) later_is ∙ a.none;
        joined = ap (λ (v : Drawn). v.joined) later_is ∙ a.joined;
        left = (let l : later.left ≡ drawn.left - helper_quota = ap (λ (v : Drawn). v.left) later_is in let e : drawn.left + n * helper_quota ≡ whole_quota = a.left in omega (arith, l, e, enough));
      }

-- ---- who is hired may work

shown_still : (sessions : ℕ) (x v : View) (n share : ℕ) (g : Gathered) → v ≡ seeing (OfPass n (branched x share) ∷ []) x.sights [] → IsGatherOf sessions (pass x) g → IsGatherOf sessions (pass v) g
shown_still sessions x v n share g is h = subst (λ (u : View). IsGatherOf sessions (pass u) g) (sym is) record {
  noted = h.noted;
  loaded = h.loaded;
  shuffled = h.shuffled;
  rises = h.rises;
  lists = h.lists;
}

pub willing : (t : BoardId) (d : TableId) (z : Sizes) (g : Gathered) (x : View) (hs : List Helper) → IsGatherOf z.sessions (pass x) g → Each (IsHiredBy t d x) hs → All (IsWilling t d z g) hs
willing t d z g x [] shown h k o l = absurd (omega arith)
willing t d z g x (a ∷ hs) shown h zero o l = record {
  own = h.0.own;
  ready = h.0.ready;
  shown = shown_still z.sessions x (pass_view a.pass) (number (pass_view a.pass)) (share_of a) g h.0.view_is shown;
}
willing t d z g x (a ∷ hs) shown h (suc k) o l = willing t d z g x hs shown h.1 k o (omega arith)
