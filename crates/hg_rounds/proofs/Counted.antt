-- The visits of a pass removed no more versions than were ever made.
use Rattle.std.proofs.Common.{◌≡◌, ◌⊎◌, inl, inr, ℕ, zero, suc, ◌+◌, ◌*◌, ◌<◌, ◌≤◌, ◌^◌, Bool, true, false, List, [], ◌∷◌, length, refl, sym, ap, subst, arith}
use Rattle.std.specs.Prelude.{◌&&◌, ◌==◌, not, is_some, if◌then◌else◌}
use native.Mathlib.Decide.{dec_le}
use Rattle.std.proofs.lemmas.Bool.Decides.{nat_tests}
use Rattle.hg_base.specs.declared.rid.Rid.{Rid}
use Rattle.hg_base.specs.declared.report.Kind.{Kind}
use Rattle.hg_base.specs.declared.report.Kind.TheVariants.{Group, Table, Interval}
use Rattle.hg_base.specs.Lists.{Each}
use Rattle.hg_base.specs.History.{image_in}
use Rattle.hg_core.specs.declared.log.LogEntry.{LogEntry}
use Rattle.hg_core.specs.declared.log.LogEntry.TheVariants.{Began, Saw, Refused, Outside, Wrote, Undid, Published, Over}
use Rattle.hg_core.specs.declared.visit.Visit.{Visit}
use Rattle.hg_core.specs.Logs.{wrotes, own_writes}
use Rattle.hg_core.specs.Contents.{Content, bucket_of, look}
use Rattle.hg_core.specs.Counters.{total, is_of, first_writes, removed_by, removed_in, removed_all}
use Rattle.hg_core.specs.Sums.{sum_to, sum_below}
use Rattle.hg_core.specs.State.{CoreState}
use Rattle.hg_core.specs.Invariant.{IsSteady}
use Rattle.hg_core.proofs.Sums.{sum_most, below_none, below_grown, below_plus, sums_swap, below_one}
use Rattle.hg_core.proofs.Lengths.{total_store}
use Rattle.hg_rule.specs.declared.view.Part.TheVariants.{OfPass}
use Rattle.hg_rule.specs.declared.view.View.{View}
use Rattle.hg_rule.specs.declared.view.Sizes.{Sizes}
use Rattle.hg_rule.specs.Facts.{Shown}
use Rattle.hg_rule.specs.Rules.{HasRoom, IsBacked}
use Rattle.hg_rule.specs.Views.{number, pass, HasPass}
use Rattle.hg_rule.proofs.Lists.{each_map}

-- ---- sums

below_least : (n : ℕ) (f g : ℕ → ℕ) → ((k : ℕ) → f k ≤ g k) → sum_below n f ≤ sum_below n g
below_least zero f g h = omega arith
below_least (suc n) f g h = omega (arith, below_least n f g h, h n)

below_has : (n p : ℕ) (f : ℕ → ℕ) → p < n → f p ≤ sum_below n f
below_has zero p f l = absurd (omega (arith, l))
below_has (suc n) p f l = go (dec_le (suc p) n) (λ less. below_has n p f less)
  where
    go : Dec (p < n) → (p < n → f p ≤ sum_below n f) → f p ≤ sum_below n f + f n
    go (yes less) ih = omega (arith, ih less)
    go (no most) ih = let same : p ≡ n = omega (arith, l, most) in let e : f p ≡ f n = ap f same in omega (arith, e)

-- ---- first writes, bucket by bucket

firsts_all : (n buckets : ℕ) (log : List LogEntry) → sum_below n (λ b. first_writes (is_of buckets b) log) ≤ wrotes log
firsts_all n buckets [] = let e = below_none n in omega (arith, e)
firsts_all n buckets (Wrote r image ∷ log) =
    let x = not (is_some (image_in r (own_writes log))) in
    let plus = below_plus n (λ b. if (bucket_of buckets r == b) && x then 1 else 0) (λ b. first_writes (is_of buckets b) log) in
    let one = below_one n (bucket_of buckets r) x in
    let rest = firsts_all n buckets log in
    omega (arith, plus, one, rest)
firsts_all n buckets (Began at scope ∷ log) = firsts_all n buckets log
firsts_all n buckets (Saw t low high b rows ∷ log) = firsts_all n buckets log
firsts_all n buckets (Refused r answer ∷ log) = firsts_all n buckets log
firsts_all n buckets (Outside t ∷ log) = firsts_all n buckets log
firsts_all n buckets (Undid r ∷ log) = firsts_all n buckets log
firsts_all n buckets (Published m ∷ log) = firsts_all n buckets log
firsts_all n buckets (Over ∷ log) = firsts_all n buckets log

-- ---- a list of visits, bucket by bucket

all_in : (kind : Kind) (n : ℕ) (visits : List Visit) → Each (λ (v : Visit). v.bucket < n) visits → sum_below n (λ b. removed_in kind b visits) ≡ removed_all kind visits
all_in kind n [] e = below_none n
all_in kind n (v ∷ visits) e =
    let grown = below_grown n v.bucket (removed_by kind v.removed) (λ b. removed_in kind b visits) (λ b. removed_in kind b (v ∷ visits)) e.0
    (λ k other. apart k (v.bucket == k) refl other) (here (v.bucket == v.bucket) refl) in
    omega (arith, grown, all_in kind n visits e.1)
  where
    apart : (k : ℕ) (b : Bool) → (v.bucket == k) ≡ b → (k ≡ v.bucket → ⊥) → (if b then removed_by kind v.removed else 0) + removed_in kind k visits ≡ removed_in kind k visits
    apart k true q other = absurd (other (let same : v.bucket ≡ k = grind (arith, nat_tests) in sym same))
    apart k false q other = omega arith

    here : (b : Bool) → (v.bucket == v.bucket) ≡ b → (if b then removed_by kind v.removed else 0) + removed_in kind v.bucket visits ≡ removed_in kind v.bucket visits + removed_by kind v.removed
    here true q = omega arith
    here false q = absurd (grind (arith, nat_tests))

-- ---- in a state

module _ (kind : Kind) (s : CoreState) (h : IsSteady s) where
  -- what one kind removed is no more than what was made
  of_made : (k : Kind) (b : ℕ) → removed_by k (s.counters b).removed ≤ (s.counters b).made
  of_made Group b = omega (arith, h.counters_balance.balance b)
  of_made Table b = omega (arith, h.counters_balance.balance b)
  of_made Interval b = omega (arith, h.counters_balance.balance b)

  by_buckets : (p : ℕ) → p < s.passes → (b : ℕ) → removed_in kind b (s.visits p) ≤ (s.counters b).made
  by_buckets p less b = omega (arith, below_has s.passes p (λ q. removed_in kind b (s.visits q)) less, h.counters_balance.removed kind b, of_made kind b)

  all_made : sum_below s.buckets (λ b. (s.counters b).made) ≤ s.sessions * s.quota
  all_made =
      let logs = λ (b : ℕ). sum_to s.sessions (λ j. first_writes (is_of s.buckets b) (s.log j)) in
      let same = below_least s.buckets (λ b. (s.counters b).made) logs (λ b. omega (arith, h.counters_balance.made b)) in
      let swap = sums_swap s.buckets s.sessions (λ b j. first_writes (is_of s.buckets b) (s.log j)) in
      let most = sum_most s.sessions s.quota (λ j. sum_below s.buckets (λ b. first_writes (is_of s.buckets b) (s.log j)))
      (λ j. omega (arith, firsts_all s.buckets s.buckets (s.log j), h.logs_answer.written j)) in
      omega (arith, same, swap, most)

  pub few_removed : (p : ℕ) → removed_all kind (s.visits p) ≤ s.sessions * s.quota
  few_removed p = go (h.visits_stay.others p)
    where
      go : (p < s.passes) ⊎ (s.visits p ≡ []) → removed_all kind (s.visits p) ≤ s.sessions * s.quota
      go (inl less) =
          let all = all_in kind s.buckets (s.visits p) (each_map _ _ (λ v i. i.bucket) (s.visits p) (h.visits_stay.each p)) in
          let least = below_least s.buckets (λ b. removed_in kind b (s.visits p)) (λ b. (s.counters b).made) (by_buckets p less) in
          omega (arith, all, least, all_made)
      go (inr none) = let e : removed_all kind (s.visits p) ≡ 0 = ap (removed_all kind) none in omega (arith, e)

-- ---- as it is told of a view

pub few : (kind : Kind) (z : Sizes) (mark : ℕ) (v : View) → HasRoom z → IsBacked z mark v → HasPass v → removed_all kind (pass v).visits ≤ 2 ^ 40
few kind z mark v room k own =
    let s = k.state in
    let shown : Shown s (OfPass (number v) (pass v)) = (subst (Each (Shown s)) own k.true_of.parts).0 in
    let e : removed_all kind (s.visits (number v)) ≡ removed_all kind (pass v).visits = ap (removed_all kind) shown.1.0 in
    let size : s.sessions * s.quota ≡ z.sessions * z.quota = λ i. k.sized.sessions i * k.sized.quota i in
    omega (arith, few_removed kind s k.steady (number v), e, size, room.begins)

pub length_most : (r : Rid) (content : Content) → length (look r content) ≤ total content
length_most r content = let e = total_store r [] content in omega (arith, e)
