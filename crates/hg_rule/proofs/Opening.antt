-- A new board, and the dealing of its seats.
use Rattle.std.proofs.Common.{get_or, ◌≡◌, ℕ, zero, suc, ◌+◌, ◌<◌, ◌≤◌, false, eqb, ltb, List, [], ◌∷◌, ◌++◌, length, drop, replicate, refl, sym, ap, ◌∙◌, subst, arith, eq-eqb, ne_eqb, inl}
use Rattle.std.proofs.lemmas.Bool.{lt-ltb, le-ltb}
use Rattle.std.proofs.lemmas.List.{get_or-replicate}
use mathlib.Core.Option.{some, some-injective, some-ne-none}
use native.Mathlib.Decide.{ℕ_discrete, dec_le}
use lib.ListN.{get_elem?, length-replicate}
use Rattle.atomic_table.specs.Table.{opening}
use Rattle.hg_base.specs.Lists.{Each}
use Rattle.hg_core.specs.State.{CoreState, opened}
use Rattle.hg_core.proofs.Runs.{reached_first}
use Rattle.hg_rule.specs.declared.view.Part.{Part}
use Rattle.hg_rule.specs.declared.view.View.{View}
use Rattle.hg_rule.specs.declared.view.Sizes.{Sizes}
use Rattle.hg_rule.specs.Keys.{Key, session_key, bucket_key, commit_key, pass_key, home_key, both, has, one, count, share_of, shares, whole_share, expected}
use Rattle.hg_rule.specs.Facts.{Shown, new_part}
use Rattle.hg_rule.specs.Words.{register_at, mask_at, words_for}
use Rattle.hg_rule.specs.Rules.{IsTrueOf, Rule}
use Rattle.hg_rule.specs.Views.{seeing, after_first}
use Rattle.hg_rule.specs.Moves.{first_of, run, session_part, bucket_part, pass_part, first_view}
use Rattle.hg_rule.specs.New.{EachFrom}
use Rattle.hg_rule.proofs.Counts.{count_append, shares_append}
use Rattle.hg_rule.proofs.Lists.{each_append}
use Rattle.hg_rule.proofs.Found.{less_is}

-- ---- each part once

run_none : (k : Key) (f : ℕ → Part) → ((i : ℕ) → has k (f i) ≡ false) → (a n : ℕ) → count k (run f a n) ≡ 0
run_none k f never a zero = refl
run_none k f never a (suc n) = let x : ℕ = one (has k (f a)) in let y : ℕ = count k (run f (suc a) n) in let e : x ≡ 0 = ap one (never a) in let h : y ≡ 0 = run_none k f never (suc a) n in omega arith

next : (j a : ℕ) → one (ltb j (suc a)) ≡ one (eqb a j) + one (ltb j a)
next j a = go (dec_le (suc j) a) (ℕ_discrete a j)
  where
    go : Dec (suc j ≤ a) → Dec (a ≡ j) → one (ltb j (suc a)) ≡ one (eqb a j) + one (ltb j a)
    go (yes l) d = let x : ℕ = one (ltb j (suc a)) in let y : ℕ = one (eqb a j) in let z : ℕ = one (ltb j a) in let e1 : x ≡ 1 = ap one (lt-ltb j (suc a) (omega arith)) in
        let e2 : y ≡ 0 = ap one (ne_eqb a j (λ (e : a ≡ j). omega arith)) in let e3 : z ≡ 1 = ap one (lt-ltb j a (omega arith)) in omega arith
    go (no l) (yes e) = let x : ℕ = one (ltb j (suc a)) in let y : ℕ = one (eqb a j) in let z : ℕ = one (ltb j a) in let e1 : x ≡ 1 = ap one (lt-ltb j (suc a) (omega arith)) in
        let e2 : y ≡ 1 = ap one (eq-eqb a j e) in let e3 : z ≡ 0 = ap one (le-ltb j a (omega arith)) in omega arith
    go (no l) (no n) = let x : ℕ = one (ltb j (suc a)) in let y : ℕ = one (eqb a j) in let z : ℕ = one (ltb j a) in
        let big : suc a ≤ j = omega arith in let e1 : x ≡ 0 = ap one (le-ltb j (suc a) big) in let e2 : y ≡ 0 = ap one (ne_eqb a j n) in
        let e3 : z ≡ 0 = ap one (le-ltb j a (omega arith)) in omega arith

-- a part of the key stands in the run where its number does
run_one : (key : ℕ → Key) (f : ℕ → Part) → ((i j : ℕ) → has (key j) (f i) ≡ eqb i j) → (j a n : ℕ) → count (key j) (run f a n) + one (ltb j a) ≡ one (ltb j (a + n))
run_one key f is j a zero = let x : ℕ = one (ltb j a) in omega (arith, ap (λ (m : ℕ). one (ltb j m)) (zero_more a))
  where
    zero_more : (a : ℕ) → a + 0 ≡ a
    zero_more a = omega arith
run_one key f is j a (suc n) = let x : ℕ = one (has (key j) (f a)) in let x' : ℕ = one (eqb a j) in let e : x ≡ x' = ap one (is a j) in let y : ℕ = count (key j) (run f (suc a) n) in
    let p : ℕ = one (ltb j (suc a)) in let q : ℕ = one (ltb j a) in let u : ℕ = one (ltb j (suc a + n)) in let v : ℕ = one (ltb j (a + suc n)) in
    let h : y + p ≡ u = run_one key f is j (suc a) n in let s : p ≡ x' + q = next j a in let w : u ≡ v = ap (λ (m : ℕ). one (ltb j m)) (shift a n) in omega arith
  where
    shift : (a n : ℕ) → suc a + n ≡ a + suc n
    shift a n = omega arith

from_zero : (key : ℕ → Key) (f : ℕ → Part) → ((i j : ℕ) → has (key j) (f i) ≡ eqb i j) → (j n : ℕ) → count (key j) (run f 0 n) ≡ one (ltb j n)
from_zero key f is j n = let a : ℕ = count (key j) (run f 0 n) in let b : ℕ = one (ltb j 0) in let c : ℕ = one (ltb j (0 + n)) in let d : ℕ = one (ltb j n) in
    let h : a + b ≡ c = run_one key f is j 0 n in let l : b ≡ 0 = ap one (le-ltb j 0 (omega arith)) in let e : c ≡ d = ap (λ (m : ℕ). one (ltb j m)) (none_less n) in omega arith
  where
    none_less : (n : ℕ) → 0 + n ≡ n
    none_less n = omega arith

both_is : (j n : ℕ) → one (both (ltb 0 j) (ltb j (suc n))) + one (ltb j 1) ≡ one (ltb j (suc n))
both_is zero n = let x : ℕ = one (ltb 0 (suc n)) in let e : x ≡ 1 = ap one (lt-ltb 0 (suc n) (omega arith)) in omega arith
both_is (suc j) n = let x : ℕ = one (both (ltb 0 (suc j)) (ltb (suc j) (suc n))) in let y : ℕ = one (ltb (suc j) 1) in let z : ℕ = one (ltb (suc j) (suc n)) in
    let e : x ≡ z = ap (λ b. one (both b (ltb (suc j) (suc n)))) (lt-ltb 0 (suc j) (omega arith)) in let l : y ≡ 0 = ap one (le-ltb (suc j) 1 (omega arith)) in omega arith

-- the same of either key of a session
one_from : (key : ℕ → Key) → ((i j : ℕ) → has (key j) (session_part i) ≡ eqb i j) → (j n : ℕ) → count (key j) (run session_part 1 n) ≡ one (both (ltb 0 j) (ltb j (suc n)))
one_from key is j n = let a : ℕ = count (key j) (run session_part 1 n) in let b : ℕ = one (ltb j 1) in let c : ℕ = one (ltb j (1 + n)) in let d : ℕ = one (ltb j (suc n)) in
    let x : ℕ = one (both (ltb 0 j) (ltb j (suc n))) in
    let h : a + b ≡ c = run_one key session_part is j 1 n in let e : c ≡ d = ap (λ (m : ℕ). one (ltb j m)) (one_more n) in let f : x + b ≡ d = both_is j n in omega arith
  where
    one_more : (n : ℕ) → 1 + n ≡ suc n
    one_more n = omega arith

from_one : (j n : ℕ) → count (session_key j) (run session_part 1 n) ≡ one (both (ltb 0 j) (ltb j (suc n)))
from_one j n = one_from session_key (λ i j. refl) j n

first_count : (z : Sizes) (k : Key) → count k (first_view z).parts ≡ count k (run session_part 1 z.sessions) +
    (count k (run bucket_part 0 z.buckets) + (count k (run pass_part 0 3) + count k (new_part commit_key ∷ [])))
first_count z k = let s = run session_part 1 z.sessions in let b = run bucket_part 0 z.buckets in let p = run pass_part 0 3 in let c = new_part commit_key ∷ [] in
    count_append k s (b ++ (p ++ c)) ∙ ap (λ (m : ℕ). count k s + m) (count_append k b (p ++ c) ∙ ap (λ (m : ℕ). count k b + m) (count_append k p c))

all_once : (z : Sizes) (k : Key) → count k (first_view z).parts ≡ expected z (λ p. ltb p 3) k
all_once z (session_key j) = let k = session_key j in let t : ℕ = count k (first_view z).parts in let a : ℕ = count k (run session_part 1 z.sessions) in
    let b : ℕ = count k (run bucket_part 0 z.buckets) in let c : ℕ = count k (run pass_part 0 3) in let x : ℕ = one (both (ltb 0 j) (ltb j (suc z.sessions))) in
    let e : t ≡ a + (b + (c + 0)) = first_count z k in let f : b ≡ 0 = run_none k bucket_part (λ i. refl) 0 z.buckets in let g : c ≡ 0 = run_none k pass_part (λ i. refl) 0 3 in
    let h : a ≡ x = from_one j z.sessions in omega arith
all_once z (home_key j) = let k = home_key j in let t : ℕ = count k (first_view z).parts in let a : ℕ = count k (run session_part 1 z.sessions) in
    let b : ℕ = count k (run bucket_part 0 z.buckets) in let c : ℕ = count k (run pass_part 0 3) in let x : ℕ = one (both (ltb 0 j) (ltb j (suc z.sessions))) in
    let e : t ≡ a + (b + (c + 0)) = first_count z k in let f : b ≡ 0 = run_none k bucket_part (λ i. refl) 0 z.buckets in let g : c ≡ 0 = run_none k pass_part (λ i. refl) 0 3 in
    let h : a ≡ x = one_from home_key (λ i j. refl) j z.sessions in omega arith
all_once z (bucket_key j) = let k = bucket_key j in let t : ℕ = count k (first_view z).parts in let a : ℕ = count k (run session_part 1 z.sessions) in
    let b : ℕ = count k (run bucket_part 0 z.buckets) in let c : ℕ = count k (run pass_part 0 3) in let x : ℕ = one (ltb j z.buckets) in
    let e : t ≡ a + (b + (c + 0)) = first_count z k in let f : a ≡ 0 = run_none k session_part (λ i. refl) 1 z.sessions in let g : c ≡ 0 = run_none k pass_part (λ i. refl) 0 3 in
    let h : b ≡ x = from_zero bucket_key bucket_part (λ i j. refl) j z.buckets in omega arith
all_once z commit_key = let k = commit_key in let t : ℕ = count k (first_view z).parts in let a : ℕ = count k (run session_part 1 z.sessions) in
    let b : ℕ = count k (run bucket_part 0 z.buckets) in let c : ℕ = count k (run pass_part 0 3) in
    let e : t ≡ a + (b + (c + 1)) = first_count z k in let d : a ≡ 0 = run_none k session_part (λ i. refl) 1 z.sessions in
    let f : b ≡ 0 = run_none k bucket_part (λ i. refl) 0 z.buckets in let g : c ≡ 0 = run_none k pass_part (λ i. refl) 0 3 in omega arith
all_once z (pass_key j) = let k = pass_key j in let t : ℕ = count k (first_view z).parts in let a : ℕ = count k (run session_part 1 z.sessions) in
    let b : ℕ = count k (run bucket_part 0 z.buckets) in let c : ℕ = count k (run pass_part 0 3) in let x : ℕ = one (ltb j 3) in
    let e : t ≡ a + (b + (c + 0)) = first_count z k in let d : a ≡ 0 = run_none k session_part (λ i. refl) 1 z.sessions in
    let f : b ≡ 0 = run_none k bucket_part (λ i. refl) 0 z.buckets in let h : c ≡ x = from_zero pass_key pass_part (λ i j. refl) j 3 in omega arith

no_shares : (f : ℕ → Part) → ((i : ℕ) → share_of (f i) ≡ 0) → (a n : ℕ) → shares (run f a n) ≡ 0
no_shares f none a zero = refl
no_shares f none a (suc n) = let x : ℕ = share_of (f a) in let y : ℕ = shares (run f (suc a) n) in let e : x ≡ 0 = none a in let h : y ≡ 0 = no_shares f none (suc a) n in omega arith

all_shared : (z : Sizes) → shares (first_view z).parts ≡ whole_share
all_shared z = let s = run session_part 1 z.sessions in let b = run bucket_part 0 z.buckets in let r = run pass_part 0 3 ++ new_part commit_key ∷ [] in
    let t : ℕ = shares (first_view z).parts in let x : ℕ = shares s in let y : ℕ = shares b in let w : ℕ = whole_share in
    let e : t ≡ x + (y + w) = shares_append s (b ++ r) ∙ ap (λ (m : ℕ). x + m) (shares_append b r) in
    let f : x ≡ 0 = no_shares session_part (λ i. refl) 1 z.sessions in let g : y ≡ 0 = no_shares bucket_part (λ i. refl) 0 z.buckets in omega arith

-- ---- the rule at the start

run_each : (P : Part → Type 0) (f : ℕ → Part) → ((i : ℕ) → P (f i)) → (a n : ℕ) → Each P (run f a n)
run_each P f h a zero = tt
run_each P f h a (suc n) = (h a, run_each P f h (suc a) n)

zeros : (n i : ℕ) → ◌≡◌ {A = ℕ} (get_or (replicate n 0) i 0) 0
zeros zero i = refl
zeros (suc n) zero = refl
zeros (suc n) (suc i) = zeros n i

pub opens : (z : Sizes) → Rule z (opening (replicate (words_for z.sessions) 0) [] (first_view z))
opens z = record {
  state = s;
  reached = reached_first s;
  sized = record { sessions = refl; tables = refl; buckets = refl; quota = refl };
  words = record {
    count = length-replicate (words_for z.sessions) 0;
    mark = get_or-replicate (words_for z.sessions) 0 0 0 (omega arith);
    registers = λ j inside. get_or-replicate (words_for z.sessions) (register_at j) 0 0 (let l = inside.last in omega arith);
    masks = λ j. zeros (words_for z.sessions) (mask_at j);
  };
  used = λ p. ltb p 3;
  passes = record { below = λ p e. less_is p 3 e; last = λ p e. lt-ltb p 3 (omega (arith, e)) };
  exact = λ k. let a : ℕ = count k (first_view z).parts in let b : ℕ = expected z (λ p. ltb p 3) k in let e : a ≡ b = all_once z k in omega arith;
  shared = let a : ℕ = shares (first_view z).parts in let b : ℕ = whole_share in let e : a ≡ b = all_shared z in omega arith;
  outside = λ k none. new_shown k;
  shown = only_one;
}
  where
    s : CoreState
    s = opened z.sessions z.tables z.buckets 3 z.quota

    new_shown : (k : Key) → Shown s (new_part k)
    new_shown (session_key j) = (refl, (refl, refl))
    new_shown (bucket_key b) = (refl, refl)
    new_shown commit_key = (refl, (refl, refl))
    new_shown (pass_key p) = (refl, (refl, omega arith))
    new_shown (home_key j) = (refl, (omega arith, inl refl))

    base : IsTrueOf s (first_view z)
    base = record {
      parts = each_append (Shown s) (run session_part 1 z.sessions) _ (run_each (Shown s) session_part (λ i. new_shown (session_key i)) 1 z.sessions)
          (each_append (Shown s) (run bucket_part 0 z.buckets) _ (run_each (Shown s) bucket_part (λ i. new_shown (bucket_key i)) 0 z.buckets)
          (each_append (Shown s) (run pass_part 0 3) (new_part commit_key ∷ []) (run_each (Shown s) pass_part (λ i. new_shown (pass_key i)) 0 3) (new_shown commit_key, tt)));
      sights = tt;
      events = tt;
    }

    only_one : (i : ℕ) (d : View) → get_elem? (first_view z ∷ []) i ≡ some d → IsTrueOf s d
    only_one zero d e = subst (IsTrueOf s) (some-injective (first_view z) d e) base
    only_one (suc i) d e = absurd (some-ne-none d (sym e))

-- ---- dealing

pub drop_next : (i : ℕ) (ps : List Part) → after_first (drop i ps) ≡ drop (suc i) ps
drop_next zero [] = refl
drop_next zero (p ∷ ps) = refl
drop_next (suc i) [] = refl
drop_next (suc i) (p ∷ ps) = drop_next i ps

pub run_at : (f : ℕ → Part) (a n i : ℕ) (r : List Part) → i < n → first_of (drop i (run f a n ++ r)) ≡ f (a + i) ∷ []
run_at f a zero i r l = absurd (omega arith)
run_at f a (suc n) zero r l = ap (λ (m : ℕ). f m ∷ []) (plain a)
  where
    plain : (a : ℕ) → a ≡ a + 0
    plain a = omega arith
run_at f a (suc n) (suc i) r l = run_at f (suc a) n i r (omega arith) ∙ ap (λ (m : ℕ). f m ∷ []) (shift a i)
  where
    shift : (a i : ℕ) → suc a + i ≡ a + suc i
    shift a i = omega arith

pub run_past : (f : ℕ → Part) (a n : ℕ) (r : List Part) → drop n (run f a n ++ r) ≡ r
run_past f a zero r = refl
run_past f a (suc n) r = run_past f (suc a) n r

pub each_from_snoc : {A : Type 0} (P : ℕ → A → Type 0) (i : ℕ) (xs : List A) (x : A) → EachFrom P i xs → P (i + length xs) x → EachFrom P i (xs ++ x ∷ [])
each_from_snoc P i [] x h e = (subst (λ (m : ℕ). P m x) (plain i) e, tt)
  where
    plain : (a : ℕ) → a + 0 ≡ a
    plain a = omega arith
each_from_snoc P i (y ∷ xs) x h e = (h.0, each_from_snoc P (suc i) xs x h.1 (subst (λ (m : ℕ). P m x) (shift i (length xs)) e))
  where
    shift : (a n : ℕ) → a + suc n ≡ suc a + n
    shift a n = omega arith

pub each_from_map : {A : Type 0} (P Q : ℕ → A → Type 0) → ((i : ℕ) (x : A) → P i x → Q i x) → (i : ℕ) (xs : List A) → EachFrom P i xs → EachFrom Q i xs
each_from_map P Q f i [] h = tt
each_from_map P Q f i (x ∷ xs) h = (f i x h.0, each_from_map P Q f (suc i) xs h.1)

-- what is left once sessions and buckets are dealt, and then the three passes
abbrev pub passes_left : List Part
passes_left = run pass_part 0 3 ++ new_part commit_key ∷ []

pub passes_dealt : (v v1 v2 v3 : View) → v.parts ≡ passes_left → v.events ≡ [] → v1 ≡ seeing (drop 1 v.parts) [] v.events → v2 ≡ seeing (drop 1 v1.parts) [] v1.events →
    v3 ≡ seeing (drop 1 v2.parts) [] v2.events
    → (v1.parts ≡ drop 1 passes_left) × (v2.parts ≡ drop 1 (drop 1 passes_left)) × (v3 ≡ seeing (new_part commit_key ∷ []) [] [])
passes_dealt v v1 v2 v3 parts events e1 e2 e3 = (
  parts1,
  parts2,
  e3 ∙ (λ i. seeing (drop 1 (parts2 i)) [] ((ap (λ (u : View). u.events) e2 ∙ (ap (λ (u : View). u.events) e1 ∙ events)) i)),
)
  where
    parts1 : v1.parts ≡ drop 1 passes_left
    parts1 = ap (λ (u : View). u.parts) e1 ∙ ap (drop 1) parts

    parts2 : v2.parts ≡ drop 1 (drop 1 passes_left)
    parts2 = ap (λ (u : View). u.parts) e2 ∙ ap (drop 1) parts1
