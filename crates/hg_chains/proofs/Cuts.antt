-- What a cut does to a chain: the versions at the bound are a tail, since numbers fall.
use Rattle.std.proofs.Common.{◌≡◌, ℕ, ◌+◌, ◌≤◌, List, [], ◌∷◌, ◌++◌, length, take, drop, Bool, true, false, not, Some, None, refl, sym, ap, ◌∙◌, subst, arith}
use Rattle.std.specs.Prelude.{filter, find, count_by, cond, IsSome, option_map}
use Rattle.std.proofs.lemmas.Bool.{leb-true, le-leb}
use Rattle.std.proofs.lemmas.List.Sums.{length-filter}
use Rattle.std.proofs.Math.Seq.{take-append_seam}
use Rattle.std.specs.List.{slice_get}
use Rattle.std.specs.Bool.{OnFalse}
use Rattle.hg_base.specs.declared.writer.Writer.{Writer}
use Rattle.hg_base.specs.Lists.{Each}
use Rattle.hg_base.proofs.ListFacts.{cases, false_true, each_keeps}
use Rattle.hg_chains.specs.declared.version.Stamp.{Stamp}
use Rattle.hg_chains.specs.declared.version.Stamp.TheVariants.{Written, Numbered}
use Rattle.hg_chains.specs.declared.version.Version.{Version}
use Rattle.hg_chains.specs.Versions.{has_at_most, is_at_most, is_written_by, has_writer, number_in, IsBelow, HasBelow, FallsTo, IsChain, is_open_by, image_by, left_by}

-- ---- an open write is the first version or none

pub numbered_not_written : (by : Writer) (s : Stamp) → IsSome (number_in s) → has_writer by s ≡ false
numbered_not_written by (Written w) e = absurd (false_true e)
numbered_not_written by (Numbered number other) e = refl

pub below_is_numbered : (n : ℕ) (s : Stamp) → HasBelow n s → IsSome (number_in s)
below_is_numbered n (Written w) h = absurd h
below_is_numbered n (Numbered number by) h = refl

pub all_numbered : (s : Stamp) (vs : List Version) → FallsTo s vs → Each (λ v. IsSome (number_in v.stamp)) vs
all_numbered (Written w) vs h = h
all_numbered (Numbered number by) vs h = each_keeps (IsBelow number) (λ v. IsSome (number_in v.stamp)) (λ v. below_is_numbered number v.stamp) vs h

-- all behind the first have numbers
pub others_numbered : (vs : List Version) → IsChain vs → Each (λ v. IsSome (number_in v.stamp)) (drop 1 vs)
others_numbered [] h = tt
others_numbered (v ∷ vs) h = all_numbered v.stamp vs h.0

pub none_written : (by : Writer) (vs : List Version) → Each (λ v. IsSome (number_in v.stamp)) vs → find (is_written_by by) vs ≡ None
none_written by [] h = refl
none_written by (v ∷ vs) h = ap (λ b. cond b (Some v) (find (is_written_by by) vs)) (numbered_not_written by v.stamp h.0) ∙ none_written by vs h.1

-- where the first version is none of the transaction's, no version is
pub not_open : (by : Writer) (vs : List Version) → IsChain vs → is_open_by by vs ≡ false → find (is_written_by by) vs ≡ None
not_open by [] h e = refl
not_open by (v ∷ vs) h e = ap (λ b. cond b (Some v) (find (is_written_by by) vs)) e ∙ none_written by vs (all_numbered v.stamp vs h.0)

-- ---- those at the bound are a tail

pub below_at_most : (bound n : ℕ) (s : Stamp) → n ≤ bound → HasBelow n s → has_at_most bound s ≡ true
below_at_most bound n (Written w) k h = absurd h
below_at_most bound n (Numbered number by) k h = le-leb number bound (omega (arith, k, h))

pub falls_at_most : (bound : ℕ) (s : Stamp) (vs : List Version) → has_at_most bound s ≡ true → FallsTo s vs → Each (λ v. is_at_most bound v ≡ true) vs
falls_at_most bound (Written w) vs e h = absurd (false_true e)
falls_at_most bound (Numbered number by) vs e h = let k : number ≤ bound = leb-true number bound e in
    each_keeps (IsBelow number) (λ v. is_at_most bound v ≡ true) (λ v. below_at_most bound number v.stamp k) vs h

pub none_left : (bound : ℕ) (vs : List Version) → Each (λ v. is_at_most bound v ≡ true) vs → left_by bound vs ≡ []
none_left bound [] h = refl
none_left bound (v ∷ vs) h = ap (λ b. cond (not b) (v ∷ left_by bound vs) (left_by bound vs)) h.0 ∙ none_left bound vs h.1

pub all_old : (bound : ℕ) (vs : List Version) → Each (λ v. is_at_most bound v ≡ true) vs → filter (is_at_most bound) vs ≡ vs
all_old bound [] h = refl
all_old bound (v ∷ vs) h = ap (λ b. cond b (v ∷ filter (is_at_most bound) vs) (filter (is_at_most bound) vs)) h.0 ∙ ap (λ ws. v ∷ ws) (all_old bound vs h.1)

-- what is left, and behind it what is at the bound
pub split : (bound : ℕ) (vs : List Version) → IsChain vs → vs ≡ left_by bound vs ++ filter (is_at_most bound) vs
split bound [] h = refl
split bound (v ∷ vs) h =
    cases (is_at_most bound v)
    (λ e.
    let old : Each (λ v. is_at_most bound v ≡ true) (v ∷ vs) = (e, falls_at_most bound v.stamp vs e h.0) in
    sym (ap (λ ws. ws ++ filter (is_at_most bound) (v ∷ vs)) (none_left bound (v ∷ vs) old) ∙ all_old bound (v ∷ vs) old))
    (λ e.
    ap (λ ws. v ∷ ws) (split bound vs h.1)
    ∙ sym ((λ i. cond (not (e i)) (v ∷ left_by bound vs) (left_by bound vs) ++ cond (e i) (v ∷ filter (is_at_most bound) vs) (filter (is_at_most bound) vs))))

pub length_append : {X : Type 0} (xs ys : List X) → length (xs ++ ys) ≡ length xs + length ys
length_append [] ys = omega arith
length_append (x ∷ xs) ys = let e : length (xs ++ ys) ≡ length xs + length ys = length_append xs ys in omega (arith, e)

pub taken : {X : Type 0} (vs xs ys : List X) → vs ≡ xs ++ ys → take (length xs) vs ≡ xs
taken vs xs ys e = ap (take (length xs)) e ∙ take-append_seam xs ys

pub got_behind : {X : Type 0} (xs ys : List X) → slice_get (xs ++ ys) (length xs) ≡ slice_get ys 0
got_behind [] ys = refl
got_behind (x ∷ xs) ys = got_behind xs ys

pub find_got : {X : Type 0} (p : X → Bool) (xs : List X) → slice_get (filter p xs) 0 ≡ find p xs
find_got p [] = refl
find_got p (x ∷ xs) = go (p x) (find_got p xs)
  where
    go : (b : Bool) → slice_get (filter p xs) 0 ≡ find p xs → slice_get (cond b (x ∷ filter p xs) (filter p xs)) 0 ≡ cond b (Some x) (find p xs)
    go true e = refl
    go false e = e

-- so many stand in front
pub kept_left : (bound : ℕ) (vs : List Version) → IsChain vs → take (length (left_by bound vs)) vs ≡ left_by bound vs
kept_left bound vs h = taken vs (left_by bound vs) (filter (is_at_most bound) vs) (split bound vs h)

-- the first behind them is the newest at the bound
pub kept_first : (bound : ℕ) (vs : List Version) → IsChain vs → slice_get vs (length (left_by bound vs)) ≡ find (is_at_most bound) vs
kept_first bound vs h = ap (λ ws. slice_get ws (length (left_by bound vs))) (split bound vs h) ∙ got_behind (left_by bound vs) (filter (is_at_most bound) vs) ∙ find_got (is_at_most bound) vs

pub kept_sum : (bound : ℕ) (vs : List Version) → IsChain vs → length vs ≡ length (left_by bound vs) + count_by (is_at_most bound) vs
kept_sum bound vs h = ap length (split bound vs h) ∙ length_append (left_by bound vs) (filter (is_at_most bound) vs) ∙ ap (λ n. length (left_by bound vs) + n) (length-filter (is_at_most bound) vs)

pub each_front : {X : Type 0} (P : X → Type 0) (xs ys : List X) → Each P (xs ++ ys) → Each P xs
each_front P [] ys h = tt
each_front P (x ∷ xs) ys h = (h.0, each_front P xs ys h.1)

pub numbered_front : (s : Stamp) (xs ys : List Version) → FallsTo s (xs ++ ys) → FallsTo s xs
numbered_front (Written w) xs ys h = each_front (λ v. IsSome (number_in v.stamp)) xs ys h
numbered_front (Numbered number by) xs ys h = each_front (IsBelow number) xs ys h

-- a front of a chain is a chain
pub chain_front : (xs ys : List Version) → IsChain (xs ++ ys) → IsChain xs
chain_front [] ys h = tt
chain_front (x ∷ xs) ys h = (numbered_front x.stamp xs ys h.0, chain_front xs ys h.1)

pub left_is_chain : (bound : ℕ) (vs : List Version) → IsChain vs → IsChain (left_by bound vs)
left_is_chain bound vs h = chain_front (left_by bound vs) (filter (is_at_most bound) vs) (subst IsChain (split bound vs h) h)

pub not_open_image : (by : Writer) (vs : List Version) → IsChain vs → is_open_by by vs ≡ false → image_by by vs ≡ None
not_open_image by vs h e = ap (option_map (λ v. v.image)) (not_open by vs h e)

pub unopened : (by : Writer) (vs : List Version) → IsChain vs → OnFalse (is_open_by by vs) (image_by by vs ≡ None)
unopened by vs h = go (is_open_by by vs) (not_open_image by vs h)
  where
    go : (b : Bool) → (b ≡ false → image_by by vs ≡ None) → OnFalse b (image_by by vs ≡ None)
    go true f = tt
    go false f = f refl
