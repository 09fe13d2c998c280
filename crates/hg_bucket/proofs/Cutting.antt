-- A cut of a record: its chain is cut, and what that hands out becomes the oldest image.
use Rattle.std.proofs.Common.{◌≡◌, ℕ, ◌+◌, ◌<◌, ◌≤◌, List, [], ◌∷◌, ◌++◌, length, Bool, true, false, Option, Some, None, refl, sym, ap, ◌∙◌, cond, subst, map, not, arith}
use Rattle.std.specs.Prelude.{IsTrue, is_some, filter, find, count_by, option_map, option_and_then, option_to_list, nat_le, ⊤}
use Rattle.std.specs.Option.{option_or}
use Rattle.std.proofs.lemmas.Option.{none-some, same_Some}
use Rattle.std.proofs.lemmas.Bool.Decides.{nat_tests}
use Rattle.std.proofs.lemmas.List.Sums.{sum_by-cons}
use Rattle.hg_base.specs.declared.image.Image.{Image}
use Rattle.hg_base.specs.Lists.{Each}
use Rattle.hg_chains.specs.declared.version.Stamp.{Stamp}
use Rattle.hg_chains.specs.declared.version.Stamp.TheVariants.{Written, Numbered}
use Rattle.hg_chains.specs.declared.version.Version.{Version}
use Rattle.hg_chains.specs.Versions as chain
use Rattle.hg_space.specs.Places.{Oldest}
use Rattle.hg_bucket.specs.BucketModel.{Kept, is_at_most, survivor, cut_at}
use Rattle.hg_bucket.specs.Parts.{kept, kept_as, oldest, whole, settled, IsOver, IsRow}
use Rattle.hg_bucket.proofs.Reading.{at_most_kept}
use Rattle.hg_bucket.proofs.Bare.{whole_sum}

abbrev pub behind : Oldest → List Kept
behind im = option_to_list (option_map oldest im)

abbrev pub over : ℕ → Kept → Bool
over bound v = not (is_at_most bound v)

-- ---- of a chain and what stands behind it

pub filter_behind : (bound : ℕ) (vs : List Version) (im : Oldest) → filter (over bound) (whole vs im) ≡ map kept (chain.left_by bound vs) ++ filter (over bound) (behind im)
filter_behind bound [] im = refl
filter_behind bound (v ∷ vs) im = go (is_at_most bound (kept v)) (chain.is_at_most bound v) (at_most_kept bound v.stamp v.image) (filter_behind bound vs im)
  where
    go : (a b : Bool) → a ≡ b → filter (over bound) (whole vs im) ≡ map kept (chain.left_by bound vs) ++ filter (over bound) (behind im) →
        cond (not a) (kept v ∷ filter (over bound) (whole vs im)) (filter (over bound) (whole vs im)) ≡ map kept
        (cond (not b) (v ∷ chain.left_by bound vs) (chain.left_by bound vs)) ++ filter (over bound) (behind im)
    go true true e rest = rest
    go false false e rest = ap (λ ws. kept v ∷ ws) rest
    go true false e rest = absurd cc
    go false true e rest = absurd cc

pub find_behind : (bound : ℕ) (vs : List Version) (im : Oldest) → find (is_at_most bound) (whole vs im) ≡ option_or (option_map kept (find (chain.is_at_most bound) vs))
    (find (is_at_most bound) (behind im))
find_behind bound [] im = refl
find_behind bound (v ∷ vs) im = go (is_at_most bound (kept v)) (chain.is_at_most bound v) (at_most_kept bound v.stamp v.image) (find_behind bound vs im)
  where
    go : (a b : Bool) → a ≡ b → find (is_at_most bound) (whole vs im) ≡ option_or (option_map kept (find (chain.is_at_most bound) vs)) (find (is_at_most bound) (behind im)) →
        cond a (Some (kept v)) (find (is_at_most bound) (whole vs im)) ≡ option_or (option_map kept (cond b (Some v) (find (chain.is_at_most bound) vs))) (find (is_at_most bound) (behind im))
    go true true e rest = refl
    go false false e rest = rest
    go true false e rest = absurd cc
    go false true e rest = absurd cc

-- what is found passes, and what is so of each is so of it
pub found_is : {X : Type 0} (P : X → Type 0) (p : X → Bool) (xs : List X) (x : X) → Each P xs → find p xs ≡ Some x → P x × (p x ≡ true)
found_is P p [] x h e = absurd (none-some x e)
found_is P p (y ∷ xs) x h e = go (p y) refl e (found_is P p xs x h.1)
  where
    go : (b : Bool) → p y ≡ b → cond b (Some y) (find p xs) ≡ Some x → (find p xs ≡ Some x → P x × (p x ≡ true)) → P x × (p x ≡ true)
    go true k e rest = let same : y ≡ x = same_Some y x e in (subst P same h.0, ap p (sym same) ∙ k)
    go false k e rest = rest e

-- ---- where the chain has no version at the bound, nothing changes

pub oldest_stays : (bound : ℕ) (im : Oldest) → IsRow im → filter (over bound) (behind im) ++ survivor (find (is_at_most bound) (behind im)) ≡ behind im
oldest_stays bound None row = refl
oldest_stays bound (Some p) row = go (nat_le p.0 bound)
  where
    kept_row : cond (is_some p.1.row) (oldest p ∷ []) [] ≡ oldest p ∷ []
    kept_row = ap (λ b. cond b (oldest p ∷ []) []) row

    go : (b : Bool) → cond (not b) (oldest p ∷ []) [] ++ survivor (cond b (Some (oldest p)) None) ≡ oldest p ∷ []
    go true = kept_row
    go false = refl

pub append_assoc : {X : Type 0} (xs ys zs : List X) → (xs ++ ys) ++ zs ≡ xs ++ (ys ++ zs)
append_assoc [] ys zs = refl
append_assoc (x ∷ xs) ys zs = ap (λ ws. x ∷ ws) (append_assoc xs ys zs)

-- ---- where it has one, that is the newest at the bound, and the oldest image goes

pub below_goes : (bound n : ℕ) (im : Oldest) (w : Image) → IsTrue (nat_le n bound) → ((p : ℕ × Image) → im ≡ Some p → p.0 < n) → filter (over bound) (behind im) ≡ []
below_goes bound n None w at below = refl
below_goes bound n (Some p) w at below =
    let less = below p refl in
    let le : IsTrue (nat_le p.0 bound) = grind (arith, nat_tests, less, at) in
    ap (λ b. cond (not b) (oldest p ∷ []) []) le

pub survives : (n : ℕ) (image : Image) → survivor (Some (record { number = Some n; by = None; image = image })) ≡ behind (cond (is_some image.row) (Some (n, image)) None)
survives n image = go (is_some image.row)
  where
    go : (b : Bool) → cond b (oldest (n, image) ∷ []) [] ≡ behind (cond b (Some (n, image)) None)
    go true = refl
    go false = refl

abbrev pub CutIs : ℕ → List Version → Oldest → Type 0
CutIs bound vs im = cut_at bound (whole vs im) ≡ whole (chain.left_by bound vs) (settled (chain.oldest_at bound vs) im)

pub cut_is : (bound : ℕ) (vs : List Version) (im : Oldest) → Each (λ v. IsOver v.stamp im) vs → IsRow im → CutIs bound vs im
cut_is bound vs im overs row =
    (λ i. filter_behind bound vs im i ++ survivor (find_behind bound vs im i))
    ∙ append_assoc (map kept (chain.left_by bound vs)) (filter (over bound) (behind im))
    (survivor (option_or (option_map kept (find (chain.is_at_most bound) vs)) (find (is_at_most bound) (behind im))))
    ∙ ap (λ ws. map kept (chain.left_by bound vs) ++ ws) (go (find (chain.is_at_most bound) vs) refl)
  where
    one : (s : Stamp) (image : Image) → IsOver s im → chain.has_at_most bound s ≡ true →
        filter (over bound) (behind im) ++ survivor (Some (kept_as s image)) ≡ behind (settled (option_map (λ n. (n, image)) (chain.number_in s)) im)
    one (Written w) image o at = absurd (let k = at in cc)
    one (Numbered n w) image o at = (λ i. below_goes bound n im image at below i ++ survivor (Some (record { number = Some n; by = None; image = image }))) ∙ survives n image
      where
        below : (p : ℕ × Image) → im ≡ Some p → p.0 < n
        below p e = subst (IsOver (Numbered n w)) e o

    go : (o : Option Version) → find (chain.is_at_most bound) vs ≡ o →
        filter (over bound) (behind im) ++ survivor (option_or (option_map kept o) (find (is_at_most bound) (behind im))) ≡ behind (settled (option_and_then chain.numbered_image o) im)
    go None e = oldest_stays bound im row
    go (Some v) e = let f = found_is (λ v. IsOver v.stamp im) (chain.is_at_most bound) vs v overs e in one v.stamp v.image f.0 f.1

-- ---- what stays is over what has become the oldest image, and that is a row

pub over_settled : (n bound : ℕ) (image : Image) (s : Stamp) → IsTrue (nat_le n bound) → chain.has_at_most bound s ≡ false → IsOver s (settled (Some (n, image)) None)
over_settled n bound image s at apart = go (is_some image.row) s apart
  where
    go : (b : Bool) (s : Stamp) → chain.has_at_most bound s ≡ false → IsOver s (cond b (Some (n, image)) None)
    go true (Written w) k = tt
    go true (Numbered m w) k = grind (arith, nat_tests, at, k)
    go false (Written w) k = tt
    go false (Numbered m w) k = tt

pub kept_over : (P : Version → Type 0) (Q : Version → Type 0) (p : Version → Bool) (vs : List Version) → ((v : Version) → P v → p v ≡ false → Q v) → Each P vs → Each Q (filter (λ v. not (p v)) vs)
kept_over P Q p [] f h = tt
kept_over P Q p (v ∷ vs) f h = go (p v) refl (kept_over P Q p vs f h.1)
  where
    go : (b : Bool) → p v ≡ b → Each Q (filter (λ v. not (p v)) vs) → Each Q (cond (not b) (v ∷ filter (λ v. not (p v)) vs) (filter (λ v. not (p v)) vs))
    go true k rest = rest
    go false k rest = (f v h.0 k, rest)

pub cut_over : (bound : ℕ) (vs : List Version) (im : Oldest) → Each (λ v. IsOver v.stamp im) vs → Each (λ v. IsOver v.stamp (settled (chain.oldest_at bound vs) im)) (chain.left_by bound vs)
cut_over bound vs im overs = go (find (chain.is_at_most bound) vs) refl
  where
    one : (s : Stamp) (image : Image) → chain.has_at_most bound s ≡ true → (t : Stamp) → chain.has_at_most bound t ≡ false → IsOver t (settled (option_map (λ n. (n, image)) (chain.number_in s)) im)
    one (Written w) image at t k = absurd (let j = at in cc)
    one (Numbered n w) image at t k = over_settled n bound image t at k

    go : (o : Option Version) → find (chain.is_at_most bound) vs ≡ o → Each (λ v. IsOver v.stamp (settled (option_and_then chain.numbered_image o) im)) (chain.left_by bound vs)
    go None e = kept_over (λ v. IsOver v.stamp im) (λ v. IsOver v.stamp im) (chain.is_at_most bound) vs (λ v h k. h) overs
    go (Some v) e =
        let f = found_is (λ v. IsOver v.stamp im) (chain.is_at_most bound) vs v overs e in
        kept_over (λ v. IsOver v.stamp im) (λ u. IsOver u.stamp (settled (chain.numbered_image v) im)) (chain.is_at_most bound) vs (λ u h k. one v.stamp v.image f.1 u.stamp k) overs

pub cut_row : (bound : ℕ) (vs : List Version) (im : Oldest) → IsRow im → IsRow (settled (chain.oldest_at bound vs) im)
cut_row bound vs im row = go (chain.oldest_at bound vs)
  where
    one : (p : ℕ × Image) (b : Bool) → is_some p.1.row ≡ b → IsRow (cond b (Some p) None)
    one p true k = k
    one p false k = tt

    go : (o : Oldest) → IsRow (settled o im)
    go None = row
    go (Some p) = one p (is_some p.1.row) refl

-- ---- how many go

pub split_count : (p : Version → Bool) (vs : List Version) → length (filter (λ v. not (p v)) vs) + count_by p vs ≡ length vs
split_count p [] = refl
split_count p (v ∷ vs) = go (p v) refl (split_count p vs)
  where
    go : (b : Bool) → p v ≡ b → length (filter (λ v. not (p v)) vs) + count_by p vs ≡ length vs →
        length (cond (not b) (v ∷ filter (λ v. not (p v)) vs) (filter (λ v. not (p v)) vs)) + count_by p (v ∷ vs) ≡ length (v ∷ vs)
    go true k rest = let one : Path ℕ (cond (p v) 1 0) 1 = ap (λ b. cond {A = ℕ} b 1 0) k in omega (arith, sum_by-cons (λ x. cond {A = ℕ} (p x) 1 0) v vs, one, rest)
    go false k rest = let none : Path ℕ (cond (p v) 1 0) 0 = ap (λ b. cond {A = ℕ} b 1 0) k in omega (arith, sum_by-cons (λ x. cond {A = ℕ} (p x) 1 0) v vs, none, rest)

pub found_counts : (p : Version → Bool) (vs : List Version) (v : Version) → find p vs ≡ Some v → 1 ≤ count_by p vs
found_counts p [] v e = absurd (none-some v e)
found_counts p (x ∷ vs) v e = go (p x) refl e (found_counts p vs v)
  where
    go : (b : Bool) → p x ≡ b → cond b (Some x) (find p vs) ≡ Some v → (find p vs ≡ Some v → 1 ≤ count_by p vs) → 1 ≤ count_by p (x ∷ vs)
    go true k e rest = let one : Path ℕ (cond (p x) 1 0) 1 = ap (λ b. cond {A = ℕ} b 1 0) k in omega (arith, sum_by-cons (λ x. cond {A = ℕ} (p x) 1 0) x vs, one)
    go false k e rest = let more = rest e in omega (arith, sum_by-cons (λ x. cond {A = ℕ} (p x) 1 0) x vs, more)

pub none_goes : (p : Version → Bool) (vs : List Version) → find p vs ≡ None → filter (λ v. not (p v)) vs ≡ vs
none_goes p [] e = refl
none_goes p (v ∷ vs) e = go (p v) e (none_goes p vs)
  where
    go : (b : Bool) → cond b (Some v) (find p vs) ≡ None → (find p vs ≡ None → filter (λ v. not (p v)) vs ≡ vs) → cond (not b) (v ∷ filter (λ v. not (p v)) vs) (filter (λ v. not (p v)) vs) ≡ v ∷ vs
    go true e rest = absurd (none-some v (sym e))
    go false e rest = ap (λ ws. v ∷ ws) (rest e)

-- whether the chain has a version at the bound
pub none_at : (bound : ℕ) (vs : List Version) → chain.oldest_at bound vs ≡ None → chain.left_by bound vs ≡ vs
none_at bound vs h = go (find (chain.is_at_most bound) vs) refl h
  where
    has : (s : Stamp) (image : Image) → chain.has_at_most bound s ≡ true → option_map {U = ℕ × Image} (λ n. (n, image)) (chain.number_in s) ≡ None → ⊥
    has (Written w) image at k = let j = at in cc
    has (Numbered n w) image at k = let p : ℕ × Image = (n, image) in none-some p (sym k)

    go : (o : Option Version) → find (chain.is_at_most bound) vs ≡ o → option_and_then chain.numbered_image o ≡ None → chain.left_by bound vs ≡ vs
    go None e k = none_goes (chain.is_at_most bound) vs e
    go (Some v) e k = absurd (has v.stamp v.image (found_is (λ v. ⊤) (chain.is_at_most bound) vs v (all vs) e).1 k)
      where
        all : (vs : List Version) → Each (λ v. ⊤) vs
        all [] = tt
        all (v ∷ vs) = (tt, all vs)

pub some_at : (bound : ℕ) (vs : List Version) (newest : ℕ × Image) → chain.oldest_at bound vs ≡ Some newest → 1 ≤ count_by (chain.is_at_most bound) vs
some_at bound vs newest h = go (find (chain.is_at_most bound) vs) refl h
  where
    go : (o : Option Version) → find (chain.is_at_most bound) vs ≡ o → option_and_then chain.numbered_image o ≡ Some newest → 1 ≤ count_by (chain.is_at_most bound) vs
    go None e k = absurd (none-some newest k)
    go (Some v) e k = found_counts (chain.is_at_most bound) vs v e

pub one_image : (im : Oldest) → length (option_to_list im) ≡ cond {A = ℕ} (is_some im) 1 0
one_image None = refl
one_image (Some p) = refl

pub settled_one : (newest : ℕ × Image) (im : Oldest) → length (option_to_list (settled (Some newest) im)) + cond {A = ℕ} (is_some newest.1.row) 0 1 ≡ 1
settled_one newest im = go (is_some newest.1.row)
  where
    go : (b : Bool) → length (option_to_list (cond b (Some newest) None)) + cond {A = ℕ} b 0 1 ≡ 1
    go true = refl
    go false = refl

-- so many versions go
pub cut_gone : (bound : ℕ) (vs : List Version) (im : Oldest) (newest : ℕ × Image) (gone more : ℕ) → chain.oldest_at bound vs ≡ Some newest → gone ≡ chain.others_at bound vs →
    more ≡ cond {A = ℕ} (is_some im) 1 0 + cond {A = ℕ} (is_some newest.1.row) 0 1 → length (whole (chain.left_by bound vs) (settled (Some newest) im)) + (gone + more) ≡ length (whole vs im)
cut_gone bound vs im newest gone more h g m = omega (
  arith,
  g,
  m,
  some_at bound vs newest h,
  split_count (chain.is_at_most bound) vs,
  whole_sum (chain.left_by bound vs)
      (settled (Some newest) im),
  whole_sum vs im,
  one_image im,
  settled_one newest im,
)
