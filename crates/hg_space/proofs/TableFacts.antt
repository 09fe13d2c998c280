-- What the table says of records after a change of one bin, and while it is filled.
use Rattle.std.proofs.Common.{◌≡◌, ℕ, zero, suc, ◌+◌, ◌<◌, List, [], ◌∷◌, ◌++◌, map, take, drop, length, get_or, set, Bool, true, false, Option, Some, None, refl, sym, ap, ◌∙◌, cond, subst}
use Rattle.std.proofs.Common.{arith, add-one, drop-cons, ◌==◌}
use Rattle.std.specs.Map.{keys_of}
use Rattle.std.specs.List.{IsDistinct}
use Rattle.std.specs.List.Sorted.{IsStrictlySortedBy}
use Rattle.std.proofs.lemmas.Bool.Decides.{nat_tests}
use Rattle.std.proofs.lemmas.List.{length-set, get_or_default, get_or-set_same, get_or-set_other}
use Rattle.std.proofs.lemmas.Map.{lookup-none}
use Rattle.std.proofs.lemmas.Map.Entries.{none_past_head}
use Rattle.std.proofs.lemmas.Map.Keys.{IsDistinct-from_sorted}
use Rattle.hg_base.specs.declared.rid.Rid.{Rid}
use Rattle.hg_base.specs.History.{same_rid}
use Rattle.hg_base.specs.RidOrder.{rid_cmp}
use Rattle.hg_base.proofs.HistoryFacts.{same_rid_equal}
use Rattle.hg_base.proofs.RidOrder.{at_rid, is_same, rids_equiv}
use Rattle.hg_space.specs.declared.slot.Slot.{Slot}
use Rattle.hg_space.specs.declared.slots.Finding.{Finding}
use Rattle.hg_space.specs.Index.{place_of}
use Rattle.hg_space.specs.Slots.{is_used, used_by, look_from, put_in, bin_of, look_at, Fits, StayFit, AreFaithful}
use Rattle.hg_space.proofs.IndexFacts.{Changed}

-- ---- one slot of a bin

set_split : {X : Type 0} (xs : List X) (i : ℕ) (y : X) → i < length xs → set xs i y ≡ take i xs ++ y ∷ drop (suc i) xs
set_split [] i y within = absurd (omega (arith, within))
set_split (x ∷ xs) zero y within = refl
set_split (x ∷ xs) (suc i) y within = ap (λ zs. x ∷ zs) (set_split xs i y (omega (arith, within)))

pub put_at : (r : Rid) (p i : ℕ) (bin all : List Slot) (d : Slot) → i < length bin → is_used (get_or bin i d) ≡ false → take i bin ++ put_in r p (drop i bin) ≡ all → set bin i (used_by r p) ≡ all
put_at r p i bin all d within free far =
    let s = get_or bin i d in
    let here : put_in r p (drop i bin) ≡ used_by r p ∷ drop (suc i) bin = ap (put_in r p) (drop-cons bin i d within) ∙
    ap (λ b. cond b (s ∷ put_in r p (drop (suc i) bin)) (used_by r p ∷ drop (suc i) bin)) free in
    set_split bin i (used_by r p) within ∙ ap (λ zs. take i bin ++ zs) (sym here) ∙ far

pub get_mapped : {X : Type 0} (f : X → X) (xs : List X) (i : ℕ) (d : X) → get_or (map f (take i xs) ++ drop i xs) i d ≡ get_or xs i d
get_mapped f [] zero d = refl
get_mapped f [] (suc i) d = refl
get_mapped f (x ∷ xs) zero d = refl
get_mapped f (x ∷ xs) (suc i) d = get_mapped f xs i d

pub set_mapped : {X : Type 0} (f : X → X) (xs : List X) (i : ℕ) (y d : X) → i < length xs → y ≡ f (get_or xs i d) →
    set (map f (take i xs) ++ drop i xs) i y ≡ map f (take (suc i) xs) ++ drop (suc i) xs
set_mapped f [] i y d within h = absurd (omega (arith, within))
set_mapped f (x ∷ xs) zero y d within h = ap (λ z. z ∷ xs) h
set_mapped f (x ∷ xs) (suc i) y d within h = ap (λ zs. f x ∷ zs) (set_mapped f xs i y d (omega (arith, within)) h)

pub mapped_at : {X : Type 0} (f : X → X) (bin xs : List X) (i : ℕ) (y d : X) → i < length xs → y ≡ f (get_or bin i d) → bin ≡ map f (take i xs) ++ drop i xs →
    set bin i y ≡ map f (take (i + 1) xs) ++ drop (i + 1) xs
mapped_at f bin xs i y d within h far = rw add-one (by (suc i) refl)
  where
    by : (n : ℕ) → n ≡ suc i → set bin i y ≡ map f (take n xs) ++ drop n xs
    by n e = subst (λ k. set bin i y ≡ map f (take k xs) ++ drop k xs) (sym e) (done)
      where
        done : set bin i y ≡ map f (take (suc i) xs) ++ drop (suc i) xs
        done = ap (λ zs. set zs i y) far ∙ set_mapped f xs i y d within (h ∙ ap (λ zs. f (get_or zs i d)) far ∙ ap f (get_mapped f xs i d))

-- ---- one bin of the table

pub bin_in_set : (ls : List (List Slot)) (q : Rid) (i : ℕ) (m : List Slot) (w : Option ℕ) → i < length ls → bin_of (length ls) q ≡ i → Fits (look_from false q m) w → Fits (look_at (set ls i m) q) w
bin_in_set ls q i m w within at h =
    let now : get_or (set ls i m) (bin_of (length (set ls i m)) q) [] ≡ m = ap (λ n. get_or (set ls i m) (bin_of n q) []) (length-set ls i m) ∙
    ap (λ n. get_or (set ls i m) n []) at ∙ get_or-set_same ls i m [] within in
    subst (λ bin. Fits (look_from false q bin) w) (sym now) h

pub fits_in_set : (ls : List (List Slot)) (q : Rid) (i : ℕ) (l m : List Slot) (v w : Option ℕ) → i < length ls → l ≡ get_or ls i l → bin_of (length ls) q ≡ i →
    (Fits (look_from false q l) v → Fits (look_from false q m) w) → Fits (look_at ls q) v → Fits (look_at (set ls i m) q) w
fits_in_set ls q i l m v w within read at step h =
    let was : get_or ls (bin_of (length ls) q) [] ≡ l = ap (λ n. get_or ls n []) at ∙ get_or_default ls i [] l within ∙ sym read in
    bin_in_set ls q i m w within at (step (subst (λ bin. Fits (look_from false q bin) v) was h))

pub fits_apart : (ls : List (List Slot)) (q : Rid) (i : ℕ) (m : List Slot) (w : Option ℕ) → (bin_of (length ls) q ≡ i → ⊥) → Fits (look_at ls q) w → Fits (look_at (set ls i m) q) w
fits_apart ls q i m w apart h =
    let now : get_or (set ls i m) (bin_of (length (set ls i m)) q) [] ≡ get_or ls (bin_of (length ls) q) [] = ap (λ n. get_or (set ls i m) (bin_of n q) []) (length-set ls i m) ∙
    get_or-set_other ls i (bin_of (length ls) q) m [] apart in
    subst (λ bin. Fits (look_from false q bin) w) (sym now) h

-- where what a bin says of the others stays, so does what the table says
pub others_in_set : (ls : List (List Slot)) (r : Rid) (i : ℕ) (l m : List Slot) → i < length ls → l ≡ get_or ls i l →
    ((q : Rid) (w : Option ℕ) → same_rid r q ≡ false → Fits (look_from false q l) w → Fits (look_from false q m) w) → StayFit r ls (set ls i m)
others_in_set ls r i l m within read step q w apart h = go (bin_of (length ls) q == i) refl
  where
    go : (b : Bool) → (bin_of (length ls) q == i) ≡ b → Fits (look_at (set ls i m) q) w
    go true e = fits_in_set ls q i l m w w within read (grind (arith, nat_tests, e)) (step q w apart) h
    go false e = fits_apart ls q i m w (λ is. grind (arith, nat_tests, e, is)) h

-- a table without the record's bin says nothing of it
pub no_bin : (ls : List (List Slot)) (r : Rid) (w : Option ℕ) → (bin_of (length ls) r < length ls → ⊥) → Fits (look_at ls r) w
no_bin ls r w h = subst (λ bin. Fits (look_from false r bin) w) (sym (past ls (bin_of (length ls) r) h)) tt
  where
    past : (xs : List (List Slot)) (i : ℕ) → (i < length xs → ⊥) → get_or xs i [] ≡ []
    past [] i k = refl
    past (x ∷ xs) zero k = absurd (k (omega arith))
    past (x ∷ xs) (suc i) k = past xs i (λ less. k (omega (arith, less)))

-- ---- a table that is filled from the entries that are left

-- of a record that is left nothing is said that isn't so of any record; of the others what is said is so
abbrev pub Says : Finding → Option ℕ → Option ℕ → Type 0
Says f None w = Fits f w
Says f (Some p) w = Fits f None × (w ≡ Some p)

pub says_at_first : (f : Finding) (w : Option ℕ) → Fits f None → Says f w w
says_at_first f None h = h
says_at_first f (Some p) h = (h, refl)

pub none_behind : (r : Rid) (p : ℕ) (left : List (Rid × ℕ)) → IsStrictlySortedBy rid_cmp (keys_of ((r, p) ∷ left)) → place_of left r ≡ None
none_behind r p left sorted = lookup-none (same_rid r) left (none_past_head rids_equiv r (r, p) left distinct (is_same r))
  where
    distinct : IsDistinct same_rid (keys_of ((r, p) ∷ left))
    distinct = subst (λ (eq : Rid → Rid → Bool). IsDistinct eq (keys_of ((r, p) ∷ left))) (λ i a b. at_rid a b i) (IsDistinct-from_sorted rid_cmp (keys_of ((r, p) ∷ left)) sorted)

pub said_first : (ls : List (List Slot)) (left rest : List (Rid × ℕ)) (r : Rid) (p : ℕ) (w : Option ℕ) → left ≡ (r, p) ∷ rest → Says (look_at ls r) (place_of left r) w → Fits (look_at ls r) None
said_first ls left rest r p w e said =
    let there : place_of left r ≡ Some p = ap (λ es. place_of es r) e ∙ ap (λ b. cond b (Some p) (place_of rest r)) (is_same r) in
    (subst (λ o. Says (look_at ls r) o w) there said).0

pub filled : (ls ms : List (List Slot)) (es left : List (Rid × ℕ)) (r : Rid) (p : ℕ) → IsStrictlySortedBy rid_cmp (keys_of ((r, p) ∷ left)) → Fits (look_at ms r) (Some p) →
    StayFit r ls ms → ((q : Rid) → Says (look_at ls q) (place_of ((r, p) ∷ left) q) (place_of es q)) → (q : Rid) → Says (look_at ms q) (place_of left q) (place_of es q)
filled ls ms es left r p sorted here others said q = go (same_rid q r) refl
  where
    said_there : Says (look_at ls r) (Some p) (place_of es r)
    said_there = subst (λ o. Says (look_at ls r) o (place_of es r)) (ap (λ b. cond b (Some p) (place_of left r)) (is_same r)) (said r)

    stays : (o : Option ℕ) → same_rid r q ≡ false → Says (look_at ls q) o (place_of es q) → Says (look_at ms q) o (place_of es q)
    stays None apart h = others q (place_of es q) apart h
    stays (Some n) apart h = (others q None apart h.0, h.1)

    go : (b : Bool) → same_rid q r ≡ b → Says (look_at ms q) (place_of left q) (place_of es q)
    go true e = subst (λ z. Says (look_at ms z) (place_of left z) (place_of es z)) (sym (same_rid_equal q r e))
        (subst (λ o. Says (look_at ms r) o (place_of es r)) (sym (none_behind r p left sorted)) (subst (Fits (look_at ms r)) (sym said_there.1) here))
    go false e = stays (place_of left q) (rids_equiv.symm r q ∙ e) (subst (λ o. Says (look_at ls q) o (place_of es q)) (ap (λ b. cond b (Some p) (place_of left q)) e) (said q))

-- ---- the table and an index that changes by one record

pub faithful_again : (ls ms : List (List Slot)) (es fs : List (Rid × ℕ)) (r : Rid) (w : Option ℕ) → Changed es fs r w → Fits (look_at ms r) w → StayFit r ls ms → AreFaithful ls es → AreFaithful ms fs
faithful_again ls ms es fs r w changed here others h q = go (same_rid r q) refl
  where
    go : (b : Bool) → same_rid r q ≡ b → Fits (look_at ms q) (place_of fs q)
    go true e = subst (Fits (look_at ms q)) (sym (changed q ∙ ap (λ c. cond c w (place_of es q)) e)) (subst (λ z. Fits (look_at ms z) w) (same_rid_equal r q e) here)
    go false e = subst (Fits (look_at ms q)) (sym (changed q ∙ ap (λ c. cond c w (place_of es q)) e)) (others q (place_of es q) e (h q))
