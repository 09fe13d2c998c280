-- Lists of records that ascend.
use Rattle.std.proofs.Common.{◌≡◌, ◌<◌, ◌⊎◌, ◌∙◌, zero, suc, List, [], ◌∷◌, fold, true, false, refl, sym, ap, subst, inl, inr, arith}
use Rattle.std.specs.Prelude.{⊤, Contains}
use Rattle.std.specs.List.{list_any}
use Rattle.std.proofs.lemmas.Bool.{false≢true}
use Rattle.std.proofs.lemmas.Bool.Decides.{nat_tests}
use Rattle.hg_base.specs.declared.rid.Rid.{Rid}
use Rattle.hg_base.specs.Lists.{Each}
use Rattle.hg_base.specs.History.{same_rid}
use Rattle.hg_base.proofs.ListFacts.{cases}
use Rattle.hg_base.proofs.HistoryFacts.{same_rid_equal}
use Rattle.hg_dump.specs.Rows.{AreAscending, Kept, is_before, placed}

-- ---- the order

pub before_on : (a b c : Rid) → is_before a b ≡ true → is_before b c ≡ true → is_before a c ≡ true
before_on a b c h k = grind (arith, nat_tests, h, k)

pub not_itself : (a : Rid) → is_before a a ≡ true → ⊥
not_itself a h = absurd (let bad : 0 < 0 = grind (arith, nat_tests, h) in omega (arith, bad))

pub not_both : (a b : Rid) → is_before a b ≡ true → is_before b a ≡ true → ⊥
not_both a b h k = not_itself a (before_on a b a h k)

other_way : (r q : Rid) → same_rid r q ≡ false → is_before r q ≡ false → is_before q r ≡ true
other_way r q h k = grind (arith, nat_tests, h, k)

-- ---- elements

pub contains_cases : {X : Type 0} (x : X) (xs : List X) (y : X) → Contains (x ∷ xs) y → (x ≡ y) ⊎ Contains xs y
contains_cases x xs y (zero, less, e) = inl e
contains_cases x xs y (suc k, less, e) = inr (k, omega (arith, less), e)

pub contains_first : {X : Type 0} (x : X) (xs : List X) → Contains (x ∷ xs) x
contains_first x xs = (0, omega arith, refl)

pub contains_later : {X : Type 0} (x : X) (xs : List X) (y : X) → Contains xs y → Contains (x ∷ xs) y
contains_later x xs y (k, less, e) = (suc k, omega (arith, less), e)

pub contains_none : {X : Type 0} (y : X) → Contains [] y → ⊥
contains_none y (k, less, e) = omega (arith, less)

pub each_at : {X : Type 0} (P : X → Type 0) (xs : List X) (y : X) → Each P xs → Contains xs y → P y
each_at P [] y h k = absurd (contains_none y k)
each_at P (x ∷ xs) y h k = elim (contains_cases x xs y k) [
  | inl same ↦ subst P same h.0
  | inr later ↦ each_at P xs y h.1 later
]

pub each_of : {X : Type 0} (P : X → Type 0) (xs : List X) → ((x : X) → Contains xs x → P x) → Each P xs
each_of P [] h = tt
each_of P (x ∷ xs) h = (h x (contains_first x xs), each_of P xs (λ y k. h y (contains_later x xs y k)))

-- ---- lists that ascend: each element is before all later ones

abbrev pub IsSorted : List Rid → Type 0
IsSorted [] = ⊤
IsSorted (r ∷ rs) = Each (λ q. is_before r q ≡ true) rs × IsSorted rs

each_before : (r q : Rid) (rs : List Rid) → is_before r q ≡ true → Each (λ p. is_before q p ≡ true) rs → Each (λ p. is_before r p ≡ true) rs
each_before r q [] h k = tt
each_before r q (p ∷ rs) h k = (before_on r q p h k.0, each_before r q rs h k.1)

each_placed : (P : Rid → Type 0) (rs : List Rid) (r : Rid) → Each P rs → P r → Each P (placed rs r)
each_placed P [] r h p = (p, tt)
each_placed P (q ∷ qs) r h p = cases (same_rid r q)
    (λ e. rw e h)
    (λ e. cases (is_before r q) (λ f. rw (e, f) (p, h)) (λ f. rw (e, f) (h.0, each_placed P qs r h.1 p)))

pub placed_sorted : (rs : List Rid) (r : Rid) → IsSorted rs → IsSorted (placed rs r)
placed_sorted [] r h = (tt, tt)
placed_sorted (q ∷ qs) r h = cases (same_rid r q)
    (λ e. rw e h)
    (λ e. cases (is_before r q)
    (λ f. rw (e, f) ((f, each_before r q qs f h.0), h))
    (λ f. rw (e, f) (each_placed (λ p. is_before q p ≡ true) qs r h.0 (other_way r q e f), placed_sorted qs r h.1)))

pub placed_there : (rs : List Rid) (r : Rid) → Contains (placed rs r) r
placed_there [] r = contains_first r []
placed_there (q ∷ qs) r = cases (same_rid r q)
    (λ e. rw e (subst (λ x. Contains (q ∷ qs) x) (sym (same_rid_equal r q e)) (contains_first q qs)))
    (λ e. cases (is_before r q) (λ f. rw (e, f) (contains_first r (q ∷ qs))) (λ f. rw (e, f) (contains_later q (placed qs r) r (placed_there qs r))))

placed_keeps : (rs : List Rid) (r x : Rid) → Contains rs x → Contains (placed rs r) x
placed_keeps [] r x k = absurd (contains_none x k)
placed_keeps (q ∷ qs) r x k = cases (same_rid r q)
    (λ e. rw e k)
    (λ e. cases (is_before r q)
    (λ f. rw (e, f) (contains_later r (q ∷ qs) x k))
    (λ f. rw (e, f) (elim (contains_cases q qs x k) [
      | inl same ↦ subst (λ y. Contains (q ∷ placed qs r) y) same (contains_first q (placed qs r))
      | inr later ↦ contains_later q (placed qs r) x (placed_keeps qs r x later)
    ])))

pub fold_sorted : (rs all : List Rid) → IsSorted rs → IsSorted (fold placed rs all)
fold_sorted rs [] h = h
fold_sorted rs (r ∷ all) h = fold_sorted (placed rs r) all (placed_sorted rs r h)

fold_keeps : (rs all : List Rid) (x : Rid) → Contains rs x → Contains (fold placed rs all) x
fold_keeps rs [] x k = k
fold_keeps rs (r ∷ all) x k = fold_keeps (placed rs r) all x (placed_keeps rs r x k)

-- a record that is among all is in the list
pub fold_has : (rs all : List Rid) (x : Rid) → list_any (same_rid x) all ≡ true → Contains (fold placed rs all) x
fold_has rs [] x h = absurd (false≢true h)
fold_has rs (r ∷ all) x h = cases (same_rid x r)
    (λ e. fold_keeps (placed rs r) all x (subst (λ y. Contains (placed rs r) y) (sym (same_rid_equal x r e)) (placed_there rs r)))
    (λ e. fold_has (placed rs r) all x (rw e at h))

-- ---- rows with their records

abbrev pub AreSorted : List Kept → Type 0
AreSorted [] = ⊤
AreSorted (a ∷ rows) = Each (λ b. is_before a.rid b.rid ≡ true) rows × AreSorted rows

each_later : (a b : Kept) (rows : List Kept) → is_before a.rid b.rid ≡ true → Each (λ c. is_before b.rid c.rid ≡ true) rows → Each (λ c. is_before a.rid c.rid ≡ true) rows
each_later a b [] h k = tt
each_later a b (c ∷ rows) h k = (before_on a.rid b.rid c.rid h k.0, each_later a b rows h k.1)

pub sorted : (rows : List Kept) → AreAscending rows → AreSorted rows
sorted [] h = tt
sorted (a ∷ []) h = (tt, tt)
sorted (a ∷ b ∷ more) h = let later = sorted (b ∷ more) h.1 in ((h.0, each_later a b more h.0 later.0), later)

pub ascending : (rows : List Kept) → AreSorted rows → AreAscending rows
ascending [] h = tt
ascending (a ∷ []) h = tt
ascending (a ∷ b ∷ more) h = (h.0.0, ascending (b ∷ more) h.1)

-- ---- lists that ascend and have the same elements are the same

first_least : (a x : Kept) (rows : List Kept) → AreSorted (a ∷ rows) → Contains (a ∷ rows) x → (a ≡ x) ⊎ (is_before a.rid x.rid ≡ true)
first_least a x rows h k = elim (contains_cases a rows x k) [
  | inl same ↦ inl same
  | inr later ↦ inr (each_at (λ b. is_before a.rid b.rid ≡ true) rows x h.0 later)
]

same_first : (a b : Kept) → (a ≡ b) ⊎ (is_before a.rid b.rid ≡ true) → (b ≡ a) ⊎ (is_before b.rid a.rid ≡ true) → a ≡ b
same_first a b (inl same) k = same
same_first a b (inr less) (inl same) = sym same
same_first a b (inr less) (inr more) = absurd (not_both a.rid b.rid less more)

rest_has : (a x : Kept) (xs ys : List Kept) → AreSorted (a ∷ xs) → Contains xs x → Contains (a ∷ ys) x → Contains ys x
rest_has a x xs ys h k m = elim (contains_cases a ys x m) [
  | inr later ↦ later
  | inl same ↦ absurd (not_itself a.rid (subst (λ y. is_before a.rid y.rid ≡ true) (sym same) (each_at (λ b. is_before a.rid b.rid ≡ true) xs x h.0 k)))
]

pub same_rows : (xs ys : List Kept) → AreSorted xs → AreSorted ys → ((x : Kept) → Contains xs x → Contains ys x) → ((y : Kept) → Contains ys y → Contains xs y) → xs ≡ ys
same_rows [] [] h k there back = refl
same_rows [] (b ∷ ys) h k there back = absurd (contains_none b (back b (contains_first b ys)))
same_rows (a ∷ xs) [] h k there back = absurd (contains_none a (there a (contains_first a xs)))
same_rows (a ∷ xs) (b ∷ ys) h k there back =
    let same : a ≡ b = same_first a b (first_least a b xs h (back b (contains_first b ys))) (first_least b a ys k (there a (contains_first a xs))) in
    let ordered : AreSorted (a ∷ ys) = subst (λ c. AreSorted (c ∷ ys)) (sym same) k in
    ap (λ c. c ∷ xs) same ∙ ap (λ rows. b ∷ rows) (same_rows xs ys h.1 k.1
    (λ x m. rest_has a x xs ys h m (subst (λ c. Contains (c ∷ ys) x) (sym same) (there x (contains_later a xs x m))))
    (λ y m. rest_has a y ys xs ordered m (back y (contains_later b ys y m))))
