-- Lists by table, and where each record stands once it has entered one.
use Rattle.std.proofs.Common.{◌≡◌, ℕ, zero, suc, ◌<◌, ◌≤◌, List, [], ◌∷◌, ◌++◌, length, set, Result, Ok, Err, Bool, true, false, Some, refl, sym, ap, ◌∙◌, subst}
use Rattle.std.proofs.Common.{arith, slice_get, inl, inr, ◌⊎◌}
use Rattle.std.specs.Prelude.{Vec, slice_index_or, ◌==◌, OnErr}
use Rattle.std.specs.declared.alloc.Global.{Global}
use Rattle.std.proofs.lemmas.Bool.Decides.{nat_tests}
use Rattle.std.proofs.lemmas.Option.{none-some, same_Some, slice_get_within, slice_get-get_or}
use Rattle.hg_space.specs.declared.roster.Listed.{Listed}
use Rattle.hg_space.specs.declared.roster.Standing.{Standing}
use Rattle.hg_space.specs.Rosters.{list_of, lists_in, before, trimmed, StandsIn, StandsNowhere, standing_at, AreStanding}
use Rattle.hg_space.proofs.LinkFacts.{get_apart, get_same}

-- ---- without the empty lists at the end

before_list : {X : Type 0} (xs : List X) (ls : List (List X)) (t : ℕ) → list_of (before xs ls) t ≡ list_of (xs ∷ ls) t
before_list [] [] zero = refl
before_list [] [] (suc t) = refl
before_list [] (l ∷ ls) t = refl
before_list (x ∷ xs) ls t = refl

pub trimmed_list : {X : Type 0} (ls : List (List X)) (t : ℕ) → list_of (trimmed ls) t ≡ list_of ls t
trimmed_list [] t = refl
trimmed_list (l ∷ ls) zero = before_list l (trimmed ls) 0
trimmed_list (l ∷ ls) (suc t) = before_list l (trimmed ls) (suc t) ∙ trimmed_list ls t

pub trimmed_same : {X : Type 0} (ls ms : List (List X)) → ((t : ℕ) → list_of ls t ≡ list_of ms t) → trimmed ls ≡ trimmed ms
trimmed_same [] [] h = refl
trimmed_same [] (m ∷ ms) h = (λ i. before (h 0 i) (trimmed_same [] ms (λ t. h (suc t)) i))
trimmed_same (l ∷ ls) [] h = (λ i. before (h 0 i) (trimmed_same ls [] (λ t. h (suc t)) i))
trimmed_same (l ∷ ls) (m ∷ ms) h = (λ i. before (h 0 i) (trimmed_same ls ms (λ t. h (suc t)) i))

-- ---- what callers see of the lists

pub seen_list : (ls vs : List (List Listed)) (t : ℕ) → trimmed ls ≡ vs → list_of ls t ≡ list_of vs t
seen_list ls vs t view = sym (trimmed_list ls t) ∙ ap (λ v. list_of v t) view

pub seen_apart : (ls ms vs : List (List Listed)) (t : ℕ) → trimmed ls ≡ vs → list_of ms t ≡ list_of ls t → list_of (trimmed ms) t ≡ list_of vs t
seen_apart ls ms vs t view same = trimmed_list ms t ∙ same ∙ seen_list ls vs t view

-- ---- the lists themselves

pub list_there : (ls : List (Vec Listed Global)) (t : ℕ) (v : Vec Listed Global) → slice_get ls t ≡ Some v → list_of (lists_in ls) t ≡ v.items
list_there [] t v h = absurd (none-some v h)
list_there (l ∷ ls) zero v h = let e : l ≡ v = same_Some l v h in ap (λ (w : Vec Listed Global). w.items) e
list_there (l ∷ ls) (suc t) v h = list_there ls t v h

pub list_read : (ls : List (Vec Listed Global)) (t : ℕ) (v : Vec Listed Global) → t < length ls → v ≡ slice_index_or ls t v → list_of (lists_in ls) t ≡ v.items
list_read ls t v within read = list_there ls t v (slice_get-get_or ls t v within ∙ ap Some (sym read))

pub list_not_begun : (ls : List (Vec Listed Global)) (t : ℕ) → length ls ≤ t → list_of (lists_in ls) t ≡ []
list_not_begun [] t h = refl
list_not_begun (l ∷ ls) zero h = absurd (omega (arith, h))
list_not_begun (l ∷ ls) (suc t) h = list_not_begun ls t (omega (arith, h))

pub list_begun : (ls : List (Vec Listed Global)) (t at : ℕ) → at < length (list_of (lists_in ls) t) → t < length ls
list_begun [] t at h = absurd (omega (arith, h))
list_begun (l ∷ ls) zero at h = omega arith
list_begun (l ∷ ls) (suc t) at h = let k = list_begun ls t at h in omega (arith, k)

pub list_set : (ls : List (Vec Listed Global)) (t : ℕ) (v : Vec Listed Global) → t < length ls → list_of (lists_in (set ls t v)) t ≡ v.items
list_set ls t v within = list_there (set ls t v) t v (get_same ls t _ v (slice_get-get_or ls t v within))

pub list_set_apart : (ls : List (Vec Listed Global)) (t : ℕ) (v : Vec Listed Global) (u : ℕ) → (u ≡ t → ⊥) → list_of (lists_in (set ls t v)) u ≡ list_of (lists_in ls) u
list_set_apart [] t v u h = refl
list_set_apart (l ∷ ls) zero v zero h = absurd (h refl)
list_set_apart (l ∷ ls) zero v (suc u) h = refl
list_set_apart (l ∷ ls) (suc t) v zero h = refl
list_set_apart (l ∷ ls) (suc t) v (suc u) h = list_set_apart ls t v u (λ e. h (ap suc e))

-- one element more
pub list_more : (ls old : List (Vec Listed Global)) (t : ℕ) (l v : Vec Listed Global) (x : Listed) → t < length ls → l ≡ slice_index_or ls t l → v.items ≡ l.items ++ x ∷ [] →
    list_of (lists_in ls) t ≡ list_of (lists_in old) t → list_of (lists_in (set ls t v)) t ≡ list_of (lists_in old) t ++ x ∷ []
list_more ls old t l v x within read more same = list_set ls t v within ∙ more ∙ ap (λ xs. xs ++ x ∷ []) (sym (list_read ls t l within read) ∙ same)

-- a write of the same elements
pub set_same : (ls : List (Vec Listed Global)) (t : ℕ) (l v : Vec Listed Global) → t < length ls → l ≡ slice_index_or ls t l → v.items ≡ l.items → (u : ℕ) →
    list_of (lists_in (set ls t v)) u ≡ list_of (lists_in ls) u
set_same ls t l v within read same u = go (u == t) refl
  where
    go : (b : Bool) → (u == t) ≡ b → list_of (lists_in (set ls t v)) u ≡ list_of (lists_in ls) u
    go true e =
        let is : t ≡ u = grind (arith, nat_tests, e) in
        subst (λ w. list_of (lists_in (set ls t v)) w ≡ list_of (lists_in ls) w) is (list_set ls t v within ∙ same ∙ sym (list_read ls t l within read))
    go false e = list_set_apart ls t v u (λ is. grind (arith, nat_tests, e, is))

-- ---- a record at the end of a list

pub get_push : {X : Type 0} (xs : List X) (y e : X) (at : ℕ) → slice_get (xs ++ y ∷ []) at ≡ Some e → (slice_get xs at ≡ Some e) ⊎ ((at ≡ length xs) × (e ≡ y))
get_push [] y e zero h = inr (refl, let k = h in cc)
get_push [] y e (suc at) h = absurd (none-some e h)
get_push (x ∷ xs) y e zero h = inl h
get_push (x ∷ xs) y e (suc at) h = go (get_push xs y e at h)
  where
    go : (slice_get xs at ≡ Some e) ⊎ ((at ≡ length xs) × (e ≡ y)) → (slice_get xs at ≡ Some e) ⊎ ((suc at ≡ suc (length xs)) × (e ≡ y))
    go (inl k) = inl k
    go (inr k) = inr (ap suc k.0, k.1)

-- standings that were added to
abbrev pub Stay : List Standing → List Standing → Type 0
Stay old new = (p : ℕ) → p < length old → slice_get new p ≡ slice_get old p

pub entered : (ls ms : List (List Listed)) (old new : List Standing) (t : ℕ) (x : Listed) → AreStanding ls old → Stay old new → StandsNowhere ls x.place → x.place < length new
    → list_of ms t ≡ list_of ls t ++ x ∷ [] → ((u : ℕ) → (u ≡ t → ⊥) → list_of ms u ≡ list_of ls u)
    → AreStanding ms (set new x.place (standing_at t (length (list_of ls t))))
entered ls ms old new t x h stay nowhere within last others = λ u at e there. go u at e there (u == t) refl
  where
    as_before : (u at : ℕ) (e : Listed) → slice_get (list_of ls u) at ≡ Some e → slice_get (set new x.place (standing_at t (length (list_of ls t)))) e.place ≡ Some (standing_at u at)
    as_before u at e there =
        let was = h u at e there in
        get_apart new x.place e.place _ (λ same. nowhere u (e, ((at, there), same))) ∙ stay e.place (slice_get_within old e.place (standing_at u at) was) ∙ was

    here : (at : ℕ) (e : Listed) → (slice_get (list_of ls t) at ≡ Some e) ⊎ ((at ≡ length (list_of ls t)) × (e ≡ x)) →
        slice_get (set new x.place (standing_at t (length (list_of ls t)))) e.place ≡ Some (standing_at t at)
    here at e (inl there) = as_before t at e there
    here at e (inr is) =
        ap (λ (y : Listed). slice_get (set new x.place (standing_at t (length (list_of ls t)))) y.place) is.1
        ∙ get_same new x.place _ (standing_at t (length (list_of ls t))) (slice_get-get_or new x.place (standing_at 0 0) within)
        ∙ ap (λ n. Some (standing_at t n)) (sym is.0)

    go : (u at : ℕ) (e : Listed) → slice_get (list_of ms u) at ≡ Some e → (b : Bool) → (u == t) ≡ b →
        slice_get (set new x.place (standing_at t (length (list_of ls t)))) e.place ≡ Some (standing_at u at)
    go u at e there true k =
        let same : u ≡ t = grind (arith, nat_tests, k) in
        let now : slice_get (list_of ls t ++ x ∷ []) at ≡ Some e = ap (λ xs. slice_get xs at) (sym last) ∙ ap (λ v. slice_get (list_of ms v) at) (sym same) ∙ there in
        here at e (get_push (list_of ls t) x e at now) ∙ ap (λ v. Some (standing_at v at)) (sym same)
    go u at e there false k =
        let apart : u ≡ t → ⊥ = λ same. grind (arith, nat_tests, k, same) in
        as_before u at e (ap (λ xs. slice_get xs at) (sym (others u apart)) ∙ there)

-- ---- what callers see of one that enters or leaves

pub nowhere_inside : (ls vs : List (List Listed)) (place : ℕ) → trimmed ls ≡ vs → StandsNowhere vs place → StandsNowhere ls place
nowhere_inside ls vs place view h = λ t k. h t (subst (λ xs. StandsIn xs place) (seen_list ls vs t view) k)

pub always_err : {T E : Type 0} (r : Result T E) (P : Type 0) → P → OnErr r P
always_err (Ok x) P p = tt
always_err (Err e) P p = p
