-- Links of free places, under writes to places.
use Rattle.std.proofs.Common.{◌≡◌, ℕ, zero, suc, ◌+◌, ◌≤◌, List, [], ◌∷◌, ◌++◌, map, length, Bool, true, false, Option, Some, None, refl, sym, ap, ◌∙◌, subst, arith, cond, count_by, set, slice_get}
use Rattle.std.specs.Prelude.{IsSome, slice_index_or, option_and_then}
use Rattle.std.specs.Bool.{OnTrue, OnFalse}
use Rattle.std.proofs.lemmas.List.{map-append, map-set}
use Rattle.std.proofs.lemmas.Option.{none-some, slice_get_within, get_or_from_slice_get}
use Rattle.std.proofs.lemmas.List.Sums.{sum_by-set, sum_by-cons, sum_by_push}
use Rattle.hg_space.specs.declared.place.Place.{Place}
use Rattle.hg_space.specs.declared.place.Place.TheVariants.{Free, Taken}
use Rattle.hg_space.specs.Places.{Oldest, Seat, free, taken, has_free}
use Rattle.hg_space.specs.Links.{seen, is_free, link_of, AreLinked}

pub get_apart : {X : Type 0} (s : List X) (p q : ℕ) (v : X) → (q ≡ p → ⊥) → slice_get (set s p v) q ≡ slice_get s q
get_apart [] p q v h = refl
get_apart (x ∷ s) zero zero v h = absurd (h refl)
get_apart (x ∷ s) zero (suc q) v h = refl
get_apart (x ∷ s) (suc p) zero v h = refl
get_apart (x ∷ s) (suc p) (suc q) v h = get_apart s p q v (λ e. h (ap suc e))

-- the links from a place are so many, and no other number
pub as_many : (s : List Place) (n m : ℕ) (f : Option ℕ) → AreLinked s n f → AreLinked s m f → n ≡ m
as_many s zero zero f h k = refl
as_many s zero (suc m) f h k = absurd (none-some k.0 (sym h ∙ k.2))
as_many s (suc n) zero f h k = absurd (none-some h.0 (sym k ∙ h.2))
as_many s (suc n) (suc m) f h k =
    let here : h.0 ≡ k.0 = let a = h.2 in let b = k.2 in cc in
    let read : slice_get s h.0 ≡ Some (Free k.1) = ap (slice_get s) here ∙ k.3 in
    let next : h.1 ≡ k.1 = let a = h.3 in cc in
    ap suc (as_many s n m h.1 h.4 (subst (AreLinked s m) (sym next) k.4))

-- a write to a taken place keeps the links
pub kept : (s : List Place) (p : ℕ) (o : Oldest) (v : Place) → slice_get s p ≡ Some (Taken o) → (n : ℕ) (f : Option ℕ) → AreLinked s n f → AreLinked (set s p v) n f
kept s p o v t zero f h = h
kept s p o v t (suc n) f h =
    let apart : h.0 ≡ p → ⊥ = λ e. let a : slice_get s p ≡ Some (Free h.1) = ap (slice_get s) (sym e) ∙ h.3 in cc in
    (h.0, h.1, h.2, get_apart s p h.0 v apart ∙ h.3, kept s p o v t n h.1 h.4)

-- a write to the first place keeps the links of the others
pub behind : (s : List Place) (p : ℕ) (v : Place) (n : ℕ) → AreLinked s (suc n) (Some p) → (m : ℕ) (f : Option ℕ) → m ≤ n → AreLinked s m f → AreLinked (set s p v) m f
behind s p v n all zero f le h = h
behind s p v n all (suc m) f le h =
    let apart : h.0 ≡ p → ⊥ = λ e.
    let same : suc m ≡ suc n = as_many s (suc m) (suc n) (Some p) (subst (AreLinked s (suc m)) (h.2 ∙ ap Some e) h) all in
    absurd (omega (arith, same, le)) in
    (h.0, h.1, h.2, get_apart s p h.0 v apart ∙ h.3, behind s p v n all m h.1 (omega (arith, le)) h.4)

-- ---- how many are free

pub recount : (s : List Place) (p : ℕ) (x v : Place) → slice_get s p ≡ Some x → count_by is_free (set s p v) + cond (is_free x) 1 0 ≡ count_by is_free s + cond (is_free v) 1 0
recount s p x v t =
    ap (λ y. count_by is_free (set s p v) + cond (is_free y) 1 0) (sym (get_or_from_slice_get s p x v t))
    ∙ sum_by-set (λ y. cond (is_free y) 1 0) s p v v (slice_get_within s p x t)

pub none_free : (s : List Place) → count_by is_free s ≡ 0 → has_free (map seen s) ≡ false
none_free [] h = refl
none_free ((Free next) ∷ s) h = absurd (let e = sum_by-cons (λ y. cond (is_free y) 1 0) (Free next) s in omega (arith, e, h))
none_free ((Taken o) ∷ s) h = none_free s (let e = sum_by-cons (λ y. cond (is_free y) 1 0) (Taken o) s in omega (arith, e, h))

pub one_free : (s : List Place) (p : ℕ) (next : Option ℕ) → slice_get s p ≡ Some (Free next) → has_free (map seen s) ≡ true
one_free [] p next h = absurd (none-some _ h)
one_free ((Free x) ∷ s) p next h = refl
one_free ((Taken o) ∷ s) zero next h = absurd (let k = h in cc)
one_free ((Taken o) ∷ s) (suc p) next h = one_free s p next h

-- ---- taken places

pub is_taken : (s : List Place) (p : ℕ) → IsSome (slice_index_or (map seen s) p free) → (o : Oldest) × (slice_get s p ≡ Some (Taken o))
is_taken [] p h = absurd (let k = h in cc)
is_taken ((Free x) ∷ s) zero h = absurd (let k = h in cc)
is_taken ((Taken o) ∷ s) zero h = (o, refl)
is_taken (x ∷ s) (suc p) h = is_taken s p h

abbrev pub AllLinked : List Place → Option ℕ → Type 0
AllLinked s f = AreLinked s (count_by is_free s) f

-- another image
pub image_set : (s : List Place) (p : ℕ) (to : Oldest) (f : Option ℕ) → IsSome (slice_index_or (map seen s) p free) → AllLinked s f → AllLinked (set s p (Taken to)) f
image_set s p to f t h =
    let was = is_taken s p t in
    let same : count_by is_free (set s p (Taken to)) ≡ count_by is_free s = let e = recount s p (Taken was.0) (Taken to) was.1 in omega (arith, e) in
    subst (λ n. AreLinked (set s p (Taken to)) n f) (sym same) (kept s p was.0 (Taken to) was.1 _ f h)

-- a place given back
pub freed_count : (s : List Place) (p : ℕ) (f : Option ℕ) → IsSome (slice_index_or (map seen s) p free) → count_by is_free (set s p (Free f)) ≡ suc (count_by is_free s)
freed_count s p f t = let was = is_taken s p t in let e = recount s p (Taken was.0) (Free f) was.1 in omega (arith, e)

pub get_same : {X : Type 0} (s : List X) (p : ℕ) (x v : X) → slice_get s p ≡ Some x → slice_get (set s p v) p ≡ Some v
get_same [] p x v h = absurd (none-some x h)
get_same (y ∷ s) zero x v h = refl
get_same (y ∷ s) (suc p) x v h = get_same s p x v h

pub freed : (s : List Place) (p : ℕ) (f : Option ℕ) → IsSome (slice_index_or (map seen s) p free) → AllLinked s f → AllLinked (set s p (Free f)) (Some p)
freed s p f t h =
    let was = is_taken s p t in
    let all : AreLinked (set s p (Free f)) (suc (count_by is_free s)) (Some p) = (p, f, refl, get_same s p (Taken was.0) (Free f) was.1, kept s p was.0 (Free f) was.1 _ f h) in
    subst (λ n. AreLinked (set s p (Free f)) n (Some p)) (sym (freed_count s p f t)) all

-- the first free place, which is taken
pub record FirstFree (s : List Place) (n : ℕ) (p : ℕ) : Type 0 where
  pub many : ℕ
  pub next : Option ℕ
  pub there : slice_get s p ≡ Some (Free next)
  pub count : n ≡ suc many
  pub others : AreLinked s many next

pub first_free : (s : List Place) (n : ℕ) (p : ℕ) → AreLinked s n (Some p) → FirstFree s n p
first_free s zero p h = absurd (none-some p (sym h))
first_free s (suc n) p h =
    record {
      many = n;
      next = h.1;
      there = let here : p ≡ h.0 = let a = h.2 in cc in ap (slice_get s) here ∙ h.3;
      count = refl;
      others = h.4;
    }

pub taken_count : (s : List Place) (p : ℕ) → AllLinked s (Some p) → count_by is_free (set s p (Taken None)) + 1 ≡ count_by is_free s
taken_count s p h = let first = first_free s _ p h in let e = recount s p (Free first.next) (Taken None) first.there in omega (arith, e)

pub first_taken : (s : List Place) (p : ℕ) → AllLinked s (Some p) → AllLinked (set s p (Taken None)) (option_and_then link_of (slice_get s p))
first_taken s p h =
    let first = first_free s _ p h in
    let all : AreLinked s (suc first.many) (Some p) = subst (λ n. AreLinked s n (Some p)) first.count h in
    let count : first.many ≡ count_by is_free (set s p (Taken None)) = let e = taken_count s p h in let k = first.count in omega (arith, e, k) in
    let next : first.next ≡ option_and_then link_of (slice_get s p) = ap (option_and_then link_of) (sym first.there) in
    subst (λ f. AllLinked (set s p (Taken None)) f) next (subst (λ n. AreLinked (set s p (Taken None)) n first.next) count
    (behind s p (Taken None) first.many all first.many first.next (omega arith) first.others))

-- none is free
pub no_first : (s : List Place) (n : ℕ) (f : Option ℕ) → f ≡ None → AreLinked s n f → n ≡ 0
no_first s zero f e h = refl
no_first s (suc n) f e h = absurd (none-some h.0 (sym e ∙ h.2))

pub added_count : (s : List Place) (o : Oldest) → count_by is_free (s ++ Taken o ∷ []) ≡ count_by is_free s
added_count s o = let e = sum_by_push (λ y. cond (is_free y) 1 0) s (Taken o) in omega (arith, e)

pub added : (s : List Place) (o : Oldest) (f : Option ℕ) → f ≡ None → AllLinked s f → AllLinked (s ++ Taken o ∷ []) f
added s o f e h =
    let none : 0 ≡ count_by is_free (s ++ Taken o ∷ []) = sym (added_count s o ∙ no_first s _ f e h) in
    subst (λ n. AreLinked (s ++ Taken o ∷ []) n f) none e

-- ---- what callers see of it

pub on_true : (X : Type 0) (b : Bool) → b ≡ false → OnTrue b X
on_true X true e = absurd (let k = e in cc)
on_true X false e = tt

pub on_false : (X : Type 0) (b : Bool) → b ≡ true → OnFalse b X
on_false X true e = tt
on_false X false e = absurd (let k = e in cc)

pub always : (X : Type 0) (b : Bool) → X → OnTrue b X
always X true x = x
always X false x = tt

pub taken_added : (s : List Place) (p : ℕ) → count_by is_free s ≡ 0 → map seen (s ++ Taken None ∷ []) ≡ cond (has_free (map seen s)) (set (map seen s) p (taken None)) (map seen s ++ taken None ∷ [])
taken_added s p none =
    map-append seen s (Taken None ∷ [])
    ∙ sym (ap (λ b. cond b (set (map seen s) p (taken None)) (map seen s ++ taken None ∷ [])) (none_free s none))

pub taken_free : (s : List Place) (p : ℕ) (next : Option ℕ) → slice_get s p ≡ Some (Free next) →
    map seen (set s p (Taken None)) ≡ cond (has_free (map seen s)) (set (map seen s) p (taken None)) (map seen s ++ taken None ∷ [])
taken_free s p next there =
    map-set seen s p (Taken None)
    ∙ sym (ap (λ b. cond b (set (map seen s) p (taken None)) (map seen s ++ taken None ∷ [])) (one_free s p next there))

pub seen_at : (s : List Place) (p : ℕ) (x : Place) → slice_get s p ≡ Some x → slice_get (map seen s) p ≡ Some (seen x)
seen_at [] p x h = absurd (none-some x h)
seen_at (y ∷ s) zero x h = let k : y ≡ x = cc in ap (λ z. Some (seen z)) k
seen_at (y ∷ s) (suc p) x h = seen_at s p x h

-- none is free, and a place is added
pub record Adds (old new : List Seat) (p : ℕ) : Type 0 where
  pub free : OnTrue (has_free old) (slice_get old p ≡ Some free)
  pub taken : new ≡ cond (has_free old) (set old p (taken None)) (old ++ taken None ∷ [])

pub adds : (s t : List Place) (p : ℕ) → count_by is_free s ≡ 0 → t ≡ s ++ Taken None ∷ [] → Adds (map seen s) (map seen t) p
adds s t p none e =
    record {
      free = on_true _ (has_free (map seen s)) (none_free s none);
      taken = ap (map seen) e ∙ taken_added s p none;
    }

-- a free place is taken
pub record Fills (old new : List Seat) (p : ℕ) : Type 0 where
  pub free : OnTrue (has_free old) (slice_get old p ≡ Some free)
  pub added : OnFalse (has_free old) (p ≡ length old)
  pub taken : new ≡ cond (has_free old) (set old p (taken None)) (old ++ taken None ∷ [])

pub fills : (s t : List Place) (p : ℕ) → AllLinked s (Some p) → t ≡ set s p (Taken None) → Fills (map seen s) (map seen t) p
fills s t p h e =
    let first = first_free s _ p h in
    record {
      free = always _ (has_free (map seen s)) (seen_at s p _ first.there);
      added = on_false _ (has_free (map seen s)) (one_free s p _ first.there);
      taken = ap (map seen) e ∙ taken_free s p _ first.there;
    }
