-- The values of a new list: for callers that they fit, and that each lies under a free lock.
use Rattle.std.proofs.Common.{◌≡◌, ℕ, zero, suc, ◌<◌, List, [], ◌∷◌, ◌++◌, map, length, replicate, refl, sym, ap, subst, ◌∙◌, arith, Option, Some, None}
use Rattle.std.proofs.lemmas.List.{length-map, length-replicate}
use Rattle.std.proofs.lemmas.Option.{slice_get_within}
use Rattle.std.specs.Prelude.{slice_get, unwrap_or}
use mathlib.Core.Option.{some, some-injective, some-ne-none}
use lib.ListN.{get_elem?}
use Rattle.atomic_table.specs.Table.{opening}
use Rattle.hg_lock.specs.Guarded.{Guarded, line_of, spread}
use Rattle.hg_lock.specs.Locks.{EachFits}
use Rattle.hg_lock.proofs.Steps.{below_of}

-- where all words are 0, each is
all_free : (m k n : ℕ) → get_elem? (replicate m 0) k ≡ some n → 0 ≡ n
all_free zero k n e = absurd (some-ne-none n (sym e))
all_free (suc m) zero n e = some-injective 0 n e
all_free (suc m) (suc k) n e = all_free m k n e

next_line : (k : ℕ) → suc (suc (suc (suc (suc (suc (suc (suc (line_of k)))))))) ≡ line_of (suc k)
next_line k = omega arith

-- each value is at home, in its line
at_home : {X : Type 0} (values : List X) (k : ℕ) → k < length values → (x : X) × (slice_get values k ≡ Some x) × (get_elem? (map some (spread values)) (line_of k) ≡ some (some (Some x)))
at_home [] k below = absurd (omega arith)
at_home (x ∷ xs) zero below = (x, refl, refl)
at_home (x ∷ xs) (suc k) below = let t = at_home xs k (omega arith) in (t.0, t.1, subst (λ n. get_elem? (map some (spread (x ∷ xs))) n ≡ some (some (Some t.0))) (next_line k) t.2)

-- there are as many lines as values
pub length-spread : {X : Type 0} (values : List X) → length (spread values) ≡ line_of (length values)
length-spread [] = refl
length-spread (x ∷ xs) = let h = length-spread xs in omega arith

pub spread-append : {X : Type 0} (xs ys : List X) → spread (xs ++ ys) ≡ spread xs ++ spread ys
spread-append [] ys = refl
spread-append (x ∷ xs) ys = ap (λ l. Some x ∷ None ∷ None ∷ None ∷ None ∷ None ∷ None ∷ None ∷ l) (spread-append xs ys)

-- a list of the same, one longer
pub replicate-next : {A : Type 0} (n : ℕ) (a : A) → replicate n a ++ a ∷ [] ≡ replicate (suc n) a
replicate-next zero a = refl
replicate-next (suc n) a = ap (λ l. a ∷ l) (replicate-next n a)

pub begins : {X V : Type 0} (fits : ℕ → X → Type 0) (values : List X) (words : List ℕ) (slots : List (Option X)) (v : V)
    → words ≡ replicate (length slots) 0 → slots ≡ spread values → EachFits fits values → Guarded fits (opening words slots v)
begins {X} {V} fits values words slots v zeros filled each =
    let wide : length words ≡ length slots = ap length zeros ∙ length-replicate (length slots) 0 in
    let same : length slots ≡ line_of (length values) = ap length filled ∙ length-spread values in record {
      paired = wide ∙ sym (length-map slots some);
      free = λ k e.
          let below = below_of words (line_of k) 0 e in
          let t = at_home values k (omega arith) in (t.0, ap (λ l. get_elem? (map some l) (line_of k)) filled ∙ t.2, each k t.0 t.1);
      held = λ k n e. let z = all_free (length slots) (line_of k) (suc n) (ap (λ l. get_elem? l (line_of k)) (sym zeros) ∙ e) in absurd (omega arith);
    }

-- for callers, who fill a list: no value
pub EachFits-[] : {X : Type 0} (fits : ℕ → X → Type 0) → EachFits fits []
EachFits-[] fits k x e = let below = slice_get_within [] k x e in absurd (omega arith)

-- one value more
pub EachFits-push : {X : Type 0} (fits : ℕ → X → Type 0) (values : List X) (y : X) → EachFits fits values → fits (length values) y → EachFits fits (values ++ y ∷ [])
EachFits-push fits [] y each last zero x e = subst (fits zero) (ap (λ o. unwrap_or o y) e) last
EachFits-push fits [] y each last (suc k) x e = let below = slice_get_within [] k x e in absurd (omega arith)
EachFits-push fits (v ∷ vs) y each last zero x e = each zero x e
EachFits-push fits (v ∷ vs) y each last (suc k) x e = EachFits-push (λ n. fits (suc n)) vs y (λ n z h. each (suc n) z h) last k x e
