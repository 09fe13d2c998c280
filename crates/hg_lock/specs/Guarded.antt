-- The rule of a list of locks: what holds of their words and slots between any two steps.
use Rattle.std.specs.Prelude.{◌≡◌, ℕ, suc, ◌*◌, List, [], ◌∷◌, Option, Some, None, length}
use mathlib.Core.Option.{some, none}
use lib.ListN.{get_elem?}
use Rattle.atomic_table.specs.Table.{State, Me}

-- a lock's word and slot are the first of eight, and the other seven are nothing's
abbrev pub line_of : ℕ → ℕ
line_of k = 8 * k

-- each value in the first slot of eight
abbrev pub spread : {X : Type 0} → List X → List (Option X)
spread [] = []
spread (x ∷ xs) = Some x ∷ None ∷ None ∷ None ∷ None ∷ None ∷ None ∷ None ∷ spread xs

module _ {X V : Type 0} where
  -- a lock is free exactly while its slot is at home, and then the value there fits
  pub record Guarded (fits : ℕ → X → Type 0) (s : State (Option X) V) : Type 0 where
    pub paired : length s.words ≡ length s.homes
    pub free : (k : ℕ) → get_elem? s.words (line_of k) ≡ some 0 → (x : X) × (get_elem? s.homes (line_of k) ≡ some (some (Some x))) × fits k x
    pub held : (k n : ℕ) → get_elem? s.words (line_of k) ≡ some (suc n) → get_elem? s.homes (line_of k) ≡ some none

  -- the slot of lock k is out with this seat and no other slot is, and the value in it fits
  abbrev pub HasValue : (ℕ → X → Type 0) → ℕ → Me (Option X) V → Type 0
  HasValue fits k me = (x : X) × (me.1 ≡ (line_of k, Some x) ∷ []) × fits k x
