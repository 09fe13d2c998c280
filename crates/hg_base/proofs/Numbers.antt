-- Rows of numbers alone.
use Rattle.std.proofs.Common.{◌≡◌, ℤ, List, [], ◌∷◌, map, length, take, drop, arith, false, refl, sym, ap, ◌∙◌}
use Rattle.std.specs.Prelude.{IsTrue}
use Rattle.std.specs.List.{list_any}
use Rattle.std.proofs.lemmas.Bool.{true≢false, false≢true}
use Rattle.hg_base.specs.declared.value.Value.{Value}
use Rattle.hg_base.specs.declared.value.Value.TheVariants.{Number, Text}
use Rattle.hg_base.specs.Values.{is_text, number_of}

-- values of which none is a text are their numbers
pub numbers_alone : (vs : List Value) → list_any is_text vs ≡ false → map Number (map number_of vs) ≡ vs
numbers_alone [] h = refl
numbers_alone (Number v ∷ vs) h = ap (λ rest. Number v ∷ rest) (numbers_alone vs h)
numbers_alone (Text t ∷ vs) h = absurd (true≢false h)

numbers_back : (ns : List ℤ) → map number_of (map Number ns) ≡ ns
numbers_back [] = refl
numbers_back (n ∷ ns) = ap (λ rest. n ∷ rest) (numbers_back ns)

-- rows of the same numbers have the same numbers
pub same_numbers : (ns ms : List ℤ) → map Number ns ≡ map Number ms → ns ≡ ms
same_numbers ns ms h = sym (numbers_back ns) ∙ ap (map number_of) h ∙ numbers_back ms

-- and no texts
pub numbers_are_no_texts : (ns : List ℤ) (vs : List Value) → IsTrue (list_any is_text vs) → map Number ns ≡ vs → ⊥
numbers_are_no_texts [] [] h e = absurd (false≢true h)
numbers_are_no_texts (n ∷ ns) (Number v ∷ vs) h e = numbers_are_no_texts ns vs h (ap (drop 1) e)
numbers_are_no_texts (n ∷ ns) (Text t ∷ vs) h e = absurd (false≢true (ap (list_any is_text) (ap (take 1) e)))
numbers_are_no_texts [] (v ∷ vs) h e = omega (arith, ap length e)
numbers_are_no_texts (n ∷ ns) [] h e = omega (arith, ap length e)
