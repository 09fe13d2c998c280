-- Bytes are parted in one way.
use Rattle.std.proofs.Common.{◌≡◌, ◌∙◌, ℕ, List, take, sym, ap, inl, inr}
use Rattle.std.proofs.lemmas.Bool.{cases_order}
use Rattle.hg_streams.specs.Parting.{AreParts, IsFirstAt}

first_is_one : (bytes : List ℕ) (j k : ℕ) → IsFirstAt bytes j → IsFirstAt bytes k → j ≡ k
first_is_one bytes j k a b = elim (cases_order j k) [
  | inl same ↦ same
  | inr (inl less) ↦ absurd (b.none_before j less a.here)
  | inr (inr more) ↦ absurd (a.none_before k more b.here)
]

-- the script is one
pub one_script : (bytes s t u v : List ℕ) → AreParts bytes s t → AreParts bytes u v → s ≡ u
one_script bytes s t u v (inl a) (inl b) = a.before ∙ ap (λ k. take k bytes) (first_is_one bytes a.count b.count a.first b.first) ∙ sym b.before
one_script bytes s t u v (inl a) (inr b) = absurd (b.none a.count a.first.here)
one_script bytes s t u v (inr a) (inl b) = absurd (a.none b.count b.first.here)
one_script bytes s t u v (inr a) (inr b) = a.all ∙ sym b.all
