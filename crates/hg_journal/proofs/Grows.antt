-- What a crash leaves while a text and a gate are written behind the end.
use Rattle.std.proofs.Common.{◌≡◌, ℕ, ◌+◌, List, length, take, sym, ◌∙◌, ap, subst, arith}
use Rattle.std.proofs.lemmas.List.{take_all, take-take}
use Rattle.hg_journal.specs.Device.{Follows, Grown, Only, Torn}

module _ (file : List ℕ) (n end : ℕ) (is : end ≡ length file) where
  pub grows : (c : List ℕ) → Torn end n file c → Grown (n + 1) file c
  grows c torn = record {
    front = ap (λ (k : ℕ). take k c) (sym is) ∙ torn.before ∙ take_all end file (omega (arith, is));
    no_longer = omega (arith, torn.no_longer, is);
  }

  pub grows_more : (d c : List ℕ) → Torn end n file d → Torn (end + n) 1 d c → Grown (n + 1) file c
  grows_more d c first second = record {
    front = ap (λ (k : ℕ). take k c) (sym is) ∙ (shorter c ∙ ap (λ (l : List ℕ). take end l) second.before ∙ sym (shorter d)) ∙ first.before ∙ take_all end file (omega (arith, is));
    no_longer = omega (arith, first.no_longer, second.no_longer, is);
  }
    where
      shorter : (l : List ℕ) → take end l ≡ take end (take (end + n) l)
      shorter l = sym (take-take end (end + n) l (omega arith))

  pub after_first : (old new : List ℕ → Type 0) → Only file old → Follows (Torn end n) old new → (c : List ℕ) → new c → Grown (n + 1) file c
  after_first old new only follows c left =
      let from = follows c left in
      grows c (subst (λ (f : List ℕ). Torn end n f c) (only from.0 from.1) from.2)

  pub after_second : (old mid new : List ℕ → Type 0) → Only file old → Follows (Torn end n) old mid → Follows (Torn (end + n) 1) mid new → (c : List ℕ) → new c → Grown (n + 1) file c
  after_second old mid new only first second c left =
      let at = second c left in
      let from = first at.0 at.1 in
      grows_more at.0 c (subst (λ (f : List ℕ). Torn end n f at.0) (only from.0 from.1) from.2) at.2

pub not_grown : (file : List ℕ) (n : ℕ) (c : List ℕ) → c ≡ file → Grown n file c
not_grown file n c is = subst (Grown n file) (sym is) (record { front = take_all (length file) file (omega arith); no_longer = omega arith })
