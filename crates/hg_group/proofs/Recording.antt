-- A list of records, each once, gone through one by one.
use Rattle.std.proofs.Common.{◌≡◌, ℕ, zero, suc, ◌+◌, ◌<◌, List, [], ◌∷◌, ◌++◌, length, take, get_or, true, false, refl, sym, ap, ◌∙◌, arith}
use Rattle.std.specs.Prelude.{◌||◌}
use Rattle.std.proofs.Math.Bool.{or-true}
use Rattle.hg_base.specs.declared.rid.Rid.{Rid}
use Rattle.hg_base.specs.History.{NoneTwice, same_rid, is_among}
use Rattle.hg_base.proofs.ListFacts.{cases, false_true}
use Rattle.hg_base.proofs.HistoryFacts.{same_rid_equal, same_rid_itself}
use Rattle.hg_base.proofs.RidOrder.{same_back}

-- the record at a place is among them
pub among_at : (xs : List Rid) (i : ℕ) (d : Rid) → i < length xs → is_among (get_or xs i d) xs ≡ true
among_at [] i d h = absurd (omega (arith, h))
among_at (x ∷ xs) zero d h = ap (λ b. b || is_among x xs) (same_rid_itself x)
among_at (x ∷ xs) (suc i) d h = let less : i < length xs = omega (arith, h) in ap (λ b. same_rid (get_or xs i d) x || b) (among_at xs i d less) ∙ or-true (same_rid (get_or xs i d) x)

-- and not among those before it
pub among_before : (xs : List Rid) (i : ℕ) (d : Rid) → i < length xs → NoneTwice xs → is_among (get_or xs i d) (take i xs) ≡ false
among_before [] i d h n = absurd (omega (arith, h))
among_before (x ∷ xs) zero d h n = refl
among_before (x ∷ xs) (suc i) d h n =
    let less : i < length xs = omega (arith, h) in
    let apart : same_rid (get_or xs i d) x ≡ false = same_back (get_or xs i d) x ∙
    cases (same_rid x (get_or xs i d)) (λ e. absurd (false_true (sym n.0 ∙ ap (λ q. is_among q xs) (same_rid_equal x (get_or xs i d) e) ∙ among_at xs i d less))) (λ f. f) in
    ap (λ b. b || is_among (get_or xs i d) (take i xs)) apart ∙ among_before xs i d less n.1

-- one place further
pub take_next : (xs : List Rid) (i : ℕ) (d : Rid) → i < length xs → take (i + 1) xs ≡ take i xs ++ get_or xs i d ∷ []
take_next [] i d h = absurd (omega (arith, h))
take_next (x ∷ xs) zero d h = refl
take_next (x ∷ xs) (suc i) d h = let less : i < length xs = omega (arith, h) in ap (λ n. take n (x ∷ xs)) (more i) ∙ ap (λ ys. x ∷ ys) (take_next xs i d less)
  where
    more : (i : ℕ) → suc i + 1 ≡ suc (i + 1)
    more i = omega arith
