-- Sums over views, where one view changes.
use Rattle.std.proofs.Common.{◌≡◌, ℕ, zero, suc, ◌+◌, ◌≤◌, List, [], ◌∷◌, ◌++◌, set, refl, sym, ap, arith}
use mathlib.Core.Option.{some, some-injective, some-ne-none}
use lib.ListN.{get_elem?}
use Rattle.hg_rounds.specs.Word.{sum}

module _ {A : Type 0} (f : A → ℕ) where
  pub sum_set : (vs : List A) (i : ℕ) (v w : A) → get_elem? vs i ≡ some v → sum f (set vs i w) + f v ≡ sum f vs + f w
  sum_set [] i v w e = absurd (some-ne-none v (sym e))
  sum_set (x ∷ vs) zero v w e = let a : ℕ = f w in let b : ℕ = sum f vs in let c : ℕ = f v in let d : ℕ = f x in let g : d ≡ c = ap f (some-injective x v e) in omega arith
  sum_set (x ∷ vs) (suc i) v w e = let a : ℕ = sum f (set vs i w) in let b : ℕ = f v in let c : ℕ = sum f vs in let d : ℕ = f w in let y : ℕ = f x in
      let h : a + b ≡ c + d = sum_set vs i v w e in omega arith

  pub sum_snoc : (vs : List A) (w : A) → sum f (vs ++ w ∷ []) ≡ sum f vs + f w
  sum_snoc [] w = omega arith
  sum_snoc (x ∷ vs) w = let a : ℕ = sum f (vs ++ w ∷ []) in let b : ℕ = sum f vs in let c : ℕ = f w in let d : ℕ = f x in let h : a ≡ b + c = sum_snoc vs w in omega arith

  pub sum_one : (vs : List A) (i : ℕ) (v : A) → get_elem? vs i ≡ some v → f v ≤ sum f vs
  sum_one [] i v e = absurd (some-ne-none v (sym e))
  sum_one (x ∷ vs) zero v e = let b : ℕ = sum f vs in let c : ℕ = f v in let d : ℕ = f x in let g : d ≡ c = ap f (some-injective x v e) in omega arith
  sum_one (x ∷ vs) (suc i) v e = let b : ℕ = sum f vs in let c : ℕ = f v in let d : ℕ = f x in let h : c ≤ b = sum_one vs i v e in omega arith

-- where one view has all of a sum, and none has some of another without some of this one, it has all of the other too
module _ {A : Type 0} (f g : A → ℕ) (none : (v : A) → f v ≡ 0 → g v ≡ 0) where
  all_none : (vs : List A) → sum f vs ≡ 0 → sum g vs ≡ 0
  all_none [] e = refl
  all_none (x ∷ vs) e = let a : ℕ = f x in let b : ℕ = sum f vs in let c : ℕ = g x in let d : ℕ = sum g vs in let e' : a + b ≡ 0 = e in let h : c ≡ 0 = none x (omega arith) in
      let k : d ≡ 0 = all_none vs (omega arith) in omega arith

  pub sum_whole : (vs : List A) (i : ℕ) (v : A) → get_elem? vs i ≡ some v → sum f vs ≡ f v → sum g vs ≡ g v
  sum_whole [] i v e all = absurd (some-ne-none v (sym e))
  sum_whole (x ∷ vs) zero v e all = let a : ℕ = f x in let b : ℕ = sum f vs in let c : ℕ = f v in let g1 : ℕ = g x in let g2 : ℕ = sum g vs in let g3 : ℕ = g v in
      let same : a ≡ c = ap f (some-injective x v e) in let all' : a + b ≡ c = all in let k : g2 ≡ 0 = all_none vs (omega arith) in let same' : g1 ≡ g3 = ap g (some-injective x v e) in omega arith
  sum_whole (x ∷ vs) (suc i) v e all = let a : ℕ = f x in let b : ℕ = sum f vs in let c : ℕ = f v in let g1 : ℕ = g x in let g2 : ℕ = sum g vs in let g3 : ℕ = g v in
      let l : c ≤ b = sum_one f vs i v e in let all' : a + b ≡ c = all in let z : g1 ≡ 0 = none x (omega arith) in let rest : b ≡ c = omega arith in
      let k : g2 ≡ g3 = sum_whole vs i v e rest in omega arith
