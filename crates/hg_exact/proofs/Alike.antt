-- Two lists of the rows of one range are the same, and so are two lists of its first rows.
use Rattle.std.proofs.Common.{◌≡◌, ℕ, suc, ◌+◌, ◌<◌, ◌≤◌, ◌⊎◌, inl, inr, List, [], ◌∷◌, ◌++◌, length, Bool, true, false, Some, None, refl, sym, ap, ◌∙◌, subst, arith, length-append}
use Rattle.std.specs.Prelude.{◌==◌, ◌||◌, cond, nat_lt, IsTrue}
use Rattle.std.specs.List.{list_any}
use Rattle.std.proofs.lemmas.Bool.Decides.{Decides-eqb, nat_tests}
use Rattle.hg_base.specs.declared.image.Image.{Image}
use Rattle.hg_base.specs.declared.value.Value.{Value}
use Rattle.hg_base.specs.Lists.{Each, Ascends}
use Rattle.hg_base.specs.Replies.{AreRows, AreFirst}
use Rattle.hg_base.specs.Transcript.{last_key, passed}
use Rattle.hg_base.proofs.ListFacts.{cases, none_some}
use Rattle.hg_exact.proofs.Keys.{Rows, ascends_over, keys}

row_none : (q : ℕ × List Value) (shown : ℕ → Image) → (shown q.0).row ≡ None → (shown q.0).row ≡ Some q.1 → ⊥
row_none q shown e f = none_some (shown q.0).row q.1 e f

no_row : (key : ℕ) (rows : Rows) → Each (λ p. key < p.0) rows → IsTrue (list_any (λ p. p.0 == key) rows) → ⊥
no_row key [] e h = let bad : false ≡ true = h in cc
no_row key (p ∷ rows) e h = go (p.0 == key) refl h (λ k. no_row key rows e.1 k)
  where
    go : (b : Bool) → (p.0 == key) ≡ b → IsTrue (b || list_any (λ q. q.0 == key) rows) → (IsTrue (list_any (λ q. q.0 == key) rows) → ⊥) → ⊥
    go true f k later = let l : key < p.0 = e.0 in let same : p.0 ≡ key = (Decides-eqb p.0 key).0 f in omega (arith, l, same)
    go false f k later = later k

over_rows : (n : ℕ) (rows : Rows) → Each (λ m. n < m) (keys rows) → Each (λ q. n < q.0) rows
over_rows n [] h = tt
over_rows n (p ∷ rows) h = (h.0, over_rows n rows h.1)

rows_over : (p : ℕ × List Value) (rows : Rows) → Ascends (keys (p ∷ rows)) → Each (λ q. p.0 < q.0) rows
rows_over p rows h = over_rows p.0 rows (ascends_over p.0 (keys rows) h)

keys_tail : (a : ℕ) (xs : List ℕ) → Ascends (a ∷ xs) → Ascends xs
keys_tail a [] h = tt
keys_tail a (x ∷ xs) h = h.1

-- what is left of a range after its first row
after_first : (shown : ℕ → Image) (low high : ℕ) (p : ℕ × List Value) (rows : Rows) → AreRows shown low high (p ∷ rows) → AreRows shown (suc p.0) high rows
after_first shown low high p rows a = record {
  ascend = keys_tail p.0 (keys rows) a.ascend;
  each = over rows (rows_over p rows a.ascend) a.each.1;
  every = λ key l h. go key l (let m = a.each.0.0 in a.every key (omega (arith, l, m)) h);
}
  where
    over : (xs : Rows) → Each (λ q. p.0 < q.0) xs → Each (λ q. (low ≤ q.0) × (q.0 ≤ high) × ((shown q.0).row ≡ Some q.1)) xs →
        Each (λ q. (suc p.0 ≤ q.0) × (q.0 ≤ high) × ((shown q.0).row ≡ Some q.1)) xs
    over [] l e = tt
    over (x ∷ xs) l e = ((l.0, e.0.1, e.0.2), over xs l.1 e.1)

    go : (key : ℕ) → suc p.0 ≤ key → IsTrue (list_any (λ q. q.0 == key) (p ∷ rows)) ⊎ ((shown key).row ≡ None) → IsTrue (list_any (λ q. q.0 == key) rows) ⊎ ((shown key).row ≡ None)
    go key l (inr n) = inr n
    go key l (inl t) = inl (later (p.0 == key) refl t)
      where
        later : (b : Bool) → (p.0 == key) ≡ b → IsTrue (b || list_any (λ q. q.0 == key) rows) → IsTrue (list_any (λ q. q.0 == key) rows)
        later true s t = absurd (let same : p.0 ≡ key = (Decides-eqb p.0 key).0 s in omega (arith, l, same))
        later false s t = t

-- the first row of a range is not before the first of one that goes as far
not_before : (shown : ℕ → Image) (low high far : ℕ) (p q : ℕ × List Value) (xs ys : Rows) → low ≤ p.0 → p.0 ≤ far → (shown p.0).row ≡ Some p.1 → AreRows shown low far (q ∷ ys) → p.0 < q.0 → ⊥
not_before shown low high far p q xs ys l h e b less = go (b.every p.0 l h)
  where
    later : (zs : Rows) → Each (λ r. q.0 < r.0) zs → Each (λ r. p.0 < r.0) zs
    later [] k = tt
    later (z ∷ zs) k = ((let m = k.0 in omega (arith, m, less)), later zs k.1)

    go : IsTrue (list_any (λ r. r.0 == p.0) (q ∷ ys)) ⊎ ((shown p.0).row ≡ None) → ⊥
    go (inr n) = row_none p shown n e
    go (inl t) = no_row p.0 (q ∷ ys) (less, later ys (rows_over q ys b.ascend)) t

level : (m n : ℕ) → (m < n → ⊥) → (n < m → ⊥) → m ≡ n
level m n l r = cases (nat_lt m n)
    (λ t. absurd (l (grind (arith, nat_tests))))
    (λ f. cases (nat_lt n m) (λ t. absurd (r (grind (arith, nat_tests)))) (λ g. grind (arith, nat_tests)))

same_row : (shown : ℕ → Image) (p q : ℕ × List Value) → p.0 ≡ q.0 → (shown p.0).row ≡ Some p.1 → (shown q.0).row ≡ Some q.1 → p ≡ q
same_row shown p q e a b =
    let rows : Some p.1 ≡ Some q.1 = sym a ∙ (ap (λ k. (shown k).row) e ∙ b) in
    let same : p.1 ≡ q.1 = cc in
    λ i. (e i, same i)

-- rows of a range that goes further begin with those of the range, and the others are over it
pub begin_with : (shown : ℕ → Image) (low high far : ℕ) (xs ys : Rows) → high ≤ far → AreRows shown low high xs → AreRows shown low far ys → (zs : Rows) × (ys ≡ xs ++ zs) × Each (λ q. high < q.0) zs
begin_with shown low high far [] ys k a b = (ys, refl, over ys b.each)
  where
    over : (zs : Rows) → Each (λ q. (low ≤ q.0) × (q.0 ≤ far) × ((shown q.0).row ≡ Some q.1)) zs → Each (λ q. high < q.0) zs
    over [] e = tt
    over (z ∷ zs) e = (cases (nat_lt high z.0) (λ t. grind (arith, nat_tests)) (λ f. absurd (among z (let h : z.0 ≤ high = grind (arith, nat_tests) in a.every z.0 e.0.0 h) e.0.2)), over zs e.1)
      where
        among : (q : ℕ × List Value) → IsTrue (list_any (λ (p : ℕ × List Value). p.0 == q.0) []) ⊎ ((shown q.0).row ≡ None) → (shown q.0).row ≡ Some q.1 → ⊥
        among q (inl t) f = let bad : false ≡ true = t in cc
        among q (inr n) f = row_none q shown n f
begin_with shown low high far (p ∷ xs) [] k a b = absurd (go (b.every p.0 a.each.0.0 (let h = a.each.0.1 in omega (arith, h, k))))
  where
    go : IsTrue (list_any (λ (q : ℕ × List Value). q.0 == p.0) []) ⊎ ((shown p.0).row ≡ None) → ⊥
    go (inl t) = let bad : false ≡ true = t in cc
    go (inr n) = row_none p shown n a.each.0.2
begin_with shown low high far (p ∷ xs) (q ∷ ys) k a b =
    let h = a.each.0.1 in
    let key : p.0 ≡ q.0 = level p.0 q.0 (not_before shown low high far p q xs ys a.each.0.0 (omega (arith, h, k)) a.each.0.2 b)
    (λ less. not_before shown low far high q p ys xs b.each.0.0 (omega (arith, less, h)) b.each.0.2 a less) in
    let rest = begin_with shown (suc p.0) high far xs ys k (after_first shown low high p xs a) (subst (λ n. AreRows shown (suc n) far ys) (sym key) (after_first shown low far q ys b)) in
    (rest.0, (λ i. sym (same_row shown p q key a.each.0.2 b.each.0.2) i ∷ rest.1 i), rest.2)

append_none : (xs : Rows) → xs ++ [] ≡ xs
append_none [] = refl
append_none (x ∷ xs) = ap (λ ys. x ∷ ys) (append_none xs)

pub same_rows : (shown : ℕ → Image) (low high : ℕ) (xs ys : Rows) → AreRows shown low high xs → AreRows shown low high ys → xs ≡ ys
same_rows shown low high xs ys a b =
    let is = begin_with shown low high high xs ys (omega arith) a b in
    sym (is.1 ∙ ap (λ zs. xs ++ zs) (none is.0 is.2 (last xs is.0 (subst (Each (λ q. (low ≤ q.0) × (q.0 ≤ high) × ((shown q.0).row ≡ Some q.1))) is.1 b.each))) ∙ append_none xs)
  where
    last : (us vs : Rows) → Each (λ q. (low ≤ q.0) × (q.0 ≤ high) × ((shown q.0).row ≡ Some q.1)) (us ++ vs) → Each (λ q. q.0 ≤ high) vs
    last [] [] e = tt
    last [] (v ∷ vs) e = (e.0.1, last [] vs e.1)
    last (u ∷ us) vs e = last us vs e.1

    none : (zs : Rows) → Each (λ q. high < q.0) zs → Each (λ q. q.0 ≤ high) zs → zs ≡ []
    none [] e f = refl
    none (z ∷ zs) e f = absurd (let l = e.0 in let m = f.0 in omega (arith, l, m))

-- rows that have passed less are as many as were asked for
few_first : (shown : ℕ → Image) (n low high : ℕ) (xs ys : Rows) → AreFirst shown n low high xs → AreFirst shown n low high ys → passed n high xs ≤ passed n high ys → xs ≡ ys
few_first shown n low high xs ys a b k = go (nat_lt (length xs) n) refl
  where
    go : (c : Bool) → nat_lt (length xs) n ≡ c → xs ≡ ys
    go true e =
        let x : passed n high xs ≡ high = ap (λ t. cond t high (last_key high xs)) e in
        let y : passed n high ys ≡ high = (let w = b.within in omega (arith, k, x, w)) in
        same_rows shown low high xs ys (subst (λ m. AreRows shown low m xs) x a.all) (subst (λ m. AreRows shown low m ys) y b.all)
    go false e =
        let is = begin_with shown low (passed n high xs) (passed n high ys) xs ys k a.all b.all in
        let many : n ≤ length xs = grind (arith, nat_tests) in
        let few = b.few in
        let all : length ys ≡ length xs + length is.0 = ap length is.1 ∙ length-append xs is.0 in
        sym (is.1 ∙ ap (λ zs. xs ++ zs) (none is.0 (omega (arith, many, few, all))) ∙ append_none xs)
      where
        none : (zs : Rows) → length zs ≡ 0 → zs ≡ []
        none [] f = refl
        none (z ∷ zs) f = absurd (omega (arith, f))

pub same_first : (shown : ℕ → Image) (n low high : ℕ) (xs ys : Rows) → AreFirst shown n low high xs → AreFirst shown n low high ys → xs ≡ ys
same_first shown n low high xs ys a b = cases (nat_lt (passed n high ys) (passed n high xs))
    (λ t. sym (few_first shown n low high ys xs b a (grind (arith, nat_tests))))
    (λ f. few_first shown n low high xs ys a b (grind (arith, nat_tests)))
