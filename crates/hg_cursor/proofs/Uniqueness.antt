-- Of a range there is one list of rows, and each row that is shown is in it.
use Rattle.std.proofs.Common.{◌≡◌, ℕ, suc, ◌<◌, ◌≤◌, ◌⊎◌, inl, inr, List, [], ◌∷◌, map, Bool, true, false, Some, None, refl, sym, ap, ◌∙◌, subst, arith}
use Rattle.std.specs.Prelude.{◌==◌, ◌||◌, nat_lt, IsTrue, Contains}
use Rattle.std.specs.List.{list_any}
use Rattle.std.proofs.lemmas.Bool.Decides.{Decides-eqb, nat_tests}
use Rattle.hg_base.specs.declared.image.Image.{Image}
use Rattle.hg_base.specs.declared.value.Value.{Value}
use Rattle.hg_base.specs.Lists.{Each, Ascends}
use Rattle.hg_base.specs.Replies.{AreRows}
use Rattle.hg_base.proofs.ListFacts.{cases, none_some, each_keeps, each_at, false_true}
use Rattle.hg_cursor.specs.Keys.{Rows}

-- ---- there is one such list

pub rows_over : (x : ℕ) (rows : Rows) → Ascends (x ∷ map (λ p. p.0) rows) → Each (λ p. suc x ≤ p.0) rows
rows_over x [] a = tt
rows_over x (y ∷ ys) a = (let l = a.0 in omega (arith, l), each_keeps (λ p. suc y.0 ≤ p.0) (λ p. suc x ≤ p.0) (λ p k. let l = a.0 in omega (arith, l, k)) ys (rows_over y.0 ys a.1))

pub ascends_tail : (x : ℕ) (xs : List ℕ) → Ascends (x ∷ xs) → Ascends xs
ascends_tail x [] a = tt
ascends_tail x (y ∷ ys) a = a.1

none_below : (key : ℕ) (rows : Rows) → Each (λ p. suc key ≤ p.0) rows → IsTrue (list_any (λ p. p.0 == key) rows) → ⊥
none_below key [] e h = let k = h in cc
none_below key (p ∷ rows) e h = go (p.0 == key) refl h (none_below key rows e.1)
  where
    go : (b : Bool) → (p.0 == key) ≡ b → IsTrue (b || list_any (λ p. p.0 == key) rows) → (IsTrue (list_any (λ p. p.0 == key) rows) → ⊥) → ⊥
    go true s h rest = let l = e.0 in let same : p.0 ≡ key = (Decides-eqb p.0 key).0 s in omega (arith, l, same)
    go false s h rest = rest h

-- what is left of a range after its first row
pub rest_rows : (shown : ℕ → Image) (low high : ℕ) (p : ℕ × List Value) (rows : Rows) → AreRows shown low high (p ∷ rows) → AreRows shown (suc p.0) high rows
rest_rows shown low high p rows a = record {
  ascend = ascends_tail p.0 (map (λ p. p.0) rows) a.ascend;
  each = over rows (rows_over p.0 rows a.ascend) a.each.1;
  every = λ key l h. go key l (let m = a.each.0.0 in a.every key (omega (arith, l, m)) h);
}
  where
    over : (xs : Rows) → Each (λ q. suc p.0 ≤ q.0) xs → Each (λ q. (low ≤ q.0) × (q.0 ≤ high) × ((shown q.0).row ≡ Some q.1)) xs →
        Each (λ q. (suc p.0 ≤ q.0) × (q.0 ≤ high) × ((shown q.0).row ≡ Some q.1)) xs
    over [] l e = tt
    over (x ∷ xs) l e = ((l.0, e.0.1, e.0.2), over xs l.1 e.1)

    go : (key : ℕ) → suc p.0 ≤ key → IsTrue (list_any (λ p. p.0 == key) (p ∷ rows)) ⊎ ((shown key).row ≡ None) → IsTrue (list_any (λ p. p.0 == key) rows) ⊎ ((shown key).row ≡ None)
    go key l (inr n) = inr n
    go key l (inl t) = inl (later (p.0 == key) refl t)
      where
        later : (b : Bool) → (p.0 == key) ≡ b → IsTrue (b || list_any (λ p. p.0 == key) rows) → IsTrue (list_any (λ p. p.0 == key) rows)
        later true s t = absurd (let same : p.0 ≡ key = (Decides-eqb p.0 key).0 s in omega (arith, l, same))
        later false s t = t

-- the first row of a range is not before the first of the same range
not_earlier : (shown : ℕ → Image) (low high : ℕ) (p q : ℕ × List Value) (xs ys : Rows) → AreRows shown low high (p ∷ xs) → AreRows shown low high (q ∷ ys) → p.0 < q.0 → ⊥
not_earlier shown low high p q xs ys a b less = go (b.every p.0 a.each.0.0 a.each.0.1)
  where
    go : IsTrue (list_any (λ r. r.0 == p.0) (q ∷ ys)) ⊎ ((shown p.0).row ≡ None) → ⊥
    go (inr n) = none_some (shown p.0).row p.1 n a.each.0.2
    go (inl t) = none_below p.0 (q ∷ ys) (omega (arith, less), each_keeps (λ r. suc q.0 ≤ r.0) (λ r. suc p.0 ≤ r.0) (λ r l. omega (arith, l, less)) ys (rows_over q.0 ys b.ascend)) t

no_first : (shown : ℕ → Image) (low high : ℕ) (p : ℕ × List Value) (xs : Rows) → AreRows shown low high (p ∷ xs) → AreRows shown low high [] → ⊥
no_first shown low high p xs a b = go (b.every p.0 a.each.0.0 a.each.0.1)
  where
    go : IsTrue (list_any (λ (r : ℕ × List Value). r.0 == p.0) []) ⊎ ((shown p.0).row ≡ None) → ⊥
    go (inr n) = none_some (shown p.0).row p.1 n a.each.0.2
    go (inl t) = let k = t in cc

same_row : (shown : ℕ → Image) (p q : ℕ × List Value) → p.0 ≡ q.0 → (shown p.0).row ≡ Some p.1 → (shown q.0).row ≡ Some q.1 → p ≡ q
same_row shown p q e a b =
    let rows : Some p.1 ≡ Some q.1 = sym a ∙ (ap (λ k. (shown k).row) e ∙ b) in
    let same : p.1 ≡ q.1 = cc in
    λ i. (e i, same i)

pub same_rows : (shown : ℕ → Image) (low high : ℕ) (xs ys : Rows) → AreRows shown low high xs → AreRows shown low high ys → xs ≡ ys
same_rows shown low high [] [] a b = refl
same_rows shown low high [] (q ∷ ys) a b = absurd (no_first shown low high q ys b a)
same_rows shown low high (p ∷ xs) [] a b = absurd (no_first shown low high p xs a b)
same_rows shown low high (p ∷ xs) (q ∷ ys) a b =
    let key : p.0 ≡ q.0 = level p.0 q.0 (not_earlier shown low high p q xs ys a b) (not_earlier shown low high q p ys xs b a) in
    let rest = same_rows shown (suc p.0) high xs ys (rest_rows shown low high p xs a) (subst (λ n. AreRows shown (suc n) high ys) (sym key) (rest_rows shown low high q ys b)) in
    (λ i. same_row shown p q key a.each.0.2 b.each.0.2 i ∷ rest i)
  where
    level : (m n : ℕ) → (m < n → ⊥) → (n < m → ⊥) → m ≡ n
    level m n l r = cases (nat_lt m n)
        (λ t. absurd (l (grind (arith, nat_tests, t))))
        (λ f. cases (nat_lt n m) (λ t. absurd (r (grind (arith, nat_tests, t)))) (λ g. grind (arith, nat_tests, f, g)))

-- ---- a row that is shown is in the list

pub any_found : {X : Type 0} (p : X → Bool) (xs : List X) → IsTrue (list_any p xs) → (x : X) × Contains xs x × (p x ≡ true)
any_found p [] e = absurd (false_true e)
any_found p (x ∷ xs) e = cases (p x)
    (λ t. (x, (0, omega arith, refl), t))
    (λ f.
    let more = any_found p xs (sym (ap (λ b. b || list_any p xs) f) ∙ e) in
    (more.0, later x xs more.0 more.1, more.2))
  where
    later : {X : Type 0} (x : X) (xs : List X) (y : X) → Contains xs y → Contains (x ∷ xs) y
    later x xs y (k, l, e) = (suc k, omega (arith, l), e)

pub row_there : (shown : ℕ → Image) (low high : ℕ) (rows : Rows) (p : ℕ × List Value) → AreRows shown low high rows → low ≤ p.0 → p.0 ≤ high → (shown p.0).row ≡ Some p.1 → Contains rows p
row_there shown low high rows p a l h e = go (a.every p.0 l h)
  where
    found : (q : ℕ × List Value) × Contains rows q × ((q.0 == p.0) ≡ true) → Contains rows p
    found (q, c, t) =
        let key : q.0 ≡ p.0 = (Decides-eqb q.0 p.0).0 t in
        let is = each_at (λ r. (low ≤ r.0) × (r.0 ≤ high) × ((shown r.0).row ≡ Some r.1)) rows q a.each c in
        subst (Contains rows) (same_row shown q p key is.2 e) c

    go : IsTrue (list_any (λ r. r.0 == p.0) rows) ⊎ ((shown p.0).row ≡ None) → Contains rows p
    go (inl t) = found (any_found (λ r. r.0 == p.0) rows t)
    go (inr n) = absurd (none_some (shown p.0).row p.1 n e)
