-- The keys of a table ascend, and each record that is written has its key there.
use Rattle.std.proofs.Common.{◌≡◌, ℕ, ◌<◌, List, [], ◌∷◌, map, Bool, true, false, refl, sym, ap, ◌∙◌, subst, arith}
use Rattle.std.specs.Prelude.{◌==◌, ◌&&◌, ◌||◌, cond, nat_lt}
use Rattle.std.specs.List.{list_any}
use Rattle.std.proofs.lemmas.Bool.Decides.{Decides-eqb, nat_tests}
use Rattle.hg_base.specs.declared.rid.Rid.{Rid}
use Rattle.hg_base.specs.declared.rid.TableId.{TableId}
use Rattle.hg_base.specs.declared.value.Value.{Value}
use Rattle.hg_base.specs.Lists.{Each, Ascends}
use Rattle.hg_base.specs.History.{is_among, same_rid}
use Rattle.hg_base.proofs.ListFacts.{each_keeps}
use Rattle.hg_exact.specs.Answers.{keys_in, placed}

abbrev pub Rows : Type 0
Rows = List (ℕ × List Value)

abbrev pub keys : Rows → List ℕ
keys rows = map (λ p. p.0) rows

-- what holds of either choice
pub cond_by : {A : Type 0} (P : A → Type 0) (b : Bool) (x y : A) → (b ≡ true → P x) → (b ≡ false → P y) → P (cond b x y)
cond_by P true x y f g = f refl
cond_by P false x y f g = g refl

-- ---- ascending numbers

pub ascends_tail : (a : ℕ) (xs : List ℕ) → Ascends (a ∷ xs) → Ascends xs
ascends_tail a [] h = tt
ascends_tail a (x ∷ xs) h = h.1

pub ascends_over : (a : ℕ) (xs : List ℕ) → Ascends (a ∷ xs) → Each (λ x. a < x) xs
ascends_over a [] h = tt
ascends_over a (x ∷ xs) h = (h.0, each_keeps (λ y. x < y) (λ y. a < y) (λ y k. go y k h.0) xs (ascends_over x xs h.1))
  where
    go : (y : ℕ) → x < y → a < x → a < y
    go y k l = omega (arith, k, l)

pub ascends_cons : (a : ℕ) (xs : List ℕ) → Each (λ m. a < m) xs → Ascends xs → Ascends (a ∷ xs)
ascends_cons a [] h k = tt
ascends_cons a (x ∷ xs) h k = (h.0, k)

-- ---- the keys of a table

placed_over : (a k : ℕ) (ms : List ℕ) → a < k → Each (λ m. a < m) ms → Each (λ m. a < m) (placed k ms)
placed_over a k [] h e = (h, tt)
placed_over a k (m ∷ ms) h e = go (nat_lt k m) (k == m) (placed_over a k ms h e.1)
  where
    go : (b c : Bool) → Each (λ x. a < x) (placed k ms) → Each (λ x. a < x) (cond b (k ∷ m ∷ ms) (cond c (m ∷ ms) (m ∷ placed k ms)))
    go true c later = (h, e)
    go false true later = e
    go false false later = (e.0, later)

not_below : (k m : ℕ) → nat_lt k m ≡ false → (k == m) ≡ false → m < k
not_below k m e f = grind (arith, nat_tests)

below : (k m : ℕ) → nat_lt k m ≡ true → k < m
below k m e = grind (arith, nat_tests)

placed_ascends : (k : ℕ) (ms : List ℕ) → Ascends ms → Ascends (placed k ms)
placed_ascends k [] h = tt
placed_ascends k (m ∷ ms) h = go (nat_lt k m) refl (k == m) refl (placed_ascends k ms (ascends_tail m ms h))
  where
    go : (b : Bool) → nat_lt k m ≡ b → (c : Bool) → (k == m) ≡ c → Ascends (placed k ms) → Ascends (cond b (k ∷ m ∷ ms) (cond c (m ∷ ms) (m ∷ placed k ms)))
    go true e c f later = (below k m e, h)
    go false e true f later = h
    go false e false f later = ascends_cons m (placed k ms) (placed_over m k ms (not_below k m e f) (ascends_over m ms h)) later

pub keys_ascend : (table : TableId) (rids : List Rid) → Ascends (keys_in table rids)
keys_ascend table [] = tt
keys_ascend table (r ∷ rs) = cond_by Ascends (r.table.0 == table.0) (placed r.key (keys_in table rs)) (keys_in table rs)
    (λ e. placed_ascends r.key (keys_in table rs) (keys_ascend table rs)) (λ e. keys_ascend table rs)

abbrev pub has : ℕ → List ℕ → Bool
has key ks = list_any (λ k. k == key) ks

pub same_number : (n : ℕ) → (n == n) ≡ true
same_number n = (Decides-eqb n n).1 refl

or_true : (a : Bool) → (a || true) ≡ true
or_true true = refl
or_true false = refl

placed_has : (k : ℕ) (ms : List ℕ) → has k (placed k ms) ≡ true
placed_has k [] = ap (λ b. b || false) (same_number k)
placed_has k (m ∷ ms) = go (nat_lt k m) (k == m) refl (placed_has k ms)
  where
    go : (b c : Bool) → (k == m) ≡ c → has k (placed k ms) ≡ true → has k (cond b (k ∷ m ∷ ms) (cond c (m ∷ ms) (m ∷ placed k ms))) ≡ true
    go true c e later = ap (λ b. b || has k (m ∷ ms)) (same_number k)
    go false true e later = let f : (m == k) ≡ true = grind (arith, nat_tests) in ap (λ b. b || has k ms) f
    go false false e later = ap (λ b. (m == k) || b) later ∙ or_true (m == k)

pub or_more : (a b c : Bool) → (a || b) ≡ true → (b ≡ true → c ≡ true) → (a || c) ≡ true
or_more true b c e f = refl
or_more false b c e f = f e

pub or_keeps : (a b : Bool) → b ≡ true → (a || b) ≡ true
or_keeps true b e = refl
or_keeps false b e = e

placed_keeps : (k key : ℕ) (ms : List ℕ) → has key ms ≡ true → has key (placed k ms) ≡ true
placed_keeps k key [] e = absurd (let bad : false ≡ true = e in cc)
placed_keeps k key (m ∷ ms) e = go (nat_lt k m) (k == m) (λ f. placed_keeps k key ms f)
  where
    go : (b c : Bool) → (has key ms ≡ true → has key (placed k ms) ≡ true) → has key (cond b (k ∷ m ∷ ms) (cond c (m ∷ ms) (m ∷ placed k ms))) ≡ true
    go true c later = or_keeps (k == key) (has key (m ∷ ms)) e
    go false true later = e
    go false false later = or_more (m == key) (has key ms) (has key (placed k ms)) e later

rid_of : TableId → ℕ → Rid
rid_of table key = record { table = table; key = key }

-- a record that is written has its key there
pub keys_have : (table : TableId) (key : ℕ) (rids : List Rid) → is_among (record { table = table; key = key }) rids ≡ true → has key (keys_in table rids) ≡ true
keys_have table key [] e = absurd (let bad : false ≡ true = e in cc)
keys_have table key (r ∷ rs) e = go (r.table.0 == table.0) refl (same_rid (record { table = table; key = key }) r) refl (λ f. keys_have table key rs f)
  where
    here : (r.key == key) ≡ true → has key (placed r.key (keys_in table rs)) ≡ true
    here f = subst (λ k. has k (placed r.key (keys_in table rs)) ≡ true) ((Decides-eqb r.key key).0 f) (placed_has r.key (keys_in table rs))

    go : (b : Bool) → (r.table.0 == table.0) ≡ b → (c : Bool) → same_rid (record { table = table; key = key }) r ≡ c →
        (is_among (record { table = table; key = key }) rs ≡ true → has key (keys_in table rs) ≡ true) → has key (cond b (placed r.key (keys_in table rs)) (keys_in table rs)) ≡ true
    go true f true g later = here (let k : (table.0 == r.table.0) && (key == r.key) ≡ true = g in grind (arith, nat_tests))
    go true f false g later = placed_keeps r.key key (keys_in table rs) (later (sym (ap (λ b. b || is_among (record { table = table; key = key }) rs) g) ∙ e))
    go false f true g later = absurd (let k : (table.0 == r.table.0) && (key == r.key) ≡ true = g in grind (arith, nat_tests))
    go false f false g later = later (sym (ap (λ b. b || is_among (record { table = table; key = key }) rs) g) ∙ e)
