-- What a bucket's tables cost, one after the other.
use Rattle.std.proofs.Common.{◌≡◌, ℕ, suc, ◌+◌, ◌<◌, ◌≤◌, List, [], ◌∷◌, ◌++◌, Bool, true, false, length, refl, sym, ap, ◌∙◌, arith}
use Rattle.std.specs.Prelude.{sum_by, ◌||◌}
use Rattle.std.proofs.lemmas.List.Sums.{sum_by-cons, sum_by-append}
use Rattle.hg_base.specs.declared.rid.Rid.{Rid}
use Rattle.hg_base.specs.declared.rid.TableId.{TableId}
use Rattle.hg_base.specs.Lists.{Each}
use Rattle.hg_base.specs.History.{same_rid, is_among, NoneTwice}
use Rattle.hg_base.proofs.HistoryFacts.{same_rid_equal}
use Rattle.hg_core.specs.Passes.{PassRecord, recorded}
use Rattle.hg_rule.specs.declared.view.View.{View}
use Rattle.hg_rule.specs.Holding.{held}
use Rattle.hg_store.specs.Clearing.{IsLongOf, Spends}
use Rattle.hg_store.proofs.Spending.{long_still}
use Rattle.hg_rounds.specs.Costs.{record_cost, SpendsTables}

among_both : (r : Rid) (xs ys : List Rid) → is_among r xs ≡ false → is_among r ys ≡ false → is_among r (xs ++ ys) ≡ false
among_both r [] ys a b = b
among_both r (x ∷ xs) ys a b = go (same_rid r x) a (λ h. among_both r xs ys h b)
  where
    go : (t : Bool) → (t || is_among r xs) ≡ false → (is_among r xs ≡ false → is_among r (xs ++ ys) ≡ false) → (t || is_among r (xs ++ ys)) ≡ false
    go true a more = absurd cc
    go false a more = more a

twice_both : (xs ys : List Rid) → NoneTwice xs → NoneTwice ys → Each (λ r. is_among r ys ≡ false) xs → NoneTwice (xs ++ ys)
twice_both [] ys a b apart = b
twice_both (x ∷ xs) ys a b apart = (among_both x xs ys a.0 apart.0, twice_both xs ys a.1 b apart.1)

each_both : (P : Rid → Type 0) (xs ys : List Rid) → Each P xs → Each P ys → Each P (xs ++ ys)
each_both P [] ys a b = b
each_both P (x ∷ xs) ys a b = (a.0, each_both P xs ys a.1 b)

each_from : (P Q : Rid → Type 0) (xs : List Rid) → ((r : Rid) → P r → Q r) → Each P xs → Each Q xs
each_from P Q [] f h = tt
each_from P Q (x ∷ xs) f h = (f x h.0, each_from P Q xs f h.1)

-- a record of table n is none of earlier tables
none_below : (n : ℕ) (r : Rid) (ys : List Rid) → r.table.0 ≡ n → Each (λ (q : Rid). q.table.0 < n) ys → is_among r ys ≡ false
none_below n r [] is h = refl
none_below n r (y ∷ ys) is h = go (same_rid r y) refl (none_below n r ys is h.1)
  where
    go : (t : Bool) → same_rid r y ≡ t → is_among r ys ≡ false → (t || is_among r ys) ≡ false
    go true e rest = absurd (let same : r.table.0 ≡ y.table.0 = ap (λ (x : Rid). x.table.0) (same_rid_equal r y e) in omega (arith, same, is, h.0))
    go false e rest = rest

-- one table more
module _ (p : PassRecord) (v w : View) (n k before between after : ℕ) (t : TableId) (is : t.0 ≡ n) (many : k ≡ length (recorded t p)) (a : SpendsTables n p v before between)
    (rest : (r : Rid) → n ≤ r.table.0 → held w r ≡ held v r) (b : Spends w t k between after) where
  number : (r : Rid) → r.table ≡ t → r.table.0 ≡ n
  number r e = ap (λ (x : TableId). x.0) e ∙ is

  stays : (r : Rid) → r.table ≡ t → held w r ≡ held v r
  stays r e = let same = number r e in rest r (omega (arith, same))

  cost_is : (r : Rid) → r.table ≡ t → length (held w r) + k ≡ record_cost p v r
  cost_is r e = (λ i. length (stays r e i) + many i) ∙ ap (λ (x : TableId). length (held v r) + length (recorded x p)) (sym e)

  sums : (rs : List Rid) → Each (IsLongOf t w) rs → sum_by (λ r. length (held w r) + k) rs ≡ sum_by (record_cost p v) rs
  sums [] h = refl
  sums (r ∷ rs) h = omega (arith, sum_by-cons (λ r. length (held w r) + k) r rs, sum_by-cons (record_cost p v) r rs, cost_is r h.0.0, sums rs h.1)

  pub spends_more : SpendsTables (suc n) p v before after
  spends_more = record {
    looked = b.looked ++ a.looked;
    once = twice_both b.looked a.looked b.once a.once (each_from (IsLongOf t w) (λ r. is_among r a.looked ≡ false) b.looked (λ r h. none_below n r a.looked (number r h.0) a.are_below) b.are_long);
    are_below = each_both (λ (r : Rid). r.table.0 < suc n) b.looked a.looked
        (each_from (IsLongOf t w) (λ (r : Rid). r.table.0 < suc n) b.looked (λ r h. let same = number r h.0 in omega (arith, same)) b.are_long)
        (each_from (λ (r : Rid). r.table.0 < n) (λ (r : Rid). r.table.0 < suc n) a.looked (λ r h. omega (arith, h)) a.are_below);
    are_long = each_both (λ (r : Rid). IsLongOf r.table v r) b.looked a.looked
        (each_from (IsLongOf t w) (λ (r : Rid). IsLongOf r.table v r) b.looked (λ r h. long_still t v w r (stays r h.0) h) b.are_long) a.are_long;
    few = omega (arith, a.few, b.few, sums b.looked b.are_long, sum_by-append (record_cost p v) b.looked a.looked);
  }
