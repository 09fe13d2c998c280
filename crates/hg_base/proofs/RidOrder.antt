-- The order of record ids, and that ids which compare alike are of the same record.
use Rattle.std.proofs.Common.{◌≡◌, ℕ, true, refl, ◌∙◌, arith, ◌≤◌, subst}
use Rattle.std.specs.Prelude.{◌&&◌, ◌==◌}
use Rattle.std.specs.declared.cmp.Ordering.{Ordering}
use Rattle.std.specs.declared.cmp.Ordering.TheVariants.{Less, Equal, Greater}
use Rattle.std.specs.Ordering.{nat_cmp, ordering_then, is_eq}
use Rattle.std.specs.BTreeMap.{is_at}
use Rattle.std.specs.BTreeMap.Range.{IsLeBy}
use Rattle.std.specs.Cmp.{IsTotalOrder, IsEquivalence, eq_by_cmp_equiv}
use Rattle.std.proofs.lemmas.Bool.Decides.{nat_tests}
use Rattle.std.proofs.lemmas.Cmp.{on_total, then_total, nat_cmp_total, nat_eq_equiv}
use Rattle.hg_base.specs.declared.rid.Rid.{Rid}
use Rattle.hg_base.specs.History.{same_rid}
use Rattle.hg_base.specs.RidOrder.{rid_cmp}

pub rids_total : IsTotalOrder rid_cmp
rids_total = then_total (on_total (λ (r : Rid). r.table.0) nat_cmp_total) (on_total (λ (r : Rid). r.key) nat_cmp_total)

pub alike_numbers : (x y : ℕ) → is_eq (nat_cmp x y) ≡ (x == y)
alike_numbers x y = grind (arith, nat_tests)

pub alike_parts : (o p : Ordering) → is_eq (ordering_then o p) ≡ (is_eq o && is_eq p)
alike_parts Less p = refl
alike_parts Equal p = refl
alike_parts Greater p = refl

-- where a look-up finds it, it is the same record
pub at_rid : (a b : Rid) → is_at (rid_cmp a) b ≡ same_rid a b
at_rid a b = alike_parts (nat_cmp a.table.0 b.table.0) (nat_cmp a.key b.key)
    ∙ (λ i. alike_numbers a.table.0 b.table.0 i && alike_numbers a.key b.key i)

pub same_back : (a b : Rid) → same_rid a b ≡ same_rid b a
same_back a b = λ i. nat_eq_equiv.symm a.table.0 b.table.0 i && nat_eq_equiv.symm a.key b.key i

pub is_same : (r : Rid) → same_rid r r ≡ true
is_same r = λ i. nat_eq_equiv.refl r.table.0 i && nat_eq_equiv.refl r.key i

pub rids_equiv : IsEquivalence same_rid
rids_equiv = subst IsEquivalence (λ i a b. at_rid a b i) (eq_by_cmp_equiv rids_total)

-- within a table by key, and else by table
pub le_keys : (a b : Rid) → a.table.0 ≡ b.table.0 → a.key ≤ b.key → IsLeBy rid_cmp a b
le_keys a b t k = grind (arith, nat_tests, t, k)

pub le_tables : (a b : Rid) → IsLeBy rid_cmp a b → a.table.0 ≤ b.table.0
le_tables a b h = grind (arith, nat_tests, h)

pub le_in_table : (a b : Rid) → IsLeBy rid_cmp a b → a.table.0 ≡ b.table.0 → a.key ≤ b.key
le_in_table a b h t = grind (arith, nat_tests, h, t)
