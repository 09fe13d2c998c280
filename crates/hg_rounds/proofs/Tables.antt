-- A pass goes through the tables of a bucket that it holds.
use Rattle.std.proofs.Common.{◌≡◌, ℕ, suc, ◌+◌, ◌<◌, sym, ap, ◌∙◌, subst, arith}
use native.Mathlib.Decide.{dec_le}
use Rattle.hg_base.specs.declared.rid.Rid.{Rid}
use Rattle.hg_base.specs.declared.rid.TableId.{TableId}
use Rattle.hg_base.specs.declared.report.Kind.{Kind}
use Rattle.hg_core.specs.declared.version.Version.{Version}
use Rattle.std.specs.Prelude.{List}
use Rattle.hg_bucket.specs.BucketModel.{record_at}
use Rattle.hg_rule.specs.declared.view.View.{View}
use Rattle.hg_rule.specs.Facts.{record_of}
use Rattle.hg_rule.specs.Views.{pass}
use Rattle.hg_rule.specs.Holding.{held}
use Rattle.hg_store.specs.Clearing.{Clears, Counts}
use Rattle.hg_store.proofs.Clearing.{same_record}
use Rattle.hg_rounds.specs.Tables.{ClearsTables}
use Rattle.hg_rounds.proofs.Removing.{removes_more}

-- the pass's record is as it was
pub record_still : (kind : Kind) (Q : Rid → List Version → Type 0) (n gone : ℕ) (v w : View) → ClearsTables kind Q n gone v w → record_of (pass w) ≡ record_of (pass v)
record_still kind Q n gone v w c = same_record v w kind gone c.removes.counts

-- one table more
pub tables_more : (kind : Kind) (Q : Rid → List Version → Type 0) (v w x : View) (n m k : ℕ) (t : TableId) → t.0 ≡ n → ClearsTables kind Q n m v w → Clears w t kind x → Counts w kind k x
    → ((key : ℕ) → Q (record_at t key) (held x (record_at t key))) → ((r : Rid) → (r.table ≡ t → ⊥) → held x r ≡ held w r) → ClearsTables kind Q (suc n) (m + k) v x
tables_more kind Q v w x n m k t is c clears counts left others = record {
  removes = removes_more kind v w x m k t c.removes clears counts;
  left = λ r l. by_table r l (dec_le (suc r.table.0) n);
  rest = λ r l. others r (λ e. let same : r.table.0 ≡ t.0 = ap (λ (x : TableId). x.0) e in omega (arith, same, is, l)) ∙ c.rest r (omega (arith, l));
}
  where
    by_table : (r : Rid) → r.table.0 < suc n → Dec (r.table.0 < n) → Q r (held x r)
    by_table r l (yes less) = subst (Q r) (sym (others r (λ e. let same : r.table.0 ≡ t.0 = ap (λ (x : TableId). x.0) e in omega (arith, same, is, less)))) (c.left r less)
    by_table r l (no most) =
        let number : t.0 ≡ r.table.0 = omega (arith, is, l, most) in
        let table : t ≡ r.table = λ i. record { 0 = number i } in
        subst (λ (y : TableId). Q (record_at y r.key) (held x (record_at y r.key))) table (left r.key)
