-- Records of a bucket that a pass holds are reclaimed, one after the other.
use Rattle.std.proofs.Common.{◌≡◌, ℕ, ◌+◌, List, [], ◌∷◌, ◌++◌, sym, ap, ◌∙◌, subst, arith, append_assoc}
use Rattle.hg_base.specs.declared.rid.Rid.{Rid}
use Rattle.hg_base.specs.declared.rid.TableId.{TableId}
use Rattle.hg_base.specs.declared.report.Kind.{Kind}
use Rattle.hg_rule.specs.declared.view.Event.{Event}
use Rattle.hg_rule.specs.declared.view.Event.TheVariants.{Reclaim}
use Rattle.hg_rule.specs.declared.view.View.{View}
use Rattle.hg_rule.specs.Views.{number}
use Rattle.hg_rule.specs.Removes.{Reclaims, removed_of}
use Rattle.hg_rule.proofs.Rounds.{gone_on}
use Rattle.hg_store.specs.Clearing.{ReclaimsAll, Clears, Counts}
use Rattle.hg_store.proofs.Clearing.{counts_more}
use Rattle.hg_rounds.specs.Tables.{Removes}
use Rattle.hg_rounds.proofs.Going.{works}

removes_one : (kind : Kind) (v w x : View) (m : ℕ) (r : Rid) → Removes kind m v w → Reclaims w r kind x → Removes kind (m + removed_of w r kind) v x
removes_one kind v w x m r a step = record {
  counts = counts_more v w x kind m r a.counts step;
  steps = a.steps ++ one;
  work = works a.steps one a.work (tt, tt);
  removed = let l = gone_on a.steps one in omega (arith, l, a.removed);
  events = ap (λ (u : View). u.events) step ∙ (ap (λ l. l ++ one) a.events ∙ append_assoc v.events a.steps one);
}
  where
    one : List Event
    one = Reclaim (number w) kind r (removed_of w r kind) ∷ []

removes_all : (kind : Kind) (v w x : View) (m : ℕ) (rids : List Rid) → Removes kind m v w → ReclaimsAll w rids kind x → (n : ℕ) × Removes kind n v x
removes_all kind v w x m [] a same = (m, subst (Removes kind m v) (sym same) a)
removes_all kind v w x m (r ∷ rids) a s = removes_all kind v s.0 x (m + removed_of w r kind) rids (removes_one kind v w s.0 m r a s.1.0) s.1.1

-- a table more: as many went by its steps as were counted
pub removes_more : (kind : Kind) (v w x : View) (m n : ℕ) (table : TableId) → Removes kind m v w → Clears w table kind x → Counts w kind n x → Removes kind (m + n) v x
removes_more kind v w x m n table a c counts =
    let all = removes_all kind v w x m c.visited a c.steps in
    let same : all.0 ≡ m + n = omega (arith, all.1.counts.versions, a.counts.versions, counts.versions) in
    subst (λ k. Removes kind k v x) same all.1
