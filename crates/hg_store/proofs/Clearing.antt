-- A pass goes through a table, key by key.
use Rattle.std.proofs.Common.{◌≡◌, ℕ, ◌+◌, ◌*◌, ◌≤◌, List, [], ◌∷◌, ◌++◌, Bool, true, false, refl, sym, ap, ◌∙◌, subst, map, arith}
use Rattle.std.specs.Prelude.{◌==◌, if◌then◌else◌, ◌||◌}
use Rattle.std.proofs.lemmas.Bool.Decides.{nat_tests}
use Rattle.hg_base.specs.declared.rid.Rid.{Rid}
use Rattle.hg_base.specs.declared.report.Kind.{Kind}
use Rattle.hg_base.specs.declared.report.Kind.TheVariants.{Group, Table, Interval}
use Rattle.hg_base.specs.Lists.{Each}
use Rattle.hg_base.specs.History.{same_rid, is_among}
use Rattle.hg_base.proofs.HistoryFacts.{same_rid_itself}
use Rattle.hg_core.specs.declared.visit.Removed.{Removed}
use Rattle.hg_core.specs.declared.visit.Counters.{Counters}
use Rattle.hg_core.specs.declared.visit.Visit.{Visit}
use Rattle.hg_core.specs.Contents.{bucket_of}
use Rattle.hg_core.specs.Counters.{total, removed_more}
use Rattle.hg_core.specs.Clean.{IsClean, IsCutAt}
use Rattle.hg_core.specs.Passes.{horizon, recorded, table_bound}
use Rattle.hg_core.specs.Visits.{removing}
use Rattle.hg_core.proofs.Cuts.{cut_is_cut}
use Rattle.hg_core.proofs.Clean.{swept_is_clean}
use Rattle.hg_core.proofs.Records.{look_store, turned_rid}
use Rattle.hg_core.proofs.Lengths.{total_store, length_reclaimed}
use Rattle.hg_bucket.specs.Sweeping.{is_long}
use Rattle.hg_rule.specs.declared.view.View.{View}
use Rattle.hg_rule.specs.declared.view.Sizes.{Sizes}
use Rattle.hg_rule.specs.Facts.{record_of}
use Rattle.hg_rule.specs.Rules.{IsBacked}
use Rattle.hg_rule.specs.Views.{number, pass}
use Rattle.hg_rule.specs.Holding.{bucket_number, bucket, beyond, held}
use Rattle.hg_rule.specs.Removes.{Reclaims, left_of, removed_of, visiting}
use Rattle.hg_store.specs.declared.held.Held.{Held}
use Rattle.hg_store.specs.Kept.{kept}
use Rattle.hg_store.specs.Stores.{held_number, Holds}
use Rattle.hg_store.specs.Clearing.{ReclaimsAll, Counts}
use Rattle.hg_store.proofs.Holding.{look_none, total_at}

-- ---- one step

append_none : {A : Type 0} (xs : List A) → xs ++ [] ≡ xs
append_none [] = refl
append_none (x ∷ xs) = ap (λ ys. x ∷ ys) (append_none xs)

-- the versions of each record after it
pub held_after : (v w : View) (r : Rid) (kind : Kind) → Reclaims v r kind w → (q : Rid) → held w q ≡ (if same_rid q r then left_of v r kind else held v q)
held_after v w r kind step q = ap (λ x. held x q) step ∙ look_store q r (left_of v r kind) (bucket v).content

pub held_here : (v w : View) (r : Rid) (kind : Kind) → Reclaims v r kind w → held w r ≡ left_of v r kind
held_here v w r kind step = held_after v w r kind step r ∙ ap (λ b. if b then left_of v r kind else held v r) (same_rid_itself r)

pub held_apart : (v w : View) (r : Rid) (kind : Kind) → Reclaims v r kind w → (q : Rid) → same_rid r q ≡ false → held w q ≡ held v q
held_apart v w r kind step q apart = held_after v w r kind step q ∙ ap (λ b. if b then left_of v r kind else held v q) (turned_rid q r ∙ apart)

-- ---- many steps

pub reclaims_more : (v w x : View) (rids : List Rid) (r : Rid) (kind : Kind) → ReclaimsAll v rids kind w → Reclaims w r kind x → ReclaimsAll v (rids ++ r ∷ []) kind x
reclaims_more v w x [] r kind same step = (x, (subst (λ u. Reclaims u r kind x) same step, refl))
reclaims_more v w x (q ∷ rids) r kind steps step = (steps.0, (steps.1.0, reclaims_more steps.0 w x rids r kind steps.1.1 step))

pub each_more : {A : Type 0} (P : A → Type 0) (xs : List A) (x : A) → Each P xs → P x → Each P (xs ++ x ∷ [])
each_more P [] x h p = (p, tt)
each_more P (y ∷ xs) x h p = (h.0, each_more P xs x h.1 p)

pub among_more : (q r : Rid) (rids : List Rid) → is_among q rids ≡ false → same_rid q r ≡ false → is_among q (rids ++ r ∷ []) ≡ false
among_more q r [] h e = ap (λ b. b || false) e
among_more q r (x ∷ rids) h e = go (same_rid q x) h (among_more q r rids)
  where
    go : (b : Bool) → (b || is_among q rids) ≡ false → (is_among q rids ≡ false → same_rid q r ≡ false → is_among q (rids ++ r ∷ []) ≡ false) → (b || is_among q (rids ++ r ∷ [])) ≡ false
    go true h more = absurd cc
    go false h more = more h e

-- ---- what is counted

more_none : (kind : Kind) (removed : Removed) → removed_more kind 0 removed ≡ removed
more_none Group removed = let e : removed.group + 0 ≡ removed.group = omega arith in λ i. record removed { group = e i }
more_none Table removed = let e : removed.table + 0 ≡ removed.table = omega arith in λ i. record removed { table = e i }
more_none Interval removed = let e : removed.interval + 0 ≡ removed.interval = omega arith in λ i. record removed { interval = e i }

more_more : (kind : Kind) (m n : ℕ) (removed : Removed) → removed_more kind n (removed_more kind m removed) ≡ removed_more kind (m + n) removed
more_more Group m n removed = let e : removed.group + m + n ≡ removed.group + (m + n) = omega arith in λ i. record removed { group = e i }
more_more Table m n removed = let e : removed.table + m + n ≡ removed.table + (m + n) = omega arith in λ i. record removed { table = e i }
more_more Interval m n removed = let e : removed.interval + m + n ≡ removed.interval + (m + n) = omega arith in λ i. record removed { interval = e i }

removing_none : (kind : Kind) (visits : List Visit) → removing kind 0 visits ≡ visits
removing_none kind [] = refl
removing_none kind (x ∷ visits) = ap (λ m. record x { removed = m } ∷ visits) (more_none kind x.removed)

removing_more : (kind : Kind) (m n : ℕ) (visits : List Visit) → removing kind n (removing kind m visits) ≡ removing kind (m + n) visits
removing_more kind m n [] = refl
removing_more kind m n (x ∷ visits) = ap (λ k. record x { removed = k } ∷ visits) (more_more kind m n x.removed)

pub counts_none : (v : View) (kind : Kind) → Counts v kind 0 v
counts_none v kind = record {
  same_number = refl;
  visit = ap (λ vs. record (pass v) { visits = vs }) (sym (removing_none kind (pass v).visits));
  same_bucket = refl;
  counters = ap (λ m. record (bucket v).counters { removed = m }) (sym (more_none kind (bucket v).counters.removed));
  versions = omega arith;
  rest = refl;
  sights = refl;
}

-- how many are held after it
total_after : (v w : View) (r : Rid) (kind : Kind) → Reclaims v r kind w → total (bucket w).content + removed_of v r kind ≡ total (bucket v).content
total_after v w r kind step =
    let now = ap (λ x. total (bucket x).content) step in
    omega (arith, now, total_store r (left_of v r kind) (bucket v).content, length_reclaimed kind r.table (record_of (pass v)) (held v r))

pub counts_more : (v w x : View) (kind : Kind) (gone : ℕ) (r : Rid) → Counts v kind gone w → Reclaims w r kind x → Counts v kind (gone + removed_of w r kind) x
counts_more v w x kind gone r c step =
    let n = removed_of w r kind in
    record {
      same_number = ap number step ∙ c.same_number;
      visit = ap pass step ∙ ap (visiting kind n) c.visit ∙ ap (λ vs. record (pass v) { visits = vs }) (removing_more kind gone n (pass v).visits);
      same_bucket = ap bucket_number step ∙ c.same_bucket;
      counters = ap (λ u. (bucket u).counters) step ∙ ap (λ (k : Counters). record k { removed = removed_more kind n k.removed }) c.counters ∙
          ap (λ m. record (bucket v).counters { removed = m }) (more_more kind gone n (bucket v).counters.removed);
      versions = omega (arith, total_after w x r kind step, c.versions);
      rest = ap beyond step ∙ c.rest;
      sights = ap (λ (u : View). u.sights) step ∙ append_none w.sights ∙ c.sights;
    }

pub same_record : (v w : View) (kind : Kind) (gone : ℕ) → Counts v kind gone w → record_of (pass w) ≡ record_of (pass v)
same_record v w kind gone c = ap record_of c.visit

-- ---- a walk

pub long_there : (z : Sizes) (n b : ℕ) (v : View) (r : Rid) → Each (λ e. bucket_of z.buckets e.0 ≡ b) (bucket v).content → is_long (map kept (held v r)) ≡ true → bucket_of z.buckets r ≡ b
long_there z n b v r placed long = go (bucket_of z.buckets r == b) refl
  where
    go : (t : Bool) → (bucket_of z.buckets r == b) ≡ t → bucket_of z.buckets r ≡ b
    go true e = grind (arith, nat_tests)
    go false e =
        let none : held v r ≡ [] = look_none z.buckets b r (bucket v).content placed (grind (arith, nat_tests)) in
        let both : false ≡ true = sym (ap (λ vs. is_long (map kept vs)) none) ∙ long in
        absurd cc

-- ---- what it leaves, and how many go

pub gone_fits : (z : Sizes) (n : ℕ) (kind : Kind) (v w x : View) (h : Held) (r : Rid) (gone : ℕ) → IsBacked z n v → Holds v h → Counts v kind gone w → Reclaims w r kind x →
    gone + removed_of w r kind ≤ z.sessions * z.quota
gone_fits z n kind v w x h r gone backed hold c step = omega (arith, (counts_more v w x kind gone r c step).versions, total_at z n (held_number h) v backed hold.has)

pub cut_left : (v : View) (r : Rid) (bound : ℕ) → bound ≡ table_bound r.table (record_of (pass v)) → IsCutAt bound (left_of v r Table)
cut_left v r bound is = subst (λ b. IsCutAt b (left_of v r Table)) (sym is) (cut_is_cut (table_bound r.table (record_of (pass v))) (held v r))

pub clean_left : (v : View) (h : Held) (r : Rid) (from : ℕ) → Holds v h → from ≡ horizon (record_of (pass v)) → IsClean from (recorded r.table (record_of (pass v))) (left_of v r Interval)
clean_left v h r from hold is =
    let order = hold.ordered r in
    subst (λ b. IsClean b (recorded r.table (record_of (pass v))) (left_of v r Interval)) (sym is)
    (swept_is_clean order.0 (horizon (record_of (pass v))) (recorded r.table (record_of (pass v))) (held v r) order.1)
