-- What a removal leaves of its record.
use Rattle.std.proofs.Common.{◌≡◌, ℕ, List, ◌++◌, true, ◌==◌, refl, sym, ◌∙◌, subst, arith}
use Rattle.std.proofs.lemmas.Bool.Decides.{nat_tests}
use Rattle.hg_base.specs.declared.rid.Rid.{Rid}
use Rattle.hg_base.specs.declared.report.Kind.{Kind}
use Rattle.hg_base.specs.declared.report.Kind.TheVariants.{Group, Table, Interval}
use Rattle.hg_base.proofs.HistoryFacts.{same_rid_itself}
use Rattle.hg_core.specs.declared.version.Version.{Version}
use Rattle.hg_core.specs.Versions.{first_at}
use Rattle.hg_core.specs.Contents.{Content, bucket_of, versions, stored}
use Rattle.hg_core.specs.Passes.{horizon, recorded, group_bound, table_bound}
use Rattle.hg_core.specs.Removal.{reclaimed}
use Rattle.hg_core.specs.Clean.{IsClean, IsCutAt, past, as_oldest, not_gone}
use Rattle.hg_core.specs.Held.{left_by}
use Rattle.hg_core.specs.State.{CoreState}
use Rattle.hg_core.specs.Invariant.{IsSteady}
use Rattle.hg_core.proofs.Records.{look_store}
use Rattle.hg_core.proofs.Cuts.{cut_is_cut, cut_exactly}
use Rattle.hg_core.proofs.Clean.{swept_is_clean, swept_exactly}

-- a record has the versions that are stored
pub stored_here : (buckets : ℕ) (bucket : ℕ → Content) (r : Rid) (vs : List Version) → versions buckets (stored buckets bucket r vs) r ≡ vs
stored_here buckets bucket r vs =
    let here : (bucket_of buckets r == bucket_of buckets r) ≡ true = grind (arith, nat_tests) in
    rw (here, look_store r r vs (bucket (bucket_of buckets r)), same_rid_itself r) refl

left_is : (s : CoreState) (p : ℕ) (kind : Kind) (r : Rid) → left_by s p kind r ≡ reclaimed kind r.table (s.pass p) (versions s.buckets s.bucket r)
left_is s p kind r = stored_here s.buckets s.bucket r (reclaimed kind r.table (s.pass p) (versions s.buckets s.bucket r))

pub group_left : (s : CoreState) (p : ℕ) (r : Rid) → IsSteady s → IsCutAt (group_bound (s.pass p)) (left_by s p Group r)
group_left s p r h = subst (IsCutAt (group_bound (s.pass p))) (sym (left_is s p Group r)) (cut_is_cut (group_bound (s.pass p)) (versions s.buckets s.bucket r))

pub table_left : (s : CoreState) (p : ℕ) (r : Rid) → IsSteady s → IsCutAt (table_bound r.table (s.pass p)) (left_by s p Table r)
table_left s p r h = subst (IsCutAt (table_bound r.table (s.pass p))) (sym (left_is s p Table r)) (cut_is_cut (table_bound r.table (s.pass p)) (versions s.buckets s.bucket r))

pub interval_left : (s : CoreState) (p : ℕ) (r : Rid) → IsSteady s → IsClean (horizon (s.pass p)) (recorded r.table (s.pass p)) (left_by s p Interval r)
interval_left s p r h = subst (IsClean (horizon (s.pass p)) (recorded r.table (s.pass p))) (sym (left_is s p Interval r))
    (swept_is_clean s.mark (horizon (s.pass p)) (recorded r.table (s.pass p)) (versions s.buckets s.bucket r) (h.contents_are_ordered.ordered r))

pub group_exactly : (s : CoreState) (p : ℕ) (r : Rid) → IsSteady s → left_by s p Group r ≡ past (group_bound (s.pass p)) (versions s.buckets s.bucket r) ++ as_oldest
    (first_at (group_bound (s.pass p)) (versions s.buckets s.bucket r))
group_exactly s p r h = left_is s p Group r ∙ cut_exactly s.mark (group_bound (s.pass p)) (versions s.buckets s.bucket r) (h.contents_are_ordered.ordered r)

pub table_exactly : (s : CoreState) (p : ℕ) (r : Rid) → IsSteady s → left_by s p Table r ≡ past (table_bound r.table (s.pass p)) (versions s.buckets s.bucket r) ++ as_oldest
    (first_at (table_bound r.table (s.pass p)) (versions s.buckets s.bucket r))
table_exactly s p r h = left_is s p Table r ∙ cut_exactly s.mark (table_bound r.table (s.pass p)) (versions s.buckets s.bucket r) (h.contents_are_ordered.ordered r)

pub interval_exactly : (s : CoreState) (p : ℕ) (r : Rid) → IsSteady s → left_by s p Interval r ≡ not_gone (horizon (s.pass p)) (recorded r.table (s.pass p)) (versions s.buckets s.bucket r)
interval_exactly s p r h = left_is s p Interval r ∙ swept_exactly (horizon (s.pass p)) (recorded r.table (s.pass p)) (versions s.buckets s.bucket r)
