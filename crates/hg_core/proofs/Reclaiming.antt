-- What a collector with a whole record takes away, no session reads.
use Rattle.std.proofs.Common.{length, ◌-◌, ◌≡◌, ℕ, ◌≤◌, List, None, Some, ◌⊎◌, inl, inr, refl, sym, ◌∙◌, subst, arith}
use Rattle.std.specs.Prelude.{Contains}
use Rattle.hg_base.specs.declared.rid.Rid.{Rid}
use Rattle.hg_base.specs.declared.rid.TableId.{TableId}
use Rattle.hg_base.specs.declared.writer.Writer.{Writer}
use Rattle.hg_base.specs.declared.image.Image.{Image}
use Rattle.hg_base.specs.declared.report.Kind.{Kind}
use Rattle.hg_base.specs.declared.report.Kind.TheVariants.{Group, Interval, Table}
use Rattle.hg_base.specs.History.{History}
use Rattle.hg_core.specs.declared.phase.Phase.{Phase}
use Rattle.hg_core.specs.declared.phase.Phase.TheVariants.{Idle, Declared, Probed, Entered, Fixed, Live}
use Rattle.hg_core.specs.Logs.{begun_in, open_writes}
use Rattle.hg_core.specs.Passes.{PassRecord, IsWhole, horizon, recorded, all_recorded, group_bound, table_bound}
use Rattle.hg_core.specs.declared.version.Version.{Version}
use Rattle.hg_core.specs.Versions.{is_numbered, unpublished}
use Rattle.hg_core.specs.Contents.{versions, is_stamped, bucket_of, stored}
use Rattle.hg_core.specs.Removal.{reclaimed}
use Rattle.hg_core.specs.Ordered.{IsOrdered, IsBacked}
use Rattle.hg_core.specs.OpenWrites.{writer_of}
use Rattle.hg_core.specs.Covered.{Reads, IsProtected, Covers}
use Rattle.hg_core.specs.State.{CoreState}
use Rattle.hg_core.specs.Events.{happens, May, Reclaim}
use Rattle.hg_core.specs.Invariant.{IsSteady}
use Rattle.hg_core.proofs.Records.{at_record}
use Rattle.hg_core.proofs.Sweep.{ordered_swept, ordered_cut, unpublished_swept, numbered_swept, numbered_cut, backed_swept, backed_cut}
use Rattle.hg_core.proofs.Covering.{covers_cut, covers_swept}
use Rattle.hg_core.proofs.Fences.{horizon_mark, least_first, least_of, live_fenced, fixed_fenced, held_in_table, held_in_all}
use Rattle.hg_core.proofs.Tallies.{counters_shortened}
use Rattle.hg_core.proofs.Lengths.{length_reclaimed}
use Rattle.hg_core.proofs.Visits.{visits_later, stays_stored, visits_changed, removing_each, visitor}
use Rattle.hg_core.proofs.Clean.{stays_reclaimed}
use Rattle.hg_core.proofs.Placing.{placed_stored}
use Rattle.hg_core.proofs.Writing.{is_there}
use Rattle.hg_core.specs.Visits.{removing}

-- n is at or over the horizon; or it counts for the table, and is among all snapshots
abbrev pub IsFenced : PassRecord → TableId → ℕ → Type 0
IsFenced pass table n = (horizon pass ≤ n) ⊎ (Contains (recorded table pass) n × Contains (all_recorded pass) n)

-- a whole record fences each protected number
fenced : (s : CoreState) (p : ℕ) (table : TableId) (n : ℕ) → IsSteady s → IsWhole s.sessions (s.pass p) → IsProtected s.mark s.phase table n → IsFenced (s.pass p) table n
fenced s p table n h whole g = elim g [
  | inl e ↦ inl (omega (arith, e, h.mark_is_length.passes p, horizon_mark (s.pass p).mark (s.pass p).loaded))
  | inr e ↦ go e.0 (s.phase e.0) refl e.1
]
  where
    go : (j : ℕ) (phase : Phase) → s.phase j ≡ phase → Reads table phase n → IsFenced (s.pass p) table n
    go j Idle q reads = absurd reads
    go j (Declared scope) q reads = absurd reads
    go j (Probed scope f) q reads = absurd reads
    go j (Entered scope f) q reads = absurd reads
    go j (Fixed scope f m) q reads = inl (omega (arith, reads, fixed_fenced s p j f m scope h whole q))
    go j (Live at scope) q reads = elim (live_fenced s p j at scope h whole q) [
      | inl a ↦ inl (omega (arith, reads.0))
      | inr a ↦ inr (
        subst (Contains (recorded table (s.pass p))) (sym reads.0) (held_in_table (s.pass p) j at scope table a.0 a.1 reads.1),
        subst (Contains (all_recorded (s.pass p))) (sym reads.0) (held_in_all (s.pass p) j at scope a.0 a.1),
      )
    ]

covers_reclaimed : (s : CoreState) (p : ℕ) (kind : Kind) (r : Rid) (vs : List Version) → IsSteady s → IsWhole s.sessions (s.pass p) → Covers s.mark s.phase s.history r vs →
    Covers s.mark s.phase s.history r (reclaimed kind r.table (s.pass p) vs)
covers_reclaimed s p Group r vs h whole c = covers_cut _ _ _ _ _ _ h.mark_is_length.is_length (λ n g. elim (fenced s p r.table n h whole g) [
  | inl e ↦ omega (arith, e, least_first (horizon (s.pass p)) (all_recorded (s.pass p)))
  | inr e ↦ least_of (horizon (s.pass p)) n (all_recorded (s.pass p)) e.1
]) c
covers_reclaimed s p Table r vs h whole c = covers_cut _ _ _ _ _ _ h.mark_is_length.is_length (λ n g. elim (fenced s p r.table n h whole g) [
  | inl e ↦ omega (arith, e, least_first (horizon (s.pass p)) (recorded r.table (s.pass p)))
  | inr e ↦ least_of (horizon (s.pass p)) n (recorded r.table (s.pass p)) e.0
]) c
covers_reclaimed s p Interval r vs h whole c = covers_swept _ _ _ _ _ _ _ (λ n g. elim (fenced s p r.table n h whole g) [
  | inl e ↦ inl e
  | inr e ↦ inr e.0
]) c

-- its order, and what isn't published, stay
shape_reclaimed : (s : CoreState) (p : ℕ) (kind : Kind) (table : TableId) (vs : List Version) → IsSteady s → IsOrdered s.mark vs →
    (IsOrdered s.mark (reclaimed kind table (s.pass p) vs)) × (unpublished s.mark (reclaimed kind table (s.pass p) vs) ≡ unpublished s.mark vs)
shape_reclaimed s p Group table vs h o = ordered_cut s.mark _ vs
    (omega (arith, h.mark_is_length.passes p, least_first (horizon (s.pass p)) (all_recorded (s.pass p)), horizon_mark (s.pass p).mark (s.pass p).loaded)) o
shape_reclaimed s p Table table vs h o = ordered_cut s.mark _ vs
    (omega (arith, h.mark_is_length.passes p, least_first (horizon (s.pass p)) (recorded table (s.pass p)), horizon_mark (s.pass p).mark (s.pass p).loaded)) o
shape_reclaimed s p Interval table vs h o = (ordered_swept s.mark (horizon (s.pass p)) (recorded table (s.pass p)) vs o, unpublished_swept s.mark (horizon (s.pass p)) (recorded table (s.pass p)) vs)

numbered_reclaimed : (mark : ℕ) (kind : Kind) (table : TableId) (pass : PassRecord) (vs : List Version) (w : Writer) (i : Image) →
    unpublished mark (reclaimed kind table pass vs) ≡ Some (w, i) → is_numbered (reclaimed kind table pass vs) ≡ is_numbered vs
numbered_reclaimed mark Group table pass vs w i o = numbered_cut (group_bound pass) mark vs w i o
numbered_reclaimed mark Table table pass vs w i o = numbered_cut (table_bound table pass) mark vs w i o
numbered_reclaimed mark Interval table pass vs w i o = numbered_swept (horizon pass) (recorded table pass) vs

backed_reclaimed : (mark : ℕ) (h : History) (r : Rid) (kind : Kind) (pass : PassRecord) (vs : List Version) → IsBacked mark h r vs → IsBacked mark h r (reclaimed kind r.table pass vs)
backed_reclaimed mark h r Group pass vs b = backed_cut mark h r (group_bound pass) vs b
backed_reclaimed mark h r Table pass vs b = backed_cut mark h r (table_bound r.table pass) vs b
backed_reclaimed mark h r Interval pass vs b = backed_swept mark h r (horizon pass) (recorded r.table pass) None vs b

pub reclaim_kept : (s : CoreState) (p : ℕ) (kind : Kind) (r : Rid) → IsSteady s → May s (Reclaim p kind r) → IsSteady (happens s (Reclaim p kind r))
reclaim_kept s p kind r h may =
    let whole = may.whole in
    let held : List Version = versions s.buckets s.bucket r in
    let vs : List Version = reclaimed kind r.table (s.pass p) held in
    let shape = shape_reclaimed s p kind r.table held h (h.contents_are_ordered.ordered r) in
    record {
      mark_is_length = h.mark_is_length;
      taken_at_most_mark = h.taken_at_most_mark;
      history = h.history;
      no_update_is_lost = h.no_update_is_lost;
      registers_agree = h.registers_agree;
      covered = at_record s.buckets s.bucket r vs (λ q c. Covers s.mark s.phase s.history q c) (covers_reclaimed s p kind r held h whole (h.covered r)) (λ q other. h.covered q);
      open_writes_stand = record {
        owned = at_record s.buckets s.bucket r vs (λ q c. (w : Writer) (i : Image) → unpublished s.mark c ≡ Some (w, i) → (w ≡ writer_of (begun_in s.log) w.session) ×
            (open_writes s.log w.session q ≡ Some i))
            (λ w i e. h.open_writes_stand.owned r w i (sym shape.1 ∙ e)) (λ q other. h.open_writes_stand.owned q);
        owns = at_record s.buckets s.bucket r vs (λ q c. (j : ℕ) (i : Image) → open_writes s.log j q ≡ Some i → unpublished s.mark c ≡ Some (writer_of (begun_in s.log) j, i))
            (λ j i e. shape.1 ∙ h.open_writes_stand.owns r j i e) (λ q other. h.open_writes_stand.owns q);
      };
      stamped_is_next = record {
        exact = at_record s.buckets s.bucket r vs (λ q c. (w : Writer) (i : Image) → unpublished s.mark c ≡ Some (w, i) → is_numbered c ≡ is_stamped w.session q s.stamped_list)
            (λ w i e. numbered_reclaimed s.mark kind r.table (s.pass p) held w i e ∙ h.stamped_is_next.exact r w i (sym shape.1 ∙ e)) (λ q other. h.stamped_is_next.exact q);
        standing = h.stamped_is_next.standing;
      };
      contents_are_placed = placed_stored s.tables s.buckets s.bucket r vs
          (λ some. is_there s r h (let fewer : length vs ≤ length held = length_reclaimed kind r.table (s.pass p) held in omega arith)) h.contents_are_placed;
      counters_balance = counters_shortened s.sessions s.buckets s.passes s.log s.bucket s.counters s.visits p kind r vs
          (visitor s.passes s.buckets s.mark (versions s.buckets s.bucket) s.visits p (bucket_of s.buckets r) may.here h.visits_stay) may.here
          (length_reclaimed kind r.table (s.pass p) held) h.counters_balance;
      visits_stay =
          let less = visitor s.passes s.buckets s.mark (versions s.buckets s.bucket) s.visits p (bucket_of s.buckets r) may.here h.visits_stay in
          let later = visits_later s.passes s.buckets s.mark s.mark (versions s.buckets s.bucket) (versions s.buckets (stored s.buckets s.bucket r vs)) s.visits (omega arith)
          (stays_stored s.mark s.buckets s.bucket r vs (stays_reclaimed s.mark s.mark kind r.table (s.pass p) held (h.contents_are_ordered.ordered r))) h.visits_stay in
          visits_changed s.passes s.buckets s.mark (versions s.buckets (stored s.buckets s.bucket r vs)) s.visits p (removing kind (length held - length vs) (s.visits p)) less
          (removing_each s.buckets s.mark (bucket_of s.buckets r) (length held - length vs) (versions s.buckets (stored s.buckets s.bucket r vs)) kind (s.visits p) may.here (later.each p)) later;
      contents_are_ordered = record {
        ordered = at_record s.buckets s.bucket r vs (λ q c. IsOrdered s.mark c) shape.0 (λ q other. h.contents_are_ordered.ordered q);
        backed = at_record s.buckets s.bucket r vs (λ q c. IsBacked s.mark s.history q c)
            (backed_reclaimed s.mark s.history r kind (s.pass p) held (h.contents_are_ordered.backed r)) (λ q other. h.contents_are_ordered.backed q);
      };
      records_bound_sessions = h.records_bound_sessions;
      open_writes_may_commit = h.open_writes_may_commit;
      records_reach_logs = h.records_reach_logs;
      replies_answer = h.replies_answer;
      logs_answer = h.logs_answer;
    }
