-- Wrong removals and wrong writes, each at a state that a run reaches, so that it meets the invariant.
use Rattle.std.proofs.Common.{◌≡◌, ℕ, ◌<◌, List, [], ◌∷◌, None, Some, inl, inr, refl, sym, ap, arith, true, false}
use Rattle.std.specs.Prelude.{pos}
use Rattle.hg_base.specs.declared.rid.Rid.{Rid}
use Rattle.hg_base.specs.declared.value.Value.TheVariants.{Number}
use Rattle.hg_base.specs.declared.image.Image.{Image}
use Rattle.hg_base.specs.declared.report.Kind.{Kind}
use Rattle.hg_base.specs.declared.report.Kind.TheVariants.{Table, Interval}
use Rattle.hg_base.specs.declared.scope.Scope.{Scope}
use Rattle.hg_base.specs.declared.scope.Scope.TheVariants.{All}
use Rattle.hg_base.specs.declared.writer.Writer.{Writer}
use Rattle.hg_base.specs.History.{nothing}
use Rattle.hg_core.specs.Contents.{bucket_of, versions}
use Rattle.hg_core.specs.State.{CoreState, opened}
use Rattle.hg_core.specs.Events.{MayReclaim, happens, Install, Publish, Reclaim}
use Rattle.hg_core.specs.Steps.{Step, Run, run}
use Rattle.hg_core.specs.Invariant.{IsSteady}
use Rattle.hg_core.specs.Worked.{one_rid, row, two_versions, moved_snapshot, no_masks, open_write, late_snapshot}
use Rattle.hg_core.specs.Wrong.{lifetime_past, cut_past_moved, newest_deletion_removed, MayReclaimUnmasked, MayPublishEarly, MayInstallOver, swept_late}
use Rattle.hg_core.proofs.Versions.{same_pair}
use Rattle.hg_core.proofs.Runs.{steady_after}
use Rattle.hg_core.proofs.WorkedParts.{two_whole, moved_whole, no_masks_found, late_whole}
use Rattle.hg_core.proofs.WorkedBegins.{open_write_runs}
use Rattle.hg_core.proofs.WorkedMasks.{no_masks_runs}
use Rattle.hg_core.proofs.WorkedMoves.{two_versions_runs, moved_snapshot_runs}
use Rattle.hg_core.proofs.WorkedSweeps.{late_snapshot_runs}
use Rattle.hg_core.specs.Clean.{IsClean}
use Rattle.hg_core.specs.Passes.{horizon, recorded}

-- the state after a run of two sessions that may each begin twice
abbrev pub then : List Step → CoreState
then steps = run (opened 2 1 1 1 2) steps

steady : (steps : List Step) → Run (opened 2 1 1 1 2) steps → IsSteady (then steps)
steady steps runs = steady_after 2 1 1 1 2 steps runs

no_row : nothing ≡ row → ⊥
no_row e = let z : None ≡ Some (Number (pos 7) ∷ []) = ap (λ (i : Image). i.row) e in cc

-- session 1 reads the first version at its own number
pub own_number_refused : ((s : CoreState) (p : ℕ) (r : Rid) → IsSteady s → MayReclaim s p r → IsSteady (lifetime_past s p r)) → ⊥
unfolding bucket_of
own_number_refused keeps = no_row (((keeps (then (two_versions row)) 0 one_rid (steady (two_versions row) (two_versions_runs row))
    (record { whole = two_whole row; here = (refl, refl) })).covered one_rid).same 1 (inr (1, (refl, refl))))

-- session 1 was moved, and still reads at 1
pub moved_refused : (kind : Kind) → ((s : CoreState) (p : ℕ) (r : Rid) → IsSteady s → MayReclaim s p r → IsSteady (cut_past_moved s p kind r)) → ⊥
unfolding bucket_of
moved_refused kind keeps = no_row (((keeps (then moved_snapshot) 0 one_rid (steady moved_snapshot moved_snapshot_runs)
    (record { whole = moved_whole; here = (refl, refl) })).covered one_rid).same 1 (inr (1, (refl, refl))))

-- session 1 was moved, and no mask says to which tables
no_masks_there : MayReclaimUnmasked (then no_masks) 0 one_rid
unfolding bucket_of
no_masks_there = record { registers = no_masks_found; here = (refl, refl) }

pub no_mask_cut : ((s : CoreState) (p : ℕ) (r : Rid) → IsSteady s → MayReclaimUnmasked s p r → IsSteady (happens s (Reclaim p Table r))) → ⊥
unfolding bucket_of
no_mask_cut keeps = no_row (((keeps (then no_masks) 0 one_rid (steady no_masks no_masks_runs) no_masks_there).covered one_rid).same 1 (inr (1, (refl, refl))))

pub no_mask_swept : ((s : CoreState) (p : ℕ) (r : Rid) → IsSteady s → MayReclaimUnmasked s p r → IsSteady (happens s (Reclaim p Interval r))) → ⊥
unfolding bucket_of
no_mask_swept keeps = no_row (((keeps (then no_masks) 0 one_rid (steady no_masks no_masks_runs) no_masks_there).covered one_rid).same 1 (inr (1, (refl, refl))))

-- the row that was deleted at 2 is found again at the mark
pub deletion_refused : ((s : CoreState) (p : ℕ) (r : Rid) → IsSteady s → MayReclaim s p r → IsSteady (newest_deletion_removed s p r)) → ⊥
unfolding bucket_of
deletion_refused keeps = no_row (sym found)
  where
    found : row ≡ nothing
    found = ((keeps (then (two_versions nothing)) 0 one_rid (steady (two_versions nothing) (two_versions_runs nothing))
        (record { whole = two_whole nothing; here = (refl, refl) })).covered one_rid).same 2 (inl refl)

-- a session that begins at the new mark doesn't find the write
pub early_publish_refused : ((s : CoreState) (sessions : List ℕ) → IsSteady s → MayPublishEarly s.log sessions → IsSteady (happens s (Publish sessions))) → ⊥
unfolding bucket_of
early_publish_refused keeps = no_row (((keeps (then open_write) (2 ∷ []) (steady open_write open_write_runs)
    (record { some = omega arith; distinct = (refl, tt); opened = (refl, tt); plain = (refl, tt) })).covered one_rid).same 1 (inl refl))

-- session 2's open write is gone
pub second_writer_refused : ((s : CoreState) (j : ℕ) (r : Rid) (image : Image) (at : ℕ) (scope : Scope) → IsSteady s → MayInstallOver s j r at scope → IsSteady (happens s (Install j r image))) → ⊥
unfolding bucket_of
second_writer_refused keeps = apart (writer 1) (writer 2) (ap (λ x. x.0) (same_pair (writer 1, row) (writer 2, row) (now.open_writes_stand.owns one_rid 2 row refl))) (omega arith)
  where
    writer : ℕ → Writer
    writer j = record { session = j; transaction = 1 }

    apart : (w v : Writer) → w ≡ v → w.session < v.session → ⊥
    apart w v e less = let same : w.session ≡ v.session = ap (λ (x : Writer). x.session) e in omega (arith, same)

    now : IsSteady (happens (then open_write) (Install 1 one_rid row))
    now = keeps (then open_write) 1 one_rid row 0 All (steady open_write open_write_runs) (record { live = refl; table = refl; there = omega arith; plain = refl; unstamped = refl; newest = tt })

-- the version that the newest succeeded at 2 stays, though no snapshot is in its lifetime
pub successor_refused : ((s : CoreState) (p : ℕ) (r : Rid) → IsSteady s → MayReclaim s p r →
    IsClean (horizon (s.pass p)) (recorded r.table (s.pass p)) (swept_late (horizon (s.pass p)) (recorded r.table (s.pass p)) None (versions s.buckets s.bucket r))) → ⊥
unfolding bucket_of
successor_refused keeps = let z : false ≡ true = (keeps (then late_snapshot) 0 one_rid (steady late_snapshot late_snapshot_runs)
    (record { whole = late_whole; here = (refl, refl) })).1.0 (omega arith) in cc
