-- How many versions a content has, and how many a record has after each event.
use Rattle.std.proofs.Common.{◌≡◌, ℕ, suc, ◌+◌, ◌≤◌, List, [], ◌∷◌, length, Option, None, Some, Bool, true, false, refl, arith}
use Rattle.std.specs.Prelude.{if◌then◌else◌}
use Rattle.hg_base.specs.declared.rid.Rid.{Rid}
use Rattle.hg_base.specs.declared.rid.TableId.{TableId}
use Rattle.hg_base.specs.declared.writer.Writer.{Writer}
use Rattle.hg_base.specs.declared.image.Image.{Image}
use Rattle.hg_base.specs.declared.report.Kind.{Kind}
use Rattle.hg_base.specs.declared.report.Kind.TheVariants.{Group, Table, Interval}
use Rattle.hg_base.specs.declared.value.Value.{Value}
use Rattle.hg_base.specs.History.{same_rid}
use Rattle.hg_core.specs.declared.version.Stamp.{Stamp}
use Rattle.hg_core.specs.declared.version.Stamp.TheVariants.{Written, Numbered, Oldest}
use Rattle.hg_core.specs.declared.version.Version.{Version}
use Rattle.hg_core.specs.Versions.{stamp_number, is_up_to, installed, undone, stamped, IsOpenBy}
use Rattle.hg_core.specs.Passes.{PassRecord, horizon, recorded, group_bound, table_bound}
use Rattle.hg_core.specs.Removal.{swept, oldest, cut, reclaimed}
use Rattle.hg_base.specs.Lifetimes.{goes}
use Rattle.hg_core.specs.Contents.{Content, look, store}
use Rattle.hg_core.specs.Counters.{added, total}

pub total_store : (r : Rid) (vs : List Version) (es : Content) → total (store r vs es) + length (look r es) ≡ total es + length vs
total_store r [] [] = refl
total_store r (v ∷ vs) [] = omega arith
total_store r vs (e ∷ es) = go (same_rid r e.0) (total_store r vs es)
  where
    go : (b : Bool) → total (store r vs es) + length (look r es) ≡ total es + length vs →
        total (if b then (r, vs) ∷ es else e ∷ store r vs es) + length (if b then e.1 else look r es) ≡ length e.1 + total es + length vs
    go true later = omega arith
    go false later = omega arith

length_swept : (horizon : ℕ) (snapshots : List ℕ) (successor : Option ℕ) (vs : List Version) → length (swept horizon snapshots successor vs) ≤ length vs
length_swept horizon snapshots successor [] = omega arith
length_swept horizon snapshots successor (v ∷ vs) = go (goes horizon snapshots successor (stamp_number v.stamp)) (length_swept horizon snapshots (stamp_number v.stamp) vs)
  where
    go : (b : Bool) → length (swept horizon snapshots (stamp_number v.stamp) vs) ≤ length vs →
        length (if b then swept horizon snapshots (stamp_number v.stamp) vs else v ∷ swept horizon snapshots (stamp_number v.stamp) vs) ≤ length (v ∷ vs)
    go true later = omega arith
    go false later = omega arith

length_cut : (bound : ℕ) (vs : List Version) → length (cut bound vs) ≤ length vs
length_cut bound [] = omega arith
length_cut bound (v ∷ vs) = go (is_up_to bound (stamp_number v.stamp)) (length_cut bound vs)
  where
    left : (x : Option ℕ) (row : Option (List Value)) → length (oldest x row) ≤ 1
    left None None = omega arith
    left None (Some row) = omega arith
    left (Some n) None = omega arith
    left (Some n) (Some row) = omega arith

    go : (b : Bool) → length (cut bound vs) ≤ length vs → length (if b then oldest (stamp_number v.stamp) v.image.row else v ∷ cut bound vs) ≤ length (v ∷ vs)
    go true later = omega (arith, left (stamp_number v.stamp) v.image.row)
    go false later = omega arith

pub length_reclaimed : (kind : Kind) (table : TableId) (pass : PassRecord) (vs : List Version) → length (reclaimed kind table pass vs) ≤ length vs
length_reclaimed Group table pass vs = length_cut (group_bound pass) vs
length_reclaimed Table table pass vs = length_cut (table_bound table pass) vs
length_reclaimed Interval table pass vs = length_swept (horizon pass) (recorded table pass) None vs

pub length_installed : (w : Writer) (image : Image) (vs : List Version) → length (installed w image vs) ≡ length vs + added vs
length_installed w image [] = refl
length_installed w image (v ∷ vs) = go v.stamp
  where
    go : (x : Stamp) → length (installed w image (record { stamp = x; image = v.image } ∷ vs)) ≡ length (record { stamp = x; image = v.image } ∷ vs) + added
        (record { stamp = x; image = v.image } ∷ vs)
    go (Written by) = omega arith
    go (Numbered k by) = omega arith
    go (Oldest k) = omega arith

pub length_undone : (w : Writer) (vs : List Version) → IsOpenBy w vs → suc (length (undone vs)) ≡ length vs
length_undone w [] o = absurd o
length_undone w (v ∷ vs) o = refl

pub length_stamped : (n : ℕ) (w : Writer) (vs : List Version) → length (stamped n w vs) ≡ length vs
length_stamped n w [] = refl
length_stamped n w (v ∷ vs) = refl
