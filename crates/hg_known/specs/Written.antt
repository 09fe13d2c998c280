-- What groups write, as a finite map from a record and a number to an image.
use Rattle.std.specs.Prelude.{◌≡◌, ℕ, ◌≤◌, ◌<◌, List, Bool, ◌&&◌, ◌==◌, false, Option, Some, None, IsSome, option_map, option_copied}
use Rattle.std.specs.Map.{lookup}
use Rattle.std.specs.Option.{MatchOption}
use denote.Ref.{Bor}
use Rattle.hg_base.specs.declared.rid.Rid.{Rid}
use Rattle.hg_base.specs.declared.rid.TableId.{TableId}
use Rattle.hg_base.specs.declared.image.Image.{Image}
use Rattle.hg_base.specs.declared.value.Value.{Value}
use Rattle.hg_base.specs.History.{History, same_rid, group_at, group_image, visible}
use Rattle.hg_base.specs.RidOrder.{rid_cmp}
use Rattle.std.specs.declared.cmp.Ordering.{Ordering}
use Rattle.std.specs.declared.cmp.Ordering.TheVariants.{Less}
use Rattle.std.specs.Ordering.{nat_cmp, ordering_then, is_gt}
use Rattle.hg_known.specs.declared.writes.Slot.{Slot}

-- whether two places are of one record and one number
abbrev pub same_slot : Slot → Slot → Bool
same_slot a b = same_rid a.rid b.rid && (a.number == b.number)

-- the place of what group n writes of record r
abbrev pub slot : Rid → ℕ → Slot
slot r n = record { rid = r; number = n }

-- what the group of number n writes to r, if it does
abbrev pub image_at : List (Slot × Image) → Rid → ℕ → Option Image
image_at writes r n = lookup (same_slot (slot r n)) writes

-- a number with its image, or none
abbrev pub told : Option (ℕ × Bor Image) → Option (ℕ × Image)
told found = option_map (λ p. (p.0, p.1.now)) found

-- the last write of r that is numbered at or below s
abbrev pub IsLastAt : List (Slot × Image) → Rid → ℕ → Option (ℕ × Image) → Type 0
IsLastAt writes r s found =
    MatchOption found
    ((n : ℕ) → n ≤ s → image_at writes r n ≡ None)
    (λ last. (last.0 ≤ s) × (image_at writes r last.0 ≡ Some last.1) × ((n : ℕ) → last.0 < n → n ≤ s → image_at writes r n ≡ None))

-- the writes of a history: of each group, and none of a number without a group
abbrev pub IsOfHistory : History → List (Slot × Image) → Type 0
IsOfHistory h writes = (r : Rid) (n : ℕ) → image_at writes r n ≡ group_image r (group_at h n)

-- the record of a table with this key
abbrev pub record_at : TableId → ℕ → Rid
record_at table key = record { table = table; key = key }

-- of no key of the table up to `key` is a row visible at s; or only of the one that is found, or of a lesser one
abbrev pub IsLastShown : History → TableId → ℕ → ℕ → Option (ℕ × Option (List Value)) → Type 0
IsLastShown h table key s found =
    MatchOption found
    ((k : ℕ) → k ≤ key → (visible h (record_at table k) s).row ≡ None)
    (λ last. (last.0 ≤ key) × (last.1 ≡ (visible h (record_at table last.0) s).row) × ((k : ℕ) → last.0 < k → k ≤ key → (visible h (record_at table k) s).row ≡ None))

-- a key with the row that is visible of it, or none
abbrev pub shown : Option (ℕ × Option (Bor (List Value))) → Option (ℕ × Option (List Value))
shown found = option_map (λ p. (p.0, option_copied p.1)) found

-- by record, and then by number
abbrev pub slot_cmp : Slot → Slot → Ordering
slot_cmp a b = ordering_then (rid_cmp a.rid b.rid) (nat_cmp a.number b.number)

-- a slot comes before another
abbrev pub IsOver : Slot → Slot → Type 0
IsOver a b = slot_cmp a b ≡ Less

-- the record of the least slot over (r, n) that is written, and none where none is written over it
abbrev pub IsNextRid : List (Slot × Image) → Rid → ℕ → Option Rid → Type 0
IsNextRid writes r n found =
    MatchOption found
    ((q : Rid) (k : ℕ) → IsOver (slot r n) (slot q k) → image_at writes q k ≡ None)
    (λ least. (m : ℕ) × IsOver (slot r n) (slot least m) × IsSome (image_at writes least m) × ((q : Rid) (k : ℕ) → IsOver (slot r n) (slot q k) → IsSome (image_at writes q k) →
    is_gt (slot_cmp (slot least m) (slot q k)) ≡ false))
