-- The table from records to places: bins of slots, each record in one bin only. It may leave records out.
use Rattle.std.specs.Prelude.{◌≡◌, ℕ, ◌*◌, ◌≤◌, ◌/◌, ◌%◌, ◌^◌, List, [], ◌∷◌, map, length, Bool, true, false, ◌&&◌, ◌||◌, Option, Some, None, IsFalse, slice_index_or, bit_xor, if◌then◌else◌}
use Rattle.std.specs.List.{list_any}
use Rattle.hg_base.specs.declared.rid.Rid.{Rid}
use Rattle.hg_base.specs.History.{same_rid}
use Rattle.hg_space.specs.declared.slot.Slot.{Slot}
use Rattle.hg_space.specs.declared.slot.State.{State}
use Rattle.hg_space.specs.declared.slot.State.TheVariants.{Empty, Left, Used}
use Rattle.hg_space.specs.declared.slots.Finding.{Finding}
use Rattle.hg_space.specs.declared.slots.Finding.TheVariants.{There, Absent, Unknown}
use Rattle.hg_space.specs.Index.{place_of}

-- ---- a slot

-- whether a slot in this state has a record
abbrev pub has_record : State → Bool
has_record Empty = false
has_record Left = false
has_record Used = true

-- whether a slot in this state is empty: it has no record, and is not marked as left by one
abbrev pub was_never_used : State → Bool
was_never_used Empty = true
was_never_used Left = false
was_never_used Used = false

-- whether a slot has a record
abbrev pub is_used : Slot → Bool
is_used s = has_record s.state

-- whether a slot is empty
abbrev pub is_empty : Slot → Bool
is_empty s = was_never_used s.state

-- whether a slot has that record
abbrev pub is_of : Rid → Slot → Bool
is_of r s = same_rid r (record { table = s.table; key = s.key }) && is_used s

-- a slot with a record and its place
abbrev pub used_by : Rid → ℕ → Slot
used_by r place = record { key = r.key; place = place; table = r.table; state = Used }

-- a slot whose record went: empty where the bin has an empty slot anyway
abbrev pub left_by : Bool → Slot → Slot
left_by gap s = record s { state = if gap then Empty else Left }

-- ---- a bin

-- what slots say of a record: its place; that it has none, if one of them is empty, or if one was before them; or nothing
abbrev pub look_from : Bool → Rid → List Slot → Finding
look_from gap r [] = if gap then Absent else Unknown
look_from gap r (s ∷ bin) = if is_of r s then There s.place else look_from (gap || is_empty s) r bin

-- the bin with a record and its place in the first slot that isn't used
abbrev pub put_in : Rid → ℕ → List Slot → List Slot
put_in r place [] = []
put_in r place (s ∷ bin) = if is_used s then s ∷ put_in r place bin else used_by r place ∷ bin

-- a slot after a record is taken out of its bin: left where it had the record, and else as it was
abbrev pub without : Bool → Rid → Slot → Slot
without gap r s = if is_of r s then left_by gap s else s

-- the bin without a record
abbrev pub taken_out : Rid → List Slot → List Slot
taken_out r bin = map (without (list_any is_empty bin) r) bin

-- ---- all bins

-- the bin of a record, of so many
unfoldable pub bin_of : ℕ → Rid → ℕ
bin_of many r = (((bit_xor r.key ((r.table.0 * 2 ^ 56) % 2 ^ 64) * 11400714819323198485) % 2 ^ 64 / 2 ^ 32) * many) % 2 ^ 64 / 2 ^ 32

-- what the table says of a record: what its bin says
abbrev pub look_at : List (List Slot) → Rid → Finding
look_at bins r = look_from false r (slice_index_or bins (bin_of (length bins) r) [])

-- what is said of a record is so: of its place, or that it has none
abbrev pub Fits : Finding → Option ℕ → Type 0
Fits (There p) place = place ≡ Some p
Fits Absent place = place ≡ None
Fits Unknown place = Unit

-- all that the table says of records is so
abbrev pub AreFaithful : List (List Slot) → List (Rid × ℕ) → Type 0
AreFaithful bins index = (r : Rid) → Fits (look_at bins r) (place_of index r)

-- the bins have room for so many records: at four in each, of the eight that it may have
abbrev pub HaveRoom : List (List Slot) → ℕ → Type 0
HaveRoom bins many = many ≤ 4 * length bins

-- what was so of the other records is so still
abbrev pub StayFit : Rid → List (List Slot) → List (List Slot) → Type 0
StayFit r old new = (q : Rid) (place : Option ℕ) → IsFalse (same_rid r q) → Fits (look_at old q) place → Fits (look_at new q) place
