-- What a bucket holds: each record's versions, and what became of all others.
use Rattle.std.specs.Prelude.{◌≡◌, ℕ, ◌+◌, ◌<◌, ◌≤◌, ◌^◌, not, filter, is_some, IsFalse, List, [], ◌∷◌, ◌++◌, length, sum_by, find, drop, Bool, false, ◌&&◌, nat_le, if◌then◌else◌, Option}
use Rattle.std.specs.Prelude.{Some, None, IsSome, option_map, unwrap_or}
use Rattle.std.specs.Option.{option_or, MatchOption}
use Rattle.std.specs.Map.{lookup}
use Rattle.hg_base.specs.declared.rid.Rid.{Rid}
use Rattle.hg_base.specs.declared.image.Image.{Image}
use Rattle.hg_base.specs.declared.writer.Writer.{Writer}
use Rattle.hg_base.specs.declared.line.Totals.{Totals}
use Rattle.hg_base.specs.declared.rid.TableId.{TableId}
use Rattle.hg_base.specs.History.{same_rid, same_writer}
use Rattle.hg_space.specs.Rosters.{list_of}

-- a version: its number, unless it is an open write; its writer, unless it is the record's oldest image; and its image
pub record Kept : Type 0 where
  pub number : Option ℕ
  pub by : Option Writer
  pub image : Image

-- the records with their versions, newest first; for each table, in the order of the tables, the keys of the records that can be
-- shortened; and how many versions were made, undone and removed
pub record BucketModel : Type 0 where
  pub records : List (Rid × List Kept)
  pub long : List (List ℕ)
  pub made : ℕ
  pub undone : ℕ
  pub group : ℕ
  pub table : ℕ
  pub interval : ℕ

-- the versions of a record, none where it is not there
abbrev pub versions_of : List (Rid × List Kept) → Rid → List Kept
versions_of records r = unwrap_or (lookup (same_rid r) records) []

-- the keys of a table's records that can be shortened
abbrev pub keys_in : List (List ℕ) → TableId → List ℕ
keys_in long table = list_of long table.0

-- the same of a bucket: the keys of a table's records that can be shortened
abbrev pub long_keys : BucketModel → TableId → List ℕ
long_keys h table = keys_in h.long table

-- how many versions are held
abbrev pub left : List (Rid × List Kept) → ℕ
left records = sum_by (λ e. length e.1) records

-- each version that was made is undone, removed or held
abbrev pub IsBalanced : BucketModel → Type 0
IsBalanced h = h.made ≡ h.undone + h.group + h.table + h.interval + left h.records

-- what is always so
pub record IsSound (h : BucketModel) : Type 0 where
  pub balance : IsBalanced h
  pub small : h.made ≤ 2 ^ 40

-- how many versions were made, undone, removed in each of three ways, and are held
abbrev pub counts_of : BucketModel → Totals
counts_of h = record { made = h.made; undone = h.undone; group = h.group; table = h.table; interval = h.interval; left = left h.records }

-- ---- reading

-- whether its number is at or below a bound
abbrev pub is_at_most : ℕ → Kept → Bool
is_at_most bound v = unwrap_or (option_map (λ n. nat_le n bound) v.number) false

-- whether it is an open write of that transaction
abbrev pub is_open_by : Writer → Kept → Bool
is_open_by by v = not (is_some v.number) && unwrap_or (option_map (λ w. same_writer w by) v.by) false

-- what a transaction reads: its own open write, and else the newest version at its snapshot
abbrev pub read_at : Writer → ℕ → List Kept → Option Image
read_at own at vs = option_map (λ v. v.image) (option_or (find (is_open_by own) vs) (find (is_at_most at) vs))

-- the record of a table that has that key
abbrev pub record_at : TableId → ℕ → Rid
record_at table key = record { table = table; key = key }

-- the record of that key has a version
abbrev pub IsThere : List (Rid × List Kept) → TableId → ℕ → Type 0
IsThere records table key = IsSome (lookup (same_rid (record_at table key)) records)

-- the least key of the table at or over a number, and none where the table has no such key
abbrev pub IsNextKey : List (Rid × List Kept) → TableId → ℕ → Option ℕ → Type 0
IsNextKey records table from found =
    MatchOption found
    ((k : ℕ) → from ≤ k → IsThere records table k → ⊥)
    (λ least. (from ≤ least) × IsThere records table least × ((k : ℕ) → from ≤ k → IsThere records table k → least ≤ k))

-- ---- changing one record

-- each other record has the versions that it had
abbrev pub OthersStay : List (Rid × List Kept) → List (Rid × List Kept) → Rid → Type 0
OthersStay old new r = (q : Rid) → IsFalse (same_rid r q) → versions_of new q ≡ versions_of old q

-- an open write of that transaction: it has no number yet
abbrev pub open_write : Writer → Image → Kept
open_write by image = record { number = None; by = Some by; image = image }

-- whether the newest version is an open write of that transaction
abbrev pub begins_open : Writer → List Kept → Bool
begins_open by [] = false
begins_open by (v ∷ vs) = is_open_by by v

-- with one more write: it takes the place of an open write of the same transaction
abbrev pub installed : Writer → Image → List Kept → List Kept
installed by image vs = open_write by image ∷ (if begins_open by vs then drop 1 vs else vs)

-- where the newest has got a number
abbrev pub stamped : Writer → ℕ → List Kept → List Kept
stamped by number [] = []
stamped by number (v ∷ vs) = record { number = Some number; by = Some by; image = v.image } ∷ vs

-- it has a number, which is below n
abbrev pub IsBelow : ℕ → Kept → Type 0
IsBelow n v = MatchOption v.number ⊥ (λ m. m < n)

-- ---- cutting at a bound

-- the newest version at the bound as an oldest image; a deletion leaves nothing
abbrev pub survivor : Option Kept → List Kept
survivor None = []
survivor (Some v) = if is_some v.image.row then record { number = v.number; by = None; image = v.image } ∷ [] else []

-- the versions over the bound, and behind them the newest at the bound where it is a row
abbrev pub cut_at : ℕ → List Kept → List Kept
cut_at bound vs = filter (λ v. not (is_at_most bound v)) vs ++ survivor (find (is_at_most bound) vs)
