-- What a line's transaction sees of a table, key by key.
use Rattle.std.specs.Prelude.{◌≡◌, ℕ, ◌<◌, ◌≤◌, List, Option, None, unwrap_or, is_some, if◌then◌else◌}
use Rattle.std.specs.Option.{MatchOption}
use Rattle.hg_base.specs.declared.rid.TableId.{TableId}
use Rattle.hg_base.specs.declared.image.Image.{Image}
use Rattle.hg_base.specs.History.{History, nothing, visible, seen}
use Rattle.hg_base.specs.Transcript.{Said, own_writes}
use Rattle.hg_known.specs.declared.own.Spot.{Spot}
use Rattle.hg_known.specs.Written.{record_at}
use Rattle.hg_known.specs.Owned.{own_at}

-- what the transaction of a line sees of a key, after the lines before
abbrev pub look : History → List Said → Said → TableId → ℕ → Image
look h earlier now table key = seen h (own_writes earlier now) now.at (record_at table key)

-- no key of the range is seen as a row
abbrev pub NoneSeen : (ℕ → Image) → ℕ → ℕ → Type 0
NoneSeen look from to = (key : ℕ) → from ≤ key → key ≤ to → (look key).row ≡ None

-- what the transaction stored of a key, and nothing where it stored none
abbrev pub own_look : List (Spot × Image) → ℕ → ℕ → TableId → ℕ → Image
own_look own j x table key = unwrap_or (own_at own j x (record_at table key)) nothing

-- what is visible of a key at a snapshot, and nothing where the transaction stored it
abbrev pub other_look : History → List (Spot × Image) → ℕ → ℕ → ℕ → TableId → ℕ → Image
other_look h own j x at table key = if is_some (own_at own j x (record_at table key)) then nothing else visible h (record_at table key) at

-- the transaction stored no key from `from` up to what is found, and none from there on where nothing is found
abbrev pub IsNextStored : List (Spot × Image) → ℕ → ℕ → TableId → ℕ → Option ℕ → Type 0
IsNextStored own j x table from found =
    MatchOption found
    ((key : ℕ) → from ≤ key → own_at own j x (record_at table key) ≡ None)
    (λ least. (from ≤ least) × ((key : ℕ) → from ≤ key → key < least → own_at own j x (record_at table key) ≡ None))
