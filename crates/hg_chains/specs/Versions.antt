-- Lists of versions of one record, newest first.
use Rattle.std.specs.Prelude.{ℕ, ◌<◌, List, [], ◌∷◌, filter, find, count_by, drop, Bool, false, not, ◌&&◌, ◌==◌, nat_le, if◌then◌else◌, IsTrue, Option, Some, None, option_map}
use Rattle.std.specs.Prelude.{option_and_then, IsSome, ⊤, ◌-◌}
use Rattle.hg_base.specs.declared.writer.Writer.{Writer}
use Rattle.hg_base.specs.declared.image.Image.{Image}
use Rattle.hg_base.specs.Lists.{Each}
use Rattle.hg_chains.specs.declared.version.Stamp.{Stamp}
use Rattle.hg_chains.specs.declared.version.Stamp.TheVariants.{Written, Numbered}
use Rattle.hg_chains.specs.declared.version.Version.{Version}

-- ---- one version

-- whether it has a number at or below the bound
abbrev pub has_at_most : ℕ → Stamp → Bool
has_at_most bound (Written w) = false
has_at_most bound (Numbered number by) = nat_le number bound

-- the same of a version: whether it is numbered at or below the bound
abbrev pub is_at_most : ℕ → Version → Bool
is_at_most bound v = has_at_most bound v.stamp

-- whether it is an open write of that transaction
abbrev pub has_writer : Writer → Stamp → Bool
has_writer by (Written w) = (w.session == by.session) && (w.transaction == by.transaction)
has_writer by (Numbered number other) = false

-- the same of a version: whether it is an open write of that transaction
abbrev pub is_written_by : Writer → Version → Bool
is_written_by by v = has_writer by v.stamp

-- its number, if it has one
abbrev pub number_in : Stamp → Option ℕ
number_in (Written w) = None
number_in (Numbered number by) = Some number

-- it has a number, which is below n
abbrev pub HasBelow : ℕ → Stamp → Type 0
HasBelow n (Written w) = ⊥
HasBelow n (Numbered number by) = number < n

-- the same of a version: it has a number, which is below n
abbrev pub IsBelow : ℕ → Version → Type 0
IsBelow n v = HasBelow n v.stamp

-- it is numbered, or an open write of that transaction
abbrev pub HasNoOther : Writer → Stamp → Type 0
HasNoOther by (Written w) = IsTrue (has_writer by (Written w))
HasNoOther by (Numbered number other) = ⊤

-- an open write
abbrev pub open_write : Writer → Image → Version
open_write by image = record { stamp = Written by; image = image }

-- the same image with a number
abbrev pub numbered : ℕ → Writer → Version → Version
numbered number by v = record { stamp = Numbered number by; image = v.image }

-- ---- the versions of a record

-- each version that has a number has it over all that follow, and those all have numbers
abbrev pub FallsTo : Stamp → List Version → Type 0
FallsTo (Written w) vs = Each (λ v. IsSome (number_in v.stamp)) vs
FallsTo (Numbered number by) vs = Each (IsBelow number) vs

-- at most the first version has no number, and numbers fall strictly
abbrev pub IsChain : List Version → Type 0
IsChain [] = ⊤
IsChain (v ∷ vs) = FallsTo v.stamp vs × IsChain vs

-- no version is an open write of another transaction
abbrev pub NoOther : Writer → List Version → Type 0
NoOther by vs = Each (λ v. HasNoOther by v.stamp) vs

-- whether the first version is an open write of that transaction
abbrev pub is_open_by : Writer → List Version → Bool
is_open_by by [] = false
is_open_by by (v ∷ vs) = is_written_by by v

-- whether the first version is numbered at or below the bound
abbrev pub begins_at_most : ℕ → List Version → Bool
begins_at_most bound [] = false
begins_at_most bound (v ∷ vs) = is_at_most bound v

-- the stamp of the newest version
abbrev pub newest : List Version → Option Stamp
newest [] = None
newest (v ∷ vs) = Some v.stamp

-- what a reader at a snapshot sees: the first version numbered at or below it
abbrev pub image_at : ℕ → List Version → Option Image
image_at at vs = option_map (λ v. v.image) (find (is_at_most at) vs)

-- what a transaction wrote itself
abbrev pub image_by : Writer → List Version → Option Image
image_by by vs = option_map (λ v. v.image) (find (is_written_by by) vs)

-- the versions with one more write: it takes the place of an open write of the same transaction
abbrev pub installed : Writer → Image → List Version → List Version
installed by image vs = open_write by image ∷ (if is_open_by by vs then drop 1 vs else vs)

-- the versions where the first has got a number
abbrev pub stamped : Writer → ℕ → List Version → List Version
stamped by number [] = []
stamped by number (v ∷ vs) = numbered number by v ∷ vs

-- what a cut leaves, what it hands out, and how many others it removes
abbrev pub left_by : ℕ → List Version → List Version
left_by bound vs = filter (λ v. not (is_at_most bound v)) vs

-- a version's image with its number, if it has one
abbrev pub numbered_image : Version → Option (ℕ × Image)
numbered_image v = option_map (λ n. (n, v.image)) (number_in v.stamp)

-- what a cut hands out: the first version at or below the bound, as its number and image, if there is one
abbrev pub oldest_at : ℕ → List Version → Option (ℕ × Image)
oldest_at bound vs = option_and_then numbered_image (find (is_at_most bound) vs)

-- how many others a cut removes: the versions at or below the bound but for the first of them
abbrev pub others_at : ℕ → List Version → ℕ
others_at bound vs = count_by (is_at_most bound) vs - 1
