-- The versions of a record, newest first: an open write, then what was committed, then the oldest image.
use Rattle.std.specs.Prelude.{◌≡◌, ℕ, ◌≤◌, List, [], ◌∷◌, Option, Some, None, Bool, true, false, nat_le, if◌then◌else◌, ⊤}
use Rattle.hg_base.specs.declared.writer.Writer.{Writer}
use Rattle.hg_base.specs.declared.image.Image.{Image}
use Rattle.hg_core.specs.declared.version.Stamp.{Stamp}
use Rattle.hg_core.specs.declared.version.Stamp.TheVariants.{Written, Numbered, Oldest}
use Rattle.hg_core.specs.declared.version.Version.{Version}

-- the number of a version, if it has one
abbrev pub stamp_number : Stamp → Option ℕ
stamp_number (Written by) = None
stamp_number (Numbered number by) = Some number
stamp_number (Oldest number) = Some number

-- whether there is a number at or below n
abbrev pub is_up_to : ℕ → Option ℕ → Bool
is_up_to n None = false
is_up_to n (Some number) = nat_le number n

-- the newest version numbered at or below n
abbrev pub first_at : ℕ → List Version → Option Version
first_at n [] = None
first_at n (v ∷ vs) = if is_up_to n (stamp_number v.stamp) then Some v else first_at n vs

-- a number with an image
abbrev pub paired : Option ℕ → Image → Option (ℕ × Image)
paired None image = None
paired (Some number) image = Some (number, image)

-- the number and the image of a version, if there is one and it has a number
abbrev pub pair_of : Option Version → Option (ℕ × Image)
pair_of None = None
pair_of (Some v) = paired (stamp_number v.stamp) v.image

-- number and image of the newest version numbered at or below n
abbrev pub newest_at : ℕ → List Version → Option (ℕ × Image)
newest_at n vs = pair_of (first_at n vs)

-- whether the first version has a number
abbrev pub is_numbered : List Version → Bool
is_numbered [] = false
is_numbered (v ∷ vs) = elim v.stamp [ Written by ↦ false | _ ↦ true ]

-- writer and image of a version that isn't published: it has no number, or one over the mark
abbrev pub unpublished_by : ℕ → Stamp → Image → Option (Writer × Image)
unpublished_by mark (Written by) image = Some (by, image)
unpublished_by mark (Numbered number by) image = if nat_le number mark then None else Some (by, image)
unpublished_by mark (Oldest number) image = None

-- writer and image of the first version, where it isn't published
abbrev pub unpublished : ℕ → List Version → Option (Writer × Image)
unpublished mark [] = None
unpublished mark (v ∷ vs) = unpublished_by mark v.stamp v.image

-- a write in front, or in the place of the open one
abbrev pub installed : Writer → Image → List Version → List Version
installed by image [] = record { stamp = Written by; image = image } ∷ []
installed by image (v ∷ vs) = elim v.stamp [
  | Written other ↦ record { stamp = Written by; image = image } ∷ vs
  | _ ↦ record { stamp = Written by; image = image } ∷ v ∷ vs
]

-- the first version is gone
abbrev pub undone : List Version → List Version
undone [] = []
undone (v ∷ vs) = vs

-- the first version has a number
abbrev pub stamped : ℕ → Writer → List Version → List Version
stamped number by [] = []
stamped number by (v ∷ vs) = record { stamp = Numbered number by; image = v.image } ∷ vs

-- a transaction may write here: what isn't published is its own and has no number
abbrev pub IsFreeFor : ℕ → Writer → List Version → Type 0
IsFreeFor mark w [] = ⊤
IsFreeFor mark w (v ∷ vs) = elim v.stamp [
  | Written by ↦ by ≡ w
  | Numbered number by ↦ number ≤ mark
  | Oldest number ↦ ⊤
]

-- the first version is an open write of that transaction
abbrev pub IsOpenBy : Writer → List Version → Type 0
IsOpenBy w [] = ⊥
IsOpenBy w (v ∷ vs) = v.stamp ≡ Written w
