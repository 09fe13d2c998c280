-- What a transaction stored, joined to what the group of a number writes.
use Rattle.std.specs.Prelude.{◌≡◌, ℕ, List, ◌==◌, if◌then◌else◌, None, IsSome}
use Rattle.std.specs.Option.{option_or}
use Rattle.hg_base.specs.declared.rid.Rid.{Rid}
use Rattle.hg_base.specs.declared.image.Image.{Image}
use Rattle.hg_known.specs.declared.own.Spot.{Spot}
use Rattle.hg_known.specs.declared.writes.Slot.{Slot}
use Rattle.hg_known.specs.Written.{image_at}
use Rattle.hg_known.specs.Owned.{own_at}

-- group c wrote none of what transaction x of session j stored, and now writes all of it
pub record IsJoined (own : List (Spot × Image)) (j : ℕ) (x : ℕ) (c : ℕ) (old : List (Slot × Image)) (new : List (Slot × Image)) : Type 0 where
  pub fresh : (r : Rid) → IsSome (own_at own j x r) → image_at old r c ≡ None
  pub joined : (r : Rid) (n : ℕ) → image_at new r n ≡ (if c == n then option_or (own_at own j x r) (image_at old r n) else image_at old r n)

-- group c wrote a record that the transaction stored
abbrev pub Clashes : List (Spot × Image) → ℕ → ℕ → ℕ → List (Slot × Image) → Type 0
Clashes own j x c old = (r : Rid) × IsSome (own_at own j x r) × IsSome (image_at old r c)
