-- What is known of all lines.
use Rattle.std.specs.Prelude.{◌≡◌, ℕ, List, [], length, IsTrue, IsSome}
use Rattle.std.specs.List.{list_any}
use Rattle.hg_base.specs.declared.rid.Rid.{Rid}
use Rattle.hg_base.specs.declared.image.Image.{Image}
use Rattle.hg_base.specs.Lists.{onto}
use Rattle.hg_base.specs.History.{History, image_in}
use Rattle.hg_base.specs.Transcript.{Said, stored_in}
use Rattle.hg_audit.specs.declared.fault.Facts.{Facts}
use Rattle.hg_audit.specs.declared.shape.Command.TheVariants.{Run}
use Rattle.hg_known.specs.Asked.{names_writer, tells_held}
use Rattle.hg_known.specs.Owned.{AreOwn}
use Rattle.hg_known.specs.Ended.{AreNumbers}
use Rattle.hg_known.specs.Marked.{ArePoints}
use Rattle.hg_known.specs.declared.writes.Slot.{Slot}
use Rattle.hg_known.specs.Written.{IsOfHistory}

-- the facts are those of these lines and their history
pub record Knows (h : History) (all : List Said) (facts : Facts) : Type 0 where
  pub writes : IsOfHistory h facts.past.now.writes
  pub groups : length h ≡ facts.past.now.groups
  pub own : facts.command ≡ Run → IsTrue (list_any names_writer all) → AreOwn facts.past.now.context.stored (onto all [])
  pub numbers : IsTrue (list_any names_writer all) → AreNumbers facts.past.now.context.numbers (onto all [])
  pub points : IsTrue (list_any tells_held all) → ArePoints facts.past.now.context.points (onto all [])

-- the writes of some history of so many groups
abbrev pub HasHistory : List (Slot × Image) → ℕ → Type 0
HasHistory writes groups = (h : History) × IsOfHistory h writes × (length h ≡ groups)

-- a line that is refused for an open write is one of all lines
abbrev pub IsAsked : List Said → Said → Type 0
IsAsked all now = IsTrue (names_writer now) → IsTrue (list_any names_writer all)

-- what lines store, all lines store
abbrev pub IsPart : List Said → List Said → Type 0
IsPart earlier all = (j x : ℕ) (r : Rid) → IsSome (image_in r (stored_in j x earlier)) → IsSome (image_in r (stored_in j x all))
