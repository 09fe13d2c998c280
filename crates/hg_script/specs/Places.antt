-- Where the reader finds a table by its name.
use Rattle.std.specs.Prelude.{◌≡◌, ℕ, List, Option, Vec}
use Rattle.std.specs.BTreeMap.{BTreeMap, get_by}
use Rattle.std.specs.Cmp.Lexicographic.{slice_cmp}
use Rattle.std.specs.Ordering.{nat_cmp}
use Rattle.hg_base.specs.declared.rid.TableId.{TableId}
use Rattle.hg_base.specs.Script.{Declaration}
use Rattle.hg_script.specs.Fields.{Field}
use Rattle.hg_script.specs.Draft.{table_named}

module _ {Y : Type 0} where
  -- the table that is kept for a name
  abbrev pub place_of : BTreeMap (Vec ℕ Y) TableId → Field → Option TableId
  place_of places name = get_by (λ k. slice_cmp nat_cmp name k.items) places

  -- each name leads to the table that has it, if there is one
  abbrev pub ArePlaces : BTreeMap (Vec ℕ Y) TableId → List Declaration → Type 0
  ArePlaces places tables = (name : Field) → place_of places name ≡ table_named tables name
