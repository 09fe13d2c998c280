-- Values of rows, and the kinds of columns. Own.
use Rattle.std.specs.Prelude.{◌≡◌, ℤ, pos, ◌≤◌, ◌<◌, ◌^◌, List, map, length, Bool, true, false}
use lib.Signed.{mag}
use Rattle.hg_base.specs.declared.limits.TheConstants.{MOST_TEXT_BYTES}
use Rattle.hg_base.specs.declared.value.Column.{Column}
use Rattle.hg_base.specs.declared.value.Column.TheVariants as columns
use Rattle.hg_base.specs.declared.value.Value.{Value}
use Rattle.hg_base.specs.declared.value.Value.TheVariants.{Number, Text}
use Rattle.hg_base.specs.Lists.{Each}

-- what kind of column a value may stand in
abbrev pub kind_of : Value → Column
kind_of (Number v) = columns.Number
kind_of (Text t) = columns.Text

-- whether a value is a text
abbrev pub is_text : Value → Bool
is_text (Number v) = false
is_text (Text t) = true

-- the number, and 0 of a text
abbrev pub number_of : Value → ℤ
number_of (Number v) = v
number_of (Text t) = pos 0

-- a signed number of 64 bits, or a text of at most 64 bytes
abbrev pub FitsValue : Value → Type 0
FitsValue (Number v) = mag v < 2 ^ 63
FitsValue (Text t) = length t ≤ MOST_TEXT_BYTES

-- a row of these columns
abbrev pub FitsColumns : List Column → List Value → Type 0
FitsColumns kinds row = (map kind_of row ≡ kinds) × Each FitsValue row
