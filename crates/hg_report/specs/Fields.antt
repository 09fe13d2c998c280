-- The fields of a record as they stand, with their quotes, and what they say, each read whether it is written well or not.
use Rattle.std.specs.Prelude.{ℕ, ℤ, pos, ◌+◌, ◌^◌, ◌&&◌, ◌==◌, List, [], ◌∷◌, ◌++◌, length, take, drop, map, get_or, slice_index, bytes_eq, nat_lt, nat_le, Bool, true, false, not, Option}
use Rattle.std.specs.Prelude.{Some, None, if◌then◌else◌}
use Rattle.std.specs.Borrow.{Bor}
use Rattle.hg_base.specs.declared.limits.TheConstants.{MOST_COLUMNS, MOST_TEXT_BYTES}
use Rattle.hg_base.specs.declared.value.Column.{Column}
use Rattle.hg_base.specs.declared.value.Column.TheVariants as columns
use Rattle.hg_base.specs.declared.value.Value.{Value}
use Rattle.hg_base.specs.declared.value.Value.TheVariants.{Number, Text}
use Rattle.hg_base.specs.Text.{Field}
use Rattle.hg_base.specs.declared.number.Integer.{Integer}
use Rattle.hg_base.specs.declared.number.Integer.TheVariants as signed
use Rattle.hg_base.specs.Number.{natural_of, value_of, integer_of}

-- the fields that slices are
unfoldable pub fields_of : List (Bor (List ℕ)) → List Field
fields_of row = map (λ f. f.now) row

-- The fields of the record at the start of some bytes: what is between its commas, up to the line feed. Between quotes both
-- are bytes as any other. The first of them begins with the bytes `field`, and is within quotes where `quoted` says so.
unfoldable pub parted : Bool → List ℕ → List ℕ → List Field
parted quoted field [] = field ∷ []
parted quoted field (b ∷ bytes) =
    if not quoted && b == 10 then field ∷ []
    else if not quoted && b == 44 then field ∷ parted false [] bytes
    else parted (if b == 34 then not quoted else quoted) (field ++ b ∷ []) bytes

-- the field at a place, counted from 0, and no bytes where there is none
abbrev pub nth : List Field → ℕ → Field
nth fields i = get_or fields i []

-- whether the field is this word
abbrev pub says : List Field → ℕ → Field → Bool
says fields i word = bytes_eq (nth fields i) word

-- the number that the field is, and 0 where it is none
abbrev pub natural_at : List Field → ℕ → ℕ
natural_at fields i = value_of (natural_of (nth fields i))

-- a number of at most 32 bits, and 0 where it is greater
abbrev pub narrow : ℕ → ℕ
narrow n = if nat_lt n (2 ^ 32) then n else 0

-- the session that the field is
abbrev pub session_in : List Field → ℕ → ℕ
session_in fields i = narrow (natural_at fields i)

-- the value of a field that is an integer, and 0 where it is none
abbrev pub integer_value : Integer → ℤ
integer_value (signed.Is value) = value
integer_value _ = pos 0

-- A quote is left out unless the byte before it was: of two quotes the second stays.
abbrev pub is_left_out : Bool → ℕ → Bool
is_left_out before b = b == 34 && not before

-- The bytes after a field's first quote, without those that are left out. `before` says whether the byte before was.
unfoldable pub unquoted : Bool → List ℕ → List ℕ
unquoted before [] = []
unquoted before (b ∷ bytes) = if is_left_out before b then unquoted true bytes else b ∷ unquoted false bytes

-- the text that the field is, without its quotes where it begins with one
abbrev pub text_in : Field → List ℕ
text_in field = if slice_index field 0 == 34 then unquoted false (drop 1 field) else field

-- the value of a column that the field is, of a text its first 64 bytes
abbrev pub value_in : Column → Field → Value
value_in columns.Number field = Number (integer_value (integer_of field))
value_in columns.Text field = Text (take MOST_TEXT_BYTES (text_in field))

-- whether a column holds texts
abbrev pub holds_text : Column → Bool
holds_text columns.Number = false
holds_text columns.Text = true

-- the values of these columns, from field i on
unfoldable pub values_in : List Field → ℕ → List Column → List Value
values_in fields i [] = []
values_in fields i (kind ∷ kinds) = value_in kind (nth fields i) ∷ values_in fields (i + 1) kinds

-- a row of these columns
abbrev pub row_in : List Field → ℕ → List Column → Option (List Value)
row_in fields i kinds = if nat_le 1 (length kinds) && nat_le (length kinds) MOST_COLUMNS then Some (values_in fields i kinds) else None
