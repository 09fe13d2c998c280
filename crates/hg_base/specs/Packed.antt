-- The values of a row as bytes: their number, and then each of them, a text as its length and its bytes, and a number as 255 and its
-- eight bytes, the lowest first. Own.
use Rattle.std.specs.Prelude.{◌≡◌, ℕ, zero, suc, pos, ◌≤◌, ◌==◌, List, [], ◌∷◌, length, take, drop, IsTrue, if◌then◌else◌}
use Rattle.std.specs.Int.{w64, cast_signed, cast_unsigned, to_le_bytes, from_le_bytes}
use Rattle.std.specs.Bool.{MatchBool}
use Rattle.std.specs.List.{flat_map, list_any}
use Rattle.hg_base.specs.declared.limits.TheConstants.{MOST_TEXT_BYTES}
use Rattle.hg_base.specs.declared.value.Value.{Value}
use Rattle.hg_base.specs.declared.value.Value.TheVariants.{Number, Text}
use Rattle.hg_base.specs.Lists.{Each}
use Rattle.hg_base.specs.Values.{FitsValue, is_text}

-- the bytes of a value: 255 and eight bytes of a number, or the length and the bytes of a text
abbrev pub packed_value : Value → List ℕ
packed_value (Number v) = 255 ∷ to_le_bytes w64 (cast_unsigned w64 v)
packed_value (Text t) = length t ∷ t

-- the bytes of a row: the number of its values, and then each value's
abbrev pub packed : List Value → List ℕ
packed vs = length vs ∷ flat_map packed_value vs

-- the value that these bytes begin with
abbrev pub front_value : List ℕ → Value
front_value [] = Number (pos 0)
front_value (k ∷ bytes) = if k == 255 then Number (cast_signed w64 (from_le_bytes w64 (take 8 bytes))) else Text (take k bytes)

-- how many bytes the first value has
abbrev pub front_size : List ℕ → ℕ
front_size [] = 0
front_size (k ∷ bytes) = if k == 255 then 9 else suc k

-- the first n values of these bytes
abbrev pub values_from : ℕ → List ℕ → List Value
values_from zero bytes = []
values_from (suc n) bytes = front_value bytes ∷ values_from n (drop (front_size bytes) bytes)

-- the row that has these bytes
abbrev pub unpacked : List ℕ → List Value
unpacked [] = []
unpacked (n ∷ bytes) = values_from n bytes

-- the bytes begin with a whole value
abbrev pub IsWhole : List ℕ → Type 0
IsWhole [] = ⊥
IsWhole (k ∷ bytes) = MatchBool (k == 255) (8 ≤ length bytes) ((k ≤ length bytes) × (k ≤ MOST_TEXT_BYTES))

-- the bytes are values, of which one is a text
pub record IsPacked (bytes : List ℕ) : Type 0 where
  pub same : packed (unpacked bytes) ≡ bytes
  pub fit : Each FitsValue (unpacked bytes)
  pub some : IsTrue (list_any is_text (unpacked bytes))
