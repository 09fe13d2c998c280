-- Numbers as a script writes them: `0`, or a digit from 1 to 9 and then digits. A value may be `-` and then such a number other than `0`.
use Rattle.std.specs.Prelude.{ℕ, pos, neg_ℤ, ◌^◌, ◌==◌, ◌&&◌, List, length, drop, slice_index, Bool, true, false, not, nat_lt, nat_le, if◌then◌else◌}
use Rattle.std.specs.List.{list_all}
use Rattle.std.specs.Str.Parse.{digits_value}
use Rattle.hg_base.specs.declared.number.Natural.{Natural}
use Rattle.hg_base.specs.declared.number.Natural.TheVariants.{No, Over, Is}
use Rattle.hg_base.specs.declared.number.Integer.{Integer}
use Rattle.hg_base.specs.declared.number.Integer.TheVariants as signed

-- whether a byte is one of the digits 0 to 9
abbrev pub is_digit : ℕ → Bool
is_digit c = nat_le 48 c && nat_le c 57

-- a `0` that is not alone
abbrev pub leads_with_zero : List ℕ → Bool
leads_with_zero text = slice_index text 0 == 48 && nat_lt 1 (length text)

-- written as a number: some digits, of which the first is `0` only where it is alone
abbrev pub is_natural : List ℕ → Bool
is_natural text = nat_lt 0 (length text) && (not (leads_with_zero text) && list_all is_digit text)

-- a number below 2 ^ 64
abbrev pub natural_of : List ℕ → Natural
natural_of text =
    if is_natural text then (if nat_lt (digits_value 10 text) (2 ^ 64) then Is (digits_value 10 text) else Over) else No

-- from 0 to 2 ^ 63 - 1
abbrev pub plus : Natural → Integer
plus No = signed.No
plus Over = signed.Over
plus (Is k) = if nat_lt k (2 ^ 63) then signed.Is (pos k) else signed.Over

-- from -1 to -2 ^ 63
abbrev pub minus : Natural → Integer
minus No = signed.No
minus Over = signed.Over
minus (Is k) = if k == 0 then signed.No else (if nat_le k (2 ^ 63) then signed.Is (neg_ℤ (pos k)) else signed.Over)

-- a number that may have a minus
abbrev pub integer_of : List ℕ → Integer
integer_of text = if slice_index text 0 == 45 then minus (natural_of (drop 1 text)) else plus (natural_of text)

-- ---- what a field is

-- whether a field is not written as a number
abbrev pub is_no : Natural → Bool
is_no No = true
is_no _ = false

-- whether a field is a number out of range
abbrev pub is_over : Natural → Bool
is_over Over = true
is_over _ = false

-- whether a field is a number from `low` to `high`
abbrev pub is_between : ℕ → ℕ → Natural → Bool
is_between low high (Is k) = nat_le low k && nat_le k high
is_between low high _ = false

-- the number, and 0 where it is none
abbrev pub value_of : Natural → ℕ
value_of (Is k) = k
value_of _ = 0
