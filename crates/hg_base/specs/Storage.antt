-- What a row holds: numbers as such, or packed values.
use Rattle.std.specs.Prelude.{◌≡◌, ℕ, ℤ, ◌≤◌, List, [], map, length, Bool, true, false}
use Rattle.hg_base.specs.declared.row.Storage.{Storage}
use Rattle.hg_base.specs.declared.row.Storage.TheVariants.{One, Two, Many, Short, Long}
use Rattle.hg_base.specs.declared.value.Value.{Value}
use Rattle.hg_base.specs.declared.value.Value.TheVariants.{Number}
use Rattle.hg_base.specs.Packed.{unpacked, IsPacked}

-- the values that a row holds
abbrev pub stored_values : Storage → List Value
stored_values (One ns) = map Number ns
stored_values (Two ns) = map Number ns
stored_values (Many ns) = map Number ns.items
stored_values (Short bytes) = unpacked bytes
stored_values (Long bytes) = unpacked bytes.items

-- the numbers, where there is nothing else
abbrev pub stored_numbers : Storage → List ℤ
stored_numbers (One ns) = ns
stored_numbers (Two ns) = ns
stored_numbers (Many ns) = ns.items
stored_numbers _ = []

-- the packed values, where there are any
abbrev pub stored_bytes : Storage → List ℕ
stored_bytes (Short bytes) = bytes
stored_bytes (Long bytes) = bytes.items
stored_bytes _ = []

-- whether values are packed
abbrev pub is_packed : Storage → Bool
is_packed (Short bytes) = true
is_packed (Long bytes) = true
is_packed _ = false

-- what is stored as it should be: values are packed only where one of them is a text
abbrev pub IsStored : Storage → Type 0
IsStored (One ns) = length ns ≡ 1
IsStored (Two ns) = length ns ≡ 2
IsStored (Many ns) = 3 ≤ length ns.items
IsStored (Short bytes) = IsPacked bytes
IsStored (Long bytes) = IsPacked bytes.items
