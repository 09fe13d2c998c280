-- Statements whose values are in two lists: numbers, and rows with a text. The keys of a scan are among the numbers.
use Rattle.std.specs.Int.{cast_signed, cast_unsigned, w64}
use Rattle.std.specs.Prelude.{ℕ, ℤ, pos, ◌+◌, ◌^◌, ◌<◌, ◌≤◌, List, [], ◌∷◌, length, map, take, drop, get_or, Option, if◌then◌else◌, ⊤}
use Rattle.std.specs.List.{list_any}
use Rattle.hg_base.specs.declared.limits.TheConstants.{MOST_COLUMNS, MOST_SESSIONS}
use Rattle.hg_base.specs.declared.rid.Rid.{Rid}
use Rattle.hg_base.specs.declared.rid.TableId.{TableId}
use Rattle.hg_base.specs.declared.scope.Scope.TheVariants.{All, Declared}
use Rattle.hg_base.specs.declared.statement.Statement.{Statement}
use Rattle.hg_base.specs.declared.statement.Statement.TheVariants as say
use Rattle.hg_base.specs.declared.value.Value.{Value}
use Rattle.hg_base.specs.declared.value.Value.TheVariants.{Number}
use Rattle.hg_base.specs.Values.{is_text, number_of}
use Rattle.hg_records.specs.declared.statements.Entry.{Entry}
use Rattle.hg_records.specs.declared.packed.Packed.{Packed}
use Rattle.hg_records.specs.declared.packed.Packed.TheVariants.{Begin, BeginDeclared, Get, Put, PutRow, Del, Scan, CursorOpen, Fetch, CursorClose, Commit, Rollback, Gc}

-- the record of that key in a table
abbrev pub rid_at : TableId → ℕ → Rid
rid_at table key = record { table = table; key = key }

-- the two keys of a scan, as they are among the numbers
abbrev pub packed_keys : ℕ → ℕ → List ℤ
packed_keys low high = cast_signed w64 low ∷ cast_signed w64 high ∷ []

-- the key that number i stands for, as 64 bits without a sign, and 0 where there is no such number
abbrev pub key_at : ℕ → List ℤ → ℕ
key_at i kept = cast_unsigned w64 (get_or kept i (pos 0))

-- the two keys of a scan, which are the number at index `first` and the next one
abbrev pub keys_in : ℕ → List ℤ → ℕ × ℕ
keys_in first numbers = let kept = take 2 (drop first numbers) in (key_at 0 kept, key_at 1 kept)

-- the statement, where these are all numbers and all rows with a text
abbrev pub statement_in : List ℤ → List (List Value) → Packed → Statement
statement_in numbers rows Begin = say.Begin All
statement_in numbers rows (BeginDeclared mask) = say.Begin (Declared mask)
statement_in numbers rows (Get table key) = say.Get (rid_at table key)
statement_in numbers rows (Put table count first key) = say.Put (rid_at table key) (map Number (take count (drop first numbers)))
statement_in numbers rows (PutRow table i key) = say.Put (rid_at table key) (get_or rows i [])
statement_in numbers rows (Del table key) = say.Del (rid_at table key)
statement_in numbers rows (Scan table first) = say.Scan table (keys_in first numbers).0 (keys_in first numbers).1
statement_in numbers rows (CursorOpen table first) = say.CursorOpen table (keys_in first numbers).0 (keys_in first numbers).1
statement_in numbers rows (Fetch n cursor) = say.Fetch n
statement_in numbers rows CursorClose = say.CursorClose
statement_in numbers rows Commit = say.Commit
statement_in numbers rows Rollback = say.Rollback
statement_in numbers rows (Gc kind) = say.Gc kind

-- a session with its statement
abbrev pub unpacked : List ℤ → List (List Value) → Entry → ℕ × Statement
unpacked numbers rows e = (e.session, statement_in numbers rows e.packed)

-- its row or its keys are among so many numbers, or its row is among so many rows
abbrev pub HasValues : ℕ → ℕ → Packed → Type 0
HasValues numbers rows (Put table count first key) = (1 ≤ count) × (count ≤ MOST_COLUMNS) × (first + count ≤ numbers)
HasValues numbers rows (PutRow table i key) = i < rows
HasValues numbers rows (Scan table first) = first + 2 ≤ numbers
HasValues numbers rows (CursorOpen table first) = first + 2 ≤ numbers
HasValues numbers rows _ = ⊤

-- the entry's row or keys are among so many numbers, or its row is among so many rows
abbrev pub IsWithin : ℕ → ℕ → Entry → Type 0
IsWithin numbers rows e = HasValues numbers rows e.packed

-- the entry's session is at most `MOST_SESSIONS`
abbrev pub HasSession : Entry → Type 0
HasSession e = e.session ≤ MOST_SESSIONS

-- The statement as it is stored after so many numbers and so many rows with a text. `cursor` is the table of the cursor that its
-- session opened last.
abbrev pub packed_as : Option TableId → ℕ → ℕ → Statement → Packed
packed_as cursor numbers rows (say.Begin All) = Begin
packed_as cursor numbers rows (say.Begin (Declared mask)) = BeginDeclared mask
packed_as cursor numbers rows (say.Get rid) = Get rid.table rid.key
packed_as cursor numbers rows (say.Put rid row) = if list_any is_text row then PutRow rid.table rows rid.key else Put rid.table (length row) numbers rid.key
packed_as cursor numbers rows (say.Del rid) = Del rid.table rid.key
packed_as cursor numbers rows (say.Scan table low high) = Scan table numbers
packed_as cursor numbers rows (say.CursorOpen table low high) = CursorOpen table numbers
packed_as cursor numbers rows (say.Fetch n) = Fetch n cursor
packed_as cursor numbers rows say.CursorClose = CursorClose
packed_as cursor numbers rows say.Commit = Commit
packed_as cursor numbers rows say.Rollback = Rollback
packed_as cursor numbers rows (say.Gc kind) = Gc kind

-- the numbers of a statement whose row has no text, and the keys of a scan
abbrev pub added : Statement → List ℤ
added (say.Put rid row) = if list_any is_text row then [] else map number_of row
added (say.Scan table low high) = packed_keys low high
added (say.CursorOpen table low high) = packed_keys low high
added _ = []

-- the keys of a scan have 64 bits
abbrev pub HasKeys : Statement → Type 0
HasKeys (say.Scan table low high) = (low < 2 ^ 64) × (high < 2 ^ 64)
HasKeys (say.CursorOpen table low high) = (low < 2 ^ 64) × (high < 2 ^ 64)
HasKeys _ = ⊤

-- the row of a statement, if it has a text
abbrev pub added_rows : Statement → List (List Value)
added_rows (say.Put rid row) = if list_any is_text row then row ∷ [] else []
added_rows _ = []
