-- The first record that breaks a rule, with its first code, and the script that the records give.
use Rattle.std.specs.Prelude.{◌≡◌, ℕ, ◌+◌, List, [], ◌∷◌, ◌++◌, length, drop, Bool, false, Option, Some, None, is_none, option_map, unwrap_or, if◌then◌else◌, ⊤}
use Rattle.std.specs.Option.{option_map_or}
use Rattle.hg_base.specs.declared.rid.Rid.{Rid}
use Rattle.hg_base.specs.declared.rid.TableId.{TableId}
use Rattle.hg_base.specs.declared.scope.Scope.TheVariants.{All}
use Rattle.hg_base.specs.declared.report.Kind.TheVariants.{Group}
use Rattle.hg_base.specs.declared.statement.Statement.{Statement}
use Rattle.hg_base.specs.declared.statement.Statement.TheVariants as say
use Rattle.hg_base.specs.declared.value.Column.{Column}
use Rattle.hg_base.specs.declared.value.Value.{Value}
use Rattle.hg_base.specs.Script.{Script}
use Rattle.hg_script.specs.declared.columns.Columns.{Columns}
use Rattle.hg_script.specs.declared.columns.Columns.TheVariants as columns
use Rattle.hg_script.specs.declared.code.Code.{Code}
use Rattle.hg_script.specs.declared.code.Code.TheVariants.{Count, Word as BadWord, Fields as BadFields, Number, Range, Name, Columns as BadColumns, Value as BadValue, Order}
use Rattle.hg_script.specs.declared.refusal.ScriptRefusal.{ScriptRefusal}
use Rattle.hg_script.specs.declared.refusal.ScriptRefusal.TheVariants.{At, NoMemory}
use Rattle.hg_base.specs.declared.number.Natural.{Natural}
use Rattle.hg_script.specs.declared.values.Values.{Values}
use Rattle.hg_script.specs.declared.values.Values.TheVariants.{Are}
use Rattle.hg_script.specs.declared.word.Word.{Word}
use Rattle.hg_script.specs.declared.draft.Ask.{Ask}
use Rattle.hg_script.specs.declared.draft.Ask.TheVariants.{Begin, Get, Put, Del, Scan, CursorOpen, Fetch, CursorClose, Commit, Rollback, Gc}
use Rattle.hg_script.specs.declared.draft.Draft.{Draft}
use Rattle.hg_script.specs.declared.draft.Draft.TheVariants.{Version, Table, Session}
use Rattle.hg_base.specs.Number.{value_of}
use Rattle.hg_script.specs.Fields.{Fields, nth, word_of}
use Rattle.hg_script.specs.Draft.{draft_of, first_table}
use Rattle.hg_script.specs.Rules.{count_breaks, fields_breaks, number_breaks, range_breaks, name_breaks, columns_breaks, value_breaks, order_breaks}

-- ---- the codes

-- a record's draft, if it has a word
abbrev pub read_as : ℕ → Script → Fields → Option Draft
read_as place s r = option_map (λ word. draft_of s.version s.tables word r) (word_of place r)

-- whether P holds of what is there
abbrev pub holds_of : {X : Type 0} → (X → Bool) → Option X → Bool
holds_of P o = option_map_or P o false

-- The table of codes: of each code, whether the record breaks its rule. It stands at this place, after the records that gave s.
abbrev pub code_table : ℕ → Script → Fields → Option Word → Option Draft → List (Code × Bool)
code_table place s r word draft =
    (Count, count_breaks place s.tables word)
    ∷ (BadWord, is_none word)
    ∷ (BadFields, holds_of (λ w. fields_breaks w (length r)) word)
    ∷ (Number, holds_of number_breaks draft)
    ∷ (Range, holds_of range_breaks draft)
    ∷ (Name, holds_of name_breaks draft)
    ∷ (BadColumns, holds_of (columns_breaks s.tables) draft)
    ∷ (BadValue, holds_of value_breaks draft)
    ∷ (Order, holds_of (order_breaks s.records) draft)
    ∷ []

-- the first of these codes whose rule is broken, and none where no rule is
abbrev pub first_broken : List (Code × Bool) → Option Code
first_broken [] = None
first_broken ((code, breaks) ∷ more) = if breaks then Some code else first_broken more

-- the first code whose rule the record breaks
unfoldable pub first_code : ℕ → Script → Fields → Option Code
first_code place s r = first_broken (code_table place s r (word_of place r) (read_as place s r))

-- the first of the codes from the fourth on, which ask for the draft alone
unfoldable pub draft_code : Script → Draft → Option Code
draft_code s d = first_broken (drop 3 (code_table 1 s [] None (Some d)))

-- ---- what a record adds

-- the row that values are, and no values where they are none
abbrev pub row_of : Values → List Value
row_of (Are row) = row
row_of _ = []

-- the kinds that columns are, and none where they are no columns
abbrev pub kinds_in : Columns → List Column
kinds_in (columns.Are kinds) = kinds
kinds_in _ = []

-- the record of this key
abbrev pub rid_of : Option TableId → Natural → Rid
rid_of table key = record { table = unwrap_or table first_table; key = value_of key }

-- the statement that is asked
abbrev pub statement_of : Ask → Statement
statement_of (Begin scope) = say.Begin (unwrap_or scope All)
statement_of (Get table key) = say.Get (rid_of table key)
statement_of (Put table key values) = say.Put (rid_of table key) (row_of values)
statement_of (Del table key) = say.Del (rid_of table key)
statement_of (Scan table low high) = say.Scan (unwrap_or table first_table) (value_of low) (value_of high)
statement_of (CursorOpen table low high) = say.CursorOpen (unwrap_or table first_table) (value_of low) (value_of high)
statement_of (Fetch most) = say.Fetch (value_of most)
statement_of CursorClose = say.CursorClose
statement_of Commit = say.Commit
statement_of Rollback = say.Rollback
statement_of (Gc kind) = say.Gc (unwrap_or kind Group)

-- The script with one more record that has its fields. A table's name stands in its second field.
abbrev pub with_draft : ℕ → Script → Fields → Draft → Script
with_draft place s r (Version version) = record s { version = value_of version }
with_draft place s r (Table fresh cols) = record s { tables = s.tables ++ (record { name = nth r 1; kinds = kinds_in cols }) ∷ [] }
with_draft place s r (Session session ask) = record s { records = s.records ++ (record { place = place; session = value_of session; statement = statement_of ask }) ∷ [] }

-- the script with one more record
unfoldable pub with_row : ℕ → Script → Fields → Script
with_row place s r = option_map_or (with_draft place s r) (read_as place s r) s

-- ---- all records

-- the script of no records, which is one of version 1
abbrev pub nothing : Script
nothing = record { version = 1; tables = []; records = [] }

-- a record's code, or else what the records after it give
abbrev pub or_next : ℕ → Option Code → Option (ℕ × Code) → Option (ℕ × Code)
or_next place (Some c) next = Some (place, c)
or_next place None next = next

-- the first refusal, where the first record stands at this place, after those that gave s
unfoldable pub refusal_from : ℕ → Script → List Fields → Option (ℕ × Code)
refusal_from place s [] = None
refusal_from place s (r ∷ rs) = or_next place (first_code place s r) (refusal_from (place + 1) (with_row place s r) rs)

-- s with these records, of which the first stands at this place
unfoldable pub script_from : ℕ → Script → List Fields → Script
script_from place s [] = s
script_from place s (r ∷ rs) = script_from (place + 1) (with_row place s r) rs

-- the first record that breaks a rule, by its number among all records, counted from 1, with the first code that it breaks
abbrev pub refusal_of : List Fields → Option (ℕ × Code)
refusal_of rows = refusal_from 1 nothing rows

-- the script that the records give
abbrev pub script_of : List Fields → Script
script_of rows = script_from 1 nothing rows

-- a refusal tells the code of the record at this place
abbrev pub TellsCode : ℕ → Option Code → ScriptRefusal → Type 0
TellsCode place o (At line code) = (line ≡ place) × (o ≡ Some code)
TellsCode place o NoMemory = ⊤

-- a refusal tells the first record that breaks a rule, with its first code; want of memory tells nothing
abbrev pub TellsRefusal : Option (ℕ × Code) → ScriptRefusal → Type 0
TellsRefusal o (At line code) = o ≡ Some (line, code)
TellsRefusal o NoMemory = ⊤
