-- Which records break which rule: one test for each code.
use Rattle.std.specs.Prelude.{◌≡◌, ℕ, List, length, fold, Bool, true, false, not, ◌&&◌, ◌||◌, ◌==◌, nat_lt, nat_le, Option, Some, is_some, if◌then◌else◌}
use Rattle.hg_base.specs.declared.limits.TheConstants.{MOST_RECORDS, MOST_TABLES, MOST_SESSIONS}
use Rattle.hg_base.specs.declared.statement.Record.{Record}
use Rattle.hg_base.specs.declared.statement.Statement.{Statement}
use Rattle.hg_base.specs.declared.statement.Statement.TheVariants as say
use Rattle.hg_base.specs.Script.{Declaration}
use Rattle.hg_script.specs.declared.columns.Columns.{Columns}
use Rattle.hg_script.specs.declared.columns.Columns.TheVariants as columns
use Rattle.hg_script.specs.declared.values.Values.{Values}
use Rattle.hg_script.specs.declared.values.Values.TheVariants.{No, Over, Bad, Are}
use Rattle.hg_script.specs.declared.word.Word.{Word}
use Rattle.hg_script.specs.declared.word.Word.TheVariants as word
use Rattle.hg_script.specs.declared.draft.Ask.{Ask}
use Rattle.hg_script.specs.declared.draft.Ask.TheVariants.{Begin, Get, Put, Del, Scan, CursorOpen, Fetch, CursorClose, Commit, Rollback, Gc}
use Rattle.hg_script.specs.declared.draft.Draft.{Draft}
use Rattle.hg_script.specs.declared.draft.Draft.TheVariants.{Version, Table, Session}
use Rattle.hg_script.specs.declared.rules.TheConstants.{MOST_FETCHED}
use Rattle.hg_script.specs.Draft.{kinds_at}
use Rattle.hg_base.specs.Number.{is_no, is_over, is_between, value_of}

-- ---- Count: one record too many, or one table

-- whether the word is a table's
abbrev pub is_table : Option Word → Bool
is_table (Some word.Table) = true
is_table _ = false

-- whether a record stands past the last place that there may be, or is a table's where there are as many tables as there may be
abbrev pub count_breaks : ℕ → List Declaration → Option Word → Bool
count_breaks place tables w = nat_lt MOST_RECORDS place || (is_table w && nat_le MOST_TABLES (length tables))

-- ---- Fields: a number of fields that the word does not have

-- whether a record of this word may not have n fields
abbrev pub fields_breaks : Word → ℕ → Bool
fields_breaks word.Version n = not (n == 2)
fields_breaks word.Table n = not (n == 3)
fields_breaks word.Begin n = nat_lt n 2 || nat_lt 66 n
fields_breaks word.Get n = not (n == 4)
fields_breaks word.Put n = nat_lt n 5 || nat_lt 12 n
fields_breaks word.Del n = not (n == 4)
fields_breaks word.Scan n = not (n == 5)
fields_breaks word.Commit n = not (n == 2)
fields_breaks word.Rollback n = not (n == 2)
fields_breaks word.Gc n = not (n == 3)
fields_breaks word.Open n = not (n == 5)
fields_breaks word.Fetch n = not (n == 3)
fields_breaks word.Close n = not (n == 2)

-- ---- Number: a field that is not written as a number

-- whether a number of columns is not written as a number
abbrev pub is_no_columns : Columns → Bool
is_no_columns columns.No = true
is_no_columns _ = false

-- whether some value is not written as a number
abbrev pub is_no_values : Values → Bool
is_no_values No = true
is_no_values _ = false

-- whether a statement has a key, an end, a value or a count of rows that is not written as a number
abbrev pub ask_number_breaks : Ask → Bool
ask_number_breaks (Begin scope) = false
ask_number_breaks (Get table key) = is_no key
ask_number_breaks (Put table key values) = is_no key || is_no_values values
ask_number_breaks (Del table key) = is_no key
ask_number_breaks (Scan table low high) = is_no low || is_no high
ask_number_breaks (CursorOpen table low high) = is_no low || is_no high
ask_number_breaks (Fetch most) = is_no most
ask_number_breaks CursorClose = false
ask_number_breaks Commit = false
ask_number_breaks Rollback = false
ask_number_breaks (Gc kind) = false

-- whether a version, a number of columns, a session or a number in a statement is not written as a number
abbrev pub number_breaks : Draft → Bool
number_breaks (Version version) = is_no version
number_breaks (Table fresh cols) = is_no_columns cols
number_breaks (Session session ask) = is_no session || ask_number_breaks ask

-- ---- Range: another version than 2, a number that is too small or too great, or columns other than 1 to 8

-- whether columns are not 1 to 8, or have a letter that is neither `n` nor `t`
abbrev pub is_over_columns : Columns → Bool
is_over_columns columns.Over = true
is_over_columns _ = false

-- whether all values are written as numbers, but some is out of range
abbrev pub is_over_values : Values → Bool
is_over_values Over = true
is_over_values _ = false

-- whether a statement's key, end or value is out of range, or a fetch's count of rows is none from 1 to `MOST_FETCHED`
abbrev pub ask_range_breaks : Ask → Bool
ask_range_breaks (Begin scope) = false
ask_range_breaks (Get table key) = is_over key
ask_range_breaks (Put table key values) = is_over key || is_over_values values
ask_range_breaks (Del table key) = is_over key
ask_range_breaks (Scan table low high) = is_over low || is_over high
ask_range_breaks (CursorOpen table low high) = is_over low || is_over high
ask_range_breaks (Fetch most) = not (is_between 1 MOST_FETCHED most)
ask_range_breaks CursorClose = false
ask_range_breaks Commit = false
ask_range_breaks Rollback = false
ask_range_breaks (Gc kind) = false

-- whether a version is not 2, columns are out of range, a session is none from 1 to `MOST_SESSIONS`, or a statement breaks its range
abbrev pub range_breaks : Draft → Bool
range_breaks (Version version) = not (is_between 2 2 version)
range_breaks (Table fresh cols) = is_over_columns cols
range_breaks (Session session ask) = not (is_between 1 MOST_SESSIONS session) || ask_range_breaks ask

-- ---- Name: a name that no table may take, or that no table has, or that no collector has

-- whether a statement names a table or a collector that there is not
abbrev pub ask_name_breaks : Ask → Bool
ask_name_breaks (Begin scope) = not (is_some scope)
ask_name_breaks (Get table key) = not (is_some table)
ask_name_breaks (Put table key values) = not (is_some table)
ask_name_breaks (Del table key) = not (is_some table)
ask_name_breaks (Scan table low high) = not (is_some table)
ask_name_breaks (CursorOpen table low high) = not (is_some table)
ask_name_breaks (Fetch most) = false
ask_name_breaks CursorClose = false
ask_name_breaks Commit = false
ask_name_breaks Rollback = false
ask_name_breaks (Gc kind) = not (is_some kind)

-- whether a table has a name that it may not take, or a statement names a table or a collector that there is not
abbrev pub name_breaks : Draft → Bool
name_breaks (Version version) = false
name_breaks (Table fresh cols) = not fresh
name_breaks (Session session ask) = ask_name_breaks ask

-- ---- Columns: a row of another length than its table's

-- how many, and 0 where they are no row of numbers
abbrev pub count_of : Values → ℕ
count_of (Are row) = length row
count_of (Bad count) = count
count_of _ = 0

-- whether a statement is a put whose values are not as many as its table's columns
abbrev pub ask_columns_breaks : List Declaration → Ask → Bool
ask_columns_breaks tables (Put table key values) = not (length (kinds_at tables table) == count_of values)
ask_columns_breaks tables _ = false

-- whether a record is a put whose values are not as many as its table's columns
abbrev pub columns_breaks : List Declaration → Draft → Bool
columns_breaks tables (Version version) = false
columns_breaks tables (Table fresh cols) = false
columns_breaks tables (Session session ask) = ask_columns_breaks tables ask

-- ---- Value: a row that has a value of another kind than its column

-- whether values are fields that are not those of the columns
abbrev pub is_bad_values : Values → Bool
is_bad_values (Bad count) = true
is_bad_values _ = false

-- whether a statement is a put whose fields are not values of its table's columns
abbrev pub ask_value_breaks : Ask → Bool
ask_value_breaks (Put table key values) = is_bad_values values
ask_value_breaks _ = false

-- whether a record is a put whose fields are not values of its table's columns
abbrev pub value_breaks : Draft → Bool
value_breaks (Session session ask) = ask_value_breaks ask
value_breaks _ = false

-- ---- Order: a record that does not fit those before it

-- whether the session's transaction is open after a statement
abbrev pub opened : Bool → Statement → Bool
opened before (say.Begin scope) = true
opened before say.Commit = false
opened before say.Rollback = false
opened before _ = before

-- whether session j's transaction is open after a record of any session, where `before` says whether it was open until then
abbrev pub opened_by : ℕ → Bool → Record → Bool
opened_by j before r = if r.session == j then opened before r.statement else before

-- whether the session's last `begin` is not followed by its end
abbrev pub is_open : ℕ → List Record → Bool
is_open j records = fold (opened_by j) false records

-- whether the session's cursor is open after a statement
abbrev pub reading : Bool → Statement → Bool
reading before (say.CursorOpen table low high) = true
reading before say.CursorClose = false
reading before _ = before

-- whether session j's cursor is open after a record of any session, where `before` says whether it was open until then
abbrev pub reading_by : ℕ → Bool → Record → Bool
reading_by j before r = if r.session == j then reading before r.statement else before

-- whether the session's last `open` is not followed by its `close`
abbrev pub is_reading : ℕ → List Record → Bool
is_reading j records = fold (reading_by j) false records

-- Whether a statement breaks the order, by whether its session's transaction is open (`within`) and whether its cursor is open
-- (`reads`). A get, put, del or scan with neither open is a transaction of its own.
abbrev pub ask_order_breaks : Bool → Bool → Ask → Bool
ask_order_breaks within reads (Begin scope) = within || reads
ask_order_breaks within reads (Get table key) = reads
ask_order_breaks within reads (Put table key values) = reads
ask_order_breaks within reads (Del table key) = reads
ask_order_breaks within reads (Scan table low high) = reads
ask_order_breaks within reads (CursorOpen table low high) = within || reads
ask_order_breaks within reads (Fetch most) = not reads
ask_order_breaks within reads CursorClose = not reads
ask_order_breaks within reads Commit = not within
ask_order_breaks within reads Rollback = not within
ask_order_breaks within reads (Gc kind) = false

-- whether a record may not stand after these: a table after any statement, or a statement that breaks its session's order
abbrev pub order_breaks : List Record → Draft → Bool
order_breaks records (Version version) = false
order_breaks records (Table fresh cols) = nat_lt 0 (length records)
order_breaks records (Session session ask) = ask_order_breaks (is_open (value_of session) records) (is_reading (value_of session) records) ask

-- ---- none of the rules of a record's fields

-- the draft breaks no rule of its own and may come after these records
abbrev pub KeepsRules : List Record → Draft → Type 0
KeepsRules records draft =
    (number_breaks draft ≡ false) × (range_breaks draft ≡ false) × (name_breaks draft ≡ false) × (value_breaks draft ≡ false)
    × (order_breaks records draft ≡ false)
