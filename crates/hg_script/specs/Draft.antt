-- A record with its fields read and its table looked up, before its rules are tested.
use Rattle.std.specs.Prelude.{ℕ, List, [], ◌∷◌, ◌^◌, length, drop, map, fold, replicate, position, bytes_eq, codes, if◌then◌else◌, Bool, false, not, ◌&&◌, ◌||◌, ◌==◌, nat_le, Option, Some}
use Rattle.std.specs.Prelude.{None, is_some, option_map, unwrap_or}
use Rattle.std.specs.List.{list_all, list_any}
use Rattle.std.specs.Option.{option_map_or}
use Rattle.std.specs.Int.Bits.{bit_or}
use Rattle.hg_base.specs.declared.rid.TableId.{TableId}
use Rattle.hg_base.specs.declared.scope.Scope.{Scope}
use Rattle.hg_base.specs.declared.scope.Scope.TheVariants.{All, Declared}
use Rattle.hg_base.specs.declared.report.Kind.{Kind}
use Rattle.hg_base.specs.declared.report.Kind.TheVariants as kinds
use Rattle.hg_base.specs.declared.limits.TheConstants.{MOST_COLUMNS, MOST_NAME_BYTES, MOST_TEXT_BYTES}
use Rattle.hg_base.specs.declared.value.Column.{Column}
use Rattle.hg_base.specs.declared.value.Column.TheVariants as column
use Rattle.hg_base.specs.declared.value.Value.{Value}
use Rattle.hg_base.specs.declared.value.Value.TheVariants.{Number, Text}
use Rattle.hg_base.specs.Script.{Declaration}
use Rattle.hg_base.specs.Text.{kinds_of}
use Rattle.hg_script.specs.declared.columns.Columns.{Columns}
use Rattle.hg_script.specs.declared.columns.Columns.TheVariants as columns
use Rattle.hg_base.specs.declared.number.Natural.{Natural}
use Rattle.hg_base.specs.declared.number.Natural.TheVariants as natural
use Rattle.hg_base.specs.declared.number.Integer.{Integer}
use Rattle.hg_base.specs.declared.number.Integer.TheVariants as signed
use Rattle.hg_script.specs.declared.values.Values.{Values}
use Rattle.hg_script.specs.declared.values.Values.TheVariants.{No, Over, Bad, Are}
use Rattle.hg_script.specs.declared.word.Word.{Word}
use Rattle.hg_script.specs.declared.word.Word.TheVariants as word
use Rattle.hg_script.specs.declared.draft.Ask.TheVariants.{Begin, Get, Put, Del, Scan, CursorOpen, Fetch, CursorClose, Commit, Rollback, Gc}
use Rattle.hg_script.specs.declared.draft.Draft.{Draft}
use Rattle.hg_script.specs.declared.draft.Draft.TheVariants.{Version, Table, Session}
use Rattle.hg_base.specs.Number.{is_digit, natural_of, integer_of}
use Rattle.hg_script.specs.Fields.{Field, Fields, nth}

-- ---- names

-- an ASCII letter, a digit or `_`
abbrev pub is_name_byte : ℕ → Bool
is_name_byte c = is_digit c || ((nat_le 65 c && nat_le c 90) || ((nat_le 97 c && nat_le c 122) || (c == 95)))

-- whether a field may be a name: at least one byte, at most `MOST_NAME_BYTES`, and each a letter, a digit or `_`
abbrev pub is_name : Field → Bool
is_name name = nat_le 1 (length name) && (nat_le (length name) MOST_NAME_BYTES && list_all is_name_byte name)

-- whether a table is declared by this name
abbrev pub has_name : Field → Declaration → Bool
has_name name declaration = bytes_eq declaration.name name

-- tables are numbered from 0
abbrev pub table_at : ℕ → TableId
table_at i = record { 0 = i }

-- the table of this name
abbrev pub table_named : List Declaration → Field → Option TableId
table_named tables name = option_map table_at (position (has_name name) tables)

-- A set of tables with one table more, which is bit t for table t, and none where a table is not declared.
abbrev pub with_table : Option ℕ → Option TableId → Option ℕ
with_table (Some mask) (Some table) = Some (bit_or mask (2 ^ table.0))
with_table _ _ = None

-- the set with the table of this name
abbrev pub with_named : List Declaration → Option ℕ → Field → Option ℕ
with_named tables set name = with_table set (table_named tables name)

-- the set of the tables of these names, of which one may stand twice
abbrev pub set_named : List Declaration → List Field → Option ℕ
set_named tables names = fold (with_named tables) (Some 0) names

-- whether one of these names is the table's
abbrev pub is_named : List Declaration → List Field → TableId → Bool
is_named tables names table = list_any (λ name. option_map_or (λ found. found.0 == table.0) (table_named tables name) false) names

-- every table where no name is given, and else the tables of these names
abbrev pub scope_named : List Declaration → List Field → Option Scope
scope_named tables [] = Some All
scope_named tables names = option_map Declared (set_named tables names)

-- a name that a table may take
abbrev pub is_fresh : List Declaration → Field → Bool
is_fresh tables name = is_name name && not (is_some (table_named tables name))

-- ---- collectors

-- the collector of this name
abbrev pub kind_named : Field → Option Kind
kind_named name =
    if bytes_eq name (codes "group") then Some kinds.Group
    else (if bytes_eq name (codes "table") then Some kinds.Table
    else (if bytes_eq name (codes "interval") then Some kinds.Interval
    else None))

-- ---- columns

-- version 1: a number of columns, of numbers all
abbrev pub counted : Natural → Columns
counted natural.No = columns.No
counted natural.Over = columns.Over
counted (natural.Is k) = if nat_le 1 k && nat_le k MOST_COLUMNS then columns.Are (replicate k column.Number) else columns.Over

-- version 2: a letter for each column, `n` where it holds numbers and `t` where it holds texts
abbrev pub is_letter : ℕ → Bool
is_letter c = (c == 110) || (c == 116)

-- what a column holds by its letter: texts where it is `t`, and else numbers
abbrev pub kind_by : ℕ → Column
kind_by c = if c == 116 then column.Text else column.Number

-- the columns of these letters, and `Over` where they are not 1 to `MOST_COLUMNS` or one is neither `n` nor `t`
abbrev pub lettered : Field → Columns
lettered text = if nat_le 1 (length text) && (nat_le (length text) MOST_COLUMNS && list_all is_letter text) then columns.Are (map kind_by text) else columns.Over

-- what a table's third field is
abbrev pub columns_by : ℕ → Field → Columns
columns_by version text = if version == 1 then counted (natural_of text) else lettered text

-- what stands for a table that is not declared
abbrev pub first_table : TableId
first_table = record { 0 = 0 }

-- the columns of the table that is named
abbrev pub kinds_at : List Declaration → Option TableId → List Column
kinds_at tables table = kinds_of tables (unwrap_or table first_table)

-- ---- values

-- a number, and then other values
abbrev pub before : Integer → Values → Values
before signed.No rest = No
before signed.Over No = No
before signed.Over rest = Over
before (signed.Is v) (Are vs) = Are (Number v ∷ vs)
before (signed.Is v) rest = rest

-- The values of a put in version 1: some is no number, or all are but some is out of range, or they are these.
abbrev pub numbers_in : List Field → Values
numbers_in [] = Are []
numbers_in (f ∷ fs) = before (integer_of f) (numbers_in fs)

-- the value that is this number, and none where it is no number or is out of range
abbrev pub number_value : Integer → Option Value
number_value (signed.Is v) = Some (Number v)
number_value _ = None

-- what a field is in a column: a number of 64 bits with a sign, or at most 64 bytes
abbrev pub value_in : Column → Field → Option Value
value_in column.Number f = number_value (integer_of f)
value_in column.Text f = if nat_le (length f) MOST_TEXT_BYTES then Some (Text f) else None

-- a value, and then others, if all are there
abbrev pub and_then : Option Value → Option (List Value) → Option (List Value)
and_then (Some v) (Some vs) = Some (v ∷ vs)
and_then _ _ = None

-- the values of these columns, if each field is one of its column's, and there are as many
abbrev pub row_in : List Column → List Field → Option (List Value)
row_in [] [] = Some []
row_in (k ∷ ks) (f ∷ fs) = and_then (value_in k f) (row_in ks fs)
row_in _ _ = None

-- The values of a put in version 2: they are these, or else so many fields that are not those of the columns.
abbrev pub typed_in : List Column → List Field → Values
typed_in kinds fields = unwrap_or (option_map Are (row_in kinds fields)) (Bad (length fields))

-- the values of a put by the version: numbers alone in version 1, and else those of the table's columns
abbrev pub values_by : ℕ → List Column → List Field → Values
values_by version kinds fields = if version == 1 then numbers_in fields else typed_in kinds fields

-- ---- records

-- what stands where, by the record's word
abbrev pub draft_of : ℕ → List Declaration → Word → Fields → Draft
draft_of version tables word.Version r = Version (natural_of (nth r 1))
draft_of version tables word.Table r = Table (is_fresh tables (nth r 1)) (columns_by version (nth r 2))
draft_of version tables word.Begin r = Session (natural_of (nth r 0)) (Begin (scope_named tables (drop 2 r)))
draft_of version tables word.Get r = Session (natural_of (nth r 0)) (Get (table_named tables (nth r 2)) (natural_of (nth r 3)))
draft_of version tables word.Put r = Session (natural_of (nth r 0))
    (Put (table_named tables (nth r 2)) (natural_of (nth r 3)) (values_by version (kinds_at tables (table_named tables (nth r 2))) (drop 4 r)))
draft_of version tables word.Del r = Session (natural_of (nth r 0)) (Del (table_named tables (nth r 2)) (natural_of (nth r 3)))
draft_of version tables word.Scan r = Session (natural_of (nth r 0)) (Scan (table_named tables (nth r 2)) (natural_of (nth r 3)) (natural_of (nth r 4)))
draft_of version tables word.Commit r = Session (natural_of (nth r 0)) Commit
draft_of version tables word.Rollback r = Session (natural_of (nth r 0)) Rollback
draft_of version tables word.Gc r = Session (natural_of (nth r 0)) (Gc (kind_named (nth r 2)))
draft_of version tables word.Open r = Session (natural_of (nth r 0)) (CursorOpen (table_named tables (nth r 2)) (natural_of (nth r 3)) (natural_of (nth r 4)))
draft_of version tables word.Fetch r = Session (natural_of (nth r 0)) (Fetch (natural_of (nth r 2)))
draft_of version tables word.Close r = Session (natural_of (nth r 0)) CursorClose
