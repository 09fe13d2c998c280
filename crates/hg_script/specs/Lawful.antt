-- What a script is that breaks no rule, in words of its own.
use Rattle.std.specs.Prelude.{◌≡◌, ℕ, ◌⊎◌, ◌+◌, ◌<◌, ◌≤◌, ◌^◌, List, [], ◌∷◌, ◌++◌, ◌||◌, length, map, Bool, IsTrue, IsFalse, bytes_eq, ⊤}
use Rattle.std.specs.List.{IsDistinct}
use Rattle.hg_base.specs.declared.limits.TheConstants.{MOST_SESSIONS, MOST_TABLES, MOST_COLUMNS, MOST_RECORDS}
use Rattle.hg_base.specs.declared.rid.TableId.{TableId}
use Rattle.hg_base.specs.declared.scope.Scope.{Scope}
use Rattle.hg_base.specs.declared.scope.Scope.TheVariants.{All, Declared}
use Rattle.hg_base.specs.declared.statement.Record.{Record}
use Rattle.hg_base.specs.declared.statement.Statement.{Statement}
use Rattle.hg_base.specs.declared.statement.Statement.TheVariants as say
use Rattle.hg_base.specs.declared.value.Column.TheVariants as columns
use Rattle.hg_base.specs.Values.{FitsValue, kind_of}
use Rattle.hg_base.specs.Lists.{Each, Ascends}
use Rattle.hg_base.specs.Script.{Declaration, Script}
use Rattle.hg_base.specs.Text.{Fits64, kinds_of}
use Rattle.hg_script.specs.declared.rules.TheConstants.{MOST_FETCHED}
use Rattle.hg_script.specs.Draft.{is_name}
use Rattle.hg_script.specs.Numbered.{records_before}
use Rattle.hg_script.specs.Rules.{is_open, is_reading}

-- a table by a name, of some columns
pub record IsTable (d : Declaration) : Type 0 where
  pub name : IsTrue (is_name d.name)
  pub some : 1 ≤ length d.kinds
  pub most : length d.kinds ≤ MOST_COLUMNS

-- a table of numbers alone
abbrev pub HasNumbers : Declaration → Type 0
HasNumbers d = Each (λ kind. kind ≡ columns.Number) d.kinds

-- one of the tables
abbrev pub IsAmong : List Declaration → TableId → Type 0
IsAmong tables table = table.0 < length tables

-- every table, or some set of them that is not empty
abbrev pub IsScope : List Declaration → Scope → Type 0
IsScope tables All = ⊤
IsScope tables (Declared mask) = (1 ≤ mask) × (mask < 2 ^ length tables)

-- A statement on tables that are declared, and a row of the kinds that its table has. The two ends of a scan or a cursor may be
-- in either order.
abbrev pub FitsTables : List Declaration → Statement → Type 0
FitsTables tables (say.Begin scope) = IsScope tables scope
FitsTables tables (say.Get r) = IsAmong tables r.table
FitsTables tables (say.Put r row) = IsAmong tables r.table × (map kind_of row ≡ kinds_of tables r.table)
FitsTables tables (say.Del r) = IsAmong tables r.table
FitsTables tables (say.Scan table low high) = IsAmong tables table
FitsTables tables (say.CursorOpen table low high) = IsAmong tables table
FitsTables tables (say.Fetch n) = ⊤
FitsTables tables say.CursorClose = ⊤
FitsTables tables say.Commit = ⊤
FitsTables tables say.Rollback = ⊤
FitsTables tables (say.Gc kind) = ⊤

-- Keys and the ends of a scan or a cursor are numbers of 64 bits, values are such numbers with a sign, or texts of at most 64 bytes,
-- and a fetch asks for 1 to 1,048,576 rows.
abbrev pub HasWidths : Statement → Type 0
HasWidths (say.Begin scope) = ⊤
HasWidths (say.Get r) = Fits64 r.key
HasWidths (say.Put r row) = Fits64 r.key × Each FitsValue row
HasWidths (say.Del r) = Fits64 r.key
HasWidths (say.Scan table low high) = Fits64 low × Fits64 high
HasWidths (say.CursorOpen table low high) = Fits64 low × Fits64 high
HasWidths (say.Fetch n) = (1 ≤ n) × (n ≤ MOST_FETCHED)
HasWidths say.CursorClose = ⊤
HasWidths say.Commit = ⊤
HasWidths say.Rollback = ⊤
HasWidths (say.Gc kind) = ⊤

-- a statement of a session that there is, at a place that there is
pub record IsStatement (tables : List Declaration) (r : Record) : Type 0 where
  pub place : r.place ≤ MOST_RECORDS
  pub some : 1 ≤ r.session
  pub most : r.session ≤ MOST_SESSIONS
  pub fits : FitsTables tables r.statement
  pub widths : HasWidths r.statement

-- Which statements a session may make, by whether its transaction is open (`within`) and whether its cursor is open (`reads`): a
-- `begin` or `open` if neither is, a `commit` or `rollback` in a transaction, a `fetch` or `close` with a cursor, a `gc` at any
-- time, and every other statement if no cursor is open.
abbrev pub MayStand : Bool → Bool → Statement → Type 0
MayStand within reads (say.Begin scope) = IsFalse (within || reads)
MayStand within reads (say.Get r) = IsFalse reads
MayStand within reads (say.Put r row) = IsFalse reads
MayStand within reads (say.Del r) = IsFalse reads
MayStand within reads (say.Scan table low high) = IsFalse reads
MayStand within reads (say.CursorOpen table low high) = IsFalse (within || reads)
MayStand within reads (say.Fetch n) = IsTrue reads
MayStand within reads say.CursorClose = IsTrue reads
MayStand within reads say.Commit = IsTrue within
MayStand within reads say.Rollback = IsTrue within
MayStand within reads (say.Gc kind) = ⊤

-- A statement of a session that there is, which fits the tables of a script and may stand after its records, whatever its place.
pub record IsAccepted (s : Script) (session : ℕ) (statement : Statement) : Type 0 where
  pub some : 1 ≤ session
  pub most : session ≤ MOST_SESSIONS
  pub fits : FitsTables s.tables statement
  pub widths : HasWidths statement
  pub stands : MayStand (is_open session s.records) (is_reading session s.records) statement

-- each record may stand after those before it
abbrev pub AreInOrder : List Record → List Record → Type 0
AreInOrder before [] = ⊤
AreInOrder before (r ∷ rs) = MayStand (is_open r.session before) (is_reading r.session before) r.statement × AreInOrder (before ++ r ∷ []) rs

-- One of two versions, of which the first has numbers alone, no more tables and no more records than there may be, tables by
-- distinct names, and statements that fit them, in order, by ascending place.
pub record IsLawful (s : Script) : Type 0 where
  pub version : (s.version ≡ 1) ⊎ (s.version ≡ 2)
  pub numbers : s.version ≡ 1 → Each HasNumbers s.tables
  pub most : length s.tables ≤ MOST_TABLES
  pub records : records_before s + length s.records ≤ MOST_RECORDS
  pub tables : Each IsTable s.tables
  pub names : IsDistinct bytes_eq (map (λ d. d.name) s.tables)
  pub statements : Each (IsStatement s.tables) s.records
  pub order : AreInOrder [] s.records
  pub places : Ascends (map (λ r. r.place) s.records)
