-- The rows that are put and printed.
use Rattle.std.specs.Prelude.{◌≡◌, List, map, Option, MatchOption, ⊤}
use Rattle.hg_base.specs.declared.rid.Rid.{Rid}
use Rattle.hg_base.specs.declared.rid.TableId.{TableId}
use Rattle.hg_base.specs.declared.statement.Statement.{Statement}
use Rattle.hg_base.specs.declared.statement.Statement.TheVariants.{Get, Put, Scan, Fetch}
use Rattle.hg_base.specs.declared.line.Answer.{Answer}
use Rattle.hg_base.specs.declared.line.Answer.TheVariants.{Found, Rows}
use Rattle.hg_base.specs.declared.value.Value.{Value}
use Rattle.hg_base.specs.Lists.{Each}
use Rattle.hg_base.specs.Script.{Declaration, Script}
use Rattle.hg_base.specs.Text.{cursor_before, kinds_of}
use Rattle.hg_base.specs.Values.{kind_of}
use Rattle.hg_base.specs.Transcript.{Said}

-- P holds of the row that is put, and of its record
abbrev pub AsksRow : (Rid → List Value → Type 0) → Statement → Type 0
AsksRow P (Put r row) = P r row
AsksRow P _ = ⊤

-- P holds of the row that a record is found to have
abbrev pub FoundRow : (Rid → List Value → Type 0) → Rid → Answer → Type 0
FoundRow P r (Found row) = P r row
FoundRow P r _ = ⊤

-- P holds of each row that a scan or a fetch finds
abbrev pub FoundRows : (Rid → List Value → Type 0) → TableId → Answer → Type 0
FoundRows P table (Rows rows) = Each (λ p. P (record { table = table; key = p.0 }) p.1) rows
FoundRows P table _ = ⊤

-- where the session's last cursor is on that table
abbrev pub PrintsRow : (Rid → List Value → Type 0) → Option TableId → Statement → Answer → Type 0
PrintsRow P cursor (Get r) answer = FoundRow P r answer
PrintsRow P cursor (Scan table low high) answer = FoundRows P table answer
PrintsRow P cursor (Fetch n) answer = MatchOption cursor ⊥ (λ table. FoundRows P table answer)
PrintsRow P cursor _ answer = ⊤

-- the table of the last cursor that its session opened before it
abbrev pub cursor_table : Script → Said → Option TableId
cursor_table script now = cursor_before script.records now.session now.place

-- a row of its table's columns: as many values, each of its column's kind
abbrev pub HasColumns : List Declaration → Rid → List Value → Type 0
HasColumns tables r row = map kind_of row ≡ kinds_of tables r.table

-- each row that the line prints has its table's columns, that of a fetch those of its cursor's table
abbrev pub PrintsColumns : Script → Said → Type 0
PrintsColumns script now = PrintsRow (HasColumns script.tables) (cursor_table script now) now.statement now.reply.answer
