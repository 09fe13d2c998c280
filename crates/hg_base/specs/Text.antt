-- The records of a printed text, as lists of fields. The bytes are made of them by the row text of a CSV writer.
use Rattle.std.specs.Prelude.{◌≡◌, ℕ, ◌<◌, ◌^◌, List, [], ◌∷◌, ◌++◌, length, map, Bool, true, false, ◌&&◌, ◌==◌, Option, Some, None, find, is_some, is_none, nat_lt, IsTrue, IfSome}
use Rattle.std.specs.Prelude.{MatchOption, codes, decimal, if◌then◌else◌, ⊤}
use Rattle.std.specs.Fmt.{signed_decimal}
use Rattle.std.specs.List.{flat_map, slice_get}
use Rattle.std.specs.Bool.{MatchBool}
use Rattle.std.specs.Option.{option_map_or, option_or}
use Rattle.hg_base.specs.declared.rid.TableId.{TableId}
use Rattle.hg_base.specs.declared.statement.Statement.{Statement}
use Rattle.hg_base.specs.declared.statement.Statement.TheVariants.{Begin, Get, Put, Del, Scan, CursorOpen, Fetch, CursorClose, Commit as CommitIt, Rollback, Gc}
use Rattle.hg_base.specs.declared.statement.Record.{Record}
use Rattle.hg_base.specs.declared.report.Kind.{Kind}
use Rattle.hg_base.specs.declared.report.Kind.TheVariants as kinds
use Rattle.hg_base.specs.declared.report.Told.{Told}
use Rattle.hg_base.specs.declared.report.Sweep.{Sweep}
use Rattle.hg_base.specs.declared.line.Answer.{Answer}
use Rattle.hg_base.specs.declared.line.Answer.TheVariants.{Begun, Stored, Found, Nothing, Gone, Rows, Committed, Ended, Undone, Newer, OpenBy, Undeclared, Swept, Beside}
use Rattle.hg_base.specs.declared.line.Reply.{Reply}
use Rattle.hg_base.specs.declared.line.Line.{Line}
use Rattle.hg_base.specs.declared.line.Totals.{Totals}
use Rattle.hg_base.specs.declared.line.Printed.{Printed}
use Rattle.hg_base.specs.declared.value.Column.{Column}
use Rattle.hg_base.specs.declared.value.Value.{Value}
use Rattle.hg_base.specs.declared.value.Value.TheVariants.{Number, Text}
use Rattle.hg_base.specs.Lists.{Each}
use Rattle.hg_base.specs.Values.{FitsColumns}
use Rattle.hg_base.specs.Script.{Declaration, Script}
use Rattle.hg_base.specs.Transcript.{table_of}

-- a field, as its bytes
abbrev pub Field : Type 0
Field = List ℕ

-- the name of a table
abbrev pub name_of : List Declaration → TableId → Field
name_of tables table = option_map_or (λ d. d.name) (slice_get tables table.0) []

-- the kinds of a table's columns
abbrev pub kinds_of : List Declaration → TableId → List Column
kinds_of tables table = option_map_or (λ d. d.kinds) (slice_get tables table.0) []

-- the word for a kind of collector
abbrev pub kind_word : Kind → Field
kind_word kinds.Group = codes "group"
kind_word kinds.Table = codes "table"
kind_word kinds.Interval = codes "interval"

-- a number in decimal digits, or the bytes of a text
abbrev pub value_field : Value → Field
value_field (Number v) = signed_decimal v
value_field (Text t) = t

-- ---- the records

-- the fields of an answer, after the session, the place and the snapshot
abbrev pub answer_fields : List Declaration → Answer → List Field
answer_fields tables (Begun s) = codes "begun" ∷ decimal s ∷ []
answer_fields tables Stored = codes "stored" ∷ []
answer_fields tables (Found row) = codes "row" ∷ map value_field row
answer_fields tables Nothing = codes "none" ∷ []
answer_fields tables Gone = codes "gone" ∷ []
answer_fields tables (Rows rows) = codes "rows" ∷ decimal (length rows) ∷ []
answer_fields tables (Committed c) = codes "committed" ∷ decimal c ∷ []
answer_fields tables Ended = codes "ended" ∷ []
answer_fields tables Undone = codes "undone" ∷ []
answer_fields tables (Newer c) = codes "refused" ∷ codes "newer" ∷ decimal c ∷ []
answer_fields tables (OpenBy writer) = codes "refused" ∷ codes "open" ∷ decimal writer.session ∷ decimal writer.transaction ∷ []
answer_fields tables (Undeclared table) = codes "refused" ∷ codes "undeclared" ∷ name_of tables table ∷ []
answer_fields tables (Swept sweep) = codes "swept" ∷ kind_word sweep.kind ∷ decimal sweep.mark ∷ decimal sweep.horizon ∷ decimal sweep.removed ∷ []
answer_fields tables Beside = codes "beside" ∷ []

-- the fields of a held snapshot in a report, after the session and the place
abbrev pub held_fields : Told → List Field
held_fields told = codes "held" ∷ decimal told.session ∷ decimal told.number ∷ (if told.moved then codes "moved" else codes "unmoved") ∷ []

-- the fields of a row of a scan, after the session and the place
abbrev pub row_fields : ℕ × List Value → List Field
row_fields p = codes "row" ∷ decimal p.0 ∷ map value_field p.1

-- the further records of a reply: the rows of a scan, the held snapshots of a report
abbrev pub more_fields : Answer → List (List Field)
more_fields (Rows rows) = map row_fields rows
more_fields (Swept sweep) = map held_fields sweep.held
more_fields _ = []

-- `at` and the snapshot, or `committed` and the number, where they are printed
abbrev pub told_as : Field → Option ℕ → List Field
told_as word None = []
told_as word (Some n) = word ∷ decimal n ∷ []

-- a record of a reply, which begins with the session and the place
abbrev pub of_line : Line → List Field → List Field
of_line line fields = decimal line.session ∷ decimal line.place ∷ fields

-- all records of a reply: the answer, and then the rows or held snapshots that belong to it
abbrev pub line_records : List Declaration → Line → List (List Field)
line_records tables line = of_line line (told_as (codes "at") line.reply.at ++ answer_fields tables line.reply.answer ++ told_as (codes "committed") line.reply.number) ∷ map
    (of_line line) (more_fields line.reply.answer)

-- the record of one total
abbrev pub total_fields : Field → ℕ → List Field
total_fields word n = codes "total" ∷ word ∷ decimal n ∷ []

-- the records of the six totals
abbrev pub totals_records : Totals → List (List Field)
totals_records t = total_fields (codes "made") t.made ∷ total_fields (codes "undone") t.undone ∷ total_fields (codes "group") t.group ∷ total_fields
    (codes "table") t.table ∷ total_fields (codes "interval") t.interval ∷ total_fields (codes "left") t.left ∷ []

-- every record of a text, line by line, totals last
abbrev pub text_records : Script → Printed → List (List Field)
text_records script printed = flat_map (line_records script.tables) printed.lines ++ totals_records printed.totals

-- the bytes, where `row` is the text of one record
abbrev pub text_of : (List Field → List ℕ) → Script → Printed → List ℕ
text_of row script printed = flat_map row (text_records script printed)

-- ---- which lines fit a script

-- a number of 64 bits, as all that are printed but sessions, which have 32, and the values of rows
abbrev pub Fits64 : ℕ → Type 0
Fits64 n = n < 2 ^ 64

-- a number of 32 bits, as those of sessions
abbrev pub Fits32 : ℕ → Type 0
Fits32 n = n < 2 ^ 32

-- a row of the table's columns
abbrev pub FitsRow : List Declaration → TableId → List Value → Type 0
FitsRow tables table row = FitsColumns (kinds_of tables table) row

-- a refusal of a write on this table, with numbers of the printed width
abbrev pub FitsRefusal : TableId → Answer → Type 0
FitsRefusal table (Newer c) = Fits64 c
FitsRefusal table (OpenBy writer) = Fits32 writer.session × Fits64 writer.transaction
FitsRefusal table (Undeclared other) = other.0 ≡ table.0
FitsRefusal table _ = ⊥

-- an answer that the format has for a begin
abbrev pub FitsBegin : Answer → Type 0
FitsBegin (Begun s) = Fits64 s
FitsBegin _ = ⊥

-- an answer that the format has for a get
abbrev pub FitsGet : List Declaration → TableId → Answer → Type 0
FitsGet tables table (Found row) = FitsRow tables table row
FitsGet tables table Nothing = ⊤
FitsGet tables table (Undeclared other) = other.0 ≡ table.0
FitsGet tables table _ = ⊥

-- an answer that the format has for a put
abbrev pub FitsPut : TableId → Answer → Type 0
FitsPut table Stored = ⊤
FitsPut table answer = FitsRefusal table answer

-- an answer that the format has for a del
abbrev pub FitsDel : TableId → Answer → Type 0
FitsDel table Gone = ⊤
FitsDel table Nothing = ⊤
FitsDel table answer = FitsRefusal table answer

-- an answer that the format has for a scan
abbrev pub FitsScan : List Declaration → TableId → Answer → Type 0
FitsScan tables table (Rows rows) = Fits64 (length rows) × Each (λ p. Fits64 p.0 × FitsRow tables table p.1) rows
FitsScan tables table (Undeclared other) = other.0 ≡ table.0
FitsScan tables table _ = ⊥

-- the rows of a fetch, of the table of the session's cursor
abbrev pub FitsFetch : List Declaration → Option TableId → Answer → Type 0
FitsFetch tables (Some table) (Rows rows) = Fits64 (length rows) × Each (λ p. Fits64 p.0 × FitsRow tables table p.1) rows
FitsFetch tables cursor answer = ⊥

-- an answer that the format has for the end of a cursor
abbrev pub FitsClose : Answer → Type 0
FitsClose Ended = ⊤
FitsClose _ = ⊥

-- an answer that the format has for a commit
abbrev pub FitsCommit : Answer → Type 0
FitsCommit (Committed c) = Fits64 c
FitsCommit Ended = ⊤
FitsCommit _ = ⊥

-- an answer that the format has for a rollback
abbrev pub FitsRollback : Answer → Type 0
FitsRollback Undone = ⊤
FitsRollback _ = ⊥

-- a report with numbers of the printed width
abbrev pub FitsSweep : Sweep → Type 0
FitsSweep sweep = Fits64 sweep.mark × Fits64 sweep.horizon × Fits64 sweep.removed × Each (λ told. Fits32 told.session × Fits64 told.number) sweep.held

-- an answer that is a report
abbrev pub FitsReport : Answer → Type 0
FitsReport (Swept sweep) = FitsSweep sweep
FitsReport _ = ⊥

-- an answer that the format has for a `gc`
abbrev pub FitsGc : Answer → Type 0
FitsGc Beside = ⊤
FitsGc answer = FitsReport answer

-- the answers that the format has for a statement, where the session's last cursor is of that table
abbrev pub FitsAnswer : List Declaration → Option TableId → Statement → Answer → Type 0
FitsAnswer tables cursor (Begin scope) answer = FitsBegin answer
FitsAnswer tables cursor (Get r) answer = FitsGet tables r.table answer
FitsAnswer tables cursor (Put r row) answer = FitsPut r.table answer
FitsAnswer tables cursor (Del r) answer = FitsDel r.table answer
FitsAnswer tables cursor (Scan table low high) answer = FitsScan tables table answer
FitsAnswer tables cursor (CursorOpen table low high) answer = FitsBegin answer
FitsAnswer tables cursor (Fetch n) answer = FitsFetch tables cursor answer
FitsAnswer tables cursor CursorClose answer = FitsClose answer
FitsAnswer tables cursor CommitIt answer = FitsCommit answer
FitsAnswer tables cursor Rollback answer = FitsRollback answer
FitsAnswer tables cursor (Gc kind) answer = FitsGc answer

-- the record that a line answers: that of its place and session
abbrev pub asked : List Record → Line → Option Statement
asked records line = option_map_or (λ r. Some r.statement) (find (λ r. (r.place == line.place) && (r.session == line.session)) records) None

-- the table that an `open` reads
abbrev pub opens : Statement → Option TableId
opens (CursorOpen table low high) = Some table
opens _ = None

-- the table of the last cursor that a session opened before a place
abbrev pub cursor_before : List Record → ℕ → ℕ → Option TableId
cursor_before [] session place = None
cursor_before (r ∷ rs) session place = option_or (cursor_before rs session place) (if (r.session == session) && nat_lt r.place place then opens r.statement else None)

-- whether the answer is a stored write
abbrev pub is_write : Answer → Bool
is_write Stored = true
is_write Gone = true
is_write _ = false

-- `at` is printed only in replies to get, put, del and scan, and `committed` only after `stored` and `gone`
pub record FitsReply (tables : List Declaration) (cursor : Option TableId) (statement : Statement) (reply : Reply) : Type 0 where
  pub at : IfSome reply.at (λ s. Fits64 s × IsTrue (is_some (table_of statement)))
  pub answer : FitsAnswer tables cursor statement reply.answer
  pub number : IfSome reply.number (λ c. Fits64 c × IsTrue (is_write reply.answer))

-- the reply of a round of a run: a report, and neither a snapshot nor a commit number
pub record IsReport (reply : Reply) : Type 0 where
  pub at : IsTrue (is_none reply.at)
  pub answer : FitsReport reply.answer
  pub number : IsTrue (is_none reply.number)

-- A line fits where it is a report of session 0, or where it answers a record of the script as the format has it.
pub record Fits (script : Script) (line : Line) : Type 0 where
  pub session : Fits32 line.session
  pub place : Fits64 line.place
  pub reply : MatchBool (line.session == 0) (IsReport line.reply)
      (MatchOption (asked script.records line) ⊥ (λ statement. FitsReply script.tables (cursor_before script.records line.session line.place) statement line.reply))

-- totals of the printed width
pub record FitTotals (t : Totals) : Type 0 where
  pub made : Fits64 t.made
  pub undone : Fits64 t.undone
  pub group : Fits64 t.group
  pub table : Fits64 t.table
  pub interval : Fits64 t.interval
  pub left : Fits64 t.left

-- every line fits the script, and the totals their width
pub record IsFit (script : Script) (printed : Printed) : Type 0 where
  pub lines : Each (Fits script) printed.lines
  pub totals : FitTotals printed.totals
