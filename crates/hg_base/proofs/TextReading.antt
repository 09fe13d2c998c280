-- How the records of a text are read: the first line, and what stands after it.
use Rattle.std.proofs.Common.{ℕ, List, [], ◌∷◌, get_or, take, drop, map, Bool, false, Option, Some, None}
use Rattle.std.specs.Prelude.{◌||◌, codes, if◌then◌else◌}
use Rattle.std.specs.Str.{bytes_eq}
use Rattle.hg_base.specs.declared.rid.TableId.{TableId}
use Rattle.hg_base.specs.declared.statement.Record.{Record}
use Rattle.hg_base.specs.declared.report.Kind.{Kind}
use Rattle.hg_base.specs.declared.report.Kind.TheVariants as kinds
use Rattle.hg_base.specs.declared.report.Told.{Told}
use Rattle.hg_base.specs.declared.line.Answer.{Answer}
use Rattle.hg_base.specs.declared.line.Answer.TheVariants.{Begun, Stored, Found, Nothing, Gone, Rows, Committed, Ended, Undone, Newer, OpenBy, Undeclared, Swept, Beside}
use Rattle.hg_base.specs.declared.line.Reply.{Reply}
use Rattle.hg_base.specs.declared.line.Line.{Line}
use Rattle.hg_base.specs.declared.line.Totals.{Totals}
use Rattle.hg_base.specs.declared.value.Column.{Column}
use Rattle.hg_base.specs.declared.value.Column.TheVariants as columns
use Rattle.hg_base.specs.declared.value.Value.{Value}
use Rattle.hg_base.specs.declared.value.Value.TheVariants.{Number, Text}
use Rattle.hg_base.specs.Script.{Declaration}
use Rattle.hg_base.specs.Text.{Field, asked, cursor_before, kinds_of}
use Rattle.hg_base.proofs.TextNumbers.{number_of, value_of}
use Rattle.hg_base.proofs.TextFits.{named}

-- the number in field i, and whether field i is the word
abbrev pub natural_in : ℕ → List Field → ℕ
natural_in i fields = number_of (get_or fields i [])

abbrev pub says : ℕ → List Field → Field → Bool
says i fields word = bytes_eq (get_or fields i []) word

-- a held snapshot stands behind session and place
abbrev pub is_held : List Field → Bool
is_held fields = says 2 fields (codes "held")

abbrev pub begins_held : List (List Field) → Bool
begins_held [] = false
begins_held (fields ∷ more) = is_held fields

abbrev pub told_in : List Field → Told
told_in fields = record { session = natural_in 3 fields; number = natural_in 4 fields; moved = says 5 fields (codes "moved") }

-- the held snapshots that stand first, and what stands after them
abbrev pub held_in : List (List Field) → List Told
held_in [] = []
held_in (fields ∷ more) = if is_held fields then told_in fields ∷ held_in more else []

abbrev pub after_held : List (List Field) → List (List Field)
after_held [] = []
after_held (fields ∷ more) = if is_held fields then after_held more else fields ∷ more

-- what a field holds in a column of that kind, and what fields hold in columns
abbrev pub value_in : Column → Field → Value
value_in columns.Number field = Number (value_of field)
value_in columns.Text field = Text field

unfoldable pub values_in : List Column → List Field → List Value
values_in [] fields = []
values_in (kind ∷ kinds) [] = []
values_in (kind ∷ kinds) (field ∷ fields) = value_in kind field ∷ values_in kinds fields

abbrev pub row_in : List Column → List Field → ℕ × List Value
row_in kinds fields = (natural_in 3 fields, values_in kinds (drop 4 fields))

abbrev pub kind_in : Field → Kind
kind_in word = if bytes_eq word (codes "group") then kinds.Group else if bytes_eq word (codes "table") then kinds.Table else kinds.Interval

-- a refusal of a statement of that table
abbrev pub refusal_in : TableId → List Field → Answer
refusal_in table fields =
    if says 1 fields (codes "newer") then Newer (natural_in 2 fields)
    else if says 1 fields (codes "open") then OpenBy (record { session = natural_in 2 fields; transaction = natural_in 3 fields })
    else Undeclared table

abbrev pub sweep_in : List Field → List (List Field) → Answer
sweep_in fields more = Swept (record { kind = kind_in (get_or fields 1 []); mark = natural_in 2 fields; horizon = natural_in 3 fields; removed = natural_in 4 fields; held = held_in more })

-- the answer that begins with the first field, where `more` are the records after it
abbrev pub answer_in : List Declaration → TableId → List Field → List (List Field) → Answer
answer_in tables table fields more =
    if says 0 fields (codes "begun") then Begun (natural_in 1 fields)
    else if says 0 fields (codes "stored") then Stored
    else if says 0 fields (codes "row") then Found (values_in (kinds_of tables table) (drop 1 fields))
    else if says 0 fields (codes "none") then Nothing
    else if says 0 fields (codes "gone") then Gone
    else if says 0 fields (codes "rows") then Rows (map (row_in (kinds_of tables table)) (take (natural_in 1 fields) more))
    else if says 0 fields (codes "committed") then Committed (natural_in 1 fields)
    else if says 0 fields (codes "ended") then Ended
    else if says 0 fields (codes "undone") then Undone
    else if says 0 fields (codes "refused") then refusal_in table fields
    else if says 0 fields (codes "swept") then sweep_in fields more
    else Beside

-- the records after those of the reply
abbrev pub after_reply : List Field → List (List Field) → List (List Field)
after_reply fields more =
    if says 0 fields (codes "rows") then drop (natural_in 1 fields) more
    else if says 0 fields (codes "swept") then after_held more
    else more

-- the commit number behind a stored write
abbrev pub number_behind : List Field → Option ℕ
number_behind [] = None
number_behind (word ∷ fields) = Some (natural_in 0 fields)

abbrev pub commit_in : List Field → Option ℕ
commit_in fields = if says 0 fields (codes "stored") || says 0 fields (codes "gone") then number_behind (drop 1 fields) else None

-- the snapshot that stands first, and what stands after it
abbrev pub at_in : List Field → Option ℕ
at_in fields = if says 0 fields (codes "at") then Some (natural_in 1 fields) else None

abbrev pub after_at : List Field → List Field
after_at fields = if says 0 fields (codes "at") then drop 2 fields else fields

abbrev pub reply_in : List Declaration → TableId → List Field → List (List Field) → Reply
reply_in tables table fields more = record { at = at_in fields; answer = answer_in tables table (after_at fields) more; number = commit_in (after_at fields) }

-- a line of that session and place
abbrev pub blank : ℕ → ℕ → Line
blank session place = record { session = session; place = place; reply = record { at = None; answer = Beside; number = None } }

-- the line whose reply may hold a table, which is that of the statement
abbrev pub line_at : List Declaration → List Record → ℕ → ℕ → List Field → List (List Field) → Line
line_at tables records session place fields more = record {
  session = session;
  place = place;
  reply = reply_in tables (named (cursor_before records session place) (asked records (blank session place))) fields more;
}

-- the first line, and the records after it
abbrev pub line_in : List Declaration → List Record → List (List Field) → Line
line_in tables records [] = blank 0 0
line_in tables records (fields ∷ more) = line_at tables records (natural_in 0 fields) (natural_in 1 fields) (drop 2 fields) more

abbrev pub after_line : List (List Field) → List (List Field)
after_line [] = []
after_line (fields ∷ more) = after_reply (after_at (drop 2 fields)) more

abbrev pub total_in : ℕ → List (List Field) → ℕ
total_in i records = natural_in 2 (get_or records i [])

abbrev pub totals_in : List (List Field) → Totals
totals_in records = record { made = total_in 0 records; undone = total_in 1 records; group = total_in 2 records; table = total_in 3 records; interval = total_in 4 records; left = total_in 5 records }
