-- What a record says if it may come next, by its fields as they stand. A guess need not be right: it is, where the record is the
-- one that would be written for it.
use Rattle.std.specs.Prelude.{ℕ, ◌+◌, List, [], ◌==◌, ◌&&◌, Option, Some, None, find, is_some, option_map, option_and_then, unwrap_or, codes, if◌then◌else◌}
use Rattle.std.specs.Option.{option_map_or}
use Rattle.hg_base.specs.declared.rid.TableId.{TableId}
use Rattle.hg_base.specs.declared.statement.Statement.{Statement}
use Rattle.hg_base.specs.declared.statement.Record.{Record}
use Rattle.hg_base.specs.declared.report.Kind.{Kind}
use Rattle.hg_base.specs.declared.report.Kind.TheVariants as kinds
use Rattle.hg_base.specs.declared.report.Sweep.{Sweep}
use Rattle.hg_base.specs.declared.line.Answer.{Answer}
use Rattle.hg_base.specs.declared.line.Answer.TheVariants.{Begun, Stored, Found, Nothing, Gone, Rows, Committed, Ended, Undone, Newer, OpenBy, Undeclared, Swept, Beside}
use Rattle.hg_base.specs.Script.{Declaration, Script}
use Rattle.hg_base.specs.Text.{Field, cursor_before, kinds_of, is_write}
use Rattle.hg_records.specs.declared.asked.Asked.{Asked}
use Rattle.hg_records.specs.declared.asked.Asked.TheVariants.{Begin, Get, Put, Del, Scan, CursorOpen, Fetch, CursorClose, Commit as CommitIt, Rollback, Gc}
use Rattle.hg_records.specs.Asked.{asked_by, table_asked}
use Rattle.hg_transcript.specs.declared.piece.Piece.{Piece}
use Rattle.hg_transcript.specs.declared.piece.Piece.TheVariants as piece
use Rattle.hg_report.specs.Fields.{says, natural_at, session_in, row_in}

-- ---- the guess of an answer, whose first field is field i

-- the kind of collector that field i names: the interval collector where it names no other
abbrev pub kind_guess : List Field → ℕ → Kind
kind_guess fields i = if says fields i (codes "group") then kinds.Group else if says fields i (codes "table") then kinds.Table else kinds.Interval

-- a report with no held snapshot yet
abbrev pub sweep_guess : List Field → ℕ → Sweep
sweep_guess fields i = record { kind = kind_guess fields (i + 1); mark = natural_at fields (i + 2); horizon = natural_at fields (i + 3); removed = natural_at fields (i + 4); held = [] }

-- a refusal, by its cause in field i + 1
abbrev pub refusal_guess : TableId → List Field → ℕ → Answer
refusal_guess table fields i =
    if says fields (i + 1) (codes "newer") then Newer (natural_at fields (i + 2))
    else if says fields (i + 1) (codes "open") then OpenBy (record { session = session_in fields (i + 2); transaction = natural_at fields (i + 3) })
    else Undeclared table

-- the answer to a get: a row, `none`, or a refusal; none where the row can't be read
abbrev pub get_guess : List Declaration → TableId → List Field → ℕ → Option Answer
get_guess tables table fields i =
    if says fields i (codes "row") then option_map Found (row_in fields (i + 1) (kinds_of tables table))
    else if says fields i (codes "none") then Some Nothing else Some (Undeclared table)

-- the answer to a put
abbrev pub put_guess : TableId → List Field → ℕ → Answer
put_guess table fields i = if says fields i (codes "stored") then Stored else refusal_guess table fields i

-- the answer to a del
abbrev pub del_guess : TableId → List Field → ℕ → Answer
del_guess table fields i = if says fields i (codes "gone") then Gone else if says fields i (codes "none") then Nothing else refusal_guess table fields i

-- the answer to a scan; its rows are in the records that follow
abbrev pub scan_guess : TableId → List Field → ℕ → Answer
scan_guess table fields i = if says fields i (codes "rows") then Rows [] else Undeclared table

-- the answer to a commit
abbrev pub commit_guess : List Field → ℕ → Answer
commit_guess fields i = if says fields i (codes "committed") then Committed (natural_at fields (i + 1)) else Ended

-- the answer to a `gc`; its held snapshots are in the records that follow
abbrev pub gc_guess : List Field → ℕ → Answer
gc_guess fields i = if says fields i (codes "beside") then Beside else Swept (sweep_guess fields i)

-- the answer to what is asked; the rows of a fetch are in the records that follow
abbrev pub answer_guess : List Declaration → Asked → List Field → ℕ → Option Answer
answer_guess tables Begin fields i = Some (Begun (natural_at fields (i + 1)))
answer_guess tables (Get table) fields i = get_guess tables table fields i
answer_guess tables (Put table) fields i = Some (put_guess table fields i)
answer_guess tables (Del table) fields i = Some (del_guess table fields i)
answer_guess tables (Scan table) fields i = Some (scan_guess table fields i)
answer_guess tables (CursorOpen table) fields i = Some (Begun (natural_at fields (i + 1)))
answer_guess tables (Fetch cursor) fields i = option_map (λ table. Rows []) cursor
answer_guess tables CursorClose fields i = Some Ended
answer_guess tables CommitIt fields i = Some (commit_guess fields i)
answer_guess tables Rollback fields i = Some Undone
answer_guess tables Gc fields i = Some (gc_guess fields i)

-- ---- the guess of a line's first record

-- the snapshot of a statement on a table
abbrev pub at_guess : Asked → List Field → Option ℕ
at_guess asked fields = if is_some (table_asked asked) && says fields 2 (codes "at") then Some (natural_at fields 3) else None

-- where the answer begins
abbrev pub answer_place : Option ℕ → ℕ
answer_place at = if is_some at then 4 else 2

-- the commit number after a stored write
abbrev pub number_guess : Answer → List Field → ℕ → Option ℕ
number_guess answer fields i = if is_write answer && says fields (i + 1) (codes "committed") then Some (natural_at fields (i + 2)) else None

-- the table that the statement names, or of a fetch its cursor's table, and the first table if there is none
abbrev pub the_table : Asked → TableId
the_table (Fetch cursor) = unwrap_or cursor (record { 0 = 0 })
the_table asked = unwrap_or (table_asked asked) (record { 0 = 0 })

-- the piece that an answer is
abbrev pub piece_of : Asked → ℕ → ℕ → Option ℕ → List Field → ℕ → Answer → Piece
piece_of asked session place at fields i (Rows rows) = piece.Scan session place at (the_table asked) (natural_at fields (i + 1))
piece_of asked session place at fields i (Swept sweep) = piece.Sweep session place sweep
piece_of asked session place at fields i answer =
    piece.Line (record { session = session; place = place; reply = record { at = at; answer = answer; number = number_guess answer fields i } })

-- the piece that begins a reply, whose answer starts after its snapshot
abbrev pub answered_guess : List Declaration → Asked → ℕ → ℕ → Option ℕ → List Field → Option Piece
answered_guess tables asked session place at fields =
    option_map (piece_of asked session place at fields (answer_place at)) (answer_guess tables asked fields (answer_place at))

-- the statement of that session and place
abbrev pub statement_at : List Record → ℕ → ℕ → Option Statement
statement_at records session place = option_map_or (λ r. Some r.statement) (find (λ r. (r.place == place) && (r.session == session)) records) None

-- what the script's record at this session and place asks
abbrev pub asked_at : List Record → ℕ → ℕ → Option Asked
asked_at records session place = option_map (asked_by (cursor_before records session place)) (statement_at records session place)

-- the piece that begins the reply to the script's record at this session and place
abbrev pub reply_guess : Script → ℕ → ℕ → List Field → Option Piece
reply_guess script session place fields =
    option_and_then (λ asked. answered_guess script.tables asked session place (at_guess asked fields) fields) (asked_at script.records session place)

-- a report of a run where the session is 0, and else a reply
abbrev pub head_guess : Script → List Field → Option Piece
head_guess script fields =
    if session_in fields 0 == 0 then Some (piece.Sweep 0 (natural_at fields 1) (sweep_guess fields 2))
    else reply_guess script (session_in fields 0) (natural_at fields 1) fields

-- the first of the totals, or a line
abbrev pub first_guess : Script → List Field → Option Piece
first_guess script fields = if says fields 0 (codes "total") then Some (piece.Total 0 (natural_at fields 2)) else head_guess script fields

-- a row of a scan or a fetch, in a record of its own
abbrev pub row_guess : List Declaration → ℕ → ℕ → TableId → List Field → Option Piece
row_guess tables session place table fields = option_map (λ row. piece.Row session place (natural_at fields 3) row) (row_in fields 4 (kinds_of tables table))

-- a held snapshot of a report, in a record of its own
abbrev pub held_guess : ℕ → ℕ → List Field → Piece
held_guess session place fields = piece.Held session place (record { session = session_in fields 3; number = natural_at fields 4; moved = says fields 5 (codes "moved") })
