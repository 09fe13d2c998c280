-- Whatever is guessed fits the script: where it is written as the record stands there, the record may come next.
use Rattle.std.proofs.Common.{◌≡◌, ◌<◌, ◌+◌, ◌^◌, ◌∙◌, ℕ, List, [], ◌∷◌, length, length-take, map, ap, false, ◌==◌, ◌&&◌, Option, Some, None, nat_lt, nat_le, refl, arith, subst}
use Rattle.std.specs.Prelude.{IsTrue, IfSome, is_some, option_map, option_and_then, codes, ⊤}
use Rattle.std.proofs.lemmas.Bool.{and_parts as both, ltb-true, cond_both}
use Rattle.std.proofs.lemmas.Bool.Decides.{nat_tests}
use lib.Signed.{mag}
use Rattle.hg_base.specs.declared.rid.TableId.{TableId}
use Rattle.hg_base.specs.declared.rid.Rid.{Rid}
use Rattle.hg_base.specs.declared.statement.Statement.{Statement}
use Rattle.hg_base.specs.declared.limits.TheConstants.{MOST_COLUMNS, MOST_TEXT_BYTES}
use Rattle.hg_base.specs.declared.value.Column.{Column}
use Rattle.hg_base.specs.declared.value.Column.TheVariants as columns
use Rattle.hg_base.specs.declared.value.Value.{Value}
use Rattle.hg_base.specs.Values.{FitsColumns, FitsValue, kind_of}
use Rattle.hg_base.specs.declared.statement.Statement.TheVariants.{Begin, Get, Put, Del, Scan, CursorOpen, Fetch, CursorClose, Commit as CommitIt, Rollback, Gc}
use Rattle.hg_base.specs.declared.report.Told.{Told}
use Rattle.hg_base.specs.declared.report.Sweep.{Sweep}
use Rattle.hg_base.specs.declared.line.Answer.{Answer}
use Rattle.hg_base.specs.declared.line.Answer.TheVariants.{Stored, Found, Nothing, Gone, Rows, Committed, Ended, Newer, OpenBy, Undeclared, Swept, Beside}
use Rattle.hg_base.specs.declared.line.Reply.{Reply}
use Rattle.hg_base.specs.declared.line.Totals.{Totals}
use Rattle.hg_base.specs.Lists.{Each}
use Rattle.hg_base.specs.Script.{Declaration, Script}
use Rattle.hg_base.specs.Transcript.{table_of}
use Rattle.hg_base.specs.Text.{Field, Fits64, Fits32, FitsRow, FitsPut, FitsDel, FitsSweep, FitsAnswer, FitsReply, Fits, cursor_before, kinds_of, is_write}
use Rattle.hg_base.specs.declared.number.Integer.{Integer}
use Rattle.hg_base.specs.declared.number.Integer.TheVariants as signed
use Rattle.hg_base.specs.Number.{integer_of}
use Rattle.hg_script.proofs.Widths.{IsNarrow, natural-fits, integer-narrow}
use Rattle.hg_records.specs.Asked.{asked_by, table_asked}
use Rattle.hg_transcript.specs.declared.piece.Piece.{Piece}
use Rattle.hg_transcript.specs.declared.piece.Piece.TheVariants as piece
use Rattle.hg_report.specs.declared.progress.Open.{Open}
use Rattle.hg_report.specs.declared.progress.Open.TheVariants as opens
use Rattle.hg_report.specs.Fields.{nth, says, natural_at, session_in, narrow, integer_value, text_in, value_in, values_in, row_in}
use Rattle.hg_report.specs.Guess.{answer_guess, answer_place, answered_guess, at_guess, first_guess, head_guess, held_guess, number_guess, piece_of, refusal_guess, row_guess, statement_at}
use Rattle.hg_report.specs.Guess.{sweep_guess, the_table}
use Rattle.hg_report.specs.Progress.{guess_after, scan_line, sweep_line}
use Rattle.hg_report.proofs.Asking.{same_table}

-- ---- the numbers of fields have their widths

pub number_fits : (fields : List Field) (i : ℕ) → Fits64 (natural_at fields i)
number_fits fields i = natural-fits (nth fields i)

narrow_fits : (k : ℕ) → narrow k < 2 ^ 32
narrow_fits k = cond_both (nat_lt k (2 ^ 32)) k 0 (λ x. x < 2 ^ 32) (λ e. ltb-true _ _ e) (λ e. omega arith)

pub session_fits : (fields : List Field) (i : ℕ) → Fits32 (session_in fields i)
session_fits fields i = narrow_fits (natural_at fields i)

wide : (x : Integer) → IsNarrow x → mag (integer_value x) < 2 ^ 63
wide signed.No h = omega arith
wide signed.Over h = omega arith
wide (signed.Is v) h = h

-- ---- a row of these columns

record IsOf (kind : Column) (value : Value) : Type 0 where
  is : kind_of value ≡ kind
  fits : FitsValue value

value_fits : (kind : Column) (field : Field) → IsOf kind (value_in kind field)
value_fits columns.Number field = record { is = refl; fits = wide (integer_of field) (integer-narrow field) }
value_fits columns.Text field = record { is = refl; fits = omega (arith, length-take MOST_TEXT_BYTES (text_in field)) }

values_fit : (fields : List Field) (i : ℕ) (kinds : List Column) → FitsColumns kinds (values_in fields i kinds)
unfolding values_in
values_fit fields i [] = (refl, tt)
values_fit fields i (kind ∷ kinds) =
    let first = value_fits kind (nth fields i) in
    let others = values_fit fields (i + 1) kinds in
    (ap (λ k. k ∷ map kind_of (values_in fields (i + 1) kinds)) first.is ∙ ap (λ ks. kind ∷ ks) others.0, (first.fits, others.1))

abbrev IsRow : List Column → Option (List Value) → Type 0
IsRow kinds o = IfSome o (FitsColumns kinds)

row_fits : (fields : List Field) (i : ℕ) (kinds : List Column) → IsRow kinds (row_in fields i kinds)
row_fits fields i kinds = cond_both (nat_le 1 (length kinds) && nat_le (length kinds) MOST_COLUMNS) (Some (values_in fields i kinds)) None (IsRow kinds) (λ e. values_fit fields i kinds) (λ e. tt)

-- a row of a table with its key
abbrev pub FitsKey : List Declaration → TableId → ℕ × List Value → Type 0
FitsKey tables table p = Fits64 p.0 × FitsRow tables table p.1

-- ---- answers

-- what is guessed of an answer, whose rows or held snapshots come later
abbrev IsBegun : Answer → Type 0
IsBegun (Rows rows) = rows ≡ []
IsBegun (Swept sweep) = sweep.held ≡ []
IsBegun _ = ⊤

abbrev IsGuess : List Declaration → Option TableId → Statement → Answer → Type 0
IsGuess tables cursor statement answer = FitsAnswer tables cursor statement answer × IsBegun answer

sweep_fits : (fields : List Field) (i : ℕ) → FitsSweep (sweep_guess fields i)
sweep_fits fields i = (number_fits fields (i + 2), number_fits fields (i + 3), number_fits fields (i + 4), tt)

-- a refusal is no scan and no report
abbrev IsRefusal : TableId → Answer → Type 0
IsRefusal table answer = FitsPut table answer × FitsDel table answer × IsBegun answer

refusal_fits : (table : TableId) (fields : List Field) (i : ℕ) → IsRefusal table (refusal_guess table fields i)
refusal_fits table fields i = cond_both (says fields (i + 1) (codes "newer")) (Newer (natural_at fields (i + 2))) _ (IsRefusal table)
    (λ e. (number_fits fields (i + 2), number_fits fields (i + 2), tt))
    (λ e. cond_both (says fields (i + 1) (codes "open")) (OpenBy (record { session = session_in fields (i + 2); transaction = natural_at fields (i + 3) })) (Undeclared table) (IsRefusal table)
    (λ f. ((session_fits fields (i + 2), number_fits fields (i + 3)), (session_fits fields (i + 2), number_fits fields (i + 3)), tt))
    (λ f. (refl, refl, tt)))

found_fits : (tables : List Declaration) (cursor : Option TableId) (r : Rid) (o : Option (List Value)) → IsRow (kinds_of tables r.table) o → IfSome (option_map Found o) (IsGuess tables cursor (Get r))
found_fits tables cursor r None h = tt
found_fits tables cursor r (Some row) h = (h, tt)

fetch_fits : (tables : List Declaration) (cursor : Option TableId) (n : ℕ) → IfSome (option_map (λ table. Rows []) cursor) (IsGuess tables cursor (Fetch n))
fetch_fits tables None n = tt
fetch_fits tables (Some table) n = ((omega arith, tt), refl)

answer_fits : (tables : List Declaration) (cursor : Option TableId) (statement : Statement) (fields : List Field) (i : ℕ) →
    IfSome (answer_guess tables (asked_by cursor statement) fields i) (IsGuess tables cursor statement)
answer_fits tables cursor (Begin scope) fields i = (number_fits fields (i + 1), tt)
answer_fits tables cursor (Get r) fields i =
    let P = λ (o : Option Answer). IfSome o (IsGuess tables cursor (Get r)) in
    cond_both (says fields i (codes "row")) _ _ P (λ e. found_fits tables cursor r _ (row_fits fields (i + 1) (kinds_of tables r.table)))
    (λ e. cond_both (says fields i (codes "none")) (Some Nothing) (Some (Undeclared r.table)) P (λ f. (tt, tt)) (λ f. (refl, tt)))
answer_fits tables cursor (Put r row) fields i =
    let refused = refusal_fits r.table fields i in
    cond_both (says fields i (codes "stored")) Stored (refusal_guess r.table fields i) (IsGuess tables cursor (Put r row)) (λ e. (tt, tt)) (λ e. (refused.0, refused.2))
answer_fits tables cursor (Del r) fields i =
    let refused = refusal_fits r.table fields i in
    cond_both (says fields i (codes "gone")) Gone _ (IsGuess tables cursor (Del r)) (λ e. (tt, tt))
    (λ e. cond_both (says fields i (codes "none")) Nothing (refusal_guess r.table fields i) (IsGuess tables cursor (Del r)) (λ f. (tt, tt)) (λ f. (refused.1, refused.2)))
answer_fits tables cursor (Scan table low high) fields i =
    cond_both (says fields i (codes "rows")) (Rows []) (Undeclared table) (IsGuess tables cursor (Scan table low high)) (λ e. ((omega arith, tt), refl)) (λ e. (refl, tt))
answer_fits tables cursor (CursorOpen table low high) fields i = (number_fits fields (i + 1), tt)
answer_fits tables cursor (Fetch n) fields i = fetch_fits tables cursor n
answer_fits tables cursor CursorClose fields i = (tt, tt)
answer_fits tables cursor CommitIt fields i =
    cond_both (says fields i (codes "committed")) (Committed (natural_at fields (i + 1))) Ended (IsGuess tables cursor CommitIt) (λ e. (number_fits fields (i + 1), tt)) (λ e. (tt, tt))
answer_fits tables cursor Rollback fields i = (tt, tt)
answer_fits tables cursor (Gc kind) fields i =
    cond_both (says fields i (codes "beside")) Beside (Swept (sweep_guess fields i)) (IsGuess tables cursor (Gc kind)) (λ e. (tt, tt)) (λ e. (sweep_fits fields i, refl))

-- a report is no answer to a fetch
pub fetch_no_sweep : (tables : List Declaration) (cursor : Option TableId) (n : ℕ) (sweep : Sweep) → FitsAnswer tables cursor (Fetch n) (Swept sweep) → ⊥
fetch_no_sweep tables None n sweep h = h
fetch_no_sweep tables (Some table) n sweep h = h

-- ---- the first record of a line

-- an answer of one record
abbrev pub IsShort : Answer → Type 0
IsShort (Rows rows) = ⊥
IsShort (Swept sweep) = ⊥
IsShort _ = ⊤

abbrev pub FitsHead : Script → Piece → Type 0
FitsHead script (piece.Line line) = Fits script line × IsShort line.reply.answer
FitsHead script (piece.Scan session place at table left) = (rows : List (ℕ × List Value)) → length rows ≡ left → Each (FitsKey script.tables table) rows → Fits script (scan_line session place at rows)
FitsHead script (piece.Sweep session place sweep) = (sweep.held ≡ []) × Fits script (sweep_line session place sweep)
FitsHead script _ = ⊥

number_fits_write : (answer : Answer) (fields : List Field) (i : ℕ) → IfSome (number_guess answer fields i) (λ c. Fits64 c × IsTrue (is_write answer))
number_fits_write answer fields i = cond_both (is_write answer && says fields (i + 1) (codes "committed")) (Some (natural_at fields (i + 2))) None
    (λ (o : Option ℕ). IfSome o (λ c. Fits64 c × IsTrue (is_write answer)))
    (λ e. (number_fits fields (i + 2), (both _ _ e).0)) (λ e. tt)

fetch_more : (tables : List Declaration) (cursor : Option TableId) (n : ℕ) (rows more : List (ℕ × List Value)) → FitsAnswer tables cursor (Fetch n) (Rows rows) →
    Fits64 (length more) → Each (FitsKey tables (the_table (asked_by cursor (Fetch n)))) more → FitsAnswer tables cursor (Fetch n) (Rows more)
fetch_more tables None n rows more h many each = absurd h
fetch_more tables (Some table) n rows more h many each = (many, each)

rows_fit_statement : (tables : List Declaration) (cursor : Option TableId) (statement : Statement) (rows more : List (ℕ × List Value)) →
    FitsAnswer tables cursor statement (Rows rows) → Fits64 (length more) → Each (FitsKey tables (the_table (asked_by cursor statement))) more → FitsAnswer tables cursor statement (Rows more)
rows_fit_statement tables cursor (Scan table low high) rows more h many each = (many, each)
rows_fit_statement tables cursor (Fetch n) rows more h many each = fetch_more tables cursor n rows more h many each
rows_fit_statement tables cursor statement rows more h many each = absurd h

module _ (script : Script) (session place : ℕ) (narrow_session : Fits32 session) (wide_place : Fits64 place) (some : (session == 0) ≡ false) (statement : Statement)
    (is : statement_at script.records session place ≡ Some statement) where
  line_fits : (reply : Reply) → FitsReply script.tables (cursor_before script.records session place) statement reply → Fits script (record { session = session; place = place; reply = reply })
  line_fits reply h = record { session = narrow_session; place = wide_place; reply = rw (some, is) h }

  module _ (fields : List Field) (at : Option ℕ) (wide_at : IfSome at (λ s. Fits64 s × IsTrue (is_some (table_of statement)))) (i : ℕ) where
    short_fits : (answer : Answer) → FitsAnswer script.tables (cursor_before script.records session place) statement answer →
        Fits script (record { session = session; place = place; reply = record { at = at; answer = answer; number = number_guess answer fields i } })
    short_fits answer h = line_fits _ (record { at = wide_at; answer = h; number = number_fits_write answer fields i })

    scan_fits : (rows more : List (ℕ × List Value)) → FitsAnswer script.tables (cursor_before script.records session place) statement (Rows rows) → Fits64 (length more) →
        Each (FitsKey script.tables (the_table (asked_by (cursor_before script.records session place) statement))) more →
        FitsAnswer script.tables (cursor_before script.records session place) statement (Rows more)
    scan_fits rows more h many each = rows_fit_statement script.tables (cursor_before script.records session place) statement rows more h many each

    head_fits : (answer : Answer) → IsGuess script.tables (cursor_before script.records session place) statement answer →
        FitsHead script (piece_of (asked_by (cursor_before script.records session place) statement) session place at fields i answer)
    head_fits (Rows rows) h = λ more many each. line_fits _ (record { at = wide_at; answer = scan_fits rows more h.0 (rw many (number_fits fields (i + 1))) each; number = tt })
    head_fits (Swept sweep) h = (h.1, line_fits _ (record { at = tt; answer = h.0; number = tt }))
    head_fits answer h = (short_fits answer h.0, tt)

    pub answered_fits : (o : Option Answer) → IfSome o (IsGuess script.tables (cursor_before script.records session place) statement) →
        IfSome (option_map (piece_of (asked_by (cursor_before script.records session place) statement) session place at fields i) o) (FitsHead script)
    answered_fits None h = tt
    answered_fits (Some answer) h = head_fits answer h

at_fits : (cursor : Option TableId) (statement : Statement) (fields : List Field) → IfSome (at_guess (asked_by cursor statement) fields) (λ s. Fits64 s × IsTrue (is_some (table_of statement)))
at_fits cursor statement fields = cond_both (is_some (table_asked (asked_by cursor statement)) && says fields 2 (codes "at")) (Some (natural_at fields 3)) None
    (λ (o : Option ℕ). IfSome o (λ s. Fits64 s × IsTrue (is_some (table_of statement))))
    (λ e. (number_fits fields 3, subst (λ (o : Option TableId). IsTrue (is_some o)) (same_table cursor statement) (both _ _ e).0)) (λ e. tt)

module _ (script : Script) (fields : List Field) where
  abbrev replied : ℕ → ℕ → Option Statement → Option Piece
  replied session place o = option_and_then (λ asked. answered_guess script.tables asked session place (at_guess asked fields) fields)
      (option_map (asked_by (cursor_before script.records session place)) o)

  reply_fits : (session place : ℕ) → Fits32 session → Fits64 place → (session == 0) ≡ false → (o : Option Statement) → statement_at script.records session place ≡ o →
      IfSome (replied session place o) (FitsHead script)
  reply_fits session place h k some None is = tt
  reply_fits session place h k some (Some statement) is =
      let at = at_guess (asked_by (cursor_before script.records session place) statement) fields in
      answered_fits script session place h k some statement is fields at (at_fits (cursor_before script.records session place) statement fields) (answer_place at)
      (answer_guess script.tables (asked_by (cursor_before script.records session place) statement) fields (answer_place at))
      (answer_fits script.tables (cursor_before script.records session place) statement fields (answer_place at))

  report_fits : Fits script (sweep_line 0 (natural_at fields 1) (sweep_guess fields 2))
  report_fits = record { session = omega arith; place = number_fits fields 1; reply = record { at = refl; answer = sweep_fits fields 2; number = refl } }

  pub head_is_fit : IfSome (head_guess script fields) (FitsHead script)
  head_is_fit = cond_both (session_in fields 0 == 0) (Some (piece.Sweep 0 (natural_at fields 1) (sweep_guess fields 2))) _ (λ (o : Option Piece). IfSome o (FitsHead script))
      (λ e. (refl, report_fits))
      (λ e. reply_fits (session_in fields 0) (natural_at fields 1) (session_fits fields 0) (number_fits fields 1) e _ refl)

-- ---- the next record

-- no totals, and no scan with rows to come
abbrev pub IsFree : Open → Type 0
IsFree opens.Nothing = ⊤
IsFree (opens.Scan session place at table left rows) = left ≡ 0
IsFree (opens.Sweep session place sweep) = ⊤
IsFree (opens.Totals index totals) = ⊥

abbrev pub FitsFirst : Script → Piece → Type 0
FitsFirst script (piece.Total index number) = (index ≡ 0) × Fits64 number
FitsFirst script next = FitsHead script next

abbrev pub FitsTold : Told → Type 0
FitsTold told = Fits32 told.session × Fits64 told.number

pub data FitsNext (script : Script) : Open → Piece → Type 0 where
  comes_first : (state : Open) (next : Piece) → IsFree state → FitsFirst script next → FitsNext script state next
  comes_row : (session place : ℕ) (at : Option ℕ) (table : TableId) (left : ℕ) (rows : List (ℕ × List Value)) (key : ℕ) (values : List Value) → 0 < left →
      FitsKey script.tables table (key, values) → FitsNext script (opens.Scan session place at table left rows) (piece.Row session place key values)
  comes_held : (session place : ℕ) (sweep : Sweep) (told : Told) → FitsTold told → FitsNext script (opens.Sweep session place sweep) (piece.Held session place told)
  comes_total : (index : ℕ) (totals : Totals) (number : ℕ) → index < 6 → Fits64 number → FitsNext script (opens.Totals index totals) (piece.Total index number)

module _ (script : Script) (fields : List Field) where
  first_of_head : (state : Open) → IsFree state → (o : Option Piece) → IfSome o (FitsHead script) → IfSome o (FitsNext script state)
  first_of_head state free None h = tt
  first_of_head state free (Some (piece.Total index number)) h = absurd h
  first_of_head state free (Some next) h = comes_first state next free h

  first_fits : (state : Open) → IsFree state → IfSome (first_guess script fields) (FitsNext script state)
  first_fits state free = cond_both (says fields 0 (codes "total")) (Some (piece.Total 0 (natural_at fields 2))) (head_guess script fields) (λ (o : Option Piece). IfSome o (FitsNext script state))
      (λ e. comes_first state _ free (refl, number_fits fields 2)) (λ e. first_of_head state free _ (head_is_fit script fields))

  row_guess_fits : (session place : ℕ) (at : Option ℕ) (table : TableId) (left : ℕ) (rows : List (ℕ × List Value)) → 0 < left → (o : Option (List Value)) → IsRow (kinds_of script.tables table) o
      → IfSome (option_map (λ values. piece.Row session place (natural_at fields 3) values) o) (FitsNext script (opens.Scan session place at table left rows))
  row_guess_fits session place at table left rows some None h = tt
  row_guess_fits session place at table left rows some (Some values) h = comes_row session place at table left rows (natural_at fields 3) values some (number_fits fields 3, h)

  pub guess_fits : (state : Open) → IfSome (guess_after script state fields) (FitsNext script state)
  guess_fits opens.Nothing = first_fits opens.Nothing tt
  guess_fits (opens.Scan session place at table left rows) = cond_both (nat_lt 0 left) (row_guess script.tables session place table fields) (first_guess script fields)
      (λ (o : Option Piece). IfSome o (FitsNext script (opens.Scan session place at table left rows)))
      (λ e. row_guess_fits session place at table left rows (ltb-true 0 left e) _ (row_fits fields 4 (kinds_of script.tables table)))
      (λ e. first_fits (opens.Scan session place at table left rows) (grind (arith, nat_tests, e)))
  guess_fits (opens.Sweep session place sweep) = cond_both (says fields 2 (codes "held")) (Some (held_guess session place fields)) (first_guess script fields)
      (λ (o : Option Piece). IfSome o (FitsNext script (opens.Sweep session place sweep)))
      (λ e. comes_held session place sweep _ (session_fits fields 3, number_fits fields 4)) (λ e. first_fits (opens.Sweep session place sweep) tt)
  guess_fits (opens.Totals index totals) = cond_both (nat_lt index 6) (Some (piece.Total index (natural_at fields 2))) None
      (λ (o : Option Piece). IfSome o (FitsNext script (opens.Totals index totals)))
      (λ e. comes_total index totals (natural_at fields 2) (ltb-true index 6 e) (number_fits fields 2)) (λ e. tt)
