-- The records of a text that fits are taken one by one, and give what was printed.
use Rattle.std.proofs.Common.{◌≡◌, ◌+◌, ◌-◌, ◌∙◌, ℕ, List, [], ◌∷◌, ◌++◌, length, map, true, false, ◌==◌, ◌&&◌, Option, Some, None, refl, sym, ap, subst}
use Rattle.std.proofs.Common.{append_assoc, inl, inr, arith}
use Rattle.std.specs.Prelude.{IsTrue, IfSome, MatchOption, codes, decimal, is_some, is_none, option_map, option_and_then, if◌then◌else◌}
use Rattle.std.specs.List.{flat_map}
use Rattle.std.proofs.lemmas.Bool.{false≢true, cond-false, cond-true, MatchBool-at_true, MatchBool-at_false, eqb-true, lt-ltb, cases_Bool}
use Rattle.std.proofs.lemmas.List.{append-nil}
use Rattle.hg_base.specs.declared.rid.TableId.{TableId}
use Rattle.hg_base.specs.declared.statement.Statement.{Statement}
use Rattle.hg_base.specs.declared.report.Told.{Told}
use Rattle.hg_base.specs.declared.report.Sweep.{Sweep}
use Rattle.hg_base.specs.declared.line.Answer.{Answer}
use Rattle.hg_base.specs.declared.line.Answer.TheVariants.{Rows, Swept}
use Rattle.hg_base.specs.declared.line.Line.{Line}
use Rattle.hg_base.specs.declared.line.Printed.{Printed}
use Rattle.hg_base.specs.declared.value.Value.{Value}
use Rattle.hg_base.specs.Lists.{Each}
use Rattle.hg_base.specs.Script.{Script}
use Rattle.hg_base.specs.Transcript.{table_of}
use Rattle.hg_base.specs.Text.{Field, Fits64, Fits32, Fits, IsFit, FitsAnswer, FitsReply, FitsReport, FitsSweep, asked, cursor_before, kinds_of, answer_fields, held_fields}
use Rattle.hg_base.specs.Text.{row_fields, told_as, value_field, line_records, totals_records, text_records, is_write}
use Rattle.hg_base.proofs.TextNumbers.{number_is_no_word}
use Rattle.hg_base.proofs.TextReplies.{answer_begins, behind_at}
use Rattle.hg_script.specs.Lawful.{IsLawful}
use Rattle.hg_records.specs.Bytes.{field_bytes}
use Rattle.hg_transcript.specs.declared.piece.Piece.TheVariants as piece
use Rattle.hg_report.specs.declared.progress.Open.TheVariants as opens
use Rattle.hg_report.specs.declared.progress.Progress.{Progress}
use Rattle.hg_report.specs.Fields.{says, natural_at, session_in}
use Rattle.hg_records.specs.Asked.{asked_by, table_asked}
use Rattle.hg_transcript.specs.Piece.{behind}
use Rattle.hg_report.specs.Guess.{answer_place, answered_guess, at_guess, head_guess, reply_guess, row_guess, piece_of, statement_at, sweep_guess, the_table}
use Rattle.hg_report.specs.Progress.{guess_after, sweep_line, lines_of, at_start, standing, Runs}
use Rattle.hg_report.proofs.Asking.{same_table}
use Rattle.hg_report.proofs.Fitting.{IsFree, IsShort, FitsKey, FitsTold}
use Rattle.hg_report.proofs.Counts.{row_records}
use Rattle.hg_report.proofs.ReadBack.{number_read, session_read, row_read}
use Rattle.hg_report.proofs.Columns.{HasColumns, AreFew, columns_fit}
use Rattle.hg_report.proofs.Unquoted.{field_stands, says_no}
use Rattle.hg_report.proofs.Heads.{Answers, emptied, answer_read, sweep_read, number_behind}
use Rattle.hg_report.proofs.Runs.{runs_append, free_guess, four_behind, two_behind, and_none, scan_head, scan_facts, sweep_facts, moved_read, same_told, telling, totals_run}

module _ (script : Script) where
  -- ---- rows and held snapshots

  abbrev scanning : List Line → ℕ → ℕ → Option ℕ → TableId → ℕ → List (ℕ × List Value) → Progress
  scanning lines session place at table left rows = record { lines = lines; last = opens.Scan session place at table left rows }

  row_guessed : (session place : ℕ) (table : TableId) (p : ℕ × List Value) → AreFew (kinds_of script.tables table) → FitsKey script.tables table p
      → row_guess script.tables session place table (standing (behind session place (row_fields p))) ≡ Some (piece.Row session place p.0 p.1)
  row_guessed session place table p few h =
      let stood = standing (behind session place (row_fields p)) in
      let values = row_read stood 4 (kinds_of script.tables table) p.1 h.1 few (λ k less. four_behind _ _ _ _ (map value_field p.1) k) in
      ap (λ o. option_map (λ row. piece.Row session place (natural_at stood 3) row) o) values ∙ ap (λ k. Some (piece.Row session place k p.1)) (number_read stood 3 p.0 h.0 refl)

  rows_run : (lines : List Line) (session place : ℕ) (at : Option ℕ) (table : TableId) (done rows : List (ℕ × List Value)) → AreFew (kinds_of script.tables table) →
      Each (FitsKey script.tables table) rows
      → Runs script (scanning lines session place at table (length rows) done) (row_records session place rows) (scanning lines session place at table 0 (done ++ rows))
  rows_run lines session place at table done [] few h = ap (scanning lines session place at table 0) (append-nil done)
  rows_run lines session place at table done (p ∷ ps) few h =
      let stood = standing (behind session place (row_fields p)) in
      let state = opens.Scan session place at table (length (p ∷ ps)) done in
      let guess : guess_after script state stood ≡ Some (piece.Row session place p.0 p.1) = rw (lt-ltb 0 (length (p ∷ ps)) (omega arith)) (row_guessed session place table p few h.0) in
      let count : length (p ∷ ps) - 1 ≡ length ps = omega arith in
      let rest = rows_run lines session place at table (done ++ p ∷ []) ps few h.1 in (
        piece.Row session place p.0 p.1,
        record { guess = guess; is = refl },
        subst (λ (n : ℕ). Runs script (scanning lines session place at table n (done ++ p ∷ [])) (row_records session place ps) (scanning lines session place at table 0 (done ++ p ∷ ps))) (sym count)
            (subst (λ (rows : List (ℕ × List Value)). Runs script (scanning lines session place at table (length ps) (done ++ p ∷ [])) (row_records session place ps)
            (scanning lines session place at table 0 rows)) (append_assoc done (p ∷ []) ps) rest),
      )

  abbrev reporting : List Line → ℕ → ℕ → Sweep → List Told → Progress
  reporting lines session place sweep held = record { lines = lines; last = opens.Sweep session place (record sweep { held = held }) }

  held_run : (lines : List Line) (session place : ℕ) (sweep : Sweep) (done held : List Told) → Each FitsTold held
      → Runs script (reporting lines session place sweep done) (map (behind session place) (map held_fields held)) (reporting lines session place sweep (done ++ held))
  unfolding field_bytes
  held_run lines session place sweep done [] h = ap (reporting lines session place sweep) (append-nil done)
  held_run lines session place sweep done (told ∷ others) h =
      let fields = standing (behind session place (held_fields told)) in
      let told_same = same_told (session_in fields 3) told.session (natural_at fields 4) told.number (says fields 5 (codes "moved")) told.moved
      (session_read fields 3 told.session h.0.0 refl) (number_read fields 4 told.number h.0.1 refl) (moved_read told.moved) in
      let guess : guess_after script (opens.Sweep session place (record sweep { held = done })) fields ≡ Some (piece.Held session place told) = ap (λ t. Some (piece.Held session place t)) told_same in
      let rest = held_run lines session place sweep (done ++ told ∷ []) others h.1 in (
        piece.Held session place told,
        record { guess = guess; is = refl },
        subst (λ (held : List Told). Runs script (reporting lines session place sweep (done ++ told ∷ [])) (map (behind session place) (map held_fields others))
            (reporting lines session place sweep held)) (append_assoc done (told ∷ []) others) rest,
      )

  -- ---- a line

  record LineRuns (progress : Progress) (line : Line) : Type 0 where
    end : Progress
    runs : Runs script progress (line_records script.tables line) end
    free : IsFree end.last
    lines : lines_of end ≡ lines_of progress ++ line ∷ []

  abbrev head_fields : Line → List Field
  head_fields line = behind line.session line.place (told_as (codes "at") line.reply.at ++ answer_fields script.tables line.reply.answer ++ told_as (codes "committed") line.reply.number)

  -- and how they stand
  abbrev stood : Line → List Field
  stood line = standing (head_fields line)

  head_guess_of : (progress : Progress) (line : Line) → IsFree progress.last → Fits32 line.session → guess_after script progress.last (stood line) ≡ head_guess script (stood line)
  head_guess_of progress line free h =
      let tail = told_as (codes "committed") line.reply.number in
      let no_held = behind_at (decimal line.session) (decimal line.place) (answer_fields script.tables line.reply.answer) tail line.reply.at (answer_begins script.tables line.reply.answer tail).1 in
      let no_total : says (stood line) 0 (codes "total") ≡ false = says_no (head_fields line) 0 116 _ refl (number_is_no_word line.session 116 _ (omega (arith, h)) (omega arith)) in
      free_guess script progress.last (stood line) free (says_no (head_fields line) 2 104 _ refl no_held) ∙ cond-false _ _ _ no_total

  -- a report
  sweep_runs : (progress : Progress) (session place : ℕ) (sweep : Sweep) → guess_after script progress.last (stood (sweep_line session place sweep)) ≡ Some
      (piece.Sweep session place (record sweep { held = [] })) → FitsSweep sweep
      → LineRuns progress (sweep_line session place sweep)
  sweep_runs progress session place sweep guess h = record {
    end = reporting (lines_of progress) session place sweep sweep.held;
    runs = (piece.Sweep session place (record sweep { held = [] }), record { guess = guess; is = refl }, held_run (lines_of progress) session place sweep [] sweep.held h.3);
    free = tt;
    lines = refl;
  }

  report_runs : (progress : Progress) (session place : ℕ) (at : Option ℕ) (answer : Answer) (number : Option ℕ) → IsFree progress.last → (session == 0) ≡ true → Fits64 place
      → IsTrue (is_none at) → FitsReport answer → IsTrue (is_none number) →
      LineRuns progress (record { session = session; place = place; reply = record { at = at; answer = answer; number = number } })
  report_runs progress session place (Some s) answer number free zeroth wide a h n = absurd (false≢true a)
  report_runs progress session place None answer (Some c) free zeroth wide a h n = absurd (false≢true n)
  report_runs progress session place None (Swept sweep) None free zeroth wide a h n =
      let fields = stood (sweep_line session place sweep) in
      let none : session ≡ 0 = eqb-true session 0 zeroth in
      let small : Fits32 session = omega (arith, none) in
      let read : session_in fields 0 ≡ 0 = session_read fields 0 session small refl ∙ none in
      let are : Answers script.tables fields 2 [] (Swept sweep) = record { first = refl; later = two_behind (decimal session) (decimal place) (answer_fields script.tables (Swept sweep)) } in
      let guess : guess_after script progress.last fields ≡ Some (piece.Sweep session place (record sweep { held = [] })) =
      head_guess_of progress (sweep_line session place sweep) free small
      ∙ cond-true (session_in fields 0 == 0) _ _ (ap (λ s. s == 0) read)
      ∙ ap (λ s. Some (piece.Sweep s (natural_at fields 1) (sweep_guess fields 2))) (sym none)
      ∙ ap (λ p. Some (piece.Sweep session p (sweep_guess fields 2))) (number_read fields 1 place wide refl)
      ∙ ap (λ sweep. Some (piece.Sweep session place sweep)) (sweep_read script.tables fields 2 [] sweep are h) in
      sweep_runs progress session place sweep guess h
  report_runs progress session place None answer None free zeroth wide a h n = absurd h

  module _ (progress : Progress) (free : IsFree progress.last) (session place : ℕ) (small : Fits32 session) (wide : Fits64 place) (some : (session == 0) ≡ false)
      (statement : Statement) (is : statement_at script.records session place ≡ Some statement) (few : HasColumns script.tables (cursor_before script.records session place) statement) where
    abbrev line_of : Option ℕ → Answer → Option ℕ → Line
    line_of at answer number = record { session = session; place = place; reply = record { at = at; answer = answer; number = number } }

    abbrev IsAt : Option ℕ → Type 0
    IsAt at = IfSome at (λ s. Fits64 s × IsTrue (is_some (table_of statement)))

    at_read : (at : Option ℕ) (answer : Answer) (number : Option ℕ) → IsAt at → at_guess (asked_by (cursor_before script.records session place) statement) (stood (line_of at answer number)) ≡ at
    unfolding field_bytes
    at_read None answer number h =
        let none = says_no (head_fields (line_of None answer number)) 2 97 _ refl (answer_begins script.tables answer (told_as (codes "committed") number)).0 in
        cond-false _ _ _ (ap (λ b. is_some (table_asked (asked_by (cursor_before script.records session place) statement)) && b) none ∙
        and_none (is_some (table_asked (asked_by (cursor_before script.records session place) statement))))
    at_read (Some s) answer number h =
        let fields = stood (line_of (Some s) answer number) in
        cond-true (is_some (table_asked (asked_by (cursor_before script.records session place) statement)) && true) _ _
        (ap (λ b. b && true) (ap (λ (o : Option TableId). is_some o) (same_table (cursor_before script.records session place) statement) ∙ h.1)) ∙ ap Some (number_read fields 3 s h.0 refl)

    answer_from : (at : Option ℕ) (answer : Answer) (number : Option ℕ) → Answers script.tables (stood (line_of at answer number)) (answer_place at) (told_as (codes "committed") number) answer
    answer_from None answer number =
        let fields = answer_fields script.tables answer ++ told_as (codes "committed") number in
        record { first = field_stands fields 0; later = two_behind (decimal session) (decimal place) fields }
    answer_from (Some s) answer number =
        let fields = answer_fields script.tables answer ++ told_as (codes "committed") number in
        record { first = field_stands fields 0; later = four_behind (decimal session) (decimal place) (codes "at") (decimal s) fields }

    replied : (at : Option ℕ) (answer : Answer) (number : Option ℕ) → IsAt at → FitsAnswer script.tables (cursor_before script.records session place) statement answer
        → guess_after script progress.last (stood (line_of at answer number)) ≡ Some (piece_of (asked_by (cursor_before script.records session place) statement) session place at
        (stood (line_of at answer number)) (answer_place at) (emptied answer))
    replied at answer number h k =
        let line = line_of at answer number in
        let fields = stood line in
        head_guess_of progress line free small
        ∙ ap (λ s. if s == 0 then Some (piece.Sweep 0 (natural_at fields 1) (sweep_guess fields 2)) else reply_guess script s (natural_at fields 1) fields) (session_read fields 0 session small refl)
        ∙ cond-false (session == 0) _ _ some
        ∙ ap (λ p. reply_guess script session p fields) (number_read fields 1 place wide refl)
        ∙ ap (λ o. option_and_then (λ asked. answered_guess script.tables asked session place (at_guess asked fields) fields) (option_map (asked_by (cursor_before script.records session place)) o)) is
        ∙ ap (λ at. answered_guess script.tables (asked_by (cursor_before script.records session place) statement) session place at fields) (at_read at answer number h)
        ∙ ap (λ o. option_map (piece_of (asked_by (cursor_before script.records session place) statement) session place at fields (answer_place at)) o)
        (answer_read script.tables fields (answer_place at) (told_as (codes "committed") number) (cursor_before script.records session place) statement answer (answer_from at answer number) few k)

    scan_line_runs : (at : Option ℕ) (rows : List (ℕ × List Value)) → IsAt at → FitsAnswer script.tables (cursor_before script.records session place) statement (Rows rows) →
        LineRuns progress (line_of at (Rows rows) None)
    scan_line_runs at rows h k =
        let fields = stood (line_of at (Rows rows) None) in
        let table = the_table (asked_by (cursor_before script.records session place) statement) in
        let facts = scan_facts script.tables (cursor_before script.records session place) statement rows k few in
        let count : natural_at fields (answer_place at + 1) ≡ length rows = number_read fields (answer_place at + 1) (length rows) facts.many ((answer_from at (Rows rows) None).later 1) in
        let guess : guess_after script progress.last fields ≡ Some (piece.Scan session place at table (length rows)) = replied at (Rows rows) None h k ∙
        ap (λ n. Some (piece.Scan session place at table n)) count in
        let is = scan_head session place (length rows) at in
        record {
          end = scanning (lines_of progress) session place at table 0 rows;
          runs = (piece.Scan session place at table (length rows), record { guess = guess; is = is }, rows_run (lines_of progress) session place at table [] rows facts.few facts.each);
          free = refl;
          lines = refl;
        }

    short_runs : (at : Option ℕ) (answer : Answer) (number : Option ℕ) → IsShort answer → IsAt at →
        FitsAnswer script.tables (cursor_before script.records session place) statement answer → IfSome number (λ c. Fits64 c × IsTrue (is_write answer)) → LineRuns progress (line_of at answer number)
    short_runs at (Rows rows) number short h k m = absurd short
    short_runs at (Swept sweep) number short h k m = absurd short
    short_runs at answer number short h k m =
        let line = line_of at answer number in
        let same = number_behind script.tables (stood line) (answer_place at) answer number (answer_from at answer number) m in
        record {
          end = record { lines = lines_of progress ++ line ∷ []; last = opens.Nothing };
          runs = (piece.Line line, record { guess = replied at answer number h k ∙ ap (λ n. Some (piece.Line (line_of at answer n))) same; is = refl }, refl);
          free = tt;
          lines = append-nil (lines_of progress ++ line ∷ []);
        }

    reply_runs : (at : Option ℕ) (answer : Answer) (number : Option ℕ) → IsAt at → FitsAnswer script.tables (cursor_before script.records session place) statement answer →
        IfSome number (λ c. Fits64 c × IsTrue (is_write answer)) → LineRuns progress (line_of at answer number)
    reply_runs at (Rows rows) None h k m = scan_line_runs at rows h k
    reply_runs at (Rows rows) (Some c) h k m = absurd (false≢true m.1)
    reply_runs None (Swept sweep) None h k m = sweep_runs progress session place sweep (replied None (Swept sweep) None h k)
        (sweep_facts script.tables (cursor_before script.records session place) statement sweep k).0
    reply_runs (Some s) (Swept sweep) number h k m = absurd (false≢true
        (subst (λ (o : Option TableId). IsTrue (is_some o)) (sweep_facts script.tables (cursor_before script.records session place) statement sweep k).1 h.1))
    reply_runs at (Swept sweep) (Some c) h k m = absurd (false≢true m.1)
    reply_runs at answer number h k m = short_runs at answer number tt h k m

  asked_runs : (progress : Progress) (line : Line) → IsFree progress.last → Fits32 line.session → Fits64 line.place → (line.session == 0) ≡ false → (o : Option Statement) →
      asked script.records line ≡ o → IfSome o (HasColumns script.tables (cursor_before script.records line.session line.place))
      → MatchOption o ⊥ (λ statement. FitsReply script.tables (cursor_before script.records line.session line.place) statement line.reply) → LineRuns progress line
  asked_runs progress line free small wide some None is few h = absurd h
  asked_runs progress line free small wide some (Some statement) is few h = reply_runs progress free line.session line.place small wide some statement is few line.reply.at
      line.reply.answer line.reply.number h.at h.answer h.number

  line_runs : IsLawful script → (progress : Progress) (line : Line) → IsFree progress.last → Fits script line → LineRuns progress line
  line_runs lawful progress line free h = elim (cases_Bool (line.session == 0)) [
    | inl zeroth ↦
        let report = MatchBool-at_true _ _ zeroth h.reply in
        report_runs progress line.session line.place line.reply.at line.reply.answer line.reply.number free zeroth h.place report.at report.answer report.number
    | inr some ↦
        asked_runs progress line free h.session h.place some (asked script.records line) refl (columns_fit script line.session line.place lawful) (MatchBool-at_false _ _ some h.reply)
  ]

  -- ---- all lines, and the totals

  record LinesRun (progress : Progress) (lines : List Line) : Type 0 where
    end : Progress
    runs : Runs script progress (flat_map (line_records script.tables) lines) end
    free : IsFree end.last
    lines_are : lines_of end ≡ lines_of progress ++ lines

  lines_run : IsLawful script → (progress : Progress) (lines : List Line) → IsFree progress.last → Each (Fits script) lines → LinesRun progress lines
  lines_run lawful progress [] free h = record { end = progress; runs = refl; free = free; lines_are = sym (append-nil (lines_of progress)) }
  lines_run lawful progress (line ∷ lines) free h =
      let one = line_runs lawful progress line free h.0 in
      let others = lines_run lawful one.end lines one.free h.1 in record {
        end = others.end;
        runs = runs_append script progress one.end others.end (line_records script.tables line) (flat_map (line_records script.tables) lines) one.runs others.runs;
        free = others.free;
        lines_are = others.lines_are ∙ ap (λ all. all ++ lines) one.lines ∙ append_assoc (lines_of progress) (line ∷ []) lines;
      }

  pub text_runs : (printed : Printed) → IsLawful script → IsFit script printed → Runs script at_start (text_records script printed) (telling script printed.lines 6 printed.totals)
  text_runs printed lawful h =
      let all = lines_run lawful at_start printed.lines tt h.lines in
      let totals = totals_run script all.end printed.totals all.free h.totals in
      let end = subst (λ (lines : List Line). Runs script all.end (totals_records printed.totals) (telling script lines 6 printed.totals)) all.lines_are totals in
      runs_append script at_start all.end (telling script printed.lines 6 printed.totals) (flat_map (line_records script.tables) printed.lines) (totals_records printed.totals) all.runs end
