-- What is taken are the first records of a text: those of the lines so far, and of what is begun.
use Rattle.std.proofs.Common.{◌≡◌, ◌+◌, ◌-◌, ◌∙◌, ℕ, zero, suc, List, [], ◌∷◌, ◌++◌, length, length-append, take, drop, take-append-drop, map, Bool, true, false, ◌==◌, Option}
use Rattle.std.proofs.Common.{Some, None, refl, sym, ap, subst, append_assoc, arith}
use Rattle.std.specs.Prelude.{codes, decimal}
use Rattle.std.specs.List.{flat_map}
use Rattle.std.proofs.lemmas.List.{append-nil, map-append, length-replicate}
use Rattle.std.proofs.lemmas.List.Concat.{flat_map-append}
use Rattle.std.specs.Prelude.{IfSome, MatchOption, replicate}
use Rattle.std.specs.Bool.{MatchBool}
use Rattle.hg_base.specs.declared.statement.Statement.{Statement}
use Rattle.hg_base.specs.declared.rid.TableId.{TableId}
use Rattle.hg_base.specs.declared.value.Value.{Value}
use Rattle.hg_base.specs.declared.report.Told.{Told}
use Rattle.hg_base.specs.declared.report.Sweep.{Sweep}
use Rattle.hg_base.specs.declared.line.Answer.{Answer}
use Rattle.hg_base.specs.declared.line.Answer.TheVariants.{Rows, Swept}
use Rattle.hg_base.specs.declared.line.Line.{Line}
use Rattle.hg_base.specs.declared.line.Totals.{Totals}
use Rattle.hg_base.specs.declared.line.Printed.{Printed}
use Rattle.hg_base.specs.Lists.{Each}
use Rattle.hg_base.specs.Script.{Declaration, Script}
use Rattle.hg_base.specs.Text.{Field, Fits, FitTotals, FitsReply, IsReport, asked, cursor_before, IsFit, answer_fields, held_fields, kinds_of, row_fields, more_fields}
use Rattle.hg_base.specs.Text.{told_as, of_line, line_records, total_fields, totals_records, text_records}
use Rattle.hg_transcript.specs.declared.piece.Piece.{Piece}
use Rattle.hg_transcript.specs.declared.piece.Piece.TheVariants as piece
use Rattle.hg_report.specs.declared.progress.Open.{Open}
use Rattle.hg_report.specs.declared.progress.Open.TheVariants as opens
use Rattle.hg_report.specs.declared.progress.Progress.{Progress}
use Rattle.hg_transcript.specs.Piece.{behind, piece_fields, total_word}
use Rattle.hg_report.specs.Progress.{scan_line, sweep_line, open_lines, no_totals, totals_of, with_total, after, at_start, standing, IsNext, Runs}
use Rattle.hg_report.proofs.Fitting.{IsFree, FitsKey, FitsTold, IsShort, FitsFirst, FitsNext, comes_first, comes_row, comes_held, comes_total, guess_fits}
use Rattle.hg_report.proofs.Counts.{Records, row_records, open_records, FitsOpen, Stands, regroup, each-append, count_whole, count_none, scan_records, total_step, no_totals_fit, take_none}
use Rattle.hg_report.proofs.Counts.{with_told, reply_of, held_answer, any_value, any_row}

module _ (script : Script) where
  abbrev pub written : List Line → Records
  written lines = flat_map (line_records script.tables) lines

  written_more : (lines : List Line) (line : Line) → written (lines ++ line ∷ []) ≡ written lines ++ line_records script.tables line
  written_more lines line = flat_map-append (line_records script.tables) lines (line ∷ []) ∙ ap (λ records. written lines ++ records) (append-nil (line_records script.tables line))

  -- no line is half written
  pub record AreWhole (lines : List Line) (records : Records) : Type 0 where
    pub fit : Each (Fits script) lines
    pub are : records ≡ written lines

  closed : (lines : List Line) (state : Open) (records : Records) → IsFree state → Each (Fits script) lines → FitsOpen script state → records ≡ written lines ++ open_records script.tables state
      → AreWhole (lines ++ open_lines state) records
  closed lines opens.Nothing records free each fits is = record { fit = rw append-nil each; are = rw append-nil (is ∙ append-nil (written lines)) }
  closed lines (opens.Scan session place at table left rows) records free each fits is =
      let line = scan_line session place at rows in
      let whole : Fits script line = subst (λ (all : List (ℕ × List Value)). Fits script (scan_line session place at all)) (append-nil rows) (fits [] (sym free) tt) in
      let count : decimal (length rows + left) ≡ decimal (length rows) = ap decimal (ap (λ n. length rows + n) free ∙ count_whole (length rows)) in
      record {
        fit = each-append (Fits script) lines (line ∷ []) each (whole, tt);
        are = is ∙ ap (λ n. written lines ++ (behind session place (told_as (codes "at") at ++ codes "rows" ∷ n ∷ []) ∷ row_records session place rows)) count
            ∙ ap (λ records. written lines ++ records) (sym (scan_records script.tables session place at rows)) ∙ sym (written_more lines line);
      }
  closed lines (opens.Sweep session place sweep) records free each fits is = record {
    fit = each-append (Fits script) lines (sweep_line session place sweep ∷ []) each (fits, tt);
    are = is ∙ sym (written_more lines (sweep_line session place sweep));
  }
  closed lines (opens.Totals index totals) records free each fits is = absurd free

  free_totals : (state : Open) → IsFree state → totals_of state ≡ no_totals
  free_totals opens.Nothing free = refl
  free_totals (opens.Scan session place at table left rows) free = refl
  free_totals (opens.Sweep session place sweep) free = refl
  free_totals (opens.Totals index totals) free = absurd free

  -- ---- the first record of a line, or of the totals

  short_more : (line : Line) (answer : Answer) → IsShort answer → map (of_line line) (more_fields answer) ≡ []
  short_more line (Rows rows) h = absurd h
  short_more line (Swept sweep) h = absurd h
  short_more line answer h = refl

  first_stands : (lines : List Line) (state : Open) (records : Records) (next : Piece) → IsFree state → AreWhole (lines ++ open_lines state) records → FitsFirst script next
      → Stands script (after (record { lines = lines; last = state }) next) (records ++ piece_fields script.tables next ∷ [])
  first_stands lines state records (piece.Line line) free whole h = record {
    lines = each-append (Fits script) (lines ++ open_lines state) (line ∷ []) whole.fit (h.0, tt);
    last = tt;
    is = ap (λ all. all ++ piece_fields script.tables (piece.Line line) ∷ []) whole.are
        ∙ ap (λ more. written (lines ++ open_lines state) ++ piece_fields script.tables (piece.Line line) ∷ more) (sym (short_more line line.reply.answer h.1))
        ∙ sym (written_more (lines ++ open_lines state) line) ∙ sym (append-nil (written ((lines ++ open_lines state) ++ line ∷ [])));
  }
  first_stands lines state records (piece.Scan session place at table left) free whole h = record {
    lines = whole.fit;
    last = h;
    is = ap (λ all. all ++ piece_fields script.tables (piece.Scan session place at table left) ∷ []) whole.are
        ∙ ap (λ n. written (lines ++ open_lines state) ++ behind session place (told_as (codes "at") at ++ codes "rows" ∷ decimal n ∷ []) ∷ []) (sym (count_none left));
  }
  first_stands lines state records (piece.Sweep session place sweep) free whole h = record {
    lines = whole.fit;
    last = h.1;
    is = ap (λ all. all ++ piece_fields script.tables (piece.Sweep session place sweep) ∷ []) whole.are
        ∙ ap (λ held. written (lines ++ open_lines state) ++ piece_fields script.tables (piece.Sweep session place sweep) ∷ map (behind session place) (map held_fields held)) (sym h.0);
  }
  first_stands lines state records (piece.Row session place key values) free whole h = absurd h
  first_stands lines state records (piece.Held session place told) free whole h = absurd h
  first_stands lines state records (piece.Total index number) free whole h =
      let fit : FitTotals (totals_of state) = subst FitTotals (sym (free_totals state free)) no_totals_fit in
      let more = total_step index number (totals_of state) (omega (arith, h.0)) fit h.1 in record {
        lines = whole.fit;
        last = (more.fit, more.most);
        is = ap (λ all. all ++ total_fields (total_word index) number ∷ []) whole.are
            ∙ ap (λ before. written (lines ++ open_lines state) ++ (before ++ total_fields (total_word index) number ∷ [])) (sym (take_none index (totals_records (totals_of state)) h.0))
            ∙ ap (λ all. written (lines ++ open_lines state) ++ all) more.is;
      }

  -- ---- a row, a held snapshot, and the other totals

  rows_more : (session place : ℕ) (rows : List (ℕ × List Value)) (p : ℕ × List Value) →
      row_records session place (rows ++ p ∷ []) ≡ row_records session place rows ++ behind session place (row_fields p) ∷ []
  rows_more session place rows p = ap (map (behind session place)) (map-append row_fields rows (p ∷ [])) ∙ map-append (behind session place) (map row_fields rows) (row_fields p ∷ [])

  held_more : (session place : ℕ) (held : List Told) (told : Told) → map (behind session place) (map held_fields (held ++ told ∷ [])) ≡ map (behind session place)
      (map held_fields held) ++ behind session place (held_fields told) ∷ []
  held_more session place held told = ap (map (behind session place)) (map-append held_fields held (told ∷ [])) ∙ map-append (behind session place) (map held_fields held) (held_fields told ∷ [])

  each_told : (held : List Told) (told : Told) → Each FitsTold held → FitsTold told → Each FitsTold (held ++ told ∷ [])
  each_told held told h k = each-append FitsTold held (told ∷ []) h (k, tt)

  held_reply : (tables : List Declaration) (alone : Bool) (cursor : Option TableId) (asked : Option Statement) (sweep : Sweep) (told : Told)
      → MatchBool alone (IsReport (reply_of sweep)) (MatchOption asked ⊥ (λ statement. FitsReply tables cursor statement (reply_of sweep))) → FitsTold told
      → MatchBool alone (IsReport (reply_of (with_told sweep told))) (MatchOption asked ⊥ (λ statement. FitsReply tables cursor statement (reply_of (with_told sweep told))))
  held_reply tables true cursor asked sweep told h k = record { at = refl; answer = (h.answer.0, h.answer.1, h.answer.2, each_told sweep.held told h.answer.3 k); number = refl }
  held_reply tables false cursor None sweep told h k = absurd h
  held_reply tables false cursor (Some statement) sweep told h k = record { at = tt; answer = held_answer tables cursor statement sweep told h.answer k; number = tt }

  held_fits : (session place : ℕ) (sweep : Sweep) (told : Told) → Fits script (sweep_line session place sweep) → FitsTold told → Fits script (sweep_line session place (with_told sweep told))
  held_fits session place sweep told h k = record {
    session = h.session;
    place = h.place;
    reply = held_reply script.tables (session == 0) (cursor_before script.records session place) (asked script.records (sweep_line session place sweep)) sweep told h.reply k;
  }

  stepped_from : (lines : List Line) (state : Open) (records : Records) (next : Piece) → Each (Fits script) lines → FitsOpen script state →
      records ≡ written lines ++ open_records script.tables state → FitsNext script state next
      → Stands script (after (record { lines = lines; last = state }) next) (records ++ piece_fields script.tables next ∷ [])
  stepped_from lines _ records _ each fits is (comes_first state next free h) = first_stands lines state records next free (closed lines state records free each fits is) h
  stepped_from lines _ records _ each fits is (comes_row session place at table left rows key values some h) =
      let count : length rows + left ≡ length (rows ++ (key, values) ∷ []) + (left - 1) = simp length-append (omega arith) in record {
        lines = each;
        last = λ more many all. subst (λ (rows : List (ℕ × List Value)). Fits script (scan_line session place at rows)) (sym (append_assoc rows ((key, values) ∷ []) more))
            (fits ((key, values) ∷ more) (omega (arith, many)) (h, all));
        is = ap (λ all. all ++ behind session place (row_fields (key, values)) ∷ []) is
            ∙ append_assoc (written lines) (open_records script.tables (opens.Scan session place at table left rows)) (behind session place (row_fields (key, values)) ∷ [])
            ∙ ap (λ n. written lines ++ (behind session place (told_as (codes "at") at ++ codes "rows" ∷ decimal n ∷ []) ∷
            (row_records session place rows ++ behind session place (row_fields (key, values)) ∷ []))) count
            ∙ ap (λ more. written lines ++ (behind session place (told_as (codes "at") at ++ codes "rows" ∷ decimal (length (rows ++ (key, values) ∷ []) + (left - 1)) ∷ []) ∷
            more)) (sym (rows_more session place rows (key, values)));
      }
  stepped_from lines _ records _ each fits is (comes_held session place sweep told h) = record {
    lines = each;
    last = held_fits session place sweep told fits h;
    is = ap (λ all. all ++ behind session place (held_fields told) ∷ []) is
        ∙ append_assoc (written lines) (line_records script.tables (sweep_line session place sweep)) (behind session place (held_fields told) ∷ [])
        ∙ ap (λ more. written lines ++ (behind session place (answer_fields script.tables (Swept sweep)) ∷ more)) (sym (held_more session place sweep.held told));
  }
  stepped_from lines _ records _ each fits is (comes_total index totals number below h) =
      let more = total_step index number totals below fits.0 h in record {
        lines = rw append-nil each;
        last = (more.fit, more.most);
        is = ap (λ all. all ++ total_fields (total_word index) number ∷ []) is
            ∙ append_assoc (written lines) (take index (totals_records totals)) (total_fields (total_word index) number ∷ [])
            ∙ ap (λ all. written lines ++ all) more.is
            ∙ ap (λ all. written all ++ take (index + 1) (totals_records (with_total index number totals))) (sym (append-nil lines));
      }

  pub stepped : (progress : Progress) (records : Records) (next : Piece) → Stands script progress records → FitsNext script progress.last next →
      Stands script (after progress next) (records ++ piece_fields script.tables next ∷ [])
  stepped progress records next h k = stepped_from progress.lines progress.last records next h.lines h.last h.is k

  -- ---- all that is taken

  pub at_start_stands : Stands script at_start []
  at_start_stands = record { lines = tt; last = tt; is = refl }

  next_fits : (progress : Progress) (fields : List Field) (next : Piece) → IsNext script progress fields next → FitsNext script progress.last next
  next_fits progress fields next h = subst (λ (o : Option Piece). IfSome o (FitsNext script progress.last)) h.guess (guess_fits script (standing fields) progress.last)

  pub runs_stand : (progress end : Progress) (before records : Records) → Stands script progress before → Runs script progress records end → Stands script end (before ++ records)
  runs_stand progress end before [] h k = subst (λ (p : Progress). Stands script p (before ++ [])) (sym k) (subst (Stands script progress) (sym (append-nil before)) h)
  runs_stand progress end before (fields ∷ more) h (next, is, rest) =
      let step = stepped progress before next h (next_fits progress fields next is) in
      let here : Stands script (after progress next) (before ++ fields ∷ []) = subst (λ (f : List Field). Stands script (after progress next) (before ++ f ∷ [])) is.is step in
      subst (Stands script end) (append_assoc before (fields ∷ []) more) (runs_stand (after progress next) end (before ++ fields ∷ []) more here rest)

  -- the totals are all there
  pub whole_text : (lines : List Line) (totals : Totals) (records : Records) → Stands script (record { lines = lines; last = opens.Totals 6 totals }) records
      → IsFit script (record { lines = lines; totals = totals }) × (records ≡ text_records script (record { lines = lines; totals = totals }))
  whole_text lines totals records h = (record { lines = h.lines; totals = h.last.0 }, h.is)

  -- ---- and it is the start of some text

  pub record Begins (records : Records) : Type 0 where
    pub printed : Printed
    pub fits : IsFit script printed
    pub more : Records
    pub are : text_records script printed ≡ records ++ more

  free_begins : (lines : List Line) (records : Records) → AreWhole lines records → Begins records
  free_begins lines records h = record {
    printed = record { lines = lines; totals = no_totals };
    fits = record { lines = h.fit; totals = no_totals_fit };
    more = totals_records no_totals;
    are = ap (λ (records : Records). records ++ totals_records no_totals) (sym h.are);
  }

  abbrev pub fill : TableId → ℕ → List (ℕ × List Value)
  fill table left = replicate left (0, map any_value (kinds_of script.tables table))

  fill_fits : (table : TableId) (left : ℕ) → Each (FitsKey script.tables table) (fill table left)
  fill_fits table zero = tt
  fill_fits table (suc left) = ((omega arith, any_row (kinds_of script.tables table)), fill_fits table left)

  stands_begin : (lines : List Line) (state : Open) (records : Records) → Stands script (record { lines = lines; last = state }) records → Begins records
  stands_begin lines opens.Nothing records h = free_begins _ records (closed lines opens.Nothing records tt h.lines h.last h.is)
  stands_begin lines (opens.Sweep session place sweep) records h = free_begins _ records (closed lines (opens.Sweep session place sweep) records tt h.lines h.last h.is)
  stands_begin lines (opens.Scan session place at table left rows) records h =
      let line = scan_line session place at (rows ++ fill table left) in
      let many : length (fill table left) ≡ left = length-replicate left _ in
      let count : length rows + left ≡ length (rows ++ fill table left) = simp length-append (omega (arith, many)) in
      let all : row_records session place (rows ++ fill table left) ≡ row_records session place rows ++ row_records session place (fill table left) =
      ap (map (behind session place)) (map-append row_fields rows (fill table left)) ∙ map-append (behind session place) (map row_fields rows) (map row_fields (fill table left)) in
      record {
        printed = record { lines = lines ++ line ∷ []; totals = no_totals };
        fits = record { lines = each-append (Fits script) lines (line ∷ []) h.lines (h.last (fill table left) many (fill_fits table left), tt); totals = no_totals_fit };
        more = row_records session place (fill table left) ++ totals_records no_totals;
        are = ap (λ all. all ++ totals_records no_totals) (written_more lines line)
            ∙ ap (λ all. (written lines ++ all) ++ totals_records no_totals) (scan_records script.tables session place at (rows ++ fill table left))
            ∙ ap (λ n. (written lines ++ (behind session place (told_as (codes "at") at ++ codes "rows" ∷ decimal n ∷ []) ∷ row_records session place (rows ++ fill table left))) ++
            totals_records no_totals) (sym count)
            ∙ ap (λ all. (written lines ++ (behind session place (told_as (codes "at") at ++ codes "rows" ∷ decimal (length rows + left) ∷ []) ∷ all)) ++ totals_records no_totals) all
            ∙ regroup (written lines) (open_records script.tables (opens.Scan session place at table left rows)) (row_records session place (fill table left)) (totals_records no_totals)
            ∙ ap (λ records. records ++ (row_records session place (fill table left) ++ totals_records no_totals)) (sym h.is);
      }
  stands_begin lines (opens.Totals index totals) records h = record {
    printed = record { lines = lines; totals = totals };
    fits = record { lines = h.lines; totals = h.last.0 };
    more = drop index (totals_records totals);
    are = ap (λ all. written lines ++ all) (sym (take-append-drop index (totals_records totals)))
        ∙ sym (append_assoc (written lines) (take index (totals_records totals)) (drop index (totals_records totals)))
        ∙ ap (λ records. records ++ drop index (totals_records totals)) (sym h.is);
  }

  pub runs_begin : (end : Progress) (records : Records) → Runs script at_start records end → Begins records
  runs_begin end records h = stands_begin end.lines end.last records (runs_stand at_start end [] records at_start_stands h)
