-- A text is read line by line, so that its records determine what was printed.
use Rattle.std.proofs.Common.{◌≡◌, ◌<◌, ◌^◌, List, [], ◌∷◌, ◌++◌, get_or, false, refl, sym, ap, ◌∙◌, append_assoc, arith}
use Rattle.std.specs.Prelude.{codes, decimal, ◌==◌}
use Rattle.std.specs.List.{flat_map}
use Rattle.hg_base.specs.declared.line.Line.{Line}
use Rattle.hg_base.specs.declared.line.Totals.{Totals}
use Rattle.hg_base.specs.declared.line.Printed.{Printed}
use Rattle.hg_base.specs.Lists.{Each}
use Rattle.hg_base.specs.Script.{Script}
use Rattle.hg_base.specs.Text.{Field, Fits, FitTotals, IsFit, asked, cursor_before, answer_fields, told_as, line_records, totals_records, text_records}
use Rattle.hg_base.proofs.TextNumbers.{number_read, first_digit, number_is_no_word}
use Rattle.hg_base.proofs.TextFits.{IsPlainReply, named, plain_reply}
use Rattle.hg_base.proofs.TextReading.{begins_held, after_at, line_in, after_line, totals_in}
use Rattle.hg_base.proofs.TextReplies.{answer_read, records_left, commit_read, answer_begins, at_read, at_left, behind_at}

module _ (script : Script) where
  plain : (line : Line) → Fits script line → IsPlainReply script.tables (named (cursor_before script.records line.session line.place) (asked script.records line)) line.reply
  plain line fit = plain_reply script.tables (line.session == 0) (cursor_before script.records line.session line.place) (asked script.records line) line.reply fit.reply

  -- the answer, and the commit number behind it
  abbrev answer_of : Line → List Field
  answer_of line = answer_fields script.tables line.reply.answer

  abbrev number_of_commit : Line → List Field
  number_of_commit line = told_as (codes "committed") line.reply.number

  module _ (line : Line) (rest : List (List Field)) (fit : Fits script line) (end : begins_held rest ≡ false) where
    answer_left : after_at (told_as (codes "at") line.reply.at ++ answer_of line ++ number_of_commit line) ≡ answer_of line ++ number_of_commit line
    answer_left = at_left (answer_of line) (number_of_commit line) (answer_begins script.tables line.reply.answer (number_of_commit line)).0 line.reply.at

    line_read : line_in script.tables script.records (line_records script.tables line ++ rest) ≡ line
    line_read =
        let reply = plain line fit in
        let session : line.session < 2 ^ 64 = omega (arith, fit.session) in
        rw (
          number_read line.session session,
          number_read line.place fit.place,
          at_read (answer_of line) (number_of_commit line) (answer_begins script.tables line.reply.answer (number_of_commit line)).0 line.reply.at reply.at,
          answer_left,
          answer_read script.tables (named (cursor_before script.records line.session line.place) (asked script.records line)) line rest end line.reply.answer line.reply.number
              reply.answer reply.number,
          commit_read script.tables line.reply.answer line.reply.number reply.number,
        )

    line_left : after_line (line_records script.tables line ++ rest) ≡ rest
    line_left = rw (
      answer_left,
      records_left script.tables (named (cursor_before script.records line.session line.place) (asked script.records line)) line rest end
          line.reply.answer (number_of_commit line) (plain line fit).answer,
    )

  abbrev records_of : List Line → Totals → List (List Field)
  records_of lines totals = flat_map (line_records script.tables) lines ++ totals_records totals

  line_begins : (line : Line) (rest : List (List Field)) → begins_held (line_records script.tables line ++ rest) ≡ false
  line_begins line rest = behind_at (decimal line.session) (decimal line.place) (answer_of line) (number_of_commit line) line.reply.at
      (answer_begins script.tables line.reply.answer (number_of_commit line)).1

  -- the records of a text do not begin with a held snapshot
  begins : (lines : List Line) (totals : Totals) → FitTotals totals → begins_held (records_of lines totals) ≡ false
  begins [] totals h = number_is_no_word totals.made 104 _ h.made (omega arith)
  begins (line ∷ lines) totals h = line_begins line (flat_map (line_records script.tables) lines)

  -- a line does not begin as the totals do
  total_is_no_line : (line : Line) (lines : List Line) (t u : Totals) → Fits script line → totals_records t ≡ records_of (line ∷ lines) u → ⊥
  total_is_no_line line lines t u fit e =
      let session : line.session < 2 ^ 64 = omega (arith, fit.session) in
      let digit = first_digit line.session session in
      let same : 116 ≡ get_or (decimal line.session) 0 0 = ap (λ (records : List (List Field)). get_or (get_or (get_or records 0 []) 0 []) 0 0) e in
      omega (arith, digit, same)

  -- line by line, and then the totals
  lines_told : (ls ms : List Line) (t u : Totals) → Each (Fits script) ls → Each (Fits script) ms → FitTotals t → FitTotals u → records_of ls t ≡ records_of ms u → (ls ≡ ms) ×
      (totals_records t ≡ totals_records u)
  lines_told [] [] t u p q h k e = (refl, e)
  lines_told [] (b ∷ ms) t u p q h k e = absurd (total_is_no_line b ms t u q.0 e)
  lines_told (a ∷ ls) [] t u p q h k e = absurd (total_is_no_line a ls u t p.0 (sym e))
  lines_told (a ∷ ls) (b ∷ ms) t u p q h k e =
      let f : line_records script.tables a ++ records_of ls t ≡ line_records script.tables b ++ records_of ms u =
      sym (append_assoc (line_records script.tables a) (flat_map (line_records script.tables) ls) (totals_records t))
      ∙ e
      ∙ append_assoc (line_records script.tables b) (flat_map (line_records script.tables) ms) (totals_records u) in
      let one : a ≡ b = sym (line_read a (records_of ls t) p.0 (begins ls t h)) ∙ ap (line_in script.tables script.records) f ∙ line_read b (records_of ms u) q.0 (begins ms u k) in
      let more : records_of ls t ≡ records_of ms u = sym (line_left a (records_of ls t) p.0 (begins ls t h)) ∙ ap after_line f ∙ line_left b (records_of ms u) q.0 (begins ms u k) in
      let others = lines_told ls ms t u p.1 q.1 h k more in
      (ap (λ (line : Line). line ∷ ls) one ∙ ap (λ lines. b ∷ lines) others.0, others.1)

totals_read : (t : Totals) → FitTotals t → totals_in (totals_records t) ≡ t
totals_read t h = rw (number_read t.made h.made, number_read t.undone h.undone, number_read t.group h.group, number_read t.table h.table, number_read t.interval h.interval, number_read t.left h.left)

-- two printed values that fit one script and have the same records are equal
pub texts_determine : (script : Script) (a b : Printed) → IsFit script a → IsFit script b → text_records script a ≡ text_records script b → a ≡ b
texts_determine script a b p q e =
    let same = lines_told script a.lines b.lines a.totals b.totals p.lines q.lines p.totals q.totals e in
    let totals : a.totals ≡ b.totals = sym (totals_read a.totals p.totals) ∙ ap totals_in same.1 ∙ totals_read b.totals q.totals in
    ap (λ lines. record { lines = lines; totals = a.totals }) same.0 ∙ ap (λ totals. record { lines = b.lines; totals = totals }) totals
