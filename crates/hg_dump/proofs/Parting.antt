-- The lines of a run with a reader, in parts: the sessions', the reader's and the collectors'.
use Rattle.std.proofs.Common.{◌≡◌, ℕ, ◌≤◌, List, [], ◌++◌, length, max, sym, ap, ◌∙◌, subst, arith, append_assoc}
use Rattle.std.specs.Prelude.{take, drop}
use Rattle.std.proofs.lemmas.List.{length-append, length-drop, length-take, length-take-le, take-append-drop}
use Rattle.hg_base.specs.declared.statement.Record.{Record}
use Rattle.hg_base.specs.declared.line.Line.{Line}
use Rattle.hg_base.specs.Lists.{onto}
use Rattle.hg_base.specs.Script.{Script, run}
use Rattle.hg_base.specs.Shape.{HasShape}
use Rattle.hg_base.specs.Sound.{all_said}
use Rattle.hg_base.specs.Transcript.{Said, commits, history_of, in_order, said_from}
use Rattle.hg_base.proofs.ListFacts.{append_nil}
use Rattle.hg_headline.proofs.Rounds.{shape_more}
use Rattle.hg_headline.proofs.Running.{in_order_is}
use Rattle.hg_dump.specs.Reader.{lines_with, read_lines, read_records, reader_of, session_lines, with_reader}
use Rattle.hg_dump.proofs.Joining.{commits_append, history_same, said_append, shape_split}
use Rattle.hg_dump.proofs.Reading.{reader_shape}
use Rattle.hg_dump.proofs.Runs.{reader_not_zero, shape_length}
use Rattle.hg_dump.proofs.Sessions.{all_records, records_with, top}
use Rattle.hg_dump.proofs.Silent.{all_rounds, each_round, reader_silent, rounds_silent}

module _ (rounds : ℕ) (script : Script) (ats : List ℕ) (lines : List Line) (shape : HasShape (in_order (run rounds) (with_reader script ats).records) (lines_with script ats lines)) where
  abbrev pub j : ℕ
  j = reader_of script

  abbrev pub n : ℕ
  n = session_lines script

  abbrev pub of_sessions : List Record
  of_sessions = all_records script

  abbrev pub of_reader : List Record
  of_reader = read_records j ats

  abbrev pub of_rounds : List Record
  of_rounds = all_rounds rounds

  abbrev pub first : List Line
  first = take n lines

  abbrev pub own : List Line
  own = read_lines j ats

  abbrev pub last : List Line
  last = drop n lines

  asked_with : in_order (run rounds) (with_reader script ats).records ≡ of_sessions ++ (of_reader ++ of_rounds)
  asked_with = in_order_is rounds (with_reader script ats).records ∙ ap (λ rs. rs ++ of_rounds) (records_with script ats) ∙ append_assoc of_sessions of_reader of_rounds

  asked_alone : in_order (run rounds) script.records ≡ of_sessions ++ of_rounds
  asked_alone = in_order_is rounds script.records

  shape_with : HasShape (of_sessions ++ (of_reader ++ of_rounds)) (first ++ (own ++ last))
  shape_with = subst (λ rs. HasShape rs (first ++ (own ++ last))) asked_with shape

  pub own_shape : HasShape of_reader own
  own_shape = reader_shape j ats (reader_not_zero (max 1 (top script)))

  enough : n ≤ length lines
  enough =
      let all = shape_length (of_sessions ++ (of_reader ++ of_rounds)) (first ++ (own ++ last)) shape_with in
      let a = length-append of_sessions (of_reader ++ of_rounds) in
      let b = length-append of_reader of_rounds in
      let c = length-append first (own ++ last) in
      let d = length-append own last in
      let e = length-take n lines in
      let f = length-drop n lines in
      let g = shape_length of_reader own own_shape in
      omega (arith, all, a, b, c, d, e, f, g)

  pub parts : HasShape of_sessions first × HasShape (of_reader ++ of_rounds) (own ++ last)
  parts = shape_split of_sessions (of_reader ++ of_rounds) first (own ++ last) (sym (length-take-le n lines enough)) shape_with

  last_shape : HasShape of_rounds last
  last_shape = (shape_split of_reader of_rounds own last (shape_length of_reader own own_shape) parts.1).1

  pub shape_alone : HasShape (in_order (run rounds) script.records) lines
  shape_alone =
      subst (λ rs. HasShape rs lines) (sym asked_alone)
      (subst (λ ls. HasShape (of_sessions ++ of_rounds) ls) (take-append-drop n lines) (shape_more of_sessions of_rounds first last parts.0 last_shape))

  -- ---- what they say

  abbrev pub first_said : List Said
  first_said = said_from [] of_sessions first

  abbrev pub own_said : List Said
  own_said = said_from (onto first_said []) of_reader own

  abbrev pub last_said : List Said
  last_said = said_from (onto own_said (onto first_said [])) of_rounds last

  pub said_with : all_said (run rounds) (with_reader script ats) (lines_with script ats lines) ≡ first_said ++ (own_said ++ last_said)
  said_with =
      ap (λ rs. said_from [] rs (first ++ (own ++ last))) asked_with
      ∙ said_append [] of_sessions (of_reader ++ of_rounds) first (own ++ last) parts.0
      ∙ ap (λ xs. first_said ++ xs) (said_append (onto first_said []) of_reader of_rounds own last own_shape)

  pub said_alone : all_said (run rounds) script lines ≡ first_said ++ said_from (onto first_said []) of_rounds last
  said_alone =
      (λ i. said_from [] (asked_alone i) (sym (take-append-drop n lines) i))
      ∙ said_append [] of_sessions of_rounds first last parts.0

  commits_with : commits (first_said ++ (own_said ++ last_said)) ≡ commits first_said
  commits_with =
      commits_append [] first_said (own_said ++ last_said)
      ∙ ap (λ xs. commits first_said ++ xs)
      (commits_append (onto first_said []) own_said last_said ∙
      (λ i. reader_silent (onto first_said []) j ats i ++ rounds_silent (onto own_said (onto first_said [])) (onto own_said (onto first_said [])) of_rounds last (each_round rounds) i))
      ∙ append_nil (commits first_said)

  commits_alone : commits (first_said ++ said_from (onto first_said []) of_rounds last) ≡ commits first_said
  commits_alone =
      commits_append [] first_said (said_from (onto first_said []) of_rounds last)
      ∙ ap (λ xs. commits first_said ++ xs) (rounds_silent (onto first_said []) (onto first_said []) of_rounds last (each_round rounds))
      ∙ append_nil (commits first_said)

  pub history_alone : history_of (all_said (run rounds) (with_reader script ats) (lines_with script ats lines)) ≡ history_of (all_said (run rounds) script lines)
  history_alone =
      ap history_of said_with ∙ history_same (first_said ++ (own_said ++ last_said)) (first_said ++ said_from (onto first_said []) of_rounds last) (commits_with ∙
      sym commits_alone) ∙ ap history_of (sym said_alone)

  pub commits_same : commits (all_said (run rounds) (with_reader script ats) (lines_with script ats lines)) ≡ commits (all_said (run rounds) script lines)
  commits_same = ap commits said_with ∙ commits_with ∙ sym commits_alone ∙ ap commits (sym said_alone)
