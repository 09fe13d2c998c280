-- A script that breaks no rule, sent record by record.
use Rattle.std.proofs.Common.{◌≡◌, ◌∙◌, ℕ, suc, ◌+◌, ◌≤◌, ◌==◌, List, [], ◌∷◌, length, map, drop, min, true, false, Option, Some, None, is_none, refl, sym, ap, subst, arith, codes}
use Rattle.std.proofs.lemmas.Bool.{or_parts}
use Rattle.std.proofs.lemmas.Slice.Eq.{bytes_eq-Decides}
use Rattle.hg_base.specs.declared.limits.TheConstants.{MOST_RECORDS}
use Rattle.hg_base.specs.declared.statement.Record.{Record}
use Rattle.hg_base.specs.Lists.{Each}
use Rattle.hg_base.specs.Script.{Script}
use Rattle.hg_base.proofs.ListFacts.{cases}
use Rattle.hg_script.specs.declared.code.Code.{Code}
use Rattle.hg_script.specs.declared.word.Word.{Word}
use Rattle.hg_script.specs.Fields.{Field, Fields, word_of}
use Rattle.hg_script.specs.Judging.{code_at, script_at}
use Rattle.hg_script.specs.Meaning.{first_code, nothing, or_next, refusal_from, refusal_of, script_from, script_of, with_row}
use Rattle.hg_script.proofs.Growth.{no-code, within-most}
use Rattle.hg_talk.specs.Framing as talk
use Rattle.hg_exact.specs.Conversed.{Answered, Course, IsAcceptance, accepted, answered_from, asks_totals, conversed, course_from, hears, lines_of, taken, unasked}
use Rattle.hg_exact.specs.Replayed.{replayed}
use Rattle.hg_exact.proofs.Conversing.{conversed_replayed, heard}

-- ---- a record that breaks no rule

-- at a place that a script has, its code is that of a script
code_same : (place : ℕ) (s : Script) (r : Fields) → first_code place s r ≡ None → code_at place s r ≡ None
unfolding first_code
code_same place s r none =
    let k = no-code _ _ _ none in
    let most : place ≤ MOST_RECORDS = within-most place (or_parts _ _ k.0).0 in
    let same : min place MOST_RECORDS ≡ place = omega (arith, most) in
    ap (λ n. first_code n s r) same ∙ none

-- the word alone that asks for the totals is no word of a script
no_word : (place : ℕ) (r : Fields) → asks_totals r ≡ true → word_of place r ≡ None
no_word place [] e = absurd (let no : ⊥ = cc e in no)
no_word place (w ∷ f ∷ more) e = absurd (let no : ⊥ = cc e in no)
no_word place (w ∷ []) e = subst (λ (x : Field). word_of place (x ∷ []) ≡ None) (sym ((bytes_eq-Decides w (codes "totals")).0 e)) (cases (place == 1) (λ f. rw f refl) (λ f. rw f refl))

is_there : (o : Option Word) → o ≡ None → is_none o ≡ false → ⊥
is_there None e has = let no : ⊥ = cc has in no
is_there (Some w) e has = let no : ⊥ = cc e in no

asks_no_totals : (place : ℕ) (s : Script) (r : Fields) → first_code place s r ≡ None → asks_totals r ≡ false
unfolding first_code
asks_no_totals place s r none = cases (asks_totals r) (λ e. absurd (is_there (word_of place r) (no_word place r e) (no-code _ _ _ (no-code _ _ _ none).1).0)) (λ e. e)

record Takes (c : Course) (p : Answered × Course) (script : Script) : Type 0 where
  pub answer : IsAcceptance p.0
  pub script_is : p.1.script ≡ script
  pub place : p.1.place ≡ suc c.place

takes : (c : Course) (script : Script) (rs : List Record) → Takes c (taken c script rs) script
takes c script [] = record { answer = tt; script_is = refl; place = refl }
takes c script (r ∷ rs) = record { answer = tt; script_is = refl; place = refl }

takes_one : (c : Course) (r : Fields) → first_code (suc c.place) c.script r ≡ None → Takes c (hears c (talk.Record r)) (with_row (suc c.place) c.script r)
takes_one c r none =
    let script : Script = script_at (suc c.place) c.script r in
    subst (λ p. Takes c p script) (sym (heard c r None (asks_no_totals (suc c.place) c.script r none) (code_same (suc c.place) c.script r none)))
    (takes c script (drop (length c.script.records) script.records))

-- ---- all records

none_first : (place : ℕ) (o : Option Code) (next : Option (ℕ × Code)) → or_next place o next ≡ None → (o ≡ None) × (next ≡ None)
none_first place None next e = (refl, e)
none_first place (Some c) next e = absurd (let no : ⊥ = cc e in no)

record Scripted (c : Course) (rows : List Fields) (script : Script) : Type 0 where
  pub script_is : (course_from c (map talk.Record rows)).script ≡ script
  pub answers : Each IsAcceptance (answered_from c (map talk.Record rows))

scripted_from : (place : ℕ) (s : Script) (rows : List Fields) (c : Course) → place ≡ suc c.place → s ≡ c.script → refusal_from place s rows ≡ None → Scripted c rows (script_from place s rows)
unfolding refusal_from script_from course_from answered_from
scripted_from place s [] c at is none = record { script_is = sym is; answers = tt }
scripted_from place s (r ∷ rows) c at is none =
    let k = none_first _ _ _ none in
    let one = takes_one c r (sym (λ i. first_code (at i) (is i) r) ∙ k.0) in
    let next : place + 1 ≡ suc (hears c (talk.Record r)).1.place = (let p = one.place in omega (arith, at, p)) in
    let all = scripted_from (place + 1) (with_row place s r) rows (hears c (talk.Record r)).1 next ((λ i. with_row (at i) (is i) r) ∙ sym one.script_is) k.1 in
    record { script_is = all.script_is; answers = (one.answer, all.answers) }

scripted : (rows : List Fields) → refusal_of rows ≡ None → Scripted unasked rows (script_of rows)
scripted rows none = scripted_from 1 nothing rows unasked refl refl none

pub scripted_accepted : (rows : List Fields) → refusal_of rows ≡ None → accepted (map talk.Record rows) ≡ script_of rows
scripted_accepted rows none = (scripted rows none).script_is

pub scripted_answers : (rows : List Fields) → refusal_of rows ≡ None → Each IsAcceptance (conversed (map talk.Record rows))
scripted_answers rows none = (scripted rows none).answers

pub scripted_lines : (rows : List Fields) → refusal_of rows ≡ None → lines_of (conversed (map talk.Record rows)) ≡ replayed (script_of rows)
scripted_lines rows none = conversed_replayed (map talk.Record rows) ∙ ap replayed (scripted_accepted rows none)
