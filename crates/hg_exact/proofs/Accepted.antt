-- Each statement of the records that broke no rule has an answer, whatever its place.
use Rattle.std.proofs.Common.{◌≡◌, ◌∙◌, ℕ, suc, ◌≤◌, List, [], ◌∷◌, ◌++◌, length, drop, Bool, true, false, Option, Some, None, refl, sym, ap, subst, arith}
use Rattle.std.specs.Prelude.{min, if◌then◌else◌}
use Rattle.std.specs.Option.{option_map_or}
use Rattle.hg_base.specs.declared.limits.TheConstants.{MOST_RECORDS}
use Rattle.hg_base.specs.declared.statement.Record.{Record}
use Rattle.hg_base.specs.declared.statement.Statement.{Statement}
use Rattle.hg_base.specs.Lists.{Each}
use Rattle.hg_base.specs.Number.{value_of}
use Rattle.hg_base.specs.Script.{Script}
use Rattle.std.proofs.lemmas.List.{length_push, same_from_push}
use Rattle.hg_base.proofs.ListFacts.{each_snoc}
use Rattle.hg_script.specs.declared.code.Code.{Code}
use Rattle.hg_script.specs.declared.columns.Columns.{Columns}
use Rattle.hg_script.specs.declared.draft.Draft.{Draft}
use Rattle.hg_script.specs.declared.draft.Draft.TheVariants.{Version, Table, Session}
use Rattle.hg_script.specs.declared.judge.Judged.TheVariants as says
use Rattle.hg_script.specs.declared.word.Word.{Word}
use Rattle.hg_script.specs.declared.word.Word.TheVariants as word
use Rattle.hg_script.specs.Draft.{columns_by, draft_of}
use Rattle.hg_script.specs.Fields.{Fields, nth, word_of}
use Rattle.hg_script.specs.Judging.{IsJudged, Known, code_at, script_at}
use Rattle.hg_script.specs.Lawful.{HasNumbers, IsAccepted}
use Rattle.hg_script.specs.Meaning.{draft_code, kinds_in, nothing, read_as, statement_of, with_draft, with_row}
use Rattle.hg_script.proofs.Accepting.{session_accepted}
use Rattle.hg_script.proofs.Fitting.{columns-fit}
use Rattle.hg_script.proofs.Growth.{keeps, lies}
use Rattle.hg_script.proofs.Judging.{by_word, draft_kept, read_alike}
use Rattle.hg_talk.specs.Framing as talk
use Rattle.hg_talk.specs.Framing.{Sent}
use Rattle.hg_exact.specs.Conversed.{Answered, Course, accepted, asks_totals, counted, course_from, hears, judged, taken, unasked}
use Rattle.hg_script.specs.Rules.{is_open, is_reading}
use Rattle.hg_exact.specs.Lawful.{AreAnswered, MayAsk}
use Rattle.hg_exact.specs.Replayed.{step}
use Rattle.hg_exact.specs.State.{State, start}
use Rattle.hg_exact.proofs.Asked.{Holds, held_more, may_ask}
use Rattle.hg_exact.proofs.Conversing.{after, after_one}

-- ---- what each record that breaks no rule keeps is kept

module _ (P : Script → Type 0) (more : (place : ℕ) (s : Script) (r : Fields) → code_at place s r ≡ None → P s → P (script_at place s r)) where
  taken_keeps : (c : Course) (script : Script) (rs : List Record) → P script → P (taken c script rs).1.script
  taken_keeps c script [] k = k
  taken_keeps c script (r ∷ rs) k = k

  judged_keeps : (c : Course) (script : Script) (code : Option Code) → (code ≡ None → P script) → P c.script → P (judged c script code).1.script
  judged_keeps c script (Some code) new old = old
  judged_keeps c script None new old = taken_keeps c script (drop (length c.script.records) script.records) (new refl)

  heard_keeps : (c : Course) (b : Bool) (p : Answered × Course) → P p.1.script → P c.script → P (if b then counted c else p).1.script
  heard_keeps c true p new old = old
  heard_keeps c false p new old = new

  hears_keeps : (c : Course) (x : Sent) → P c.script → P (hears c x).1.script
  hears_keeps c talk.Long old = old
  hears_keeps c (talk.Record r) old = heard_keeps c (asks_totals r) _
      (judged_keeps c (script_at (suc c.place) c.script r) (code_at (suc c.place) c.script r) (λ none. more (suc c.place) c.script r none old) old) old

  pub course_keeps : (c : Course) (sent : List Sent) → P c.script → P (course_from c sent).script
  unfolding course_from
  course_keeps c [] old = old
  course_keeps c (x ∷ sent) old = course_keeps (hears c x).1 sent (hears_keeps c x old)

-- ---- the tables of version 1 have numbers alone

HasOld : Script → Type 0
HasOld s = s.version ≡ 1 → Each HasNumbers s.tables

table_numbers : (s : Script) (r : Fields) (w : Word) (fresh : Bool) (cols : Columns) → draft_of s.version s.tables w r ≡ Table fresh cols → draft_code s (Table fresh cols) ≡ None → s.version ≡ 1 →
    Each HasNumbers s.tables → Each HasNumbers (s.tables ++ (record { name = nth r 1; kinds = kinds_in cols }) ∷ [])
table_numbers s r word.Table fresh cols is none one each =
    let same : columns_by s.version (nth r 2) ≡ cols = cc is in
    let k = keeps s (Table fresh cols) none in
    each_snoc HasNumbers s.tables (record { name = nth r 1; kinds = kinds_in cols }) each
    (subst (λ (x : Columns). HasNumbers (record { name = nth r 1; kinds = kinds_in x })) same
    ((columns-fit s.version (nth r 2) (rw same k.number) (rw same k.range)).numbers one))
table_numbers s r word.Version fresh cols is none one each = absurd (let no : ⊥ = cc is in no)
table_numbers s r word.Begin fresh cols is none one each = absurd (let no : ⊥ = cc is in no)
table_numbers s r word.Get fresh cols is none one each = absurd (let no : ⊥ = cc is in no)
table_numbers s r word.Put fresh cols is none one each = absurd (let no : ⊥ = cc is in no)
table_numbers s r word.Del fresh cols is none one each = absurd (let no : ⊥ = cc is in no)
table_numbers s r word.Scan fresh cols is none one each = absurd (let no : ⊥ = cc is in no)
table_numbers s r word.Commit fresh cols is none one each = absurd (let no : ⊥ = cc is in no)
table_numbers s r word.Rollback fresh cols is none one each = absurd (let no : ⊥ = cc is in no)
table_numbers s r word.Gc fresh cols is none one each = absurd (let no : ⊥ = cc is in no)
table_numbers s r word.Open fresh cols is none one each = absurd (let no : ⊥ = cc is in no)
table_numbers s r word.Fetch fresh cols is none one each = absurd (let no : ⊥ = cc is in no)
table_numbers s r word.Close fresh cols is none one each = absurd (let no : ⊥ = cc is in no)

old_draft : (place : ℕ) (s : Script) (r : Fields) (o : Option Draft) → read_as place s r ≡ o → code_at place s r ≡ None → HasOld s → HasOld (option_map_or (with_draft place s r) o s)
unfolding HasOld
old_draft place s r None is none old = old
old_draft place s r (Some (Version version)) is none old =
    let k = keeps s (Version version) (draft_kept (min place MOST_RECORDS) s r (Version version) none (read_alike place s r ∙ is)) in
    let lie = lies 2 2 version k.range in
    λ one. absurd (omega (arith, one, lie.some))
old_draft place s r (Some (Table fresh cols)) is none old =
    let same : read_as (min place MOST_RECORDS) s r ≡ Some (Table fresh cols) = read_alike place s r ∙ is in
    let w = by_word s r (word_of (min place MOST_RECORDS) r) (Table fresh cols) same in
    λ one. table_numbers s r w.0 fresh cols w.1 (draft_kept (min place MOST_RECORDS) s r (Table fresh cols) none same) one (old one)
old_draft place s r (Some (Session session ask)) is none old = old

old_more : (place : ℕ) (s : Script) (r : Fields) → code_at place s r ≡ None → HasOld s → HasOld (script_at place s r)
unfolding with_row
old_more place s r none old = old_draft place s r (read_as place s r) refl none old

-- ---- the next statement

longer : {A : Type 0} (xs : List A) (x : A) → xs ≡ xs ++ x ∷ [] → ⊥
longer xs x e = let one = length_push xs x in let same = ap length e in omega (arith, one, same)

added_one : (place : ℕ) (s : Script) (r : Fields) (session : ℕ) (statement : Statement) (o : Option Draft) → read_as place s r ≡ o → HasOld s → code_at place s r ≡ None →
    (option_map_or (with_draft place s r) o s).records ≡ s.records ++ (record { place = place; session = session; statement = statement }) ∷ [] → IsAccepted s session statement
unfolding HasOld
added_one place s r session statement None is old none made = absurd (longer s.records _ made)
added_one place s r session statement (Some (Version version)) is old none made = absurd (longer s.records _ made)
added_one place s r session statement (Some (Table fresh cols)) is old none made = absurd (longer s.records _ made)
added_one place s r session statement (Some (Session number ask)) is old none made =
    let same = (same_from_push s.records s.records _ _ made).1 in
    subst (λ (x : Record). IsAccepted s x.session x.statement) same (session_accepted place s r number ask old none is)

pub next_accepted : (sent : List Sent) (r : Fields) (session : ℕ) (statement : Statement) (new : Known) →
    IsJudged (suc (length sent)) (accepted sent) r (says.Asked session statement) new → IsAccepted (accepted sent) session statement
unfolding HasOld with_row
next_accepted sent r session statement new j =
    added_one (suc (length sent)) (accepted sent) r session statement (read_as (suc (length sent)) (accepted sent) r) refl (course_keeps HasOld old_more unasked sent (λ one. tt)) j.0
    (ap (λ (t : Script). t.records) j.2)

-- ---- all statements

answered_one : (s : State) (rs : List Record) (r : Record) → AreAnswered s rs → 1 ≤ r.session → MayAsk ((after s rs).opened r.session) r.statement → AreAnswered s (rs ++ r ∷ [])
unfolding after
answered_one s [] r h some may = (some, may, tt)
answered_one s (q ∷ rs) r h some may = (h.0, h.1, answered_one (step s q.session q.statement).1 rs r h.2 some may)

-- each statement has an answer, and what each session has open is what it opened
record Stand (n : ℕ) (s : Script) : Type 0 where
  pub old : HasOld s
  pub answered : AreAnswered (start n) s.records
  pub held : (j : ℕ) → Holds s.records (after (start n) s.records) j

stand_draft : (n place : ℕ) (s : Script) (r : Fields) (o : Option Draft) → read_as place s r ≡ o → code_at place s r ≡ None → Stand n s → Stand n (option_map_or (with_draft place s r) o s)
unfolding HasOld
stand_draft n place s r None is none k = k
stand_draft n place s r (Some (Version version)) is none k = record { old = old_draft place s r (Some (Version version)) is none k.old; answered = k.answered; held = k.held }
stand_draft n place s r (Some (Table fresh cols)) is none k = record { old = old_draft place s r (Some (Table fresh cols)) is none k.old; answered = k.answered; held = k.held }
stand_draft n place s r (Some (Session session ask)) is none k =
    let is_accepted = session_accepted place s r session ask k.old none is in
    let one : Record = record { place = place; session = value_of session; statement = statement_of ask } in
    let now : State = after (start n) s.records in
    record {
      old = k.old;
      answered = answered_one (start n) s.records one k.answered is_accepted.some
          (may_ask (is_open one.session s.records) (is_reading one.session s.records) (now.opened one.session) one.statement (k.held one.session) is_accepted.stands is_accepted.widths);
      held = λ j. subst (λ t. Holds (s.records ++ one ∷ []) t j) (sym (after_one (start n) s.records one)) (held_more s.records now one k.held is_accepted.stands j);
    }

stand_more : (n place : ℕ) (s : Script) (r : Fields) → code_at place s r ≡ None → Stand n s → Stand n (script_at place s r)
unfolding with_row
stand_more n place s r none k = stand_draft n place s r (read_as place s r) refl none k

stand_none : (n : ℕ) → Stand n nothing
unfolding after HasOld
stand_none n = record { old = λ one. tt; answered = tt; held = λ j. (refl, refl) }

pub all_answered : (sent : List Sent) (sessions : ℕ) → AreAnswered (start sessions) (accepted sent).records
all_answered sent sessions = (course_keeps (Stand sessions) (stand_more sessions) unasked sent (stand_none sessions)).answered
