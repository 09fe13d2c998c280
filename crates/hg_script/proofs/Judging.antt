-- A record that is judged when it comes.
use Rattle.std.proofs.Common.{◌≡◌, ◌≤◌, ◌∙◌, ℕ, Bool, true, false, ◌==◌, ◌&&◌, min, List, ◌∷◌, length, drop, Option, Some, None, is_none, option_map, nat_lt, refl, sym, ap, subst, arith, bytes_eq, codes}
use Rattle.std.proofs.lemmas.Bool.{or_parts}
use Rattle.std.proofs.lemmas.Bool.Decides.{nat_tests}
use Rattle.std.specs.Prelude.{if◌then◌else◌}
use Rattle.std.specs.Option.{option_map_or}
use Rattle.hg_base.specs.declared.limits.TheConstants.{MOST_RECORDS}
use Rattle.hg_base.specs.Script.{Script}
use Rattle.hg_script.specs.declared.code.Code.{Code}
use Rattle.hg_script.specs.declared.code.Code.TheVariants.{Count, Word as BadWord, Fields as BadFields, Number, Range}
use Rattle.hg_script.specs.declared.draft.Draft.{Draft}
use Rattle.hg_script.specs.declared.judge.Judged.{Judged}
use Rattle.hg_script.specs.declared.judge.Judged.TheVariants.{Declared, Asked, Broken}
use Rattle.hg_script.specs.declared.word.Word.{Word}
use Rattle.hg_script.specs.declared.word.Word.TheVariants.{Version as version, Table as table}
use Rattle.hg_script.specs.Draft.{draft_of}
use Rattle.hg_script.specs.Fields.{Fields, nth, statement_word, word_of}
use Rattle.hg_script.specs.Judging.{IsJudged, IsTaken, Known, Knows, Makes, code_at, script_at}
use Rattle.hg_script.specs.Meaning.{code_table, draft_code, first_broken, first_code, holds_of, read_as, with_draft, with_row}
use Rattle.hg_script.specs.Rules.{count_breaks, fields_breaks, number_breaks, range_breaks}
use Rattle.hg_base.specs.declared.limits.TheConstants.{MOST_SESSIONS}
use Rattle.hg_base.specs.declared.number.Natural.{Natural}
use Rattle.hg_base.specs.Number.{value_of}
use Rattle.hg_script.specs.declared.draft.Ask.{Ask}
use Rattle.hg_script.specs.declared.draft.Draft.TheVariants.{Session}
use Rattle.hg_script.proofs.Growth.{lies, no-code}

-- ---- the table of codes

-- the first code of a table, by the truth of each test
code_first : (c : Code) (b : Bool) (more : List (Code × Bool)) → b ≡ true → first_broken ((c, b) ∷ more) ≡ Some c
code_first c b more h = ap (λ x. if x then Some c else first_broken more) h

code_next : (c : Code) (b : Bool) (more : List (Code × Bool)) → b ≡ false → first_broken ((c, b) ∷ more) ≡ first_broken more
code_next c b more h = ap (λ x. if x then Some c else first_broken more) h

tail_of : ℕ → ℕ → Script → Fields → List (Code × Bool)
tail_of n p s r = drop n (code_table p s r (word_of p r) (read_as p s r))

pub broken_count : (p : ℕ) (s : Script) (r : Fields) (w : Option Word) → word_of p r ≡ w → count_breaks p s.tables w ≡ true → first_code p s r ≡ Some Count
unfolding first_code tail_of
broken_count p s r w is h = code_first Count (count_breaks p s.tables (word_of p r)) (tail_of 1 p s r) (ap (count_breaks p s.tables) is ∙ h)

after_count : (p : ℕ) (s : Script) (r : Fields) (w : Option Word) → word_of p r ≡ w → count_breaks p s.tables w ≡ false → first_code p s r ≡ first_broken (tail_of 1 p s r)
unfolding first_code tail_of
after_count p s r w is h = code_next Count (count_breaks p s.tables (word_of p r)) (tail_of 1 p s r) (ap (count_breaks p s.tables) is ∙ h)

no_word : (p : ℕ) (s : Script) (r : Fields) → word_of p r ≡ None → first_broken (tail_of 1 p s r) ≡ Some BadWord
unfolding tail_of
no_word p s r is = code_first BadWord (is_none (word_of p r)) (tail_of 2 p s r) (ap is_none is)

after_word : (p : ℕ) (s : Script) (r : Fields) (w : Word) → word_of p r ≡ Some w → first_broken (tail_of 1 p s r) ≡ first_broken (tail_of 2 p s r)
unfolding tail_of
after_word p s r w is = code_next BadWord (is_none (word_of p r)) (tail_of 2 p s r) (ap is_none is)

has_fields : ℕ → Fields → Bool
has_fields p r = holds_of (λ w. fields_breaks w (length r)) (word_of p r)

bad_fields : (p : ℕ) (s : Script) (r : Fields) → has_fields p r ≡ true → first_broken (tail_of 2 p s r) ≡ Some BadFields
unfolding tail_of has_fields
bad_fields p s r h = code_first BadFields (has_fields p r) (tail_of 3 p s r) h

after_fields : (p : ℕ) (s : Script) (r : Fields) → has_fields p r ≡ false → first_broken (tail_of 2 p s r) ≡ first_broken (tail_of 3 p s r)
unfolding tail_of has_fields
after_fields p s r h = code_next BadFields (has_fields p r) (tail_of 3 p s r) h

fields_are : (p : ℕ) (r : Fields) (w : Word) (b : Bool) → word_of p r ≡ Some w → fields_breaks w (length r) ≡ b → has_fields p r ≡ b
unfolding has_fields
fields_are p r w b is h = ap (holds_of (λ w. fields_breaks w (length r))) is ∙ h

pub broken_word : (p : ℕ) (s : Script) (r : Fields) (w : Option Word) → word_of p r ≡ w → count_breaks p s.tables w ≡ false → w ≡ None → first_code p s r ≡ Some BadWord
broken_word p s r w is count none = after_count p s r w is count ∙ no_word p s r (is ∙ none)

pub broken_fields : (p : ℕ) (s : Script) (r : Fields) (w : Word) → word_of p r ≡ Some w → count_breaks p s.tables (Some w) ≡ false → fields_breaks w (length r) ≡ true →
    first_code p s r ≡ Some BadFields
broken_fields p s r w is count fields = after_count p s r (Some w) is count ∙ after_word p s r w is ∙ bad_fields p s r (fields_are p r w true is fields)

read_is : (p : ℕ) (s : Script) (r : Fields) (w : Word) → word_of p r ≡ Some w → read_as p s r ≡ Some (draft_of s.version s.tables w r)
read_is p s r w is = ap (λ o. option_map (λ word. draft_of s.version s.tables word r) o) is

rest_is : (p : ℕ) (s : Script) (r : Fields) (w : Word) → word_of p r ≡ Some w → first_broken (tail_of 3 p s r) ≡ draft_code s (draft_of s.version s.tables w r)
unfolding tail_of draft_code
rest_is p s r w is = ap (λ o. first_broken (drop 3 (code_table p s r (word_of p r) o))) (read_is p s r w is)

pub broken_after : (p : ℕ) (s : Script) (r : Fields) (w : Word) → word_of p r ≡ Some w → count_breaks p s.tables (Some w) ≡ false → fields_breaks w (length r) ≡ false →
    first_code p s r ≡ draft_code s (draft_of s.version s.tables w r)
broken_after p s r w is count fields = after_count p s r (Some w) is count ∙ after_word p s r w is ∙ after_fields p s r (fields_are p r w false is fields) ∙ rest_is p s r w is

-- ---- the place, which has no bound

first_alike : (place : ℕ) → (min place MOST_RECORDS == 1) ≡ (place == 1)
first_alike place = grind (arith, nat_tests)

pub word_alike : (place : ℕ) (r : Fields) → word_of (min place MOST_RECORDS) r ≡ word_of place r
word_alike place r = ap (λ b. if b && bytes_eq (nth r 0) (codes "version") then Some version else (if bytes_eq (nth r 0) (codes "table") then Some table else statement_word (nth r 1))) (first_alike place)

-- ---- what was taken

pub row_taken : (place : ℕ) (s : Script) (r : Fields) (w : Word) → word_of place r ≡ Some w → with_row place s r ≡ with_draft place s r (draft_of s.version s.tables w r)
unfolding with_row
row_taken place s r w is = ap (λ o. option_map_or (with_draft place s r) o s) (read_is place s r w is)

pub judged_taken : (place : ℕ) (s : Script) (r : Fields) (d : Draft) (judged : Judged) (new : Known) → code_at place s r ≡ None → script_at place s r ≡ with_draft place s r d →
    IsTaken place s r d judged new → IsJudged place s r judged new
judged_taken place s r d (Broken code) new none same t = absurd t.1
judged_taken place s r d Declared new none same t = (let moved = subst (λ u. Knows new u × Makes place s Declared u) (sym same) t in (none, moved.0, moved.1))
judged_taken place s r d (Asked session statement) new none same t = (let moved = subst (λ u. Knows new u × Makes place s (Asked session statement) u) (sym same) t in (none, moved.0, moved.1))

-- ---- what is accepted

pub read_alike : (place : ℕ) (s : Script) (r : Fields) → read_as (min place MOST_RECORDS) s r ≡ read_as place s r
read_alike place s r = ap (λ o. option_map (λ word. draft_of s.version s.tables word r) o) (word_alike place r)

code_none : (c : Code) (b : Bool) (more : List (Code × Bool)) → first_broken ((c, b) ∷ more) ≡ None → (b ≡ false) × (first_broken more ≡ None)
code_none c b more h = no-code b c (first_broken more) h

-- what breaks no rule is in range
range_kept : (p : ℕ) (s : Script) (r : Fields) → first_code p s r ≡ None → holds_of range_breaks (read_as p s r) ≡ false
unfolding first_code tail_of has_fields
range_kept p s r none =
    let a = code_none Count (count_breaks p s.tables (word_of p r)) (tail_of 1 p s r) none in
    let b = code_none BadWord (is_none (word_of p r)) (tail_of 2 p s r) a.1 in
    let c = code_none BadFields (has_fields p r) (tail_of 3 p s r) b.1 in
    let d = code_none Number (holds_of number_breaks (read_as p s r)) (tail_of 4 p s r) c.1 in
    let e = code_none Range (holds_of range_breaks (read_as p s r)) (tail_of 5 p s r) d.1 in
    e.0

-- a statement that breaks no rule is of a session that there may be
pub session_within : (place : ℕ) (s : Script) (r : Fields) (session : Natural) (ask : Ask) → code_at place s r ≡ None → read_as place s r ≡ Some (Session session ask) →
    value_of session ≤ MOST_SESSIONS
session_within place s r session ask none is =
    let range : range_breaks (Session session ask) ≡ false = sym (ap (holds_of range_breaks) (read_alike place s r ∙ is)) ∙ range_kept (min place MOST_RECORDS) s r none in
    (lies 1 MOST_SESSIONS session (or_parts _ _ range).0).most

-- the draft of a record that has one is that of its word
pub by_word : (s : Script) (r : Fields) (o : Option Word) (d : Draft) → option_map (λ word. draft_of s.version s.tables word r) o ≡ Some d →
    (w : Word) × (draft_of s.version s.tables w r ≡ d)
by_word s r None d e = absurd (let no : ⊥ = cc e in no)
by_word s r (Some w) d e = (w, let is : draft_of s.version s.tables w r ≡ d = cc e in is)

-- what breaks no rule keeps those of its draft
pub draft_kept : (p : ℕ) (s : Script) (r : Fields) (d : Draft) → first_code p s r ≡ None → read_as p s r ≡ Some d → draft_code s d ≡ None
unfolding first_code tail_of has_fields draft_code
draft_kept p s r d none is =
    let a = code_none Count (count_breaks p s.tables (word_of p r)) (tail_of 1 p s r) none in
    let b = code_none BadWord (is_none (word_of p r)) (tail_of 2 p s r) a.1 in
    let c = code_none BadFields (has_fields p r) (tail_of 3 p s r) b.1 in
    sym (ap (λ o. first_broken (drop 3 (code_table p s r (word_of p r) o))) is) ∙ c.1
