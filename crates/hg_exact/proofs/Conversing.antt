-- What a conversation answers to statements is what a replay of the records that broke no rule prints.
use Rattle.std.proofs.Common.{◌≡◌, ◌⊎◌, inl, inr, ◌∙◌, ℕ, suc, List, [], ◌∷◌, ◌+◌, ◌++◌, ◌≤◌, zero, length, map, take, drop, arith, Bool, true, false, Option, Some, None, refl, sym, ap, subst, append_assoc, append-nil}
use Rattle.std.specs.Prelude.{if◌then◌else◌, ⊤}
use Rattle.std.specs.Option.{option_map_or}
use Rattle.std.proofs.lemmas.List.{drop_all, take-map}
use Rattle.hg_base.specs.declared.limits.TheConstants.{MOST_SESSIONS}
use Rattle.hg_base.specs.declared.statement.Record.{Record}
use Rattle.hg_base.specs.Lists.{Each, greatest}
use Rattle.hg_base.specs.Script.{Script, replay}
use Rattle.hg_base.specs.Sound.{all_said}
use Rattle.hg_base.specs.Text.{Field}
use Rattle.hg_script.specs.declared.code.Code.{Code}
use Rattle.hg_script.specs.declared.draft.Draft.{Draft}
use Rattle.hg_script.specs.declared.draft.Draft.TheVariants.{Version, Table, Session}
use Rattle.hg_script.specs.Fields.{Fields}
use Rattle.hg_script.specs.Judging.{code_at, script_at}
use Rattle.hg_script.specs.Meaning.{read_as, with_draft, with_row}
use Rattle.hg_script.proofs.Judging.{session_within}
use Rattle.hg_talk.specs.Framing as talk
use Rattle.hg_talk.specs.Framing.{Sent}
use Rattle.hg_exact.specs.AnswerText.{AreAnswers, IsBalanced, answer_text, plain_answered}
use Rattle.hg_exact.specs.Conversed.{Answered, Course, accepted, answered_from, asks_totals, conversed, counted, course_from, hears, judged, lines_of, passed, taken, unasked}
use Rattle.hg_exact.specs.Conversed.{Declared, Bad, TooLong, Replied, Counted}
use Rattle.hg_exact.specs.Replayed.{lines_from, replayed, step}
use Rattle.hg_exact.specs.SoFar.{totals_so_far}
use Rattle.hg_exact.specs.State.{State, start}
use Rattle.hg_exact.proofs.FewSessions.{more_sessions}

-- ---- lists

pub none_dropped : {A : Type 0} (xs : List A) → drop (length xs) xs ≡ []
none_dropped xs = drop_all (length xs) xs (omega arith)

pub rest_dropped : {A : Type 0} (xs ys : List A) → drop (length xs) (xs ++ ys) ≡ ys
rest_dropped [] ys = refl
rest_dropped (x ∷ xs) ys = rest_dropped xs ys

-- ---- lines

-- what is known after some records
unfoldable pub after : State → List Record → State
after s [] = s
after s (r ∷ rs) = after (step s r.session r.statement).1 rs

pub lines_more : (s : State) (xs ys : List Record) → lines_from s (xs ++ ys) ≡ lines_from s xs ++ lines_from (after s xs) ys
unfolding after
lines_more s [] ys = refl
lines_more s (x ∷ xs) ys = ap (λ ls. (record { session = x.session; place = x.place; reply = (step s x.session x.statement).0 }) ∷ ls) (lines_more (step s x.session x.statement).1 xs ys)

pub after_more : (s : State) (xs ys : List Record) → after s (xs ++ ys) ≡ after (after s xs) ys
unfolding after
after_more s [] ys = refl
after_more s (x ∷ xs) ys = after_more (step s x.session x.statement).1 xs ys

-- after one record more
pub after_one : (s : State) (xs : List Record) (r : Record) → after s (xs ++ r ∷ []) ≡ (step (after s xs) r.session r.statement).1
unfolding after
after_one s xs r = after_more s xs (r ∷ [])

-- after none
pub after_none : (s : State) → after s [] ≡ s
unfolding after
after_none s = refl

pub lines_next : (a : Answered) (more : List Answered) → lines_of (a ∷ more) ≡ lines_of (a ∷ []) ++ lines_of more
lines_next (Declared place) more = refl
lines_next (Bad place code) more = refl
lines_next (TooLong place) more = refl
lines_next (Replied tables line) more = refl
lines_next (Counted totals) more = refl

-- the same at the end
pub lines_one : (answers : List Answered) (a : Answered) → lines_of (answers ++ a ∷ []) ≡ lines_of answers ++ lines_of (a ∷ [])
lines_one [] a = refl
lines_one (b ∷ answers) a = lines_next b (answers ++ a ∷ []) ∙ ap (λ ls. lines_of (b ∷ []) ++ ls) (lines_one answers a) ∙
    sym (append_assoc (lines_of (b ∷ [])) (lines_of answers) (lines_of (a ∷ []))) ∙ ap (λ ls. ls ++ lines_of (a ∷ [])) (sym (lines_next b answers))

-- ---- one record

-- A record adds no statement to the script, or one, which is of a session that there may be if the record breaks no rule.
Grows : Script → Script → Option Code → Type 0
Grows s t code = (t.records ≡ s.records) ⊎ ((r : Record) × (t.records ≡ s.records ++ r ∷ []) × (code ≡ None → r.session ≤ MOST_SESSIONS))

read_grows : (place : ℕ) (s : Script) (r : Fields) (o : Option Draft) → read_as place s r ≡ o → Grows s (option_map_or (with_draft place s r) o s) (code_at place s r)
unfolding Grows
read_grows place s r None is = inl refl
read_grows place s r (Some (Version version)) is = inl refl
read_grows place s r (Some (Table fresh cols)) is = inl refl
read_grows place s r (Some (Session session ask)) is = inr (_, refl, λ none. session_within place s r session ask none is)

grows : (place : ℕ) (s : Script) (r : Fields) → Grows s (script_at place s r) (code_at place s r)
unfolding with_row
grows place s r = read_grows place s r (read_as place s r) refl

-- totals among the answers are those of a replay of the script so far
abbrev pub IsCounted : Course → Answered → Type 0
IsCounted c (Counted totals) = totals ≡ totals_so_far (all_said replay c.script (replayed c.script))
IsCounted c _ = ⊤

-- These records were added, and the answer has their lines.
pub record Adds (c : Course) (p : Answered × Course) : Type 0 where
  pub added : List Record
  pub records : p.1.script.records ≡ c.script.records ++ added
  pub lines : lines_of (p.0 ∷ []) ≡ lines_from c.state added
  pub state : p.1.state ≡ after c.state added
  pub most : greatest (map (λ (r : Record). r.session) added) ≤ MOST_SESSIONS
  pub place : p.1.place ≡ suc c.place
  pub totals : IsCounted c p.0

adds_passed : (c : Course) (a : Answered) → lines_of (a ∷ []) ≡ [] → IsCounted c a → Adds c (a, passed c)
unfolding after
adds_passed c a none counts = record { added = []; records = sym (append-nil c.script.records); lines = none; state = refl; most = omega arith; place = refl; totals = counts }

adds_none : (c : Course) (script : Script) → script.records ≡ c.script.records → Adds c (taken c script [])
unfolding after
adds_none c script same = record { added = []; records = same ∙ sym (append-nil c.script.records); lines = refl; state = refl; most = omega arith; place = refl; totals = tt }

adds_one : (c : Course) (script : Script) (r : Record) → script.records ≡ c.script.records ++ r ∷ [] → r.session ≤ MOST_SESSIONS → Adds c (taken c script (r ∷ []))
unfolding after
adds_one c script r same most = record { added = r ∷ []; records = same; lines = refl; state = refl; most = omega (arith, most); place = refl; totals = tt }

adds_judged : (c : Course) (script : Script) (code : Option Code) → Grows c.script script code → Adds c (judged c script code)
unfolding Grows
adds_judged c script (Some code) g = adds_passed c (Bad (suc c.place) code) refl tt
adds_judged c script None (inl same) = subst (λ more. Adds c (taken c script more)) (sym (ap (drop (length c.script.records)) same ∙ none_dropped c.script.records)) (adds_none c script same)
adds_judged c script None (inr g) =
    subst (λ more. Adds c (taken c script more)) (sym (ap (drop (length c.script.records)) g.1 ∙ rest_dropped c.script.records (g.0 ∷ []))) (adds_one c script g.0 g.1 (g.2 refl))

adds_counted : (c : Course) → Adds c (counted c)
adds_counted c = adds_passed c (Counted (totals_so_far (all_said replay c.script (replayed c.script)))) refl refl

adds_if : (c : Course) (b : Bool) (p : Answered × Course) → Adds c p → Adds c (if b then counted c else p)
adds_if c true p a = adds_counted c
adds_if c false p a = a

pub adds : (c : Course) (x : Sent) → Adds c (hears c x)
adds c talk.Long = adds_passed c (TooLong (suc c.place)) refl tt
adds c (talk.Record r) = adds_if c (asks_totals r) _ (adds_judged c (script_at (suc c.place) c.script r) (code_at (suc c.place) c.script r) (grows (suc c.place) c.script r))

-- ---- all records

record Goes (c : Course) (sent : List Sent) : Type 0 where
  pub added : List Record
  pub records : (course_from c sent).script.records ≡ c.script.records ++ added
  pub lines : lines_of (answered_from c sent) ≡ lines_from c.state added
  pub most : greatest (map (λ (r : Record). r.session) added) ≤ MOST_SESSIONS

pub greatest_both : (most : ℕ) (xs ys : List Record) → greatest (map (λ (r : Record). r.session) xs) ≤ most → greatest (map (λ (r : Record). r.session) ys) ≤ most →
    greatest (map (λ (r : Record). r.session) (xs ++ ys)) ≤ most
greatest_both most [] ys h k = k
greatest_both most (x ∷ xs) ys h k = let more = greatest_both most xs ys (omega (arith, h)) k in omega (arith, h, more)

goes : (c : Course) (sent : List Sent) → Goes c sent
unfolding answered_from course_from
goes c [] = record { added = []; records = sym (append-nil c.script.records); lines = refl; most = omega arith }
goes c (x ∷ sent) =
    let one = adds c x in
    let more = goes (hears c x).1 sent in
    record {
      added = one.added ++ more.added;
      records = more.records ∙ ap (λ rs. rs ++ more.added) one.records ∙ append_assoc c.script.records one.added more.added;
      lines = lines_next (hears c x).0 (answered_from (hears c x).1 sent) ∙ ap (λ ls. ls ++ lines_of (answered_from (hears c x).1 sent)) one.lines ∙
          ap (λ ls. lines_from c.state one.added ++ ls) (more.lines ∙ ap (λ s. lines_from s more.added) one.state) ∙ sym (lines_more c.state one.added more.added);
      most = greatest_both MOST_SESSIONS one.added more.added one.most more.most;
    }

pub conversed_replayed : (sent : List Sent) → lines_of (conversed sent) ≡ replayed (accepted sent)
conversed_replayed sent =
    let all = goes unasked sent in
    all.lines ∙ more_sessions MOST_SESSIONS all.added all.most ∙ ap (λ (rs : List Record). lines_from (start (greatest (map (λ (r : Record). r.session) rs))) rs) (sym all.records)

-- ---- the first of them

first_from : (n : ℕ) (c : Course) (sent : List Sent) → answered_from c (take n sent) ≡ take n (answered_from c sent)
unfolding answered_from
first_from zero c sent = refl
first_from (suc n) c [] = refl
first_from (suc n) c (x ∷ sent) = ap (λ more. (hears c x).0 ∷ more) (first_from n (hears c x).1 sent)

pub conversed_first : (n : ℕ) (sent : List Sent) → conversed (take n sent) ≡ take n (conversed sent)
conversed_first n sent = first_from n unasked sent

each_first : {A : Type 0} (P : A → Type 0) (n : ℕ) (xs : List A) → Each P xs → Each P (take n xs)
each_first P zero xs h = tt
each_first P (suc n) [] h = tt
each_first P (suc n) (x ∷ xs) h = (h.0, each_first P n xs h.1)

pub answers_first : (row : List Field → List ℕ) (n : ℕ) (sent : List Sent) (texts : List (List ℕ)) → AreAnswers row sent texts → AreAnswers row (take n sent) (take n texts)
answers_first row n sent texts a = record {
  answers = take n a.answers;
  exact = sym (take-map plain_answered n a.answers) ∙ ap (take n) a.exact ∙ sym (conversed_first n sent);
  written = ap (take n) a.written ∙ take-map (answer_text row) n a.answers;
  balanced = each_first IsBalanced n a.answers a.balanced;
}

-- ---- how a record is heard

-- a record that asks for the totals is answered by them
pub heard_totals : (c : Course) (r : Fields) → asks_totals r ≡ true → hears c (talk.Record r) ≡ counted c
heard_totals c r asks = ap (λ b. if b then counted c else judged c (script_at (suc c.place) c.script r) (code_at (suc c.place) c.script r)) asks

-- a record that does not ask for the totals is judged
pub heard : (c : Course) (r : Fields) (code : Option Code) → asks_totals r ≡ false → code_at (suc c.place) c.script r ≡ code →
    hears c (talk.Record r) ≡ judged c (script_at (suc c.place) c.script r) code
heard c r code asks is = ap (λ b. if b then counted c else judged c (script_at (suc c.place) c.script r) (code_at (suc c.place) c.script r)) asks ∙
    ap (judged c (script_at (suc c.place) c.script r)) is

-- ---- one more

pub course_more : (c : Course) (sent : List Sent) (x : Sent) → course_from c (sent ++ x ∷ []) ≡ (hears (course_from c sent) x).1
unfolding course_from
course_more c [] x = refl
course_more c (y ∷ sent) x = course_more (hears c y).1 sent x

pub answered_more : (c : Course) (sent : List Sent) (x : Sent) → answered_from c (sent ++ x ∷ []) ≡ answered_from c sent ++ (hears (course_from c sent) x).0 ∷ []
unfolding answered_from course_from
answered_more c [] x = refl
answered_more c (y ∷ sent) x = ap (λ more. (hears c y).0 ∷ more) (answered_more (hears c y).1 sent x)

place_from : (c : Course) (sent : List Sent) → (course_from c sent).place ≡ length sent + c.place
unfolding course_from
place_from c [] = omega arith
place_from c (x ∷ sent) = let more = place_from (hears c x).1 sent in let one = (adds c x).place in omega (arith, more, one)

-- the place is the number of records
pub place_is : (sent : List Sent) → (course_from unasked sent).place ≡ length sent
place_is sent = let all = place_from unasked sent in omega (arith, all)
