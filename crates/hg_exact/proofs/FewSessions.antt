-- How many sessions there are makes no difference, as long as none above them has anything open.
use Rattle.std.proofs.Common.{◌≡◌, ◌≢◌, ◌∙◌, ◌≤◌, ◌<◌, ◌+◌, ◌==◌, ℕ, zero, suc, List, [], ◌∷◌, map, false, Option, Some, None, is_some, refl, sym, ap, arith}
use Rattle.std.specs.Prelude.{filter_map, if◌then◌else◌}
use Rattle.std.specs.List.{cons_option}
use Rattle.hg_base.specs.declared.rid.Rid.{Rid}
use Rattle.hg_base.specs.declared.line.Answer.{Answer}
use Rattle.hg_base.specs.declared.line.Answer.TheVariants.{Gone, Nothing, Stored, Swept}
use Rattle.hg_base.specs.declared.report.Kind.{Kind}
use Rattle.hg_base.specs.declared.statement.Record.{Record}
use Rattle.hg_base.specs.declared.statement.Statement.{Statement}
use Rattle.hg_base.specs.declared.statement.Statement.TheVariants.{Begin, Get, Put, Del, Scan, CursorOpen, Fetch, CursorClose, Commit, Rollback, Gc}
use Rattle.hg_base.specs.Lists.{greatest, numbers_from}
use Rattle.hg_base.specs.Transcript.{only, table_of}
use Rattle.std.proofs.lemmas.Bool.Decides.{Decides-eqb}
use Rattle.hg_base.proofs.ListFacts.{cases}
use Rattle.hg_exact.specs.State.{Open, State, but, mark, next, start}
use Rattle.hg_exact.specs.Answers.{answer_in, declared, has_written, newest, report, sees, told_of, unless_refused, writer_of, writers, written}
use Rattle.hg_exact.specs.Replayed.{alone, inside, lines_from, number_for, stands, step, within}

-- ---- lists

none_of : {A : Type 0} (f : ℕ → Option A) (n many : ℕ) → ((j : ℕ) → n ≤ j → f j ≡ None) → filter_map f (numbers_from n many) ≡ []
none_of f n zero h = refl
none_of f n (suc many) h =
    ap (λ o. cons_option o (filter_map f (numbers_from (suc n) many))) (h n (omega arith)) ∙ none_of f (suc n) many (λ j k. h j (omega (arith, k)))

fewer : {A : Type 0} (f : ℕ → Option A) (from n m : ℕ) → n ≤ m → ((j : ℕ) → from + n ≤ j → f j ≡ None) → filter_map f (numbers_from from m) ≡ filter_map f (numbers_from from n)
fewer f from zero m le h = none_of f from m (λ j k. h j (omega (arith, k)))
fewer f from (suc n) zero le h = absurd (omega (arith, le))
fewer f from (suc n) (suc m) le h = ap (λ xs. cons_option (f from) xs) (fewer f (suc from) n m (omega (arith, le)) (λ j k. h j (omega (arith, k))))

-- ---- one state

-- no session above n has anything open
record Few (n : ℕ) (s : State) : Type 0 where
  pub many : n ≤ s.sessions
  pub none : (j : ℕ) → n < j → s.opened j ≡ None

-- the same state, with so many sessions
abbrev of : ℕ → State → State
of n s = record s { sessions = n }

writers_few : (n : ℕ) (s : State) (r : Rid) → Few n s → writers (of n s) r ≡ writers s r
writers_few n s r few = sym (fewer (λ j. writer_of r j (s.opened j)) 1 n s.sessions few.many (λ j k. ap (writer_of r j) (few.none j (omega (arith, k)))))

report_few : (n : ℕ) (s : State) (kind : Kind) → Few n s → report (of n s) kind ≡ report s kind
report_few n s kind few = ap (λ held. record { kind = kind; mark = mark s; horizon = mark s; removed = 0; held = held })
    (sym (fewer (λ j. told_of j (s.opened j)) 1 n s.sessions few.many (λ j k. ap (told_of j) (few.none j (omega (arith, k))))))

written_few : (n : ℕ) (s : State) (o : Open) (r : Rid) (a : Answer) → Few n s → written (of n s) o r a ≡ written s o r a
written_few n s o r a few = ap (λ ws. if has_written r o then a else unless_refused ws (newest s.history r) o.at a) (writers_few n s r few)

answer_few : (n : ℕ) (s : State) (o : Open) (st : Statement) → Few n s → answer_in (of n s) o st ≡ answer_in s o st
answer_few n s o (Begin scope) few = refl
answer_few n s o (CursorOpen table low high) few = refl
answer_few n s o (Get r) few = refl
answer_few n s o (Scan table low high) few = refl
answer_few n s o (Fetch k) few = refl
answer_few n s o CursorClose few = refl
answer_few n s o (Put r row) few = ap (declared o r.table) (written_few n s o r Stored few)
answer_few n s o (Del r) few = ap (λ w. declared o r.table (if is_some (sees s o r).row then w else Nothing)) (written_few n s o r Gone few)
answer_few n s o Commit few = refl
answer_few n s o Rollback few = refl
answer_few n s o (Gc kind) few = ap Swept (report_few n s kind few)

stands_few : (n : ℕ) (s : State) (j : ℕ) (o : Option Open) (st : Statement) → Few n s → stands (of n s) j o st ≡ ((stands s j o st).0, of n (stands s j o st).1)
stands_few n s j (Some o) st few = ap (λ a. (inside a, within (of n s) j o st a)) (answer_few n s o st few)
stands_few n s j None st few =
    ap (λ a. (record { at = Some (mark s); answer = a; number = number_for s st a }, alone (of n s) j (next s j (only (table_of st)) None) st a))
    (answer_few n s (next s j (only (table_of st)) None) st few)

step_few : (n : ℕ) (s : State) (j : ℕ) (st : Statement) → Few n s → step (of n s) j st ≡ ((step s j st).0, of n (step s j st).1)
step_few n s j (Begin scope) few = refl
step_few n s j (CursorOpen table low high) few = refl
step_few n s j (Gc kind) few = ap (λ r. (inside (Swept r), of n s)) (report_few n s kind few)
step_few n s j (Get r) few = stands_few n s j (s.opened j) (Get r) few
step_few n s j (Put r row) few = stands_few n s j (s.opened j) (Put r row) few
step_few n s j (Del r) few = stands_few n s j (s.opened j) (Del r) few
step_few n s j (Scan table low high) few = stands_few n s j (s.opened j) (Scan table low high) few
step_few n s j (Fetch k) few = stands_few n s j (s.opened j) (Fetch k) few
step_few n s j CursorClose few = stands_few n s j (s.opened j) CursorClose few
step_few n s j Commit few = stands_few n s j (s.opened j) Commit few
step_few n s j Rollback few = stands_few n s j (s.opened j) Rollback few

-- ---- the state after it

-- a step of session j is no other's
record Keeps (s t : State) (j : ℕ) : Type 0 where
  pub sessions : t.sessions ≡ s.sessions
  pub opened : (k : ℕ) → k ≢ j → t.opened k ≡ s.opened k

not_same : (k j : ℕ) → k ≢ j → (k == j) ≡ false
not_same k j apart = cases (k == j) (λ same. absurd (apart ((Decides-eqb k j).0 same))) (λ e. e)

but_other : {A : Type 0} (f : ℕ → A) (j : ℕ) (value : A) (k : ℕ) → k ≢ j → but f j value k ≡ f k
but_other f j value k apart = ap (λ b. if b then value else f k) (not_same k j apart)

stands_keeps : (s : State) (j : ℕ) (o : Option Open) (st : Statement) → Keeps s (stands s j o st).1 j
stands_keeps s j (Some o) st = record { sessions = refl; opened = λ k apart. but_other s.opened j _ k apart }
stands_keeps s j None st = record { sessions = refl; opened = λ k apart. refl }

step_keeps : (s : State) (j : ℕ) (st : Statement) → Keeps s (step s j st).1 j
step_keeps s j (Begin scope) = record { sessions = refl; opened = λ k apart. but_other s.opened j _ k apart }
step_keeps s j (CursorOpen table low high) = record { sessions = refl; opened = λ k apart. but_other s.opened j _ k apart }
step_keeps s j (Gc kind) = record { sessions = refl; opened = λ k apart. refl }
step_keeps s j (Get r) = stands_keeps s j (s.opened j) (Get r)
step_keeps s j (Put r row) = stands_keeps s j (s.opened j) (Put r row)
step_keeps s j (Del r) = stands_keeps s j (s.opened j) (Del r)
step_keeps s j (Scan table low high) = stands_keeps s j (s.opened j) (Scan table low high)
step_keeps s j (Fetch k) = stands_keeps s j (s.opened j) (Fetch k)
step_keeps s j CursorClose = stands_keeps s j (s.opened j) CursorClose
step_keeps s j Commit = stands_keeps s j (s.opened j) Commit
step_keeps s j Rollback = stands_keeps s j (s.opened j) Rollback

few_more : (n : ℕ) (s : State) (j : ℕ) (st : Statement) → j ≤ n → Few n s → Few n (step s j st).1
few_more n s j st within few =
    let keeps = step_keeps s j st in
    record {
      many = (let m = few.many in let same = keeps.sessions in omega (arith, m, same));
      none = λ k above. keeps.opened k (λ same. omega (arith, above, same, within)) ∙ few.none k above;
    }

-- ---- all lines

lines_few : (n : ℕ) (s : State) (rs : List Record) → greatest (map (λ (r : Record). r.session) rs) ≤ n → Few n s → lines_from (of n s) rs ≡ lines_from s rs
lines_few n s [] most few = refl
lines_few n s (r ∷ rs) most few =
    let here : r.session ≤ n = omega (arith, most) in
    let later : greatest (map (λ (r : Record). r.session) rs) ≤ n = omega (arith, most) in
    ap (λ p. (record { session = r.session; place = r.place; reply = p.0 }) ∷ lines_from p.1 rs) (step_few n s r.session r.statement few) ∙
    ap (λ ls. (record { session = r.session; place = r.place; reply = (step s r.session r.statement).0 }) ∷ ls)
    (lines_few n (step s r.session r.statement).1 rs later (few_more n s r.session r.statement here few))

-- more sessions than a script has make no difference
pub more_sessions : (most : ℕ) (rs : List Record) → greatest (map (λ (r : Record). r.session) rs) ≤ most →
    lines_from (start most) rs ≡ lines_from (start (greatest (map (λ (r : Record). r.session) rs))) rs
more_sessions most rs h = sym (lines_few (greatest (map (λ (r : Record). r.session) rs)) (start most) rs (omega arith) (record { many = h; none = λ j above. refl }))
