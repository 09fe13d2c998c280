-- The first record of a line is guessed as that line.
use Rattle.std.proofs.Common.{◌≡◌, ◌<◌, ◌+◌, ◌∙◌, ℕ, zero, suc, List, [], ◌∷◌, ◌++◌, length, map, get_or, Option, Some, None, refl, sym, ap, arith}
use Rattle.std.specs.Prelude.{IsTrue, IfSome, codes, option_map}
use Rattle.std.proofs.lemmas.Bool.{false≢true}
use Rattle.hg_base.specs.declared.rid.TableId.{TableId}
use Rattle.hg_base.specs.declared.statement.Statement.{Statement}
use Rattle.hg_base.specs.declared.statement.Statement.TheVariants.{Begin, Get, Put, Del, Scan, CursorOpen, Fetch, CursorClose, Commit as CommitIt, Rollback, Gc}
use Rattle.hg_base.specs.declared.report.Kind.{Kind}
use Rattle.hg_base.specs.declared.report.Kind.TheVariants as kinds
use Rattle.hg_base.specs.declared.report.Sweep.{Sweep}
use Rattle.hg_base.specs.declared.writer.Writer.{Writer}
use Rattle.hg_base.specs.declared.line.Answer.{Answer}
use Rattle.hg_base.specs.declared.line.Answer.TheVariants.{Begun, Stored, Found, Nothing, Gone, Rows, Committed, Ended, Undone, Newer, OpenBy, Undeclared, Swept, Beside}
use Rattle.hg_base.specs.declared.value.Value.{Value}
use Rattle.hg_base.specs.Script.{Declaration}
use Rattle.hg_base.specs.Text.{Field, Fits64, FitsRefusal, FitsBegin, FitsGet, FitsPut, FitsDel, FitsScan, FitsFetch, FitsClose, FitsCommit, FitsRollback, FitsSweep, FitsGc, FitsAnswer}
use Rattle.hg_base.specs.Text.{answer_fields, kind_word, told_as, kinds_of, value_field, is_write}
use Rattle.hg_records.specs.Bytes.{field_bytes}
use Rattle.hg_report.specs.Fields.{nth, natural_at}
use Rattle.hg_records.specs.Asked.{asked_by}
use Rattle.hg_report.specs.Guess.{answer_guess, get_guess, put_guess, del_guess, scan_guess, commit_guess, gc_guess, refusal_guess, sweep_guess, kind_guess, number_guess}
use Rattle.hg_report.proofs.ReadBack.{number_read, session_read, row_read}
use Rattle.hg_report.proofs.Columns.{HasColumns, AreFew}

-- an answer without its rows or held snapshots
abbrev pub emptied : Answer → Answer
emptied (Rows rows) = Rows []
emptied (Swept sweep) = Swept (record sweep { held = [] })
emptied answer = answer

kind_read : (fields : List Field) (i : ℕ) (kind : Kind) → nth fields i ≡ field_bytes (kind_word kind) → kind_guess fields i ≡ kind
unfolding field_bytes
kind_read fields i kinds.Group e = rw e refl
kind_read fields i kinds.Table e = rw e refl
kind_read fields i kinds.Interval e = rw e refl

abbrev make : Kind → ℕ → ℕ → ℕ → Sweep
make kind mark horizon removed = record { kind = kind; mark = mark; horizon = horizon; removed = removed; held = [] }

same_make : (k k' : Kind) (m m' h h' r r' : ℕ) → k ≡ k' → m ≡ m' → h ≡ h' → r ≡ r' → make k m h r ≡ make k' m' h' r'
same_make k k' m m' h h' r r' a b c d = ap (λ x. make x m h r) a ∙ ap (λ x. make k' x h r) b ∙ ap (λ x. make k' m' x r) c ∙ ap (λ x. make k' m' h' x) d

get-or-front : (xs ys : List Field) (k : ℕ) → k < length xs → get_or (xs ++ ys) k [] ≡ get_or xs k []
get-or-front [] ys k h = absurd (omega arith)
get-or-front (x ∷ xs) ys zero h = refl
get-or-front (x ∷ xs) ys (suc k) h = get-or-front xs ys k (omega arith)

length_fields : (row : List Value) → length (map value_field row) ≡ length row
length_fields [] = refl
length_fields (v ∷ vs) = ap suc (length_fields vs)

-- from i on these stand
pub record AreFrom (stood : List Field) (i : ℕ) (rest : List Field) : Type 0 where
  pub first : nth stood i ≡ field_bytes (nth rest 0)
  pub later : (k : ℕ) → nth stood (i + k) ≡ field_bytes (nth rest k)

module _ (tables : List Declaration) (fields : List Field) (i : ℕ) (tail : List Field) where
  abbrev pub Answers : Answer → Type 0
  Answers answer = AreFrom fields i (answer_fields tables answer ++ tail)

  pub sweep_read : (sweep : Sweep) → Answers (Swept sweep) → FitsSweep sweep → sweep_guess fields i ≡ record sweep { held = [] }
  sweep_read sweep are h = same_make _ _ _ _ _ _ _ _ (kind_read fields (i + 1) sweep.kind (are.later 1)) (number_read fields (i + 2) sweep.mark h.0 (are.later 2))
      (number_read fields (i + 3) sweep.horizon h.1 (are.later 3)) (number_read fields (i + 4) sweep.removed h.2 (are.later 4))

  same_writer : (a b : ℕ) (writer : Writer) → a ≡ writer.session → b ≡ writer.transaction → OpenBy (record { session = a; transaction = b }) ≡ OpenBy writer
  same_writer a b writer e f = ap (λ x. OpenBy (record { session = x; transaction = b })) e ∙ ap (λ x. OpenBy (record { session = writer.session; transaction = x })) f

  undeclared : (table other : TableId) → other.0 ≡ table.0 → Undeclared table ≡ Undeclared other
  undeclared table other h = ap (λ n. Undeclared (record { 0 = n })) (sym h)

  refused_first : (table : TableId) (answer : Answer) → FitsRefusal table answer → nth (answer_fields tables answer ++ tail) 0 ≡ codes "refused"
  refused_first table (Newer c) h = refl
  refused_first table (OpenBy writer) h = refl
  refused_first table (Undeclared other) h = refl
  refused_first table answer h = absurd h

  refusal_same : (table : TableId) (answer : Answer) → FitsRefusal table answer → answer ≡ emptied answer
  refusal_same table (Newer c) h = refl
  refusal_same table (OpenBy writer) h = refl
  refusal_same table (Undeclared other) h = refl
  refusal_same table answer h = absurd h

  refusal_read : (table : TableId) (answer : Answer) → Answers answer → FitsRefusal table answer → refusal_guess table fields i ≡ answer
  unfolding field_bytes
  refusal_read table (Newer c) are h = rw (are.later 1) (ap Newer (number_read fields (i + 2) c h (are.later 2)))
  refusal_read table (OpenBy writer) are h = rw (are.later 1) (same_writer _ _ writer (session_read fields (i + 2) writer.session h.0 (are.later 2))
      (number_read fields (i + 3) writer.transaction h.1 (are.later 3)))
  refusal_read table (Undeclared other) are h = rw (are.later 1) (undeclared table other h)
  refusal_read table answer are h = absurd h

  begin_read : (answer : Answer) → Answers answer → FitsBegin answer → Some (Begun (natural_at fields (i + 1))) ≡ Some (emptied answer)
  begin_read (Begun s) are h = ap (λ n. Some (Begun n)) (number_read fields (i + 1) s h (are.later 1))
  begin_read answer are h = absurd h

  row_field : (row : List Value) → Answers (Found row) → (k : ℕ) → k < length row → nth fields ((i + 1) + k) ≡ field_bytes (nth (map value_field row) k)
  row_field row are k h =
      let at : (i + 1) + k ≡ i + suc k = omega arith in
      ap (nth fields) at ∙ are.later (suc k) ∙ ap field_bytes (get-or-front (map value_field row) tail k (rw length_fields h))

  get_read : (table : TableId) (answer : Answer) → Answers answer → AreFew (kinds_of tables table) → FitsGet tables table answer → get_guess tables table fields i ≡ Some (emptied answer)
  unfolding field_bytes
  get_read table (Found row) are few h = rw are.first (ap (λ o. option_map Found o) (row_read fields (i + 1) (kinds_of tables table) row h few (row_field row are)))
  get_read table Nothing are few h = rw are.first refl
  get_read table (Undeclared other) are few h = rw are.first (ap Some (undeclared table other h))
  get_read table answer are few h = absurd h

  put_refused : (table : TableId) (answer : Answer) → Answers answer → FitsRefusal table answer → put_guess table fields i ≡ emptied answer
  unfolding field_bytes
  put_refused table answer are h = rw (are.first ∙ ap field_bytes (refused_first table answer h)) (refusal_read table answer are h ∙ refusal_same table answer h)

  put_read : (table : TableId) (answer : Answer) → Answers answer → FitsPut table answer → put_guess table fields i ≡ emptied answer
  unfolding field_bytes
  put_read table Stored are h = rw are.first refl
  put_read table answer are h = put_refused table answer are h

  del_refused : (table : TableId) (answer : Answer) → Answers answer → FitsRefusal table answer → del_guess table fields i ≡ emptied answer
  unfolding field_bytes
  del_refused table answer are h = rw (are.first ∙ ap field_bytes (refused_first table answer h)) (refusal_read table answer are h ∙ refusal_same table answer h)

  del_read : (table : TableId) (answer : Answer) → Answers answer → FitsDel table answer → del_guess table fields i ≡ emptied answer
  unfolding field_bytes
  del_read table Gone are h = rw are.first refl
  del_read table Nothing are h = rw are.first refl
  del_read table answer are h = del_refused table answer are h

  scan_read : (table : TableId) (answer : Answer) → Answers answer → FitsScan tables table answer → scan_guess table fields i ≡ emptied answer
  unfolding field_bytes
  scan_read table (Rows rows) are h = rw are.first refl
  scan_read table (Undeclared other) are h = rw are.first (undeclared table other h)
  scan_read table answer are h = absurd h

  fetch_read : (cursor : Option TableId) (answer : Answer) → FitsFetch tables cursor answer → option_map (λ table. Rows []) cursor ≡ Some (emptied answer)
  fetch_read None answer h = absurd h
  fetch_read (Some table) (Rows rows) h = refl
  fetch_read (Some table) answer h = absurd h

  close_read : (answer : Answer) → FitsClose answer → Ended ≡ emptied answer
  close_read Ended h = refl
  close_read answer h = absurd h

  commit_read : (answer : Answer) → Answers answer → FitsCommit answer → commit_guess fields i ≡ emptied answer
  unfolding field_bytes
  commit_read (Committed c) are h = rw are.first (ap Committed (number_read fields (i + 1) c h (are.later 1)))
  commit_read Ended are h = rw are.first refl
  commit_read answer are h = absurd h

  rollback_read : (answer : Answer) → FitsRollback answer → Undone ≡ emptied answer
  rollback_read Undone h = refl
  rollback_read answer h = absurd h

  gc_read : (answer : Answer) → Answers answer → FitsGc answer → gc_guess fields i ≡ emptied answer
  unfolding field_bytes
  gc_read Beside are h = rw are.first refl
  gc_read (Swept sweep) are h = rw are.first (ap Swept (sweep_read sweep are h))
  gc_read answer are h = absurd h

  pub answer_read : (cursor : Option TableId) (statement : Statement) (answer : Answer) → Answers answer → HasColumns tables cursor statement →
      FitsAnswer tables cursor statement answer → answer_guess tables (asked_by cursor statement) fields i ≡ Some (emptied answer)
  answer_read cursor (Begin scope) answer are few h = begin_read answer are h
  answer_read cursor (Get r) answer are few h = get_read r.table answer are few.0 h
  answer_read cursor (Put r row) answer are few h = ap Some (put_read r.table answer are h)
  answer_read cursor (Del r) answer are few h = ap Some (del_read r.table answer are h)
  answer_read cursor (Scan table low high) answer are few h = ap Some (scan_read table answer are h)
  answer_read cursor (CursorOpen table low high) answer are few h = begin_read answer are h
  answer_read cursor (Fetch n) answer are few h = fetch_read cursor answer h
  answer_read cursor CursorClose answer are few h = ap Some (close_read answer h)
  answer_read cursor CommitIt answer are few h = ap Some (commit_read answer are h)
  answer_read cursor Rollback answer are few h = ap Some (rollback_read answer h)
  answer_read cursor (Gc kind) answer are few h = ap Some (gc_read answer are h)

-- the commit number behind a stored write
pub number_behind : (tables : List Declaration) (fields : List Field) (i : ℕ) (answer : Answer) (number : Option ℕ) →
    Answers tables fields i (told_as (codes "committed") number) answer → IfSome number (λ c. Fits64 c × IsTrue (is_write answer))
    → number_guess answer fields i ≡ number
unfolding field_bytes
number_behind tables fields i Stored None are h = rw (are.later 1) refl
number_behind tables fields i Stored (Some c) are h = rw (are.later 1) (ap Some (number_read fields (i + 2) c h.0 (are.later 2)))
number_behind tables fields i Gone None are h = rw (are.later 1) refl
number_behind tables fields i Gone (Some c) are h = rw (are.later 1) (ap Some (number_read fields (i + 2) c h.0 (are.later 2)))
number_behind tables fields i answer None are h = refl
number_behind tables fields i answer (Some c) are h = absurd (false≢true h.1)
