-- What is printed of a reply is read as that reply.
use Rattle.std.proofs.Common.{◌≡◌, ℕ, suc, ◌<◌, ◌^◌, List, [], ◌∷◌, ◌++◌, length, take, drop, map, Bool, true, false, Option, Some, None, refl, sym, ap, ◌∙◌, arith}
use Rattle.std.specs.Prelude.{IsTrue, IfSome, codes, decimal, if◌then◌else◌}
use Rattle.std.specs.Str.{bytes_eq}
use Rattle.std.proofs.lemmas.Bool.{false≢true}
use Rattle.std.proofs.lemmas.List.{append-nil}
use Rattle.std.proofs.Math.Seq.{take-append_seam, drop-append_seam}
use Rattle.hg_base.specs.declared.rid.TableId.{TableId}
use Rattle.hg_base.specs.declared.report.Kind.{Kind}
use Rattle.hg_base.specs.declared.report.Kind.TheVariants as kinds
use Rattle.hg_base.specs.declared.report.Told.{Told}
use Rattle.hg_base.specs.declared.report.Sweep.{Sweep}
use Rattle.hg_base.specs.declared.writer.Writer.{Writer}
use Rattle.hg_base.specs.declared.line.Answer.{Answer}
use Rattle.hg_base.specs.declared.line.Answer.TheVariants.{Begun, Stored, Found, Gone, Rows, Committed, Newer, OpenBy, Undeclared, Swept}
use Rattle.hg_base.specs.declared.line.Line.{Line}
use Rattle.hg_base.specs.declared.value.Column.{Column}
use Rattle.hg_base.specs.declared.value.Value.{Value}
use Rattle.hg_base.specs.declared.value.Value.TheVariants.{Number, Text}
use Rattle.hg_base.specs.Lists.{Each}
use Rattle.hg_base.specs.Values.{FitsColumns, FitsValue, kind_of}
use Rattle.hg_base.specs.Script.{Declaration}
use Rattle.hg_base.specs.Text.{Field, Fits64, Fits32, FitsSweep, kinds_of, value_field, kind_word, answer_fields, held_fields, row_fields, more_fields, told_as, of_line, is_write}
use Rattle.hg_base.proofs.TextNumbers.{number_of, number_read, value_read}
use Rattle.hg_base.proofs.TextFits.{IsPlain}
use Rattle.hg_base.proofs.TextReading.{says, begins_held, is_held, told_in, held_in, after_held, values_in, row_in, kind_in, sweep_in, answer_in, after_reply, commit_in, at_in, after_at}

-- each value is read in a column of its kind, whatever fields stand behind the row
same_kinds_read : (row : List Value) (tail : List Field) → Each FitsValue row → values_in (map kind_of row) (map value_field row ++ tail) ≡ row
unfolding values_in
same_kinds_read [] tail h = refl
same_kinds_read (Number v ∷ vs) tail h = rw (value_read v h.0, same_kinds_read vs tail h.1)
same_kinds_read (Text t ∷ vs) tail h = ap (λ rest. Text t ∷ rest) (same_kinds_read vs tail h.1)

pub values_read : (kinds : List Column) (row : List Value) (tail : List Field) → FitsColumns kinds row → values_in kinds (map value_field row ++ tail) ≡ row
values_read kinds row tail h = ap (λ ks. values_in ks (map value_field row ++ tail)) (sym h.0) ∙ same_kinds_read row tail h.1

row_read : (kinds : List Column) (line : Line) (p : ℕ × List Value) → Fits64 p.0 × FitsColumns kinds p.1 → row_in kinds (of_line line (row_fields p)) ≡ p
row_read kinds line p h =
    let values : values_in kinds (map value_field p.1) ≡ p.1 = ap (values_in kinds) (sym (append-nil (map value_field p.1))) ∙ values_read kinds p.1 [] h.1 in
    rw (number_read p.0 h.0, values)

rows_read : (kinds : List Column) (line : Line) (rows : List (ℕ × List Value)) → Each (λ p. Fits64 p.0 × FitsColumns kinds p.1) rows →
    map (row_in kinds) (map (of_line line) (map row_fields rows)) ≡ rows
rows_read kinds line [] h = refl
rows_read kinds line (p ∷ ps) h = rw (row_read kinds line p h.0, rows_read kinds line ps h.1)

moved_read : (moved : Bool) → bytes_eq (if moved then codes "moved" else codes "unmoved") (codes "moved") ≡ moved
moved_read true = refl
moved_read false = refl

told_read : (line : Line) (told : Told) → Fits32 told.session × Fits64 told.number → told_in (of_line line (held_fields told)) ≡ told
told_read line told h =
    let session : told.session < 2 ^ 64 = omega (arith, h.0) in
    rw (number_read told.session session, number_read told.number h.1, moved_read told.moved)

held_read : (line : Line) (held : List Told) (rest : List (List Field)) → Each (λ told. Fits32 told.session × Fits64 told.number) held → begins_held rest ≡ false →
    held_in (map (of_line line) (map held_fields held) ++ rest) ≡ held
held_read line [] [] h e = refl
held_read line [] (fields ∷ more) h e = rw e
held_read line (told ∷ others) rest h e = rw (told_read line told h.0, held_read line others rest h.1 e)

held_left : (line : Line) (held : List Told) (rest : List (List Field)) → begins_held rest ≡ false → after_held (map (of_line line) (map held_fields held) ++ rest) ≡ rest
held_left line [] [] e = refl
held_left line [] (fields ∷ more) e = rw e
held_left line (told ∷ others) rest e = held_left line others rest e

kind_read : (kind : Kind) → kind_in (kind_word kind) ≡ kind
kind_read kinds.Group = refl
kind_read kinds.Table = refl
kind_read kinds.Interval = refl

abbrev row_records : Line → List (ℕ × List Value) → List (List Field)
row_records line rows = map (of_line line) (map row_fields rows)

row_records_length : (line : Line) (rows : List (ℕ × List Value)) → length (row_records line rows) ≡ length rows
row_records_length line [] = refl
row_records_length line (p ∷ ps) = ap suc (row_records_length line ps)

-- as many records as the rows are
module _ (kinds : List Column) (line : Line) (rows : List (ℕ × List Value)) (rest : List (List Field)) (small : Fits64 (length rows)) where
  many_read : number_of (decimal (length rows)) ≡ length (row_records line rows)
  many_read = number_read (length rows) small ∙ sym (row_records_length line rows)

  first_rows : Each (λ p. Fits64 p.0 × FitsColumns kinds p.1) rows → map (row_in kinds) (take (number_of (decimal (length rows))) (row_records line rows ++ rest)) ≡ rows
  first_rows h =
      ap (λ n. map (row_in kinds) (take n (row_records line rows ++ rest))) many_read
      ∙ ap (map (row_in kinds)) (take-append_seam (row_records line rows) rest)
      ∙ rows_read kinds line rows h

  rows_left : drop (number_of (decimal (length rows))) (row_records line rows ++ rest) ≡ rest
  rows_left = ap (λ n. drop n (row_records line rows ++ rest)) many_read ∙ drop-append_seam (row_records line rows) rest

sweep_read : (line : Line) (sweep : Sweep) (tail : List Field) (rest : List (List Field)) → FitsSweep sweep → begins_held rest ≡ false →
    sweep_in (codes "swept" ∷ kind_word sweep.kind ∷ decimal sweep.mark ∷ decimal sweep.horizon ∷ decimal sweep.removed ∷ tail) (map (of_line line) (map held_fields sweep.held) ++ rest) ≡ Swept sweep
sweep_read line sweep tail rest h e = rw (kind_read sweep.kind, number_read sweep.mark h.0, number_read sweep.horizon h.1, number_read sweep.removed h.2, held_read line sweep.held rest h.3 e)

writer_read : (writer : Writer) → Fits32 writer.session × Fits64 writer.transaction →
    OpenBy (record { session = number_of (decimal writer.session); transaction = number_of (decimal writer.transaction) }) ≡ OpenBy writer
writer_read writer h =
    let session : writer.session < 2 ^ 64 = omega (arith, h.0) in
    rw (number_read writer.session session, number_read writer.transaction h.1)

table_read : (table other : TableId) → other.0 ≡ table.0 → Undeclared table ≡ Undeclared other
table_read table other h = ap (λ n. Undeclared (record { 0 = n })) (sym h)

-- every answer is read, where a commit number stands only behind a stored write
module _ (tables : List Declaration) (table : TableId) (line : Line) (rest : List (List Field)) (end : begins_held rest ≡ false) where
  pub answer_read : (answer : Answer) (number : Option ℕ) → IsPlain tables table answer → IfSome number (λ c. Fits64 c × IsTrue (is_write answer)) →
      answer_in tables table (answer_fields tables answer ++ told_as (codes "committed") number) (map (of_line line) (more_fields answer) ++ rest) ≡ answer
  answer_read (Begun s) number h k = ap Begun (number_read s h)
  answer_read (Found row) None h k = ap Found (values_read (kinds_of tables table) row [] h)
  answer_read (Found row) (Some c) h k = absurd (false≢true k.1)
  answer_read (Rows rows) number h k = ap Rows (first_rows (kinds_of tables table) line rows rest h.0 h.1)
  answer_read (Committed c) number h k = ap Committed (number_read c h)
  answer_read (Newer c) number h k = ap Newer (number_read c h)
  answer_read (OpenBy writer) number h k = writer_read writer h
  answer_read (Undeclared other) number h k = table_read table other h
  answer_read (Swept sweep) number h k = sweep_read line sweep (told_as (codes "committed") number) rest h end
  answer_read answer number h k = refl

  pub records_left : (answer : Answer) (tail : List Field) → IsPlain tables table answer → after_reply (answer_fields tables answer ++ tail) (map (of_line line) (more_fields answer) ++ rest) ≡ rest
  records_left (Rows rows) tail h = rows_left (kinds_of tables table) line rows rest h.0
  records_left (Swept sweep) tail h = held_left line sweep.held rest end
  records_left answer tail h = refl

module _ (tables : List Declaration) where
  pub commit_read : (answer : Answer) (number : Option ℕ) → IfSome number (λ c. Fits64 c × IsTrue (is_write answer)) →
      commit_in (answer_fields tables answer ++ told_as (codes "committed") number) ≡ number
  commit_read Stored None h = refl
  commit_read Stored (Some c) h = ap Some (number_read c h.0)
  commit_read Gone None h = refl
  commit_read Gone (Some c) h = ap Some (number_read c h.0)
  commit_read answer None h = refl
  commit_read answer (Some c) h = absurd (false≢true h.1)

  -- no answer begins with `at` or `held`
  pub answer_begins : (answer : Answer) (tail : List Field) → (says 0 (answer_fields tables answer ++ tail) (codes "at") ≡ false) ×
      (says 0 (answer_fields tables answer ++ tail) (codes "held") ≡ false)
  answer_begins Stored tail = (refl, refl)
  answer_begins answer tail = (refl, refl)

-- behind a snapshot, or behind none
module _ (fields tail : List Field) (other : says 0 (fields ++ tail) (codes "at") ≡ false) where
  pub at_read : (at : Option ℕ) → IfSome at Fits64 → at_in (told_as (codes "at") at ++ fields ++ tail) ≡ at
  at_read None h = rw other
  at_read (Some s) h = ap Some (number_read s h)

  pub at_left : (at : Option ℕ) → after_at (told_as (codes "at") at ++ fields ++ tail) ≡ fields ++ tail
  at_left None = rw other
  at_left (Some s) = refl

-- a record behind a snapshot is no held snapshot's where its answer does not begin as one
pub behind_at : (s p : Field) (fields tail : List Field) (at : Option ℕ) → says 0 (fields ++ tail) (codes "held") ≡ false → is_held (s ∷ p ∷ (told_as (codes "at") at ++ fields ++ tail)) ≡ false
behind_at s p fields tail None e = e
behind_at s p fields tail (Some n) e = refl
