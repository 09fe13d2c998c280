-- One step and then others, what is known of a line's records, and the records of the totals.
use Rattle.std.proofs.Common.{◌≡◌, ◌<◌, ◌+◌, ◌∙◌, ℕ, suc, List, [], ◌∷◌, ◌++◌, length, Bool, true, false, ◌&&◌, Option, Some, None, nat_lt, refl, sym, ap, subst}
use Rattle.std.proofs.Common.{arith}
use Rattle.std.specs.Prelude.{codes, decimal, bytes_eq, if◌then◌else◌}
use Rattle.std.proofs.lemmas.Bool.{lt-ltb}
use Rattle.std.proofs.lemmas.Bool.Decides.{nat_tests}
use Rattle.std.proofs.lemmas.List.{append-nil}
use Rattle.hg_base.specs.declared.rid.TableId.{TableId}
use Rattle.hg_base.specs.declared.statement.Statement.{Statement}
use Rattle.hg_base.specs.declared.statement.Statement.TheVariants.{Scan, Fetch, Gc}
use Rattle.hg_base.specs.declared.report.Told.{Told}
use Rattle.hg_base.specs.declared.report.Sweep.{Sweep}
use Rattle.hg_base.specs.declared.line.Answer.TheVariants.{Rows, Swept}
use Rattle.hg_base.specs.declared.line.Line.{Line}
use Rattle.hg_base.specs.declared.line.Totals.{Totals}
use Rattle.hg_base.specs.declared.value.Value.{Value}
use Rattle.hg_base.specs.Lists.{Each}
use Rattle.hg_base.specs.Script.{Declaration, Script}
use Rattle.hg_base.specs.Transcript.{table_of}
use Rattle.hg_base.specs.Text.{Field, Fits64, FitTotals, FitsAnswer, FitsSweep, kinds_of}
use Rattle.hg_base.specs.Text.{told_as, total_fields, totals_records}
use Rattle.hg_base.proofs.TextNumbers.{number_is_no_word}
use Rattle.hg_records.specs.Bytes.{field_bytes}
use Rattle.hg_transcript.specs.declared.piece.Piece.{Piece}
use Rattle.hg_transcript.specs.declared.piece.Piece.TheVariants as piece
use Rattle.hg_report.specs.declared.progress.Open.{Open}
use Rattle.hg_report.specs.declared.progress.Open.TheVariants as opens
use Rattle.hg_report.specs.declared.progress.Progress.{Progress}
use Rattle.hg_report.specs.Fields.{nth, says}
use Rattle.hg_records.specs.Asked.{asked_by}
use Rattle.hg_transcript.specs.Piece.{behind, total_word}
use Rattle.hg_report.specs.Guess.{first_guess, the_table}
use Rattle.hg_report.specs.Progress.{guess_after, lines_of, no_totals, totals_of, with_total, after, standing, IsNext, Runs}
use Rattle.hg_report.proofs.Fitting.{IsFree, FitsKey, fetch_no_sweep}
use Rattle.hg_report.proofs.ReadBack.{number_read}
use Rattle.hg_report.proofs.Columns.{HasColumns, AreFew}
use Rattle.hg_report.proofs.Unquoted.{field_stands, says_no}

-- ---- one step, and then others

pub runs_append : (script : Script) (a b c : Progress) (xs ys : List (List Field)) → Runs script a xs b → Runs script b ys c → Runs script a (xs ++ ys) c
runs_append script a b c [] ys h k = subst (λ (p : Progress). Runs script p ys c) h k
runs_append script a b c (x ∷ xs) ys (next, is, more) k = (next, is, runs_append script (after a next) b c xs ys more k)

one : (script : Script) (a : Progress) (fields : List Field) (next : Piece) → IsNext script a fields next → Runs script a (fields ∷ []) (after a next)
one script a fields next h = (next, h, refl)

-- a record that is no held snapshot's is the first of a line or of the totals
pub free_guess : (script : Script) (state : Open) (fields : List Field) → IsFree state → says fields 2 (codes "held") ≡ false → guess_after script state fields ≡ first_guess script fields
free_guess script opens.Nothing fields free h = refl
free_guess script (opens.Scan session place at table left rows) fields free h = let none : nat_lt 0 left ≡ false = grind (arith, nat_tests, free) in rw none refl
free_guess script (opens.Sweep session place sweep) fields free h = rw h refl
free_guess script (opens.Totals index totals) fields free h = absurd free

free_totals : (state : Open) → IsFree state → totals_of state ≡ no_totals
free_totals opens.Nothing free = refl
free_totals (opens.Scan session place at table left rows) free = refl
free_totals (opens.Sweep session place sweep) free = refl
free_totals (opens.Totals index totals) free = absurd free

-- ---- the totals

abbrev record_of : ℕ → ℕ → ℕ → ℕ → ℕ → ℕ → Totals
record_of made undone group table interval left = record { made = made; undone = undone; group = group; table = table; interval = interval; left = left }

pub four_behind : (s p w k : Field) (rest : List Field) (i : ℕ) → nth (standing (s ∷ p ∷ w ∷ k ∷ rest)) (4 + i) ≡ field_bytes (nth rest i)
four_behind s p w k rest i = let at : 4 + i ≡ suc (suc (suc (suc i))) = omega arith in ap (nth (standing (s ∷ p ∷ w ∷ k ∷ rest))) at ∙ field_stands rest i

pub two_behind : (s p : Field) (rest : List Field) (i : ℕ) → nth (standing (s ∷ p ∷ rest)) (2 + i) ≡ field_bytes (nth rest i)
two_behind s p rest i = let at : 2 + i ≡ suc (suc i) = omega arith in ap (nth (standing (s ∷ p ∷ rest))) at ∙ field_stands rest i

pub and_none : (b : Bool) → (b && false) ≡ false
and_none true = refl
and_none false = refl

-- the first record of a scan's rows has no number behind it
pub scan_head : (session place left : ℕ) (at : Option ℕ) → behind session place (told_as (codes "at") at ++ codes "rows" ∷ decimal left ∷ []) ≡ behind session place
    ((told_as (codes "at") at ++ codes "rows" ∷ decimal left ∷ []) ++ [])
scan_head session place left None = refl
scan_head session place left (Some s) = refl

pub record ScanFacts (tables : List Declaration) (table : TableId) (rows : List (ℕ × List Value)) : Type 0 where
  pub few : AreFew (kinds_of tables table)
  pub many : Fits64 (length rows)
  pub each : Each (FitsKey tables table) rows

fetch_facts : (tables : List Declaration) (cursor : Option TableId) (n : ℕ) (rows : List (ℕ × List Value)) → FitsAnswer tables cursor (Fetch n) (Rows rows) →
    HasColumns tables cursor (Fetch n) → ScanFacts tables (the_table (asked_by cursor (Fetch n))) rows
fetch_facts tables None n rows h few = absurd h
fetch_facts tables (Some table) n rows h few = record { few = few.1; many = h.0; each = h.1 }

pub scan_facts : (tables : List Declaration) (cursor : Option TableId) (statement : Statement) (rows : List (ℕ × List Value)) → FitsAnswer tables cursor statement (Rows rows) →
    HasColumns tables cursor statement → ScanFacts tables (the_table (asked_by cursor statement)) rows
scan_facts tables cursor (Scan table low high) rows h few = record { few = few.0; many = h.0; each = h.1 }
scan_facts tables cursor (Fetch n) rows h few = fetch_facts tables cursor n rows h few
scan_facts tables cursor statement rows h few = absurd h

pub sweep_facts : (tables : List Declaration) (cursor : Option TableId) (statement : Statement) (sweep : Sweep) → FitsAnswer tables cursor statement (Swept sweep) → FitsSweep sweep ×
    (table_of statement ≡ None)
sweep_facts tables cursor (Gc kind) sweep h = (h, refl)
sweep_facts tables cursor (Fetch n) sweep h = absurd (fetch_no_sweep tables cursor n sweep h)
sweep_facts tables cursor statement sweep h = absurd h

pub moved_read : (moved : Bool) → bytes_eq (field_bytes (if moved then codes "moved" else codes "unmoved")) (codes "moved") ≡ moved
unfolding field_bytes
moved_read true = refl
moved_read false = refl

abbrev make_told : ℕ → ℕ → Bool → Told
make_told session number moved = record { session = session; number = number; moved = moved }

pub same_told : (s s' n n' : ℕ) (m m' : Bool) → s ≡ s' → n ≡ n' → m ≡ m' → make_told s n m ≡ make_told s' n' m'
same_told s s' n n' m m' a b c = ap (λ x. make_told x n m) a ∙ ap (λ x. make_told s' x m) b ∙ ap (λ x. make_told s' n' x) c

module _ (script : Script) where
  abbrev pub telling : List Line → ℕ → Totals → Progress
  telling lines index totals = record { lines = lines; last = opens.Totals index totals }

  total_step : (lines : List Line) (index number : ℕ) (t : Totals) (rest : List (List Field)) (end : Progress) → index < 6 → Fits64 number
      → Runs script (telling lines (index + 1) (with_total index number t)) rest end → Runs script (telling lines index t) (total_fields (total_word index) number ∷ rest) end
  total_step lines index number t rest end h k runs =
      let fields = total_fields (total_word index) number in
      let guess : guess_after script (opens.Totals index t) (standing fields) ≡ Some (piece.Total index number) =
      rw (lt-ltb index 6 h) (ap (λ n. Some (piece.Total index n)) (number_read (standing fields) 2 number k refl)) in (
        piece.Total index number,
        record { guess = guess; is = refl },
        subst (λ (lines : List Line). Runs script (telling lines (index + 1) (with_total index number t)) rest end)
            (sym (append-nil lines)) runs,
      )

  total_first : (progress : Progress) (number : ℕ) (rest : List (List Field)) (end : Progress) → IsFree progress.last → Fits64 number
      → Runs script (telling (lines_of progress) 1 (with_total 0 number no_totals)) rest end → Runs script progress (total_fields (codes "made") number ∷ rest) end
  unfolding field_bytes
  total_first progress number rest end free k runs =
      let fields = total_fields (codes "made") number in
      let guess : guess_after script progress.last (standing fields) ≡ Some (piece.Total 0 number) =
      free_guess script progress.last (standing fields) free (says_no fields 2 104 _ refl (number_is_no_word number 104 _ k (omega arith))) ∙
      ap (λ n. Some (piece.Total 0 n)) (number_read (standing fields) 2 number k refl) in (
        piece.Total 0 number,
        record { guess = guess; is = refl },
        subst (λ (t : Totals). Runs script (telling (lines_of progress) 1 (with_total 0 number t)) rest end)
            (sym (free_totals progress.last free)) runs,
      )

  pub totals_run : (progress : Progress) (t : Totals) → IsFree progress.last → FitTotals t → Runs script progress (totals_records t) (telling (lines_of progress) 6 t)
  totals_run progress t free h =
      let lines = lines_of progress in
      let end = telling lines 6 t in
      let some = λ (made undone group table interval left : ℕ). record_of made undone group table interval left in
      let r5 = total_step lines 5 t.left (some t.made t.undone t.group t.table t.interval 0) [] end (omega arith) h.left refl in
      let r4 = total_step lines 4 t.interval (some t.made t.undone t.group t.table 0 0) (total_fields (codes "left") t.left ∷ []) end (omega arith) h.interval r5 in
      let r3 = total_step lines 3 t.table (some t.made t.undone t.group 0 0 0) (total_fields (codes "interval") t.interval ∷ total_fields (codes "left") t.left ∷ []) end (omega arith) h.table r4 in
      let r2 = total_step lines 2 t.group (some t.made t.undone 0 0 0 0) (total_fields (codes "table") t.table ∷ total_fields (codes "interval") t.interval ∷ total_fields
      (codes "left") t.left ∷ []) end (omega arith) h.group r3 in
      let r1 = total_step lines 1 t.undone (some t.made 0 0 0 0 0) (total_fields (codes "group") t.group ∷ total_fields (codes "table") t.table ∷ total_fields
      (codes "interval") t.interval ∷ total_fields (codes "left") t.left ∷ []) end (omega arith) h.undone r2 in
      total_first progress t.made (total_fields (codes "undone") t.undone ∷ total_fields (codes "group") t.group ∷ total_fields (codes "table") t.table ∷ total_fields
      (codes "interval") t.interval ∷ total_fields (codes "left") t.left ∷ []) end free h.made r1
