-- The records of what is begun, a line that is whole, and one more of the totals.
use Rattle.std.proofs.Common.{◌≡◌, ◌<◌, ◌≤◌, ◌+◌, ℕ, zero, suc, pos, List, [], ◌∷◌, ◌++◌, length, take, map, Option}
use Rattle.std.proofs.Common.{Some, None, refl, ap, append_assoc, arith}
use Rattle.std.specs.Prelude.{codes, decimal, ⊤}
use Rattle.std.specs.List.{flat_map}
use Rattle.hg_base.specs.declared.statement.Statement.{Statement}
use Rattle.hg_base.specs.declared.rid.TableId.{TableId}
use Rattle.hg_base.specs.declared.value.Column.{Column}
use Rattle.hg_base.specs.declared.value.Column.TheVariants as columns
use Rattle.hg_base.specs.declared.value.Value.{Value}
use Rattle.hg_base.specs.declared.value.Value.TheVariants.{Number, Text}
use Rattle.hg_base.specs.Values.{FitsColumns}
use Rattle.hg_base.specs.declared.statement.Statement.TheVariants.{Fetch, Gc}
use Rattle.hg_base.specs.declared.line.Reply.{Reply}
use Rattle.hg_base.specs.declared.report.Told.{Told}
use Rattle.hg_base.specs.declared.report.Sweep.{Sweep}
use Rattle.hg_base.specs.declared.line.Answer.TheVariants.{Swept}
use Rattle.hg_base.specs.declared.line.Totals.{Totals}
use Rattle.hg_base.specs.Lists.{Each}
use Rattle.hg_base.specs.Script.{Declaration, Script}
use Rattle.hg_base.specs.Text.{Field, Fits64, Fits, FitTotals, FitsAnswer, row_fields}
use Rattle.hg_base.specs.Text.{told_as, line_records, total_fields, totals_records}
use Rattle.hg_report.specs.declared.progress.Open.{Open}
use Rattle.hg_report.specs.declared.progress.Open.TheVariants as opens
use Rattle.hg_report.specs.declared.progress.Progress.{Progress}
use Rattle.hg_transcript.specs.Piece.{behind, total_word}
use Rattle.hg_report.specs.Progress.{scan_line, sweep_line, no_totals, with_total}
use Rattle.hg_report.proofs.Fitting.{FitsKey, FitsTold, fetch_no_sweep}

abbrev pub Records : Type 0
Records = List (List Field)

abbrev pub row_records : ℕ → ℕ → List (ℕ × List Value) → Records
row_records session place rows = map (behind session place) (map row_fields rows)

abbrev pub open_records : List Declaration → Open → Records
open_records tables opens.Nothing = []
open_records tables (opens.Scan session place at table left rows) = behind session place (told_as (codes "at") at ++ codes "rows" ∷ decimal (length rows + left) ∷ []) ∷ row_records session place rows
open_records tables (opens.Sweep session place sweep) = line_records tables (sweep_line session place sweep)
open_records tables (opens.Totals index totals) = take index (totals_records totals)

abbrev pub FitsOpen : Script → Open → Type 0
FitsOpen script opens.Nothing = ⊤
FitsOpen script (opens.Scan session place at table left rows) = (more : List (ℕ × List Value)) → length more ≡ left → Each (FitsKey script.tables table) more →
    Fits script (scan_line session place at (rows ++ more))
FitsOpen script (opens.Sweep session place sweep) = Fits script (sweep_line session place sweep)
FitsOpen script (opens.Totals index totals) = FitTotals totals × (index ≤ 6)

pub record Stands (script : Script) (progress : Progress) (records : Records) : Type 0 where
  pub lines : Each (Fits script) progress.lines
  pub last : FitsOpen script progress.last
  pub is : records ≡ flat_map (line_records script.tables) progress.lines ++ open_records script.tables progress.last

pub regroup : (a b c d : Records) → (a ++ (b ++ c)) ++ d ≡ (a ++ b) ++ (c ++ d)
regroup a b c d = simp append_assoc

pub each-append : {X : Type 0} (P : X → Type 0) (xs ys : List X) → Each P xs → Each P ys → Each P (xs ++ ys)
each-append P [] ys h k = k
each-append P (x ∷ xs) ys h k = (h.0, each-append P xs ys h.1 k)

-- ---- a line that is whole

pub count_whole : (n : ℕ) → n + 0 ≡ n
count_whole n = omega arith

pub count_none : (n : ℕ) → 0 + n ≡ n
count_none n = omega arith

pub scan_records : (tables : List Declaration) (session place : ℕ) (at : Option ℕ) (rows : List (ℕ × List Value))
    → line_records tables (scan_line session place at rows) ≡ behind session place (told_as (codes "at") at ++ codes "rows" ∷ decimal (length rows) ∷ []) ∷ row_records session place rows
scan_records tables session place None rows = refl
scan_records tables session place (Some s) rows = refl

-- one more of the totals
pub record TellsMore (index number : ℕ) (t : Totals) : Type 0 where
  pub fit : FitTotals (with_total index number t)
  pub most : index + 1 ≤ 6
  pub is : take index (totals_records t) ++ total_fields (total_word index) number ∷ [] ≡ take (index + 1) (totals_records (with_total index number t))

pub total_step : (index number : ℕ) (t : Totals) → index < 6 → FitTotals t → Fits64 number → TellsMore index number t
total_step zero number t h fit k = record {
  fit = record { made = k; undone = fit.undone; group = fit.group; table = fit.table; interval = fit.interval; left = fit.left };
  most = omega arith;
  is = refl;
}
total_step (suc zero) number t h fit k = record {
  fit = record { made = fit.made; undone = k; group = fit.group; table = fit.table; interval = fit.interval; left = fit.left };
  most = omega arith;
  is = refl;
}
total_step (suc (suc zero)) number t h fit k = record {
  fit = record {
    made = fit.made;
    undone = fit.undone;
    group = k;
    table = fit.table;
    interval = fit.interval;
    left = fit.left;
  };
  most = omega arith;
  is = refl;
}
total_step (suc (suc (suc zero))) number t h fit k = record {
  fit = record {
    made = fit.made;
    undone = fit.undone;
    group = fit.group;
    table = k;
    interval = fit.interval;
    left = fit.left;
  };
  most = omega arith;
  is = refl;
}
total_step (suc (suc (suc (suc zero)))) number t h fit k = record {
  fit = record {
    made = fit.made;
    undone = fit.undone;
    group = fit.group;
    table = fit.table;
    interval = k;
    left = fit.left;
  };
  most = omega arith;
  is = refl;
}
total_step (suc (suc (suc (suc (suc zero))))) number t h fit k = record {
  fit = record {
    made = fit.made;
    undone = fit.undone;
    group = fit.group;
    table = fit.table;
    interval = fit.interval;
    left = k;
  };
  most = omega arith;
  is = refl;
}
total_step (suc (suc (suc (suc (suc (suc index)))))) number t h fit k = absurd (omega arith)

pub no_totals_fit : FitTotals no_totals
no_totals_fit = record { made = omega arith; undone = omega arith; group = omega arith; table = omega arith; interval = omega arith; left = omega arith }

pub take_none : (index : ℕ) (records : Records) → index ≡ 0 → take index records ≡ []
take_none zero records e = refl
take_none (suc index) records e = absurd (omega arith)

abbrev pub with_told : Sweep → Told → Sweep
with_told sweep told = record sweep { held = sweep.held ++ told ∷ [] }

abbrev pub reply_of : Sweep → Reply
reply_of sweep = record { at = None; answer = Swept sweep; number = None }

pub held_answer : (tables : List Declaration) (cursor : Option TableId) (statement : Statement) (sweep : Sweep) (told : Told) → FitsAnswer tables cursor statement (Swept sweep) →
    FitsTold told → FitsAnswer tables cursor statement (Swept (with_told sweep told))
held_answer tables cursor (Gc kind) sweep told h k = (h.0, h.1, h.2, each-append FitsTold sweep.held (told ∷ []) h.3 (k, tt))
held_answer tables cursor (Fetch n) sweep told h k = absurd (fetch_no_sweep tables cursor n sweep h)
held_answer tables cursor statement sweep told h k = absurd h

-- a value of a column, and a row
abbrev pub any_value : Column → Value
any_value columns.Number = Number (pos 0)
any_value columns.Text = Text []

pub any_row : (kinds : List Column) → FitsColumns kinds (map any_value kinds)
any_row [] = (refl, tt)
any_row (columns.Number ∷ kinds) = let others = any_row kinds in (ap (λ ks. columns.Number ∷ ks) others.0, (omega arith, others.1))
any_row (columns.Text ∷ kinds) = let others = any_row kinds in (ap (λ ks. columns.Text ∷ ks) others.0, (omega arith, others.1))
