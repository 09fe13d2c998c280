-- A dump of rows that were put by the records of a lawful script is a backup.
use Rattle.std.proofs.Common.{◌≡◌, ℕ, ◌+◌, ◌≤◌, List, [], ◌∷◌, length, length-append, map, true, false, ◌==◌, refl, ap, subst, inl, inr, arith}
use Rattle.std.specs.Prelude.{if◌then◌else◌, Contains}
use Rattle.std.specs.Bool.{Decides}
use Rattle.std.specs.List.{AllByRecursion, IsDistinct}
use Rattle.std.proofs.lemmas.Bool.Decides.{nat_tests}
use Rattle.std.proofs.lemmas.List.{length-map}
use Rattle.std.proofs.lemmas.Map.Made.{is_member-Decides, length-le_from_is_member}
use Rattle.hg_base.specs.declared.rid.Rid.{Rid}
use Rattle.hg_base.specs.declared.statement.Record.{Record}
use Rattle.hg_base.specs.declared.statement.Statement.{Statement}
use Rattle.hg_base.specs.declared.statement.Statement.TheVariants.{Put}
use Rattle.hg_base.specs.History.{History, same_rid}
use Rattle.hg_base.specs.Lists.{Each}
use Rattle.hg_base.specs.Script.{Declaration, Script}
use Rattle.hg_base.proofs.HistoryFacts.{same_rid_equal, same_rid_itself}
use Rattle.hg_base.proofs.ListFacts.{cases, each_at, each_keeps}
use Rattle.hg_base.proofs.RidOrder.{rids_equiv}
use Rattle.hg_script.specs.Lawful.{FitsTables, HasWidths, IsLawful, IsStatement}
use Rattle.hg_script.specs.Numbered.{records_before}
use Rattle.hg_dump.specs.Backup.{IsBackup, ShowsPutRows}
use Rattle.hg_dump.specs.Dumps.{FitsTable, IsReadable}
use Rattle.hg_dump.specs.Records.{dump_records, dump_text, version_records}
use Rattle.hg_dump.specs.Rows.{AreRowsAt, Kept, is_before, rows_at}
use Rattle.hg_dump.proofs.Ordered.{AreSorted, contains_cases, contains_first, contains_later, contains_none, sorted}
use Rattle.hg_dump.proofs.ReadBack.{accepted, same}
use Rattle.hg_dump.proofs.Restored.{text_again}
use Rattle.hg_dump.proofs.RowsShown.{are_rows}
use Rattle.hg_dump.proofs.Written.{records_read}

-- ---- lists

each_map : {X Y : Type 0} (P : Y → Type 0) (f : X → Y) (xs : List X) → Each (λ x. P (f x)) xs → Each P (map f xs)
each_map P f [] h = tt
each_map P f (x ∷ xs) h = (h.0, each_map P f xs h.1)

contains_map : {X Y : Type 0} (f : X → Y) (xs : List X) (x : X) → Contains xs x → Contains (map f xs) (f x)
contains_map f [] x k = absurd (contains_none x k)
contains_map f (y ∷ ys) x k = elim (contains_cases y ys x k) [
  | inl same ↦ subst (λ z. Contains (f y ∷ map f ys) (f z)) same (contains_first (f y) (map f ys))
  | inr later ↦ contains_later (f y) (map f ys) (f x) (contains_map f ys x later)
]

-- ---- different rows were put by different statements

abbrev IsPutIn : List Statement → Kept → Type 0
IsPutIn all kept = Contains all (Put kept.rid kept.row)

-- the record that a statement puts, and some record where it puts none
abbrev rid_put : Statement → Rid
rid_put (Put r row) = r
rid_put _ = record { table = record { 0 = 0 }; key = 0 }

same_decides : (a b : Rid) → Decides (same_rid a b) (a ≡ b)
same_decides a b = (same_rid_equal a b, λ e. subst (λ x. same_rid a x ≡ true) e (same_rid_itself a))

other : (a b : Rid) → is_before a b ≡ true → same_rid a b ≡ false
other a b h = grind (arith, nat_tests, h)

all_other : (kept : Kept) (rows : List Kept) → Each (λ b. is_before kept.rid b.rid ≡ true) rows → AllByRecursion (λ r. same_rid kept.rid r ≡ false) (map (λ b. b.rid) rows)
all_other kept [] h = tt
all_other kept (b ∷ rows) h = (other kept.rid b.rid h.0, all_other kept rows h.1)

distinct : (rows : List Kept) → AreSorted rows → IsDistinct same_rid (map (λ b. b.rid) rows)
unfolding IsDistinct
distinct [] h = tt
distinct (kept ∷ rows) h = (all_other kept rows h.0, distinct rows h.1)

few_rows : (all : List Statement) (rows : List Kept) → AreSorted rows → Each (IsPutIn all) rows → length rows ≤ length all
few_rows all rows order put =
    let rids : List Rid = map (λ (b : Kept). b.rid) rows in
    let puts : List Rid = map rid_put all in
    let each : Each (Contains puts) rids = each_map (Contains puts) (λ (b : Kept). b.rid) rows (each_keeps (IsPutIn all) (λ b. Contains puts b.rid) (λ b k. contains_map rid_put all (Put b.rid b.row) k) rows put) in
    let most : length rids ≤ length puts = length-le_from_is_member rids_equiv rids puts (distinct rows order)
    (λ q m. (is_member-Decides same_decides puts q).1 (each_at (Contains puts) rids q each ((is_member-Decides same_decides rids q).0 m))) in
    omega (arith, most, length-map rows (λ (b : Kept). b.rid), length-map all rid_put)

-- ---- rows that were put fit their tables

fits_put : (tables : List Declaration) (records : List Record) → Each (IsStatement tables) records → (kept : Kept) → IsPutIn (map (λ q. q.statement) records) kept → FitsTable tables kept
fits_put tables records are kept k =
    let fits = each_at (λ s. FitsTables tables s × HasWidths s) (map (λ (q : Record). q.statement) records) (Put kept.rid kept.row)
    (each_map (λ s. FitsTables tables s × HasWidths s) (λ (q : Record). q.statement) records
    (each_keeps (IsStatement tables) (λ q. FitsTables tables q.statement × HasWidths q.statement) (λ q is. (is.fits, is.widths)) records are)) k in
    (fits.0.0, fits.1.0, (fits.0.1, fits.1.1))

-- ---- how many records a dump has

many_versions : (version : ℕ) → length (version_records version) ≡ (if version == 1 then 0 else 1)
many_versions version = cases (version == 1) (λ e. rw e refl) (λ e. rw e refl)

many_records : (script : Script) (rows : List Kept) → length (dump_records script rows) ≡ records_before script + length rows
many_records script rows = simp (length-append, length-map) (omega (arith, many_versions script.version))

-- ---- the whole

module _ (script : Script) (h : History) (s : ℕ) (lawful : IsLawful script) (put : ShowsPutRows script.records h s) where
  abbrev rows : List Kept
  rows = rows_at script.tables h s

  are : AreRowsAt script.tables h s rows
  are = are_rows script.tables h s

  each_put : Each (IsPutIn (map (λ q. q.statement) script.records)) rows
  each_put = each_keeps _ (IsPutIn (map (λ (q : Record). q.statement) script.records)) (λ kept k. put kept.rid kept.row k.1) rows are.each

  few : length rows ≤ length script.records
  few =
      let most = few_rows (map (λ (q : Record). q.statement) script.records) rows (sorted rows are.ascend) each_put in
      omega (arith, most, length-map script.records (λ (q : Record). q.statement))

  pub readable : IsReadable script rows
  readable = record {
    fit = each_keeps _ (FitsTable script.tables) (λ kept k. fits_put script.tables script.records lawful.statements kept k) rows each_put;
    most = (let most = lawful.records in omega (arith, few, most));
  }

  pub backup : IsBackup script h s (dump_text script rows)
  backup = record {
    few = omega (arith, few, ap length (records_read script rows), many_records script rows);
    valid = accepted script rows lawful readable;
    means = same script rows lawful readable;
    restores = λ lines sound. text_again script h s lines lawful readable sound;
  }
