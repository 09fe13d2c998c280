-- The printed history shows what the machine's own history shows.
use Rattle.std.proofs.Common.{◌≡◌, ℕ, List, [], ◌∷◌, length, refl, sym, ap, ◌∙◌, subst, arith, None}
use Rattle.std.specs.Prelude.{◌<◌, filter, nat_le, ⊤}
use Rattle.hg_base.specs.declared.report.Report.{Report}
use Rattle.hg_base.specs.declared.rid.Rid.{Rid}
use Rattle.hg_base.specs.declared.statement.Record.{Record}
use Rattle.hg_base.specs.declared.line.Line.{Line}
use Rattle.hg_base.specs.History.{History, last_image, visible}
use Rattle.hg_base.specs.Script.{Declaration, Script, run}
use Rattle.hg_base.specs.Shape.{HasShape}
use Rattle.hg_base.specs.Sound.{all_said}
use Rattle.hg_base.specs.Transcript.{Said, history_of, in_order, said_from}
use Rattle.hg_base.proofs.ListFacts.{each_keeps}
use Rattle.hg_base.proofs.Resting.{left_nothing}
use Rattle.hg_core.specs.declared.log.LogEntry.{LogEntry}
use Rattle.hg_core.proofs.Right.{places_of}
use Rattle.hg_headline.specs.Ran.{HasRun, run_lines}
use Rattle.hg_headline.proofs.Commits.{same_printed}
use Rattle.hg_headline.proofs.Rounds.{run_shape}
use Rattle.hg_headline.proofs.Running.{RunsGc, in_order_is, run_follows}
use Rattle.hg_headline.proofs.Same.{SameGroups, length_same, writes_same}
use Rattle.hg_headline.proofs.Telling.{lines_told}
use Rattle.hg_headline.proofs.Ties.{ties_nothing}
use Rattle.hg_headline.proofs.Whole.{matches_all}
use Rattle.hg_dump.specs.Rows.{AreRowsAt, Kept, rows_at}
use Rattle.hg_dump.proofs.RowsShown.{is_the_list}
use Rattle.hg_dump.specs.Ran.{HasRunWith}
use Rattle.hg_dump.specs.Reader.{lines_with, with_reader}
use Rattle.hg_dump.proofs.Parting.{history_alone}
use Rattle.hg_dump.proofs.Runs.{lines_of, logs_with, printed_with, ran_with}

-- ---- rows

rows_of_same : (tables : List Declaration) (h k : History) (s : ℕ) (rows : List Kept) → ((q : Rid) → visible h q s ≡ visible k q s) → AreRowsAt tables h s rows → AreRowsAt tables k s rows
rows_of_same tables h k s rows e a = record {
  ascend = a.ascend;
  each = each_keeps _ _ (λ kept is. (is.0, sym (ap (λ i. i.row) (e kept.rid)) ∙ is.1)) rows a.each;
  every = λ kept d is. a.every kept d (ap (λ i. i.row) (e kept.rid) ∙ is);
}

-- histories that show the same at a snapshot have the same rows there
pub same_rows : (tables : List Declaration) (h k : History) (s : ℕ) → ((q : Rid) → visible h q s ≡ visible k q s) → rows_at tables h s ≡ rows_at tables k s
same_rows tables h k s e = (is_the_list tables k s (rows_at tables h s)).0 (rows_of_same tables h k s (rows_at tables h s) e ((is_the_list tables h s (rows_at tables h s)).1 refl))

-- ---- a run

run_same : (buckets : ℕ) (h : History) (logs : ℕ → List LogEntry) (rounds : ℕ) (script : Script) (lines : ℕ → List Line) (group table interval : List Report) →
    HasRun buckets h logs rounds script.records lines group table interval
    → SameGroups h (history_of (all_said (run rounds) script (run_lines script.records lines group table interval)))
run_same buckets h logs rounds script lines group table interval ran =
    let asked : List Record = in_order (run rounds) script.records in
    let printed : List Line = run_lines script.records lines group table interval in
    let all : List Said = said_from [] asked printed in
    let told = lines_told (run rounds) buckets h (history_of all) logs all (RunsGc rounds) (λ j l. ⊤) (λ j x l q. tt) (places_of buckets ran.logged.some)
    (λ ls q line m. m) asked printed (λ j. []) logs []
    (λ j. ties_nothing j) (λ j. None) (λ j. left_nothing j) (run_follows buckets h logs rounds script.records lines group table interval ran) ran.logged.judged ran.logged.replied (λ j. tt) in
    same_printed h all ran.logged.history (matches_all buckets h logs all ran.logged told.1)

-- ---- with a reader

with_same : (buckets : ℕ) (h : History) (logs : ℕ → List LogEntry) (rounds : ℕ) (script : Script) (ats : List ℕ) (lines : ℕ → List Line) (group table interval : List Report) →
    HasRunWith buckets h logs rounds script ats lines group table interval
    → SameGroups h (history_of (all_said (run rounds) script (run_lines script.records lines group table interval)))
with_same buckets h logs rounds script [] lines group table interval r = absurd (let some : 0 < 0 = r.some in omega (arith, some))
with_same buckets h logs rounds script (at ∷ ats) lines group table interval r =
    let ran = ran_with buckets h logs rounds script at ats lines group table interval r in
    let is = printed_with buckets h logs rounds script at ats lines group table interval r in
    let asked : List Record = (with_reader script (at ∷ ats)).records in
    let of_all : ℕ → List Line = lines_of buckets h logs rounds script at ats lines group table interval r in
    let printed : List Line = run_lines script.records lines group table interval in
    let shape : HasShape (in_order (run rounds) asked) (lines_with script (at ∷ ats) printed) =
    subst (λ ls. HasShape (in_order (run rounds) asked) ls) is
    (subst (λ rs. HasShape rs (run_lines asked of_all group table interval)) (sym (in_order_is rounds asked))
    (run_shape buckets h (logs_with buckets h logs rounds script at ats lines group table interval r) rounds asked of_all group table interval ran)) in
    subst (λ (k : History). SameGroups h k) (ap (λ ls. history_of (all_said (run rounds) (with_reader script (at ∷ ats)) ls)) is ∙ history_alone rounds script (at ∷ ats) printed shape)
    (run_same buckets h (logs_with buckets h logs rounds script at ats lines group table interval r) rounds (with_reader script (at ∷ ats)) of_all group table interval ran)

module _ (buckets : ℕ) (h : History) (logs : ℕ → List LogEntry) (rounds : ℕ) (script : Script) (ats : List ℕ) (lines : ℕ → List Line) (group table interval : List Report)
    (r : HasRunWith buckets h logs rounds script ats lines group table interval) where
  abbrev printed : History
  printed = history_of (all_said (run rounds) script (run_lines script.records lines group table interval))

  same : SameGroups h printed
  same = with_same buckets h logs rounds script ats lines group table interval r

  pub shown_same : (q : Rid) (s : ℕ) → visible h q s ≡ visible printed q s
  shown_same q s = ap (λ ws. last_image (filter (λ (w : ℕ × _). nat_le w.0 s) ws)) (writes_same 1 h printed q same r.logged.history)

  pub many_same : length h ≡ length printed
  many_same = length_same h printed same

  pub rows_same : (s : ℕ) → rows_at script.tables h s ≡ rows_at script.tables printed s
  rows_same s = same_rows script.tables h printed s (λ q. shown_same q s)
