-- What an export leaves of the reader.
use Rattle.std.proofs.Common.{◌≡◌, ℕ, ◌≤◌, List, [], ◌∷◌, ◌++◌, length, refl, sym, ap, ◌∙◌, subst, arith}
use Rattle.std.specs.Prelude.{if◌then◌else◌}
use Rattle.hg_base.specs.declared.scope.Scope.TheVariants.{All}
use Rattle.hg_base.specs.declared.line.Line.{Line}
use Rattle.hg_base.specs.declared.report.Report.{Report}
use Rattle.hg_base.specs.History.{History}
use Rattle.hg_base.specs.Lists.{Each}
use Rattle.hg_base.specs.Script.{Script, run}
use Rattle.hg_base.specs.Sound.{all_said}
use Rattle.hg_base.specs.Transcript.{history_of}
use Rattle.hg_core.specs.declared.log.LogEntry.{LogEntry}
use Rattle.hg_core.specs.declared.log.LogEntry.TheVariants.{Began, Saw, Refused, Outside, Wrote, Undid, Published, Over}
use Rattle.hg_core.specs.Events.{put}
use Rattle.hg_core.specs.Judged.{Judged}
use Rattle.hg_core.specs.Logs.{UpTo}
use Rattle.hg_core.proofs.Indices.{by_number, put_here}
use Rattle.hg_rule.specs.declared.view.View.{View}
use Rattle.hg_rule.specs.Facts.{EndsWith}
use Rattle.hg_rule.specs.Views.{number, session}
use Rattle.hg_cursor.specs.Logs.{GoesOn}
use Rattle.hg_dump.specs.Exports.{HasReadAt, IsLook}
use Rattle.hg_headline.specs.Logged.{Logged}
use Rattle.hg_headline.specs.Ran.{run_lines}
use Rattle.hg_dump.specs.Records.{dump_text}
use Rattle.hg_dump.specs.Rows.{rows_at}
use Rattle.hg_dump.specs.Ran.{HasRunWith}
use Rattle.hg_dump.specs.Reader.{HasReadAll, log_at, without_looks}
use Rattle.hg_dump.proofs.Looks.{logged_without}
use Rattle.hg_dump.proofs.Newest.{newest}
use Rattle.hg_dump.proofs.Shown.{rows_same}

looked : (es log : List LogEntry) → Each IsLook es → without_looks (es ++ log) ≡ without_looks log
looked [] log h = refl
looked (Saw t l k b rows ∷ es) log h = looked es log h.1
looked (Began at scope ∷ es) log h = absurd h.0
looked (Refused r a ∷ es) log h = absurd h.0
looked (Outside t ∷ es) log h = absurd h.0
looked (Wrote r i ∷ es) log h = absurd h.0
looked (Undid r ∷ es) log h = absurd h.0
looked (Published n ∷ es) log h = absurd h.0
looked (Over ∷ es) log h = absurd h.0

last_at : (ats : List ℕ) (at : ℕ) (l : List LogEntry) → log_at (ats ++ at ∷ []) l ≡ Over ∷ Began at All ∷ log_at ats l
last_at [] at l = refl
last_at (a ∷ ats) at l = last_at ats at (Over ∷ Began a All ∷ l)

pub reads_more : (at : ℕ) (ats : List ℕ) (old new : View) → HasReadAll ats (session old).log → HasReadAt at old new → HasReadAll (ats ++ at ∷ []) (session new).log
reads_more at ats old new all r =
    ap without_looks r.log
    ∙ ap (λ l. Over ∷ l) (looked r.entries (Began at All ∷ (session old).log) r.each)
    ∙ ap (λ l. Over ∷ Began at All ∷ l) all
    ∙ sym (last_at ats at [])

pub logged_goes : (buckets : ℕ) (v : View) (h : History) (logs : ℕ → List LogEntry) → Logged buckets h logs → EndsWith (logs (number v)) (session v).log → GoesOn buckets v h logs
logged_goes buckets v h logs g later = record { answers = g.replied; later = later }

-- ---- the last one

-- a reading after all other sessions ended is at the end of the history
pub at_the_end : (buckets j n : ℕ) (h : History) (logs : ℕ → List LogEntry) (ats : List ℕ) → Logged buckets h logs → HasReadAll (ats ++ n ∷ []) (logs j) →
    ((k : ℕ) → (k ≡ j → ⊥) → UpTo n (logs k)) → n ≡ length h
at_the_end buckets j n h logs ats g r others =
    let l : List LogEntry = Over ∷ Began n All ∷ log_at ats [] in
    let is : without_looks (logs j) ≡ l = r ∙ last_at ats n [] in
    let all : Logged buckets h (put logs j l) = subst (λ m. Logged buckets h (put logs j m)) is (logged_without buckets j h logs g) in
    let own : Judged h l = subst (Judged h) (put_here logs j l) (all.judged j) in
    let least : length h ≤ n = newest buckets n h (put logs j l) all (λ k. by_number j (λ i b. UpTo n (if b then l else logs i)) (omega arith, own.1.0.over) (λ i e. others i e) k) in
    let most : n ≤ length h = own.1.0.within in
    omega (arith, least, most)

-- ---- what it wrote

module _ (buckets : ℕ) (h : History) (logs : ℕ → List LogEntry) (rounds : ℕ) (script : Script) (ats : List ℕ) (lines : ℕ → List Line) (group table interval : List Report)
    (v : View) (s : ℕ) (before after : List ℕ) where
  abbrev printed : History
  printed = history_of (all_said (run rounds) script (run_lines script.records lines group table interval))

  pub export_printed : HasRunWith buckets h logs rounds script ats lines group table interval → EndsWith (logs (number v)) (session v).log
      → ((k : History) (more : ℕ → List LogEntry) → GoesOn buckets v k more → after ≡ before ++ dump_text script (rows_at script.tables k s)) →
      after ≡ before ++ dump_text script (rows_at script.tables printed s)
  export_printed r later text =
      text h logs (logged_goes buckets v h logs r.logged later) ∙ ap (λ rows. before ++ dump_text script rows) (rows_same buckets h logs rounds script ats lines group table interval r s)
