-- What is sound with a reader, for a lawful script, fits the script.
use Rattle.std.proofs.Common.{◌≡◌, ◌⊎◌, inl, inr, ℕ, ◌<◌, ◌≤◌, ◌^◌, List, [], ◌∷◌, length, true, sym, subst, arith}
use Rattle.std.specs.Prelude.{◌==◌}
use Rattle.std.specs.List.{list_any}
use Rattle.std.proofs.lemmas.Bool.{or_cases}
use Rattle.std.proofs.lemmas.Bool.Decides.{Decides-eqb}
use Rattle.hg_base.specs.declared.report.Told.{Told}
use Rattle.hg_base.specs.declared.line.Printed.{Printed}
use Rattle.hg_base.specs.Freshness.{IsHeld}
use Rattle.hg_base.specs.History.{History}
use Rattle.hg_base.specs.Lists.{Each}
use Rattle.hg_base.specs.Script.{Script, run}
use Rattle.hg_base.specs.Shape.{report_of}
use Rattle.hg_base.specs.Sound.{all_said}
use Rattle.hg_base.specs.Text.{Fits32, IsFit}
use Rattle.hg_base.specs.Transcript.{Said, history_of}
use Rattle.hg_base.proofs.ListFacts.{false_true, each_after_keeps, each_keeps, if_some_keeps}
use Rattle.hg_script.specs.Lawful.{IsLawful}
use Rattle.hg_dump.specs.Alone.{IsReaders, IsReportedBut, IsRightBut}
use Rattle.hg_dump.specs.Reader.{IsSoundWith, reader_of}
use Rattle.hg_dump.proofs.Alone.{sound_but}
use Rattle.hg_dump.proofs.Holding.{within_alone}
use Rattle.hg_exact.proofs.Few.{IsHeldFew, IsReportFew, IsRightEnough}
use Rattle.hg_exact.proofs.Fits.{right_fits}
use Rattle.hg_exact.proofs.Sessions.{sessions_within}

-- a snapshot at which the reader read is one of the history
one_of : (n number : ℕ) (ats : List ℕ) → list_any (λ at. at == number) ats ≡ true → Each (λ at. at ≤ n) ats → number ≤ n
one_of n number [] e h = absurd (false_true e)
one_of n number (at ∷ ats) e h = go (or_cases (at == number) (list_any (λ at. at == number) ats) e) (λ k. one_of n number ats k h.1)
  where
    go : ((at == number) ≡ true) ⊎ (list_any (λ at. at == number) ats ≡ true) → (list_any (λ at. at == number) ats ≡ true → number ≤ n) → number ≤ n
    go (inl k) later = let same : at ≡ number = (Decides-eqb at number).0 k in let most = h.0 in omega (arith, same, most)
    go (inr k) later = later k

one_held : (script : Script) (ats : List ℕ) (h : History) (all : List Said) → Fits32 (reader_of script) → Each (λ at. at ≤ length h) ats → (told : Told) →
    IsHeld all told ⊎ IsReaders script ats told → IsHeldFew h all told
one_held script ats h all session within told (inl k) = inl k.printed
one_held script ats h all session within told (inr k) = inr (subst Fits32 (sym k.session) session, one_of (length h) told.number ats k.read within)

pub fits_with_reader : (rounds : ℕ) (script : Script) (ats : List ℕ) (printed : Printed) → rounds < 2 ^ 32 → IsLawful script → IsSoundWith rounds script ats printed → IsFit script printed
fits_with_reader rounds script ats printed few lawful s =
    let all : List Said = all_said (run rounds) script printed.lines in
    let h : History = history_of all in
    let but = sound_but rounds script ats printed s in
    let most = sessions_within script lawful in
    let within = within_alone rounds script ats printed s in
    let session : Fits32 (reader_of script) = omega (arith, most) in
    let held : (told : Told) → IsHeld all told ⊎ IsReaders script ats told → IsHeldFew h all told = one_held script ats h all session within in
    right_fits (run rounds) script printed few lawful but.shape but.whole.history
    (each_after_keeps (IsRightBut rounds script ats h all) (IsRightEnough (run rounds) h all)
    (λ earlier now r. record {
      reply = r.reply;
      conflict = r.conflict;
      report = if_some_keeps (report_of now.reply) (IsReportedBut script ats h all earlier) (IsReportFew h all)
          (λ sweep k. record {
            horizon = k.horizon;
            mark = k.mark;
            held = each_keeps (λ (told : Told). IsHeld all told ⊎ IsReaders script ats told)
                (IsHeldFew h all) held sweep.held k.held;
          }) r.report;
    }) [] all but.lines) but.totals
