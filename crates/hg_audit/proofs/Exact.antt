-- A verdict is sound exactly where the text is.
use Rattle.std.proofs.Common.{◌≡◌, ℕ, zero, suc, ◌+◌, ◌*◌, List, [], ◌∷◌, length, refl, sym, ap, ◌∙◌, subst, arith}
use Rattle.std.specs.Prelude.{◌↔◌}
use Rattle.hg_base.specs.declared.line.Line.{Line}
use Rattle.hg_base.specs.declared.line.Printed.{Printed}
use Rattle.hg_base.specs.Lists.{EachAfter}
use Rattle.hg_base.specs.Script.{Mode, Script, replay, run}
use Rattle.hg_base.specs.Transcript.{Said, in_order}
use Rattle.hg_base.specs.Sound.{IsSound, all_said}
use Rattle.hg_decide.specs.Audit.{Fault, in_shape, in_commits, in_reply, in_fresh, in_totals, FirstWithout, IsRightReply, IsKnown, HasFault}
use Rattle.hg_report.specs.Readable.{IsTextOf, IsRefusedAt}
use Rattle.hg_audit.specs.declared.verdict.Why.TheVariants as whys
use Rattle.hg_audit.specs.declared.verdict.Verdict.{Verdict}
use Rattle.hg_audit.specs.declared.verdict.Verdict.TheVariants.{Sound, Unsound}
use Rattle.hg_audit.specs.Verdict.{IsJudgedAs, IsFinding, IsVerdict, IsSoundText}
use Rattle.hg_audit.proofs.Sequencing.{run_lines, out_of_shape}
use Rattle.hg_known.specs.Sequenced.{shown_of}
use Rattle.hg_audit.proofs.Sounding.{of_sound}

-- a text is judged in one way
pub judged_once : (script : Script) (lines : List Line) (m n : Mode) → IsJudgedAs script lines m → IsJudgedAs script lines n → m ≡ n
judged_once script lines replay replay h k = refl
judged_once script lines replay (run b) h k = absurd (h k.0 b k.1)
judged_once script lines (run a) replay h k = absurd (k h.0 a h.1)
judged_once script lines (run a) (run b) h k =
    let s = shown_of script.records in
    let x : length s + 3 * a ≡ length lines = run_lines s lines a h.1 in
    let y : length s + 3 * b ≡ length lines = run_lines s lines b k.1 in
    let same : a ≡ b = omega (arith, x, y) in
    ap run same

pub none_without : (P : List Said → Said → Type 0) (earlier xs : List Said) (k : ℕ) → EachAfter P earlier xs → FirstWithout P earlier xs k → ⊥
none_without P earlier [] k h f = f
none_without P earlier (x ∷ xs) zero h f = f h.0
none_without P earlier (x ∷ xs) (suc k) h f = none_without P (x ∷ earlier) xs k h.1 f.1

-- what is sound has no fault
pub no_fault : (mode : Mode) (script : Script) (printed : Printed) (fault : Fault) → IsSound mode script printed → HasFault mode script printed fault → ⊥
no_fault mode script printed (in_shape k) s f = out_of_shape (in_order mode script.records) printed.lines k f (of_sound mode script printed s).0
no_fault mode script printed in_commits s f = f.1 (of_sound mode script printed s).1
no_fault mode script printed (in_reply k) s f = let all = all_said mode script printed.lines in none_without (IsRightReply mode all) [] all k (of_sound mode script printed s).2.0 f.2
no_fault mode script printed (in_fresh k) s f = let all = all_said mode script printed.lines in none_without (IsKnown mode all) [] all k (of_sound mode script printed s).2.1 f.3
no_fault mode script printed in_totals s f = f.4 s.totals

pub finds_sound : (mode : Mode) (script : Script) (printed : Printed) (verdict : Verdict) → IsSound mode script printed → IsFinding mode script printed verdict → verdict ≡ Sound
finds_sound mode script printed Sound s f = refl
finds_sound mode script printed (Unsound line why) s f = absurd (no_fault mode script printed f.0 s f.1)

-- the verdict on what was printed, where no other value has the text
pub of_text : (script : Script) (bytes : List ℕ) (printed : Printed) (verdict : Verdict) → IsTextOf script bytes printed →
    ((other : Printed) → IsTextOf script bytes other → other ≡ printed) → IsVerdict script printed verdict → (verdict ≡ Sound) ↔ IsSoundText script bytes
of_text script bytes printed verdict text only (mode, judged, finding) = (
  λ e. (printed, mode, text, judged, subst (IsFinding mode script printed) e finding),
  λ t. let same : t.0 ≡ printed = only t.0 t.2 in
      let agree : t.1 ≡ mode = judged_once script printed.lines t.1 mode (subst (λ (p : Printed). IsJudgedAs script p.lines t.1) same t.3) judged in
      finds_sound mode script printed verdict (subst (λ m. IsSound m script printed) agree (subst (IsSound t.1 script) same t.4)) finding,
)

pub of_refused : (script : Script) (bytes : List ℕ) (line : ℕ) (verdict : Verdict) → IsRefusedAt script bytes line → verdict ≡ Unsound line whys.Text → (verdict ≡ Sound) ↔ IsSoundText script bytes
of_refused script bytes line verdict refused e = (λ s. absurd (apart (sym e ∙ s)), λ t. absurd (refused.none t.0 t.2))
  where
    apart : Unsound line whys.Text ≡ Sound → ⊥
    apart e = cc
