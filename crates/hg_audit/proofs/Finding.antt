-- What was found, as the fault of the verdict.
use Rattle.std.proofs.Common.{◌≡◌, ℕ, List, refl, sym, subst}
use Rattle.std.specs.Prelude.{Result, Ok, Err, IfOk}
use Rattle.hg_base.specs.declared.statement.Record.{Record}
use Rattle.hg_base.specs.declared.line.Line.{Line}
use Rattle.hg_base.specs.declared.line.Printed.{Printed}
use Rattle.hg_base.specs.Script.{Mode, Script}
use Rattle.hg_base.specs.Transcript.{in_order}
use Rattle.hg_decide.specs.Audit.{in_shape, in_commits, in_reply, in_fresh, in_totals}
use Rattle.hg_audit.specs.declared.fault.Found.{Found}
use Rattle.hg_audit.specs.declared.fault.Found.TheVariants as what
use Rattle.hg_audit.specs.declared.verdict.Why.TheVariants as whys
use Rattle.hg_audit.specs.declared.verdict.Verdict.{Verdict}
use Rattle.hg_audit.specs.declared.verdict.Verdict.TheVariants.{Unsound}
use Rattle.hg_audit.specs.Found.{IsFound}
use Rattle.hg_audit.specs.Verdict.{first_record, last_record, IsFinding}

pub if_ok_keeps : {T E : Type 0} (r : Result T E) (P Q : T → Type 0) → ((x : T) → P x → Q x) → IfOk r P → IfOk r Q
if_ok_keeps (Ok x) P Q f h = f x h
if_ok_keeps (Err e) P Q f h = h

abbrev pub Finds : Mode → Script → Printed → Found → Type 0
Finds mode script printed found = IsFound mode (in_order mode script.records) printed.lines printed.totals found

pub found_here : (mode : Mode) (script : Script) (printed : Printed) (records : List Record) (lines : List Line) (found same : Found) →
    IsFound mode records lines printed.totals found → found ≡ same → records ≡ in_order mode script.records → lines ≡ printed.lines → Finds mode script printed same
found_here mode script printed records lines found same h e f g =
    subst (λ ls. IsFound mode (in_order mode script.records) ls printed.totals same) g
    (subst (λ rs. IsFound mode rs lines printed.totals same) f (subst (IsFound mode records lines printed.totals) e h))

module _ (mode : Mode) (script : Script) (printed : Printed) (verdict : Verdict) where
  pub shape_found : (k : ℕ) → Finds mode script printed (what.Shape k) → verdict ≡ Unsound (first_record script printed k) whys.Shape → IsFinding mode script printed verdict
  shape_found k h e = subst (IsFinding mode script printed) (sym e) (in_shape k, h, refl, refl)

  pub commits_found : Finds mode script printed what.Commits → verdict ≡ Unsound (last_record script printed) whys.Commits → IsFinding mode script printed verdict
  commits_found h e = subst (IsFinding mode script printed) (sym e) (in_commits, h, refl, refl)

  pub reply_found : (k : ℕ) → Finds mode script printed (what.Reply k) → verdict ≡ Unsound (first_record script printed k) whys.Reply → IsFinding mode script printed verdict
  reply_found k h e = subst (IsFinding mode script printed) (sym e) (in_reply k, h, refl, refl)

  pub fresh_found : (k : ℕ) → Finds mode script printed (what.Fresh k) → verdict ≡ Unsound (first_record script printed k) whys.Fresh → IsFinding mode script printed verdict
  fresh_found k h e = subst (IsFinding mode script printed) (sym e) (in_fresh k, (h.0, h.1, h.2.0, h.2.1), refl, refl)

  pub totals_found : Finds mode script printed what.Totals → verdict ≡ Unsound (last_record script printed) whys.Totals → IsFinding mode script printed verdict
  totals_found h e = subst (IsFinding mode script printed) (sym e) (in_totals, (h.0, h.1, h.2.0, h.2.1, h.2.2), refl, refl)
