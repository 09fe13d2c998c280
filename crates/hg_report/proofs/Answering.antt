-- What the end of the bytes tells.
use Rattle.std.proofs.Common.{◌≡◌, ◌∙◌, ℕ, suc, List, [], ◌++◌, length, Result, Ok, Err, sym, ap, subst}
use Rattle.std.specs.Prelude.{IfOk, IfErr}
use Rattle.std.specs.List.{flat_map}
use Rattle.std.proofs.lemmas.List.{append-nil}
use Rattle.hg_base.specs.declared.line.Line.{Line}
use Rattle.hg_base.specs.declared.line.Totals.{Totals}
use Rattle.hg_base.specs.declared.line.Printed.{Printed}
use Rattle.hg_base.specs.Script.{Script}
use Rattle.hg_base.specs.Text.{Field}
use Rattle.hg_script.specs.Lawful.{IsLawful}
use Rattle.hg_report.specs.declared.progress.Progress.{Progress}
use Rattle.hg_report.specs.declared.refusal.TextRefusal.{TextRefusal}
use Rattle.hg_report.specs.declared.refusal.TextRefusal.TheVariants.{At}
use Rattle.hg_records.specs.Bytes.{record_bytes}
use Rattle.hg_report.specs.Readable.{IsTextOf, IsRefusedAt, TellsRefusal}
use Rattle.hg_report.specs.Progress.{at_start, finished, Runs}
use Rattle.hg_report.proofs.Following.{is_text, is_only_text, is_refused, none_next_of_none}

pub refusal_tells : (script : Script) (bytes : List ℕ) (line : ℕ) (e : TextRefusal) → e ≡ At line → IsRefusedAt script bytes line → TellsRefusal script bytes e
refusal_tells script bytes line e same h = subst (TellsRefusal script bytes) (sym same) h

module _ (script : Script) (bytes rest : List ℕ) (records : List (List Field)) (progress : Progress) (runs : Runs script at_start records progress)
    (split : bytes ≡ flat_map record_bytes records ++ rest) (none : rest ≡ []) where
  abbrev IsDone : Printed → Type 0
  IsDone printed = progress ≡ finished printed.lines printed.totals

  all_taken : bytes ≡ flat_map record_bytes records
  all_taken = split ∙ ap (λ r. flat_map record_bytes records ++ r) none ∙ append-nil (flat_map record_bytes records)

  pub text_at_end : (result : Result Printed TextRefusal) → IfOk result IsDone → IfOk result (λ printed. IsTextOf script bytes printed)
  text_at_end (Ok printed) h = is_text script bytes records printed.lines printed.totals (subst (Runs script at_start records) h runs) all_taken
  text_at_end (Err e) h = tt

  pub only_at_end : IsLawful script → (result : Result Printed TextRefusal) → IfOk result IsDone → IfOk result (λ printed. (other : Printed) → IsTextOf script bytes other → other ≡ printed)
  only_at_end lawful (Ok printed) h = is_only_text script lawful bytes records printed.lines printed.totals (subst (Runs script at_start records) h runs) all_taken
  only_at_end lawful (Err e) h = tt

  pub refused_at_end : IsLawful script → (line : ℕ) → suc (length records) ≡ line → (result : Result Printed TextRefusal)
      → IfErr result (λ e. (e ≡ At line) × ((lines : List Line) (totals : Totals) → progress ≡ finished lines totals → ⊥)) → IfErr result (TellsRefusal script bytes)
  refused_at_end lawful line count (Ok printed) h = tt
  refused_at_end lawful line count (Err e) h =
      refusal_tells script bytes line e h.0 (is_refused script lawful bytes rest records progress line runs split count (none_next_of_none script progress rest none)
      (λ lines totals empty. h.1 lines totals))
