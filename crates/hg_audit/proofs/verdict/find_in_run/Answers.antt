use Rattle.std.proofs.Common.{◌≡◌, ℕ, ◌+◌, ◌*◌, List, ◌∙◌, refl, sym, ap, subst, arith, length}
use Rattle.std.specs.Bool.{MatchBool}
use Rattle.hg_base.specs.declared.statement.Record.{Record}
use Rattle.hg_base.specs.Script.{run}
use Rattle.hg_base.specs.Shape.{HasShape}
use Rattle.hg_base.specs.Transcript.{in_order}
use Rattle.hg_known.specs.Sequenced.{shown_of, with_rounds}
use Rattle.hg_known.proofs.Sequencing.{run_length}
use Rattle.hg_audit.proofs.Finding.{found_here}
use Rattle.hg_audit.proofs.Opens.{AllKnown, known_in_run}
use Rattle.hg_audit.proofs.Sequencing.{shape_length, run_lines, when_none, when_some}
use Rattle.hg_audit.proofs.verdict.find_in_run.Goals as goal

pub returns-in_default : goal.returns-in_default
returns-in_default c =
    λ rounds shape.
    let records = c.args.script.now.records in
    let many = length c.as_slice-lines.result.now in
    when_none ((n : ℕ) → length (in_order (run n) records) ≡ many → ⊥) (λ (sequence : List Record). (n : ℕ) × (sequence ≡ in_order (run n) records) ×
    (length sequence ≡ many)) c.in_ok-order.field-0 c.in_default.is c.in_ok-order.ensures rounds
    (shape_length (in_order (run rounds) records) c.args.printed.now.lines shape ∙ sym (ap length c.as_slice-lines.ensures))

pub returns-then-not-has_shape : goal.returns-then-not-has_shape
returns-then-not-has_shape c =
    λ rounds shape.
    let records = c.args.script.now.records in
    let s = shown_of records in
    let lines = c.args.printed.now.lines in
    let many = length c.as_slice-lines.result.now in
    let made = when_some ((n : ℕ) → length (in_order (run n) records) ≡ many → ⊥) (λ (sequence : List Record). (n : ℕ) × (sequence ≡ in_order (run n) records) ×
    (length sequence ≡ many)) c.in_ok-order.field-0 c.in-Some.order c.in-Some.is c.in_ok-order.ensures in
    let fit : length s + 3 * rounds ≡ length lines = run_lines s lines rounds shape in
    let told : length s + 3 * made.0 ≡ many = sym (run_length s made.0) ∙ ap length (sym made.1) ∙ made.2 in
    let there : many ≡ length lines = ap length c.as_slice-lines.ensures in
    let is : rounds ≡ made.0 = omega (arith, fit, told, there) in
    let Shape = HasShape c.in-Some.order c.as_slice-lines.result.now in
    let none : ¬ Shape = subst (λ b. MatchBool b Shape (¬ Shape)) c.if-not-has_shape.true
    (c.has_shape.ensures (run made.0) c.in-Some.order c.as_slice-lines.result.now c.args.printed.now.totals (c.in_ok-found.ensures (run made.0) tt)) in
    none (subst (HasShape c.in-Some.order) (sym c.as_slice-lines.ensures) (subst (λ rs. HasShape rs lines) (ap (with_rounds s) is ∙ sym made.1) shape))

pub find_fault-requires : goal.find_fault-requires
find_fault-requires c =
    let records = c.args.script.now.records in
    let many = length c.as_slice-lines.result.now in
    let made = when_some ((n : ℕ) → length (in_order (run n) records) ≡ many → ⊥) (λ (sequence : List Record). (n : ℕ) × (sequence ≡ in_order (run n) records) ×
    (length sequence ≡ many)) c.in_ok-order.field-0 c.in-Some.order c.in-Some.is c.in_ok-order.ensures in
    record { known = subst AllKnown (sym made.1) (known_in_run records made.0 c.requires.known) }

pub returns : goal.returns
returns c =
    let records = c.args.script.now.records in
    let lines = c.args.printed.now.lines in
    let many = length c.as_slice-lines.result.now in
    let made = when_some ((n : ℕ) → length (in_order (run n) records) ≡ many → ⊥) (λ (sequence : List Record). (n : ℕ) × (sequence ≡ in_order (run n) records) ×
    (length sequence ≡ many)) c.in_ok-order.field-0 c.in-Some.order c.in-Some.is c.in_ok-order.ensures in
    let found = c.in_ok-found.ensures (run made.0) tt in
    let Shape = HasShape c.in-Some.order c.as_slice-lines.result.now in
    let shape : Shape = subst (λ b. MatchBool b Shape (¬ Shape)) c.if-not-has_shape.false
    (c.has_shape.ensures (run made.0) c.in-Some.order c.as_slice-lines.result.now c.args.printed.now.totals found) in (
      made.0,
      subst (λ rs. HasShape rs lines) made.1 (subst (HasShape c.in-Some.order) c.as_slice-lines.ensures shape),
      c.in_ok-verdict.ensures (run made.0) c.args.script.now c.args.printed.now (sym c.as_slice-lines.ensures)
          (found_here (run made.0) c.args.script.now c.args.printed.now _ _ c.in_ok-found.found c.in_ok-found.found found refl made.1 c.as_slice-lines.ensures),
    )
