use Rattle.std.proofs.Common.{◌∙◌, refl, sym, arith, below_more}
use Rattle.hg_base.proofs.ListFacts.{false_true}
use Rattle.hg_known.proofs.Gathering.{left_out}
use Rattle.hg_known.proofs.history.has_each.Goals as goal

pub loop-number-init : goal.loop-number-init
loop-number-init c = λ n high low. absurd (omega (arith, low, high))

pub returns-then-not-contains : goal.returns-then-not-contains
returns-then-not-contains c =
    λ ps shows. (
      λ e. absurd (false_true e),
      λ h. absurd (left_out ps c.args.commits.now c.loop-number.number-counter shows (omega arith) (omega arith) (sym c.contains.ensures ∙ c.if-not-contains.true) h),
    )

pub loop-number-preserved : goal.loop-number-preserved
loop-number-preserved c = below_more _ _ c.loop-number.invariant (λ _. sym c.contains.ensures ∙ c.if-not-contains.false)

pub returns : goal.returns
returns c =
    λ ps shows.
    (λ _. λ n low high. sym (shows.numbers n) ∙ c.loop-number.invariant n (omega (arith, high)) low, λ _. refl)
