use Rattle.std.proofs.Common.{◌≡◌, false, arith, ◌==◌, ◌∙◌, sym, []}
use Rattle.std.proofs.lemmas.Bool.Decides.{nat_tests}
use Rattle.hg_base.specs.Lists.{onto}
use Rattle.hg_base.proofs.ListFacts.{false_true}
use Rattle.hg_audit.proofs.Conflicting.{still_shown}
use Rattle.hg_audit.proofs.conflict.shows_still_open.Goals as goal

pub returns-then-not-is_still_open : goal.returns-then-not-is_still_open
returns-then-not-is_still_open c =
    λ all earlier part own over numbers.
    (λ e. absurd (false_true e), λ s. absurd (false_true (sym c.if-not-is_still_open.true ∙ (c.is_still_open.ensures earlier own over).1 s.1)))

pub returns : goal.returns
returns c =
    λ all earlier part own over numbers.
    let other : (c.args.writer.session == c.args.now.now.session) ≡ false = let h = c.if-writer-now.false in grind (arith, nat_tests, h) in
    still_shown all earlier c.args.now.now.session c.args.now.now.at c.args.rid c.args.writer c.are_after.result part other
    ((c.is_still_open.ensures earlier own over).0 c.if-not-is_still_open.false) (c.are_after.ensures (onto all []) numbers)
