use Rattle.std.proofs.Common.{◌≡◌, false, arith, ◌==◌, []}
use Rattle.std.proofs.lemmas.Bool.Decides.{nat_tests}
use Rattle.hg_base.specs.Lists.{onto}
use Rattle.hg_base.proofs.ListFacts.{false_true}
use Rattle.hg_audit.proofs.Conflicting.{open_shown, not_stored}
use Rattle.hg_audit.proofs.conflict.shows_open.Goals as goal

pub returns-then-not-has : goal.returns-then-not-has
returns-then-not-has c =
    λ all is numbers.
    (λ e. absurd (false_true e), λ s. absurd (not_stored c.args.own.now all c.args.now.now.session c.args.now.now.at c.args.rid c.args.writer c.has.result is c.has.ensures c.if-not-has.true s))

pub returns : goal.returns
returns c =
    λ all is numbers.
    let other : (c.args.writer.session == c.args.now.now.session) ≡ false = let h = c.if-writer-now.false in grind (arith, nat_tests, h) in
    open_shown c.args.own.now all c.args.now.now.session c.args.now.now.at c.args.rid c.args.writer c.has.result c.are_after.result is other c.has.ensures c.if-not-has.false
    (c.are_after.ensures (onto all []) numbers)
