use Rattle.std.proofs.Common.{◌≡◌, ◌∙◌, Some, subst, arith}
use Rattle.hg_base.specs.Lifetimes.{is_in_use}
use Rattle.hg_chains.specs.Merging.{Follows}
use Rattle.hg_chains.proofs.Merges.{in_use, goes_here, passed_on}
use Rattle.hg_chains.proofs.merge.Merge.settle.Goals as goal

pub returns-in-Some-Some-clause-goes : goal.returns-in-Some-Some-clause-goes
returns-in-Some-Some-clause-goes g c =
    let lies : c.is_seen.result ≡ is_in_use c.args.snapshots.now c.in-Some-Some.number c.in-Some-Some.up =
    c.is_seen.ensures ∙ in_use c.in-Some-Some.number c.in-Some-Some.up c.pass_from-self.result c.args.snapshots.now c.requires.rises
    (omega (arith, c.pass_from-self.ensures.within, c.requires.within)) c.pass_from-self.ensures.passed c.pass_from-self.ensures.below in
    rw (c.in-Some-Some.is-0, c.in-Some-Some.is-1) (goes_here c.args.horizon c.args.snapshots.now c.in-Some-Some.up c.in-Some-Some.number c.is_seen.result c.if-up-horizon.true lies)

pub returns-in-Some-Some-clause-passed : goal.returns-in-Some-Some-clause-passed
returns-in-Some-Some-clause-passed g c = λ f. passed_on (Some c.in-Some-Some.up) c.args.number c.pass_from-self.result c.args.snapshots.now c.pass_from-self.ensures.passed
    (subst (λ n. Follows n c.args.number) c.in-Some-Some.is-0 f)

pub returns-in_default-clause-passed : goal.returns-in_default-clause-passed
returns-in_default-clause-passed g c = λ f. passed_on c.args.self.now.successor c.args.number c.args.self.now.left c.args.snapshots.now c.requires.passed f
