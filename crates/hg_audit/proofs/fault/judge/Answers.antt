use Rattle.std.proofs.Common.{◌∙◌, Some, sym, subst}
use Rattle.hg_base.proofs.ListFacts.{false_true}
use Rattle.hg_decide.specs.Audit.{IsKnown, IsRightReply}
use Rattle.hg_audit.specs.Found.{AreFaults, IsFirst}
use Rattle.hg_audit.proofs.fault.judge.Goals as goal

pub returns-in-Some-unanswered : goal.returns-in-Some-unanswered
returns-in-Some-unanswered c =
    λ mode command.
    let xs = c.args.all.now in
    let are : AreFaults mode xs (Some c.in-Some.faults) = subst (AreFaults mode xs) c.in-Some.is
    (c.in_ok-faults.ensures mode command c.requires.whole c.requires.knows) in
    (are.0, subst (IsFirst (IsRightReply mode xs) xs) c.in-Some-unanswered.is are.1)

pub returns-in-Some-unordered : goal.returns-in-Some-unordered
returns-in-Some-unordered c =
    λ mode command.
    let xs = c.args.all.now in
    let are : AreFaults mode xs (Some c.in-Some.faults) = subst (AreFaults mode xs) c.in-Some.is
    (c.in_ok-faults.ensures mode command c.requires.whole c.requires.knows) in
    (are.0, (subst (IsFirst (IsRightReply mode xs) xs) c.in_default-unanswered.is are.1, subst (IsFirst (IsKnown mode xs) xs) c.in-Some-unordered.is are.2))

pub returns-then-not-are_totals : goal.returns-then-not-are_totals
returns-then-not-are_totals c =
    λ mode command.
    let xs = c.args.all.now in
    let are : AreFaults mode xs (Some c.in-Some.faults) = subst (AreFaults mode xs) c.in-Some.is
    (c.in_ok-faults.ensures mode command c.requires.whole c.requires.knows) in (
      are.0,
      (
        subst (IsFirst (IsRightReply mode xs) xs) c.in_default-unanswered.is are.1,
        subst (IsFirst (IsKnown mode xs) xs) c.in_default-unordered.is are.2,
        λ totals. false_true (sym c.if-not-are_totals.true ∙ c.are_totals.ensures.1 totals),
      ),
    )

pub returns : goal.returns
returns c =
    λ mode command.
    let xs = c.args.all.now in
    let are : AreFaults mode xs (Some c.in-Some.faults) = subst (AreFaults mode xs) c.in-Some.is
    (c.in_ok-faults.ensures mode command c.requires.whole c.requires.knows) in (
      are.0,
      (
        subst (IsFirst (IsRightReply mode xs) xs) c.in_default-unanswered.is are.1,
        subst (IsFirst (IsKnown mode xs) xs) c.in_default-unordered.is are.2,
        c.are_totals.ensures.0 c.if-not-are_totals.false,
      ),
    )

pub are_totals-requires-clause-writes : goal.are_totals-requires-clause-writes
are_totals-requires-clause-writes c = c.requires.knows.writes

pub are_totals-requires-clause-groups : goal.are_totals-requires-clause-groups
are_totals-requires-clause-groups c = c.requires.knows.groups
