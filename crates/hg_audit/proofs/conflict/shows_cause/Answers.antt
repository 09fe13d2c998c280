use Rattle.std.proofs.Common.{Bool, true, false, ap, sym, subst}
use Rattle.std.specs.Prelude.{Decides}
use Rattle.hg_base.specs.declared.line.Answer.{Answer}
use Rattle.hg_base.specs.declared.line.Answer.TheVariants.{OpenBy}
use Rattle.hg_base.specs.Conflicts.{ShowsCause}
use Rattle.hg_known.specs.Lines.{said_of}
use Rattle.hg_audit.proofs.Conflicting.{newer_own, open_own, open_run, open_replay}
use Rattle.hg_audit.proofs.conflict.shows_cause.Goals as goal

-- whether the answer refuses a write for an open one
abbrev names_in : Answer → Bool
names_in answer = elim answer [ OpenBy writer ↦ true | _ ↦ false ]

pub returns-then-has_written : goal.returns-then-has_written
returns-then-has_written c =
    λ mode h all earlier command knows asked part own opened over.
    let now = said_of c.args.now.now in
    subst (λ a. Decides false (ShowsCause mode h all earlier now c.args.rid a)) (sym c.in-Newer.is)
    (newer_own mode h all earlier now c.args.rid c.has_written.result (c.has_written.ensures earlier own) c.in-Newer.number c.if-has_written.true)

pub returns-then-has_written-2 : goal.returns-then-has_written-2
returns-then-has_written-2 c =
    λ mode h all earlier command knows asked part own opened over.
    let now = said_of c.args.now.now in
    subst (λ a. Decides false (ShowsCause mode h all earlier now c.args.rid a)) (sym c.in-OpenBy.is)
    (open_own mode h all earlier now c.args.rid c.has_written-in-OpenBy.result (c.has_written-in-OpenBy.ensures earlier own) c.in-OpenBy.writer c.if-has_written-2.true)

pub returns-in-Run : goal.returns-in-Run
returns-in-Run c =
    λ mode h all earlier command knows asked part own opened over.
    let now = said_of c.args.now.now in
    let w = c.in-OpenBy.writer in
    let named = asked (ap (λ a. names_in a) c.in-OpenBy.is) in
    subst (λ a. Decides c.shows_open.result (ShowsCause mode h all earlier now c.args.rid a)) (sym c.in-OpenBy.is)
    (open_run mode h all earlier now c.args.rid c.has_written-in-OpenBy.result (c.has_written-in-OpenBy.ensures earlier own) c.args.facts.now.command w c.shows_open.result
    c.in-Run.is command c.if-has_written-2.false
    (c.shows_open.ensures all (knows.own c.in-Run.is named) (knows.numbers named)))

pub returns-in-Replay : goal.returns-in-Replay
returns-in-Replay c =
    λ mode h all earlier command knows asked part own opened over.
    let now = said_of c.args.now.now in
    let w = c.in-OpenBy.writer in
    let named = asked (ap (λ a. names_in a) c.in-OpenBy.is) in
    subst (λ a. Decides c.shows_still_open.result (ShowsCause mode h all earlier now c.args.rid a)) (sym c.in-OpenBy.is)
    (open_replay mode h all earlier now c.args.rid c.has_written-in-OpenBy.result (c.has_written-in-OpenBy.ensures earlier own) c.args.facts.now.command w c.shows_still_open.result
    c.in-Replay.is command c.if-has_written-2.false
    (c.shows_still_open.ensures all earlier part opened over (knows.numbers named)))
