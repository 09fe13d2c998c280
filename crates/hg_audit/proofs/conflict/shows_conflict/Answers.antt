use Rattle.std.proofs.Common.{◌∙◌, sym, subst}
use Rattle.std.specs.Prelude.{Decides, IfSome}
use Rattle.hg_base.specs.Conflicts.{ShowsCause}
use Rattle.hg_known.specs.Lines.{said_of}
use Rattle.hg_audit.proofs.conflict.shows_conflict.Goals as goal

pub returns-in-Some : goal.returns-in-Some
returns-in-Some c =
    λ mode h all earlier command knows asked part own opened over.
    let now = said_of c.args.now.now in
    subst (λ o. Decides c.shows_cause.result (IfSome o (λ r. ShowsCause mode h all earlier now r now.reply.answer))) (sym (sym c.target.ensures ∙ c.in-Some.is))
    (c.shows_cause.ensures mode h all earlier command knows asked part own opened over)
