use Rattle.std.proofs.Common.{◌∙◌, sym}
use Rattle.hg_base.specs.Transcript.{history_of}
use Rattle.hg_base.proofs.ListFacts.{false_true}
use Rattle.hg_audit.proofs.reply.is_answered.Goals as goal

pub returns-then-not-is_reply : goal.returns-then-not-is_reply
returns-then-not-is_reply c =
    λ mode all earlier command knows asked part own rest opened over.
    let d = c.is_reply.ensures mode (history_of all) earlier command knows.writes knows.groups own rest in
    (λ e. absurd (false_true e), λ p. absurd (false_true (sym c.if-not-is_reply.true ∙ d.1 p.0)))

pub returns : goal.returns
returns c =
    λ mode all earlier command knows asked part own rest opened over.
    let d = c.is_reply.ensures mode (history_of all) earlier command knows.writes knows.groups own rest in
    let e = c.shows_conflict.ensures mode (history_of all) all earlier command knows asked part own opened over in
    (λ t. (d.0 c.if-not-is_reply.false, e.0 t), λ p. e.1 p.1)
