use Rattle.std.proofs.Common.{Err, ap}
use Rattle.hg_run.proofs.Conversing.{refused, usage_unless_no_memory}
use Rattle.hg_run.proofs.conversation.converse.Goals as goal

pub returns-in-Err-clause-conversation : goal.returns-in-Err-clause-conversation
returns-in-Err-clause-conversation g c = refused _ _ _ _ c.in-Err.refusal c.from.result c.from.ensures c.requires (λ p. c.in-Err.ensures.usage (ap (λ e. Err e) p))

pub returns-in-Err-clause-refused : goal.returns-in-Err-clause-refused
returns-in-Err-clause-refused g c none = usage_unless_no_memory c.in-Err.refusal c.from.result c.from.ensures
