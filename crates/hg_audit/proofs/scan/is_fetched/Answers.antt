use Rattle.std.proofs.Common.{Option, Some, sym, subst}
use Rattle.std.specs.Prelude.{Decides, option_map}
use Rattle.hg_base.specs.History.{seen}
use Rattle.hg_base.specs.Replies.{AreFirst, IsFetched}
use Rattle.hg_base.specs.Transcript.{own_writes}
use Rattle.hg_known.specs.declared.said.Rest as kept
use Rattle.hg_known.specs.Lines.{rest_of, said_of}
use Rattle.hg_audit.specs.Seen.{look}
use Rattle.hg_audit.proofs.scan.is_fetched.Goals as goal

pub returns-in-Rows : goal.returns-in-Rows
returns-in-Rows c =
    λ h earlier shows is.
    let now = said_of c.args.now.now in
    let see = seen h (own_writes earlier now) now.at in
    let rest = c.in-Some.rest in
    subst (λ (q : Option kept.Rest). Decides c.are_first.result (IsFetched see c.args.most (option_map rest_of q) now.reply.answer)) (sym c.in-Some.is)
    (subst (λ a. Decides c.are_first.result (IsFetched see c.args.most (Some (rest_of rest)) a)) (sym c.in-Rows.is)
    (subst (λ rows. Decides c.are_first.result (AreFirst (look h earlier now rest.table) c.args.most (rest_of rest).low rest.high rows)) c.as_slice.ensures (c.are_first.ensures h earlier shows is)))
