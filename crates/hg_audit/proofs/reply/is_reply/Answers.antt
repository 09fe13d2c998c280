use Rattle.std.proofs.Common.{◌≤◌, ◌∙◌, Option, sym, subst}
use Rattle.std.specs.Prelude.{Decides}
use Rattle.hg_base.specs.History.{seen}
use Rattle.hg_base.specs.Replies.{IsAnswer, is_written}
use Rattle.hg_base.specs.Transcript.{Rest, own_writes}
use Rattle.hg_known.specs.Lines.{said_of}
use Rattle.hg_audit.proofs.Answering.{same_of}
use Rattle.hg_audit.proofs.reply.is_reply.Goals as goal

pub returns : goal.returns
returns c =
    λ mode h earlier command shows many is rest.
    let now = said_of c.args.now.now in
    let own = own_writes earlier now in
    let d = subst (λ (q : Option Rest). Decides c.is_answer.result (IsAnswer mode (seen h own now.at) (is_written own) q now now.statement)) rest
    (c.is_answer.ensures mode h earlier command shows is) in (
      λ e. record {
        at = sym c.is_some.ensures ∙ same_of c.is_some.result c.args.now.now.alone c.if-is_some-now.false;
        number = sym c.is_some-2.ensures ∙ same_of c.is_some-2.result c.is_numbered.result c.if-is_some-is_numbered.false ∙ c.is_numbered.ensures;
        snapshot = subst (λ n. c.args.now.now.at ≤ n) (sym many) c.if-now-groups.false;
        answer = d.0 e;
      },
      λ r. d.1 r.answer,
    )
