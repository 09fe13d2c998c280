use Rattle.std.proofs.Common.{◌∙◌, sym}
use Rattle.hg_base.proofs.ListFacts.{false_true}
use Rattle.hg_known.specs.Lines.{said_of}
use Rattle.hg_audit.proofs.Looking.{both_unseen, mine_unseen, others_unseen}
use Rattle.hg_audit.proofs.scan.none_seen.Goals as goal

pub returns-then-not-none_stored : goal.returns-then-not-none_stored
returns-then-not-none_stored c =
    λ h earlier shows is. (
      λ e. absurd (false_true e),
      λ none. absurd (false_true (sym c.if-not-none_stored.true ∙ c.none_stored.ensures.1 (mine_unseen h earlier (said_of c.args.now.now) c.args.own.now is c.args.table c.args.from c.args.to none))),
    )

pub returns : goal.returns
returns c =
    λ h earlier shows is. (
      λ e. both_unseen h earlier (said_of c.args.now.now) c.args.own.now is c.args.table c.args.from c.args.to (c.none_stored.ensures.0 c.if-not-none_stored.false)
          ((c.none_shown.ensures h shows).0 e),
      λ none. (c.none_shown.ensures h shows).1 (others_unseen h earlier (said_of c.args.now.now) c.args.own.now is c.args.table c.args.from c.args.to none),
    )
