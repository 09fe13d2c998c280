use Rattle.std.proofs.Common.{◌∙◌, sym, refl, []}
use Rattle.hg_base.specs.Lists.{onto}
use Rattle.hg_base.proofs.ListFacts.{false_true}
use Rattle.hg_known.proofs.Pointing.{printed_all, declared_all}
use Rattle.hg_audit.proofs.Holding.{unless_moved, if_moved, moved_if}
use Rattle.hg_audit.proofs.freshness.is_held.Goals as goal

pub returns-then-not-is_printed : goal.returns-then-not-is_printed
returns-then-not-is_printed c =
    λ all h.
    (λ e. absurd (false_true e), λ held. absurd (false_true (sym c.if-not-is_printed.true ∙ c.is_printed.ensures (onto all []) h ∙ printed_all all c.args.told ∙ held.printed)))

pub returns-then-not-told : goal.returns-then-not-told
returns-then-not-told c =
    λ all h. (
      λ _. record {
        printed = sym (c.is_printed.ensures (onto all []) h ∙ printed_all all c.args.told) ∙ c.if-not-is_printed.false;
        declared = unless_moved c.args.told.moved _ c.if-not-told.true;
      },
      λ _. refl,
    )

pub returns : goal.returns
returns c =
    λ all h.
    let d = c.is_declared.ensures (onto all []) h ∙ declared_all all c.args.told in (
      λ e. record {
        printed = sym (c.is_printed.ensures (onto all []) h ∙ printed_all all c.args.told) ∙ c.if-not-is_printed.false;
        declared = if_moved c.args.told.moved _ c.if-not-told.false (sym d ∙ e);
      },
      λ held. d ∙ moved_if c.args.told.moved _ c.if-not-told.false held.declared,
    )
