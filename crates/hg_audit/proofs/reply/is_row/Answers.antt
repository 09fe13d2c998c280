use Rattle.std.proofs.Common.{◌≡◌, ◌∙◌, sym, ap, List, Some}
use Rattle.std.specs.Prelude.{option_copied}
use Rattle.std.proofs.lemmas.Option.{same_Some}
use Rattle.hg_base.specs.declared.value.Value.{Value}
use Rattle.hg_audit.proofs.reply.is_row.Goals as goal

pub returns-in-Some : goal.returns-in-Some
returns-in-Some c =
    let seen : option_copied c.args.seen ≡ Some c.in-Some.seen.now = ap option_copied c.in-Some.is in (
      λ e. seen ∙ ap (λ (row : List Value). Some row) (c.same.ensures.0 e),
      λ e. c.same.ensures.1 (same_Some c.in-Some.seen.now c.args.row.now (sym seen ∙ e)),
    )
