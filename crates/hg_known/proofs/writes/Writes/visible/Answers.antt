use Rattle.std.proofs.Common.{◌∙◌, sym, ap}
use Rattle.std.specs.Prelude.{option_copied}
use Rattle.hg_base.specs.declared.image.Image.{Image}
use Rattle.hg_known.proofs.Groups.{none_visible, last_visible}
use Rattle.hg_known.proofs.writes.Writes.visible.Goals as goal

pub returns-in_err-image : goal.returns-in_err-image
returns-in_err-image c =
    λ h shows.
    ap option_copied c.from_residual.ensures
    ∙ sym (ap (λ (i : Image). i.row) (none_visible h c.args.rid c.args.at (λ n k. sym (shows c.args.rid n) ∙ c.in_err-image.ensures n k)))

pub returns : goal.returns
returns c =
    λ h shows.
    let e = c.in_ok-image.ensures in
    c.as_ref.ensures.value
    ∙ sym (ap (λ (i : Image). i.row) (last_visible h c.args.rid c.args.at c.in_ok-image.field-0-0 c.in_ok-image.image.now e.0 (sym (shows c.args.rid c.in_ok-image.field-0-0) ∙ e.1)
    (λ m j k. sym (shows c.args.rid m) ∙ e.2 m j k)))
