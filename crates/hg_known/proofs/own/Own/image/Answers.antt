use Rattle.std.proofs.Common.{◌∙◌, ap}
use Rattle.hg_known.specs.Owned.{own_at, spot}
use Rattle.hg_known.proofs.SpotOrder.{looked_up}
use Rattle.hg_known.proofs.own.Own.image.Goals as goal

pub returns : goal.returns
returns c =
    let s = spot c.args.tx.session c.args.tx.number c.args.rid in
    c.get.ensures.value ∙ looked_up c.self.inside.images.entries s ∙ ap (λ es. own_at es c.args.tx.session c.args.tx.number c.args.rid) c.self.view_is
