use Rattle.std.proofs.Common.{◌∙◌}
use Rattle.hg_known.proofs.context.Points.is_declared.Goals as goal

pub returns : goal.returns
returns c = λ lines points. c.contains.ensures ∙ points.declared c.args.session c.args.number
