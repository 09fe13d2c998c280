use Rattle.std.proofs.Common.{◌∙◌, sym, ap, length, []}
use Rattle.hg_known.proofs.Reading.{all_read}
use Rattle.hg_known.proofs.lines.Lines.len.Goals as goal

pub returns-clause-same : goal.returns-clause-same
returns-clause-same c = sym (all_read [] c.self.inside.sequence.now c.self.inside.lines.now c.self.invariant.0) ∙ ap length c.self.view_is
