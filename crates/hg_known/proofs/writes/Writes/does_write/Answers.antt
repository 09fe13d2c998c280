use Rattle.std.proofs.Common.{◌∙◌, sym, ap}
use Rattle.std.specs.Prelude.{is_some}
use Rattle.hg_known.proofs.Groups.{writes_it}
use Rattle.hg_known.proofs.writes.Writes.does_write.Goals as goal

pub returns : goal.returns
returns c = λ h shows. c.has.ensures ∙ ap is_some (shows c.args.rid c.args.number) ∙ sym (writes_it h c.args.rid c.args.number)
