use Rattle.hg_known.proofs.Closing.{all_open}
use Rattle.hg_known.proofs.lines.Lines.new.Goals as goal

pub returns-clause-open : goal.returns-clause-open
returns-clause-open c = all_open c.args.sequence.now c.args.lines.now
