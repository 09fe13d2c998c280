use Rattle.std.proofs.Common.{refl}
use Rattle.hg_known.proofs.Tallying.{tallied_all}
use Rattle.hg_known.proofs.tally.Versions.tally.Goals as goal

pub returns : goal.returns
returns c = λ all is. tallied_all all c.args.self.now record { made = c.args.self.now.made; undone = c.saturating_sub.result } is refl c.saturating_sub.ensures
