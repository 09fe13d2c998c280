use Rattle.std.proofs.Common.{arith}
use Rattle.std.proofs.lemmas.Bool.Decides.{nat_tests}
use Rattle.hg_known.specs.Lines.{said_of}
use Rattle.hg_known.proofs.Reading.{lasts_more}
use Rattle.hg_known.proofs.said.keep.Goals as goal

pub returns : goal.returns
returns c = λ earlier h. lasts_more c.args.lasts.now c.insert.new.self earlier (said_of c.args.now.now) c.left.result h c.left.ensures.left (grind (arith, nat_tests)) c.in_ok-insert.ensures.updates.0
