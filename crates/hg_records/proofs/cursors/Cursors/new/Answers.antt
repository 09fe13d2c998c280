use Rattle.std.proofs.Common.{None, arith}
use Rattle.std.proofs.lemmas.List.{get_or-replicate}
use Rattle.hg_records.proofs.cursors.Cursors.new.Goals as goal

pub returns : goal.returns
returns c = λ j most. get_or-replicate 65 j _ None (omega (arith, most))
