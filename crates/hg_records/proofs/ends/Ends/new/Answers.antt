use Rattle.std.proofs.Common.{arith}
use Rattle.std.proofs.lemmas.List.{get_or-replicate}
use Rattle.hg_records.proofs.ends.Ends.new.Goals as goal

pub returns : goal.returns
returns c = λ j most. get_or-replicate 65 j _ 0 (omega (arith, most))
