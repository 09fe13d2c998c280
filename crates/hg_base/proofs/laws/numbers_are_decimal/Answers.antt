use Rattle.std.proofs.Common.{arith}
use Rattle.hg_base.proofs.Decimal.{to, back}
use Rattle.hg_base.proofs.laws.numbers_are_decimal.Goals as goal

pub returns : goal.returns
returns c = (to _ _, back _ _ (omega arith))
