use Rattle.std.proofs.Common.{sym, ◌∙◌}
use Rattle.std.specs.Int.RustNames.{count_ones}
use Rattle.std.proofs.lemmas.Bool.Decides.{Decides-eqb}
use Rattle.hg_store.proofs.Masking.{last_bits}
use Rattle.hg_store.proofs.store.remainder.Goals as goal

pub returns-then-is_power_of_two : goal.returns-then-is_power_of_two
returns-then-is_power_of_two c = last_bits c.args.number c.args.divisor ((Decides-eqb (count_ones c.args.divisor) 1).0 (sym c.is_power_of_two.ensures ∙ c.if-is_power_of_two.true))
