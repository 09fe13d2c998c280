use Rattle.std.proofs.Common.{◌^◌, ◌<◌, sym, subst, arith}
use Rattle.hg_core.specs.Words.{IsBelow}
use Rattle.hg_session.proofs.Replying.{pow_less}
use Rattle.hg_session.proofs.statements.only.Goals as goal

pub returns-clause-below : goal.returns-clause-below
returns-clause-below c = λ tables h. let less : 2 ^ c.args.table.0 < 2 ^ tables = pow_less c.args.table.0 tables h in subst (IsBelow tables) (sym c.only.ensures) (omega (arith, less))
