use Rattle.hg_cursor.proofs.Backing.{backing, earlier}
use Rattle.hg_cursor.proofs.laws.histories_go_on.Goals as goal

pub returns-clause-backed : goal.returns-clause-backed
returns-clause-backed c = λ z mark v b only. backing z mark v b only

pub returns-clause-earlier : goal.returns-clause-earlier
returns-clause-earlier c = λ buckets v w entries h logs a g. earlier buckets v w entries h logs a g
