use Rattle.hg_seed.proofs.Made.{below-is, next}
use Rattle.hg_seed.proofs.draws.Draws.below.Goals as goal

pub returns-clause-number : goal.returns-clause-number
returns-clause-number c = rw (← c.self.view_is, ← next c.self.inside.state) (below-is c.args.bound _)

pub returns-clause-state : goal.returns-clause-state
returns-clause-state c = rw (← c.self.view_is) (next c.self.inside.state)
