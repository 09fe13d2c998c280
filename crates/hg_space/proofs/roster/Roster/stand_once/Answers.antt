use Rattle.hg_space.specs.Rosters.{lists_in}
use Rattle.hg_space.proofs.Leaving.{seen_once}
use Rattle.hg_space.proofs.roster.Roster.stand_once.Goals as goal

pub returns : goal.returns
returns c = seen_once (lists_in c.self.inside.lists.items) c.args.self.now c.self.inside.standings.items c.self.view_is c.self.invariant
