use Rattle.hg_chains.proofs.Walks.{next_at, at_there}
use Rattle.hg_chains.proofs.arena.Arena.remove_or_pass.Goals as goal

pub pass-requires-clause-there : goal.pass-requires-clause-there
pass-requires-clause-there c = at_there c.args.self.now c.args.place c.args.cursor.now c.requires.arena c.requires.at c.requires.some

pub returns-else-goes-clause-at : goal.returns-else-goes-clause-at
returns-else-goes-clause-at c = rw c.pass.ensures (next_at c.args.self.now c.args.place c.args.cursor.now c.requires.at.at)
