use Rattle.hg_chains.proofs.Unlinks.{walk_within}
use Rattle.hg_chains.proofs.arena.Arena.remove.Goals as goal

pub next-cursor-requires : goal.next-cursor-requires
next-cursor-requires c = walk_within c.args.self.now.heads.items c.args.self.now.nodes.items c.args.self.now.free c.requires.arena.strands c.args.place c.args.cursor.now.kept
    c.args.cursor.now.at c.requires.some c.requires.at.at
