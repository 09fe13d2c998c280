use Rattle.std.proofs.Common.{arith, get_or-set_same}
use Rattle.std.proofs.lemmas.List.{length-set}
use Rattle.hg_chains.specs.Strands.{blank}
use Rattle.hg_chains.proofs.arena.Arena.take.Goals as goal

pub next-requires : goal.next-requires
next-requires c = c.requires.free (let k = c.if-self-eq0.false in omega (arith, k))

pub index_mut-requires : goal.index_mut-requires
index_mut-requires c = let k = c.requires.free (let k = c.if-self-eq0.false in omega (arith, k)) in omega (arith, k)

pub returns-clause-here : goal.returns-clause-here
returns-clause-here c = get_or-set_same c.args.self.now.nodes.items c.args.self.now.free.first c.args.node blank (c.requires.free (let k = c.if-self-eq0.false in omega (arith, k)))

pub returns-clause-within : goal.returns-clause-within
returns-clause-within c =
    let k = c.requires.free (let k = c.if-self-eq0.false in omega (arith, k)) in
    let e = length-set c.args.self.now.nodes.items c.args.self.now.free.first c.args.node in
    omega (arith, k, e)
