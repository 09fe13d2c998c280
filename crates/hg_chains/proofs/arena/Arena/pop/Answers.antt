use Rattle.std.proofs.Common.{◌≡◌, ◌+◌, ◌-◌, set, arith}
use Rattle.hg_chains.specs.declared.node.Strand.{Strand}
use Rattle.hg_chains.specs.Strands.{head_at}
use Rattle.hg_chains.proofs.Removals.{behind_first, without, first_within, popped_arena, popped_here, popped_nodes, popped_others}
use Rattle.hg_chains.proofs.Strands.{has_head}
use Rattle.hg_chains.proofs.Heads.{strand_set, behind_set}
use Rattle.hg_chains.proofs.arena.Arena.pop.Goals as goal

pub next-requires : goal.next-requires
next-requires c =
    let k = first_within c.args.self.now.heads.items c.args.self.now.nodes.items c.args.self.now.free c.requires.arena.strands c.args.place c.requires.some in rw c.strand-strand.ensures k

pub give-requires-clause-there : goal.give-requires-clause-there
give-requires-clause-there c = let k = first_within c.args.self.now.heads.items c.args.self.now.nodes.items c.args.self.now.free c.requires.arena.strands c.args.place c.requires.some in
    rw (c.set_strand.ensures.nodes, c.strand-strand.ensures) k

new_heads : (c : goal.After-give) → c.give.new.self.heads.items ≡ set c.args.self.now.heads.items c.args.place
    (behind_first c.args.self.now.heads.items c.args.self.now.nodes.items c.args.place ((head_at c.args.self.now.heads.items c.args.place).strand.count - 1))
new_heads c = cc

new_nodes : (c : goal.After-give) → c.give.new.self.nodes.items ≡ without c.args.self.now.nodes.items (head_at c.args.self.now.heads.items c.args.place).strand.first c.args.self.now.free.first
new_nodes c = cc

new_free : (c : goal.After-give) → let k : Strand = record { first = (head_at c.args.self.now.heads.items c.args.place).strand.first; count = c.args.self.now.free.count + 1 } in
    c.give.new.self.free ≡ k
new_free c = cc

pub returns-clause-arena : goal.returns-clause-arena
returns-clause-arena c =
    record {
      strands = rw (new_heads c, new_nodes c, new_free c)
          (popped_arena c.args.self.now.heads.items c.args.self.now.nodes.items c.args.self.now.free c.requires.arena.strands c.args.place c.requires.some);
      behind = rw (new_heads c) (behind_set c.args.self.now.heads.items c.args.place _ c.requires.arena.behind
          (has_head c.args.self.now.heads.items c.args.place c.requires.some)
          (λ e. let z = c.requires.arena.behind c.args.place e in let some = c.requires.some in absurd (omega (arith, z, some))));
    }

pub returns-clause-here : goal.returns-clause-here
returns-clause-here c = rw (new_heads c, new_nodes c) (popped_here c.args.self.now.heads.items c.args.self.now.nodes.items c.args.self.now.free c.requires.arena.strands c.args.place c.requires.some)

pub returns-clause-nodes : goal.returns-clause-nodes
returns-clause-nodes c = rw (new_heads c, new_nodes c) (popped_nodes c.args.self.now.heads.items c.args.self.now.nodes.items c.args.self.now.free c.requires.arena.strands c.args.place c.requires.some)

pub returns-clause-fronts : goal.returns-clause-fronts
returns-clause-fronts c = rw (new_heads c) (strand_set c.args.self.now.heads.items c.args.place _ (has_head c.args.self.now.heads.items c.args.place c.requires.some))

pub returns-clause-others : goal.returns-clause-others
returns-clause-others c = λ q apart. rw (new_heads c, new_nodes c)
    (popped_others c.args.self.now.heads.items c.args.self.now.nodes.items c.args.self.now.free c.requires.arena.strands c.args.place c.requires.some q apart)
