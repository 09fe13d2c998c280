use Rattle.std.proofs.Common.{◌≡◌, ap, set, arith}
use Rattle.hg_chains.proofs.Removals.{free_within}
use Rattle.hg_chains.proofs.Heads.{strand_set, behind_set}
use Rattle.hg_chains.proofs.Writes.{Took, Pushed, pushed, loose, with_front}
use Rattle.hg_chains.proofs.arena.Arena.push.Goals as goal

pub take-at-requires-clause-free : goal.take-at-requires-clause-free
take-at-requires-clause-free c = λ some. free_within c.args.self.now.heads.items c.args.self.now.nodes.items c.args.self.now.free c.requires.arena.strands (λ e. omega (arith, some, e))

took : (c : goal.After-set_strand) → Took c.args.self.now.nodes.items c.args.self.now.free c.args.node c.take-at.result c.take-at.new.self.nodes.items c.take-at.new.self.free
took c =
    record {
      here = c.take-at.ensures.here;
      within = c.take-at.ensures.within;
      others = c.take-at.ensures.others;
      grown = c.take-at.ensures.grown;
      reused = c.take-at.ensures.reused;
    }

all : (c : goal.After-set_strand) → Pushed c.args.self.now.heads.items c.args.self.now.nodes.items c.args.place c.args.node c.take-at.result c.take-at.new.self.nodes.items c.take-at.new.self.free
all c =
    pushed c.args.self.now.heads.items c.args.self.now.nodes.items c.args.self.now.free c.requires.arena.strands c.args.place
    c.args.node c.take-at.result c.take-at.new.self.nodes.items c.take-at.new.self.free c.requires.room.head c.requires.link (took c)
    (loose c.args.self.now.heads.items c.args.self.now.nodes.items c.args.self.now.free c.requires.arena.strands c.take-at.result c.take-at.new.self.nodes.items c.take-at.new.self.free
    c.take-at.ensures.grown c.take-at.ensures.reused (λ e. let k = c.requires.room.node e in let l = k.1 in omega (arith, l)))

new_heads : (c : goal.After-set_strand) → c.set_strand.new.self.heads.items ≡ set c.args.self.now.heads.items c.args.place (with_front c.args.self.now.heads.items c.args.place c.take-at.result)
new_heads c = cc

new_nodes : (c : goal.After-set_strand) → c.set_strand.new.self.nodes.items ≡ c.take-at.new.self.nodes.items
new_nodes c = ap (λ ns. ns.items) c.set_strand.ensures.nodes

pub returns-clause-arena : goal.returns-clause-arena
returns-clause-arena c =
    let k = all c in
    record {
      strands = rw (new_heads c, new_nodes c, c.set_strand.ensures.free) k.arena;
      behind = rw (new_heads c) (behind_set c.args.self.now.heads.items c.args.place (with_front c.args.self.now.heads.items c.args.place c.take-at.result) c.requires.arena.behind
          c.requires.room.head (λ e. absurd (c.requires.some e)));
    }

pub returns-clause-here : goal.returns-clause-here
returns-clause-here c = let k = all c in rw (new_heads c, new_nodes c) k.here

pub returns-clause-fronts : goal.returns-clause-fronts
returns-clause-fronts c = rw (new_heads c) (strand_set c.args.self.now.heads.items c.args.place _ c.requires.room.head)

pub returns-clause-behind : goal.returns-clause-behind
returns-clause-behind c = let k = all c in rw (new_heads c, new_nodes c) k.behind

pub returns-clause-others : goal.returns-clause-others
returns-clause-others c = λ q apart. let k = all c in rw (new_heads c, new_nodes c) (k.others q apart)
