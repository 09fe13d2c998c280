use Rattle.std.proofs.Common.{◌≡◌, ◌<◌, ◌+◌, ◌∙◌, ap, set, length, arith}
use Rattle.std.proofs.lemmas.List.{length-set}
use Rattle.hg_chains.specs.declared.node.Strand.{Strand}
use Rattle.hg_chains.proofs.Unlinks.{Unlinked, unlink, one_less, unlinked}
use Rattle.hg_chains.proofs.Strands.{has_head}
use Rattle.hg_chains.proofs.Heads.{strand_set, behind_set}
use Rattle.hg_chains.proofs.arena.Arena.unlink.Goals as goal

pub next-next-requires : goal.next-next-requires
next-next-requires c =
    let k = unlink c.args.self.now.heads.items c.args.self.now.nodes.items c.args.self.now.free c.requires.arena.strands c.args.place c.args.cursor.kept c.args.cursor.last c.args.cursor.at
    c.requires.behind c.requires.some c.requires.at.at c.requires.at.last in
    rw c.set_strand.ensures.nodes k.at_within

pub set_next-requires : goal.set_next-requires
set_next-requires c =
    let k = unlink c.args.self.now.heads.items c.args.self.now.nodes.items c.args.self.now.free c.requires.arena.strands c.args.place c.args.cursor.kept c.args.cursor.last c.args.cursor.at
    c.requires.behind c.requires.some c.requires.at.at c.requires.at.last in
    rw c.set_strand.ensures.nodes k.last_within

pub give-requires-clause-there : goal.give-requires-clause-there
give-requires-clause-there c =
    let k = unlink c.args.self.now.heads.items c.args.self.now.nodes.items c.args.self.now.free c.requires.arena.strands c.args.place c.args.cursor.kept c.args.cursor.last c.args.cursor.at
    c.requires.behind c.requires.some c.requires.at.at c.requires.at.last in
    let within = k.at_within in
    let e : length c.set_next.new.self.nodes.items ≡ length c.args.self.now.nodes.items = ap length c.set_next.ensures.nodes ∙ length-set _ _ _ ∙
    ap (λ ns. length ns.items) c.set_strand.ensures.nodes in
    omega (arith, e, within)

all : (c : goal.After-give) → Unlinked c.args.self.now.heads.items c.args.self.now.nodes.items c.args.self.now.free c.args.place c.args.cursor.kept c.args.cursor.last c.args.cursor.at
all c = unlink c.args.self.now.heads.items c.args.self.now.nodes.items c.args.self.now.free c.requires.arena.strands c.args.place c.args.cursor.kept c.args.cursor.last c.args.cursor.at
    c.requires.behind c.requires.some c.requires.at.at c.requires.at.last

new_heads : (c : goal.After-give) → c.give.new.self.heads.items ≡ set c.args.self.now.heads.items c.args.place (one_less c.args.self.now.heads.items c.args.place)
new_heads c = cc

new_nodes : (c : goal.After-give) → c.give.new.self.nodes.items ≡ unlinked c.args.self.now.nodes.items c.args.cursor.last c.args.cursor.at c.args.self.now.free.first
new_nodes c = cc

new_free : (c : goal.After-give) → let k : Strand = record { first = c.args.cursor.at; count = c.args.self.now.free.count + 1 } in c.give.new.self.free ≡ k
new_free c = cc

within : (c : goal.After-give) → c.args.place < length c.args.self.now.heads.items
within c = has_head c.args.self.now.heads.items c.args.place (let some = c.requires.some in omega (arith, some))

pub returns-clause-arena : goal.returns-clause-arena
returns-clause-arena c =
    let k = all c in
    record {
      strands = rw (new_heads c, new_nodes c, new_free c) k.arena;
      behind = rw (new_heads c) (behind_set c.args.self.now.heads.items c.args.place _ c.requires.arena.behind (within c)
          (λ e. let z = c.requires.arena.behind c.args.place e in let some = c.requires.some in absurd (omega (arith, z, some))));
    }

pub returns-clause-fronts : goal.returns-clause-fronts
returns-clause-fronts c = rw (new_heads c) (strand_set c.args.self.now.heads.items c.args.place _ (within c))

pub returns-clause-here : goal.returns-clause-here
returns-clause-here c = let k = all c in rw (new_heads c, new_nodes c) k.left

pub returns-clause-at : goal.returns-clause-at
returns-clause-at c =
    let k = all c in
    record {
      at = rw (new_heads c, new_nodes c) k.walk;
      last = rw (new_heads c, new_nodes c) k.behind;
    }

pub returns-clause-others : goal.returns-clause-others
returns-clause-others c = λ q apart. let k = all c in rw (new_heads c, new_nodes c) (k.others q apart)
