use Rattle.std.proofs.Common.{◌≡◌, ◌∙◌, ap}
use Rattle.std.proofs.lemmas.List.{get_or_read}
use Rattle.hg_chains.specs.declared.head.State.TheVariants.{Empty}
use Rattle.hg_chains.specs.declared.head.Head.{Head}
use Rattle.hg_chains.specs.Strands.{no_head, versions, nodes_along}
use Rattle.hg_chains.specs.Arenas.{head_in}
use Rattle.hg_chains.proofs.Heads.{Swapped, swapped}
use Rattle.hg_chains.proofs.arena.Arena.empty.Goals as goal

read : (c : goal.After-self-1) → c.index_mut-head.result.now ≡ head_in c.args.self.now c.args.place
read c = get_or_read c.args.self.now.heads.items c.args.place c.index_mut-head.result.now c.requires.head c.index_mut-head.ensures.value no_head

abbrev new : goal.After-self-1 → Head
new c = record c.index_mut-head.result.now { state = Empty; image = c.replace.new.dest }

all : (c : goal.After-self-1) → Swapped c.args.self.now.heads.items c.args.self.now.nodes.items c.args.self.now.free c.args.place (new c)
all c = swapped c.args.self.now.heads.items c.args.self.now.nodes.items c.args.self.now.free c.requires.arena.strands c.requires.arena.behind c.args.place (new c) c.requires.head
    (ap (λ (h : Head). h.strand) (read c)) (λ e. c.requires.alone)

pub returns-clause-arena : goal.returns-clause-arena
returns-clause-arena c = let k = all c in record { strands = k.strands; behind = k.behind }

pub returns-clause-here : goal.returns-clause-here
returns-clause-here c = let k = all c in let a = c.args.self.now in
    k.here ∙ ap (λ n. versions a.nodes.items n (head_in a c.args.place).strand.first) c.requires.alone

pub returns-clause-nodes : goal.returns-clause-nodes
returns-clause-nodes c = let k = all c in let a = c.args.self.now in
    k.stay ∙ ap (λ n. nodes_along a.nodes.items n (head_in a c.args.place).strand.first) c.requires.alone

pub returns-clause-others : goal.returns-clause-others
returns-clause-others c = let k = all c in k.others
