use Rattle.std.proofs.Common.{◌≡◌, ◌∙◌, ◌++◌, ap, sym}
use Rattle.std.proofs.lemmas.List.{get_or_read}
use Rattle.hg_chains.specs.declared.head.Head.{Head}
use Rattle.hg_chains.specs.Strands.{no_head, front_of}
use Rattle.hg_chains.specs.Arenas.{head_in, tail_in}
use Rattle.hg_chains.proofs.Heads.{opened, reimaged, Swapped, swapped}
use Rattle.hg_chains.proofs.Newest.{none_behind}
use Rattle.hg_chains.proofs.arena.Arena.set_image.Goals as goal

read : (c : goal.Joined-index_mut-image) → c.index_mut.result.now ≡ head_in c.args.self.now c.args.place
read c = get_or_read c.args.self.now.heads.items c.args.place c.index_mut.result.now c.requires.head c.index_mut.ensures.value no_head

abbrev new : goal.Joined-index_mut-image → Head
new c = record c.index_mut.result.now { image = c.args.image }

all : (c : goal.Joined-index_mut-image) → Swapped c.args.self.now.heads.items c.args.self.now.nodes.items c.args.self.now.free c.args.place (new c)
all c = swapped c.args.self.now.heads.items c.args.self.now.nodes.items c.args.self.now.free c.requires.arena.strands c.requires.arena.behind c.args.place (new c) c.requires.head
    (ap (λ (h : Head). h.strand) (read c)) (λ e. c.requires.arena.behind c.args.place (sym (ap (λ (h : Head). h.state) (read c)) ∙ e))

pub returns-clause-arena : goal.returns-clause-arena
returns-clause-arena c = let k = all c in record { strands = k.strands; behind = k.behind }

pub returns-clause-here : goal.returns-clause-here
returns-clause-here c =
    λ by is_open.
    let a = c.args.self.now in
    let k = all c in
    let o = opened by (head_in a c.args.place) (tail_in a c.args.place) (none_behind a c.args.place c.requires.arena) is_open in
    k.here ∙ ap (λ (h : Head). front_of (record h { image = c.args.image }) ++ tail_in a c.args.place) (read c) ∙
    reimaged by c.args.image (head_in a c.args.place) (tail_in a c.args.place) o is_open

pub returns-clause-stay : goal.returns-clause-stay
returns-clause-stay c = let k = all c in k.stay

pub returns-clause-others : goal.returns-clause-others
returns-clause-others c = let k = all c in k.others
