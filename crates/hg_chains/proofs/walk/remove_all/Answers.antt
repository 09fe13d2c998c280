use Rattle.std.proofs.Common.{◌≡◌, [], length, take, sym, ap, ◌∙◌}
use Rattle.hg_chains.specs.declared.head.Head.{Head}
use Rattle.hg_chains.specs.Arenas.{tail_in}
use Rattle.hg_chains.proofs.Walks.{tail_many}
use Rattle.hg_chains.proofs.Newest.{has_first}
use Rattle.hg_chains.proofs.walk.remove_all.Goals as goal

pub empty-requires : goal.empty-requires
empty-requires c =
    let b = c.remove_rest.new.arena in
    let none : tail_in b c.args.place ≡ [] = c.remove_rest.ensures.left ∙ ap (λ k. take k (tail_in c.args.arena.now c.args.place)) c.start-start.ensures.kept in
    record {
      arena = c.remove_rest.ensures.arena;
      head = has_first b.heads.items c.args.place (λ e. c.requires.some (sym (ap (λ (h : Head). h.state) (c.remove_rest.ensures.fronts c.args.place)) ∙ e));
      alone = sym (tail_many b c.args.place) ∙ ap length none;
    }
