use Rattle.std.proofs.Common.{◌∙◌, ◌++◌, ◌∷◌, [], refl, ap, sym, arith}
use Rattle.std.proofs.lemmas.List.{append-nil}
use Rattle.hg_chains.specs.Strands.{chain_of}
use Rattle.hg_chains.proofs.Rooms.{padded_arena, padded_behind, padded_more, padded_read}
use Rattle.hg_chains.proofs.arena.Arena.reserve_head.Goals as goal

pub loop-head-init : goal.loop-head-init
loop-head-init c =
    let l = c.len-many.ensures in
    let less = c.if-many-place.true in
    let room = c.in_ok-reserve.ensures.ok in
    let same = c.in_ok-reserve.ensures.len in
    record {
      heads = c.in_ok-reserve.ensures.items ∙ sym (append-nil c.args.self.now.heads.items);
      nodes = refl;
      free = refl;
      room = omega (arith, l, less, room, same);
    }

pub push_reserved-requires : goal.push_reserved-requires
push_reserved-requires c =
    let room = c.loop-head.invariant.room in
    let more = c.loop-head-test.true in
    omega (arith, room, more)

pub loop-head-preserved : goal.loop-head-preserved
loop-head-preserved c =
    let room = c.loop-head.invariant.room in
    let more = c.loop-head-test.true in
    let len = c.push_reserved.ensures.len in
    let same = c.push_reserved.ensures.capacity in
    record {
      heads = c.push_reserved.ensures.items ∙ (λ i. c.loop-head.invariant.heads i ++ c.empty.ensures i ∷ []) ∙ padded_more c.args.self.now.heads.items c.loop-head._head;
      nodes = c.loop-head.invariant.nodes;
      free = c.loop-head.invariant.free;
      room = omega (arith, room, more, len, same);
    }

pub returns-after-loop-head-clause-arena : goal.returns-after-loop-head-clause-arena
returns-after-loop-head-clause-arena c =
    let a = c.args.self.now in
    let i = c.loop-head.invariant in
    record {
      strands = rw (i.heads, ap (λ ns. ns.items) i.nodes, i.free) (padded_arena a.heads.items a.nodes.items a.free c.requires.arena.strands c.loop-head._head);
      behind = rw i.heads (padded_behind a.heads.items c.loop-head._head c.requires.arena.behind);
    }

pub returns-after-loop-head-clause-lists : goal.returns-after-loop-head-clause-lists
returns-after-loop-head-clause-lists c =
    λ q.
    let a = c.args.self.now in
    let i = c.loop-head.invariant in
    rw (i.heads, ap (λ ns. ns.items) i.nodes) (ap (chain_of a.nodes.items) (padded_read a.heads.items c.loop-head._head q))
