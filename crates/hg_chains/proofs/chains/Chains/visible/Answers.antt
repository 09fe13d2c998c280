use Rattle.std.proofs.Common.{◌≡◌, Some, true, ap, sym, ◌∙◌, arith}
use Rattle.std.specs.Prelude.{option_map}
use Rattle.std.proofs.lemmas.List.{get_or_read}
use Rattle.hg_chains.specs.declared.version.Version.{Version}
use Rattle.hg_chains.specs.declared.node.Node.{Node}
use Rattle.hg_chains.specs.declared.node.Strand.{Strand}
use Rattle.hg_chains.specs.declared.head.Head.{Head}
use Rattle.hg_chains.specs.Versions.{begins_at_most, image_at}
use Rattle.hg_chains.specs.Strands.{blank, no_head, node_at}
use Rattle.hg_chains.specs.Arenas.{head_in, front_in}
use Rattle.hg_chains.proofs.Walks.{at_there}
use Rattle.hg_chains.proofs.Held.{list_was}
use Rattle.hg_chains.proofs.Newest.{chain_tail, at_most_there}
use Rattle.hg_chains.proofs.Bounds.{seen_first, none_reached, none_found, one_found, walk_less}
use Rattle.hg_chains.proofs.chains.Chains.visible.Goals as goal

-- the newest version is seen

pub index-requires : goal.index-requires
index-requires c = let k = at_most_there c.self.inside.arena c.args.place c.args.at (sym c.begins_at_most.ensures ∙ c.if-begins_at_most.true) in omega (arith, k)

pub returns-then-begins_at_most : goal.returns-then-begins_at_most
returns-then-begins_at_most c =
    let a = c.self.inside.arena in
    let e : begins_at_most c.args.at (front_in a c.args.place) ≡ true = sym c.begins_at_most.ensures ∙ c.if-begins_at_most.true in
    let read : c.index.result.now ≡ head_in a c.args.place = get_or_read a.heads.items c.args.place c.index.result.now (at_most_there a c.args.place c.args.at e) c.index.ensures no_head in
    sym (ap (image_at c.args.at) (list_was a c.self.inside.free c.args.self.now c.args.place c.self.view_is) ∙ seen_first a c.args.place c.args.at e ∙ sym (ap (λ (h : Head). Some h.image) read))

-- it is one of the others, or none

pub passed-cursor-requires-clause-chain : goal.passed-cursor-requires-clause-chain
passed-cursor-requires-clause-chain c = chain_tail c.self.inside.arena c.args.place c.self.invariant.arena (c.self.invariant.chains c.args.place)

pub returns-then-cursor-strand : goal.returns-then-cursor-strand
returns-then-cursor-strand c =
    let a = c.self.inside.arena in
    let chain = chain_tail a c.args.place c.self.invariant.arena (c.self.invariant.chains c.args.place) in
    let n = none_reached c.args.at a c.args.place (sym c.begins_at_most.ensures ∙ c.if-begins_at_most.false) in
    sym (ap (image_at c.args.at) (list_was a c.self.inside.free c.args.self.now c.args.place c.self.view_is) ∙
    ap (option_map (λ (v : Version). v.image)) (n.found ∙ none_found a c.args.place c.args.at c.passed-cursor.result chain c.passed-cursor.ensures.kept
    (c.if-cursor-strand.true ∙ ap (λ (s : Strand). s.count) c.strand.ensures)))

pub index-requires-2 : goal.index-requires-2
index-requires-2 c =
    let a = c.self.inside.arena in
    let chain = chain_tail a c.args.place c.self.invariant.arena (c.self.invariant.chains c.args.place) in
    let l = walk_less a c.args.place c.args.at c.passed-cursor.result.kept chain c.passed-cursor.ensures.kept
    (λ same. c.if-cursor-strand.false (same ∙ sym (ap (λ (s : Strand). s.count) c.strand.ensures))) in
    let k = at_there a c.args.place c.passed-cursor.result c.self.invariant.arena c.passed-cursor.ensures.at l in
    omega (arith, k)

pub returns : goal.returns
returns c =
    let a = c.self.inside.arena in
    let chain = chain_tail a c.args.place c.self.invariant.arena (c.self.invariant.chains c.args.place) in
    let l = walk_less a c.args.place c.args.at c.passed-cursor.result.kept chain c.passed-cursor.ensures.kept
    (λ same. c.if-cursor-strand.false (same ∙ sym (ap (λ (s : Strand). s.count) c.strand.ensures))) in
    let k = at_there a c.args.place c.passed-cursor.result c.self.invariant.arena c.passed-cursor.ensures.at l in
    let read : c.index-2.result.now ≡ node_at a.nodes.items c.passed-cursor.result.at = get_or_read a.nodes.items c.passed-cursor.result.at c.index-2.result.now k c.index-2.ensures blank in
    let n = none_reached c.args.at a c.args.place (sym c.begins_at_most.ensures ∙ c.if-begins_at_most.false) in
    let found = n.found ∙ one_found a c.args.place c.args.at c.passed-cursor.result chain c.passed-cursor.ensures.at c.passed-cursor.ensures.kept l in
    sym (ap (image_at c.args.at) (list_was a c.self.inside.free c.args.self.now c.args.place c.self.view_is) ∙
    ap (option_map (λ (v : Version). v.image)) found ∙ sym (ap (λ (n : Node). Some n.image) read))
