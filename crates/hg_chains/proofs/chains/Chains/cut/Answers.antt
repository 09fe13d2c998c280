use Rattle.std.proofs.Common.{◌≡◌, ◌+◌, ◌<◌, ◌++◌, Some, ap, sym, subst, length, ◌∙◌, arith}
use Rattle.std.specs.Prelude.{option_and_then}
use Rattle.std.proofs.lemmas.List.{length-append}
use Rattle.hg_chains.specs.declared.node.Strand.{Strand}
use Rattle.hg_chains.specs.Versions.{IsChain, left_by, oldest_at, others_at, numbered_image}
use Rattle.hg_chains.specs.Places.{nodes_of}
use Rattle.hg_chains.specs.Arenas.{front_in, head_in, list_in, tail_in}
use Rattle.hg_chains.specs.Landmarks.{landmarks_of}
use Rattle.hg_chains.proofs.Cuts.{left_is_chain}
use Rattle.hg_chains.proofs.LandmarkFacts.{no_landmarks}
use Rattle.hg_chains.proofs.Walks.{tail_many}
use Rattle.hg_chains.proofs.Fronts.{front_stays}
use Rattle.hg_chains.proofs.Held.{list_seen, list_was, others_seen, holds_after, free_fits, counted}
use Rattle.hg_chains.proofs.Newest.{chain_tail, first_there}
use Rattle.hg_chains.proofs.Bounds.{AllReached, all_reached, none_reached}
use Rattle.hg_chains.proofs.Bounds.{walk_less, walk_left, walk_others, all_left, none_gone, none_found, nothing_out, handed_out}
use Rattle.hg_chains.proofs.chains.Chains.cut.Goals as goal

-- all versions are at the bound

pub overflow_add-self : goal.overflow_add-self
overflow_add-self c =
    let a = c.self.inside.arena in
    let r = all_reached c.args.bound a c.args.place (c.self.invariant.chains c.args.place) (sym c.begins_at_most.ensures ∙ c.if-begins_at_most.true) in
    let many = r.many in
    let f = free_fits a c.self.inside.landmarks c.self.inside.all c.self.inside.free c.self.invariant in
    let m = counted a c.args.place in
    let e = ap (λ (s : Strand). s.count) c.strand-others.ensures in
    let g = c.from-gone.ensures in
    omega (arith, many, f, m, e, g)

pub remove_all-requires-clause-some : goal.remove_all-requires-clause-some
remove_all-requires-clause-some c = first_there c.self.inside.arena c.args.place c.args.bound (sym c.begins_at_most.ensures ∙ c.if-begins_at_most.true)

reached : (c : goal.After-remove_all) → AllReached c.args.bound c.self.inside.arena c.args.place
reached c = all_reached c.args.bound c.self.inside.arena c.args.place (c.self.invariant.chains c.args.place) (sym c.begins_at_most.ensures ∙ c.if-begins_at_most.true)

pub invariant_of-self : goal.invariant_of-self
invariant_of-self c =
    let a = c.self.inside.arena in
    let b = c.remove_all.new.arena in
    let r = reached c in
    let many = r.many in
    let none = ap length c.remove_all.ensures.left in
    let e = ap (λ (s : Strand). s.count) c.strand-others.ensures in
    let g = c.from-gone.ensures in
    let room = c.self.invariant.room in
    let same = c.remove_all.ensures.nodes.1 in
    holds_after a b c.self.inside.landmarks c.clear.new.self c.args.place c.self.inside.all c.self.inside.free c.self.inside.all (c.self.inside.free + (c.from-gone.result + 1)) c.self.invariant
    c.remove_all.ensures.arena (subst IsChain (sym c.remove_all.ensures.left) tt) c.remove_all.ensures.others c.clear.ensures.others
    (no_landmarks b c.args.place (landmarks_of c.clear.new.self c.args.place) c.clear.ensures.here) (omega (arith, many, none, e, g)) (omega (arith, room, same)) c.self.invariant.few

pub returns-then-begins_at_most-clause-left : goal.returns-then-begins_at_most-clause-left
returns-then-begins_at_most-clause-left c =
    let r = reached c in
    list_seen c.remove_all.new.arena (c.self.inside.free + (c.from-gone.result + 1)) c.args.place ∙ c.remove_all.ensures.left ∙
    sym (ap (left_by c.args.bound) (list_was c.self.inside.arena c.self.inside.free c.args.self.now c.args.place c.self.view_is) ∙ r.left)

pub returns-then-begins_at_most-clause-image : goal.returns-then-begins_at_most-clause-image
returns-then-begins_at_most-clause-image c =
    let r = reached c in
    ap Some c.remove_all.ensures.held ∙
    sym (ap (oldest_at c.args.bound) (list_was c.self.inside.arena c.self.inside.free c.args.self.now c.args.place c.self.view_is) ∙ r.image)

pub returns-then-begins_at_most-clause-gone : goal.returns-then-begins_at_most-clause-gone
returns-then-begins_at_most-clause-gone c =
    let r = reached c in
    c.from-gone.ensures ∙ ap (λ (s : Strand). s.count) c.strand-others.ensures ∙
    sym (ap (others_at c.args.bound) (list_was c.self.inside.arena c.self.inside.free c.args.self.now c.args.place c.self.view_is) ∙ r.gone)

pub returns-then-begins_at_most-clause-others : goal.returns-then-begins_at_most-clause-others
returns-then-begins_at_most-clause-others c = others_seen c.self.inside.arena c.remove_all.new.arena c.self.inside.free (c.self.inside.free + (c.from-gone.result + 1)) c.args.self.now
    c.args.place c.self.view_is c.remove_all.ensures.others

pub returns-then-begins_at_most-clause-nodes : goal.returns-then-begins_at_most-clause-nodes
returns-then-begins_at_most-clause-nodes c = let h = invariant_of-self c in sym h.sum ∙ c.self.invariant.sum ∙ ap nodes_of c.self.view_is

-- nothing is at the bound

pub passed-cursor-requires-clause-chain : goal.passed-cursor-requires-clause-chain
passed-cursor-requires-clause-chain c = chain_tail c.self.inside.arena c.args.place c.self.invariant.arena (c.self.invariant.chains c.args.place)

pub returns-then-cursor-others-clause-left : goal.returns-then-cursor-others-clause-left
returns-then-cursor-others-clause-left c =
    let a = c.self.inside.arena in
    let was = list_was a c.self.inside.free c.args.self.now c.args.place c.self.view_is in
    let chain = chain_tail a c.args.place c.self.invariant.arena (c.self.invariant.chains c.args.place) in
    let n = none_reached c.args.bound a c.args.place (sym c.begins_at_most.ensures ∙ c.if-begins_at_most.false) in
    let all = c.if-cursor-others.true ∙ ap (λ (s : Strand). s.count) c.strand-others.ensures in
    was ∙ ap (λ vs. front_in a c.args.place ++ vs) (all_left a c.args.place c.args.bound c.passed-cursor.result.kept chain c.passed-cursor.ensures.kept all) ∙
    sym (ap (left_by c.args.bound) was ∙ n.left)

pub returns-then-cursor-others-clause-image : goal.returns-then-cursor-others-clause-image
returns-then-cursor-others-clause-image c =
    let a = c.self.inside.arena in
    let was = list_was a c.self.inside.free c.args.self.now c.args.place c.self.view_is in
    let chain = chain_tail a c.args.place c.self.invariant.arena (c.self.invariant.chains c.args.place) in
    let n = none_reached c.args.bound a c.args.place (sym c.begins_at_most.ensures ∙ c.if-begins_at_most.false) in
    let all = c.if-cursor-others.true ∙ ap (λ (s : Strand). s.count) c.strand-others.ensures in
    sym (ap (oldest_at c.args.bound) was ∙ nothing_out c.args.bound (list_in a c.args.place)
    (n.found ∙ none_found a c.args.place c.args.bound c.passed-cursor.result chain c.passed-cursor.ensures.kept all))

pub returns-then-cursor-others-clause-gone : goal.returns-then-cursor-others-clause-gone
returns-then-cursor-others-clause-gone c =
    let a = c.self.inside.arena in
    let was = list_was a c.self.inside.free c.args.self.now c.args.place c.self.view_is in
    let chain = chain_tail a c.args.place c.self.invariant.arena (c.self.invariant.chains c.args.place) in
    let n = none_reached c.args.bound a c.args.place (sym c.begins_at_most.ensures ∙ c.if-begins_at_most.false) in
    let all = c.if-cursor-others.true ∙ ap (λ (s : Strand). s.count) c.strand-others.ensures in
    none_gone a c.args.place c.args.bound c.passed-cursor.result.kept chain c.passed-cursor.ensures.kept all ∙ sym (ap (others_at c.args.bound) was ∙ n.gone)

-- the newest stays, and some of the others are at the bound

pub overflow_sub-more : goal.overflow_sub-more
overflow_sub-more c =
    let a = c.self.inside.arena in
    let e = ap (λ (s : Strand). s.count) c.strand-others.ensures in
    let less = walk_less a c.args.place c.args.bound c.passed-cursor.result.kept (chain_tail a c.args.place c.self.invariant.arena (c.self.invariant.chains c.args.place))
    c.passed-cursor.ensures.kept (λ same. c.if-cursor-others.false (same ∙ sym e)) in
    omega (arith, e, less)

pub overflow_sub-more-2 : goal.overflow_sub-more-2
overflow_sub-more-2 c =
    let a = c.self.inside.arena in
    let e = ap (λ (s : Strand). s.count) c.strand-others.ensures in
    let less = walk_less a c.args.place c.args.bound c.passed-cursor.result.kept (chain_tail a c.args.place c.self.invariant.arena (c.self.invariant.chains c.args.place))
    c.passed-cursor.ensures.kept (λ same. c.if-cursor-others.false (same ∙ sym e)) in
    omega (arith, e, less)

pub overflow_add-self-3 : goal.overflow_add-self-3
overflow_add-self-3 c =
    let a = c.self.inside.arena in
    let f = free_fits a c.self.inside.landmarks c.self.inside.all c.self.inside.free c.self.invariant in
    let m = counted a c.args.place in
    let q = length-append (front_in a c.args.place) (tail_in a c.args.place) in
    let t = tail_many a c.args.place in
    let e = ap (λ (s : Strand). s.count) c.strand-others.ensures in
    let less = walk_less a c.args.place c.args.bound c.passed-cursor.result.kept (chain_tail a c.args.place c.self.invariant.arena (c.self.invariant.chains c.args.place))
    c.passed-cursor.ensures.kept (λ same. c.if-cursor-others.false (same ∙ sym e)) in
    let g = c.from-gone-2.ensures in
    omega (arith, f, m, q, t, e, less, g)

pub remove_behind-requires-clause-others : goal.remove_behind-requires-clause-others
remove_behind-requires-clause-others c =
    let a = c.self.inside.arena in
    let e = ap (λ (s : Strand). s.count) c.strand-others.ensures in
    let less = walk_less a c.args.place c.args.bound c.passed-cursor.result.kept (chain_tail a c.args.place c.self.invariant.arena (c.self.invariant.chains c.args.place))
    c.passed-cursor.ensures.kept (λ same. c.if-cursor-others.false (same ∙ sym e)) in
    omega (arith, e, less)

less : (c : goal.After-remove_behind) → c.passed-cursor.result.kept < (head_in c.self.inside.arena c.args.place).strand.count
less c =
    let a = c.self.inside.arena in
    walk_less a c.args.place c.args.bound c.passed-cursor.result.kept (chain_tail a c.args.place c.self.invariant.arena (c.self.invariant.chains c.args.place))
    c.passed-cursor.ensures.kept (λ same. c.if-cursor-others.false (same ∙ sym (ap (λ (s : Strand). s.count) c.strand-others.ensures)))

left : (c : goal.After-remove_behind) → list_in c.remove_behind.new.arena c.args.place ≡ left_by c.args.bound (list_in c.self.inside.arena c.args.place)
left c =
    let a = c.self.inside.arena in
    let b = c.remove_behind.new.arena in
    let n = none_reached c.args.bound a c.args.place (sym c.begins_at_most.ensures ∙ c.if-begins_at_most.false) in
    let chain = chain_tail a c.args.place c.self.invariant.arena (c.self.invariant.chains c.args.place) in
    let behind = c.remove_behind.ensures.left ∙ walk_left a c.args.place c.args.bound c.passed-cursor.result.kept chain c.passed-cursor.ensures.kept in
    (λ i. front_stays a b c.args.place c.remove_behind.ensures.fronts i ++ behind i) ∙ sym n.left

more_gone : (c : goal.After-remove_behind) → c.from-gone-2.result ≡ others_at c.args.bound (list_in c.self.inside.arena c.args.place)
more_gone c =
    let a = c.self.inside.arena in
    let n = none_reached c.args.bound a c.args.place (sym c.begins_at_most.ensures ∙ c.if-begins_at_most.false) in
    let chain = chain_tail a c.args.place c.self.invariant.arena (c.self.invariant.chains c.args.place) in
    let e = ap (λ (s : Strand). s.count) c.strand-others.ensures in
    let o = walk_others a c.args.place c.args.bound c.passed-cursor.result.kept chain c.passed-cursor.ensures.kept in
    let g = n.gone in
    let f = c.from-gone-2.ensures in
    omega (arith, e, o, g, f)

-- those that are left and those that are gone are all
more_many : (c : goal.After-remove_behind) → length (left_by c.args.bound (list_in c.self.inside.arena c.args.place)) + c.from-gone-2.result + 1 ≡ length (list_in c.self.inside.arena c.args.place)
more_many c =
    let a = c.self.inside.arena in
    let n = none_reached c.args.bound a c.args.place (sym c.begins_at_most.ensures ∙ c.if-begins_at_most.false) in
    let l = ap length n.left in
    let p = length-append (front_in a c.args.place) (left_by c.args.bound (tail_in a c.args.place)) in
    let q = length-append (front_in a c.args.place) (tail_in a c.args.place) in
    let m = tail_many a c.args.place in
    let k = c.passed-cursor.ensures.kept in
    let e = ap (λ (s : Strand). s.count) c.strand-others.ensures in
    let f = c.from-gone-2.ensures in
    let some = less c in
    omega (arith, l, p, q, m, k, e, f, some)

pub invariant_of-self-2 : goal.invariant_of-self-2
invariant_of-self-2 c =
    let a = c.self.inside.arena in
    let b = c.remove_behind.new.arena in
    let now = left c in
    let n = ap length now in
    let some = more_many c in
    let room = c.self.invariant.room in
    let same = c.remove_behind.ensures.nodes.1 in
    holds_after a b c.self.inside.landmarks c.clear-2.new.self c.args.place c.self.inside.all c.self.inside.free c.self.inside.all (c.self.inside.free + (c.from-gone-2.result + 1)) c.self.invariant
    c.remove_behind.ensures.arena (subst IsChain (sym now) (left_is_chain c.args.bound (list_in a c.args.place) (c.self.invariant.chains c.args.place))) c.remove_behind.ensures.others
    c.clear-2.ensures.others (no_landmarks b c.args.place (landmarks_of c.clear-2.new.self c.args.place) c.clear-2.ensures.here) (omega (arith, n, some)) (omega (arith, room, same))
    c.self.invariant.few

pub returns-clause-left : goal.returns-clause-left
returns-clause-left c = list_seen c.remove_behind.new.arena (c.self.inside.free + (c.from-gone-2.result + 1)) c.args.place ∙ left c ∙
    sym (ap (left_by c.args.bound) (list_was c.self.inside.arena c.self.inside.free c.args.self.now c.args.place c.self.view_is))

pub returns-clause-image : goal.returns-clause-image
returns-clause-image c =
    let a = c.self.inside.arena in
    let n = none_reached c.args.bound a c.args.place (sym c.begins_at_most.ensures ∙ c.if-begins_at_most.false) in
    let chain = chain_tail a c.args.place c.self.invariant.arena (c.self.invariant.chains c.args.place) in
    ap Some c.remove_behind.ensures.held ∙ sym (ap (oldest_at c.args.bound) (list_was a c.self.inside.free c.args.self.now c.args.place c.self.view_is) ∙
    ap (option_and_then numbered_image) n.found ∙
    handed_out a c.args.place c.args.bound c.passed-cursor.result chain c.passed-cursor.ensures.at c.passed-cursor.ensures.kept (less c))

pub returns-clause-gone : goal.returns-clause-gone
returns-clause-gone c = more_gone c ∙ sym (ap (others_at c.args.bound) (list_was c.self.inside.arena c.self.inside.free c.args.self.now c.args.place c.self.view_is))

pub returns-clause-others : goal.returns-clause-others
returns-clause-others c = others_seen c.self.inside.arena c.remove_behind.new.arena c.self.inside.free (c.self.inside.free + (c.from-gone-2.result + 1)) c.args.self.now
    c.args.place c.self.view_is c.remove_behind.ensures.others

pub returns-clause-nodes : goal.returns-clause-nodes
returns-clause-nodes c = let h = invariant_of-self-2 c in sym h.sum ∙ c.self.invariant.sum ∙ ap nodes_of c.self.view_is
