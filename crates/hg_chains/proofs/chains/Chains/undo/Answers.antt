use Rattle.std.proofs.Common.{◌+◌, refl, ap, sym, subst, drop, length, ◌∙◌, arith}
use Rattle.std.specs.Prelude.{IsTrue}
use Rattle.std.proofs.lemmas.List.{length-drop}
use Rattle.hg_chains.specs.Versions.{IsChain, is_open_by}
use Rattle.hg_chains.specs.Places.{nodes_of}
use Rattle.hg_chains.specs.Arenas.{list_in}
use Rattle.hg_chains.specs.Landmarks.{Holds, landmarks_of}
use Rattle.hg_chains.proofs.LandmarkFacts.{undone_landmarks}
use Rattle.hg_chains.proofs.Held.{list_seen, list_was, others_seen, holds_after, chain_behind, free_fits, some_open}
use Rattle.hg_chains.proofs.chains.Chains.undo.Goals as goal

pub undo-requires-clause-some : goal.undo-requires-clause-some
undo-requires-clause-some c = some_open c.args.by (list_in c.self.inside.arena c.args.place)
    (subst (λ vs. IsTrue (is_open_by c.args.by vs)) (list_was c.self.inside.arena c.self.inside.free c.args.self.now c.args.place c.self.view_is) c.requires)

pub overflow_add-self : goal.overflow_add-self
overflow_add-self c = let k = free_fits c.self.inside.arena c.self.inside.landmarks c.self.inside.all c.self.inside.free c.self.invariant in omega (arith, k)

holds : (c : goal.After-self-1) → Holds c.undo.new.self c.self.inside.landmarks c.self.inside.all (c.self.inside.free + 1)
holds c =
    let a = c.self.inside.arena in
    let b = c.undo.new.self in
    let ms = c.self.inside.landmarks in
    let is_open = subst (λ vs. IsTrue (is_open_by c.args.by vs)) (list_was a c.self.inside.free c.args.self.now c.args.place c.self.view_is) c.requires in
    let some = some_open c.args.by (list_in a c.args.place) is_open in
    let fewer = ap length c.undo.ensures.here in
    let dropped = length-drop 1 (list_in a c.args.place) in
    let room = c.self.invariant.room in
    let same = c.undo.ensures.freed.1 in
    holds_after a b ms ms c.args.place c.self.inside.all c.self.inside.free c.self.inside.all (c.self.inside.free + 1) c.self.invariant c.undo.ensures.arena
    (subst IsChain (sym c.undo.ensures.here) (chain_behind _ (c.self.invariant.chains c.args.place))) c.undo.ensures.others (λ q apart. refl)
    (undone_landmarks a b c.args.place c.args.by (landmarks_of ms c.args.place) is_open (c.self.invariant.chains c.args.place) c.undo.ensures.here c.undo.ensures.behind
    (c.self.invariant.landmarks c.args.place)) (omega (arith, some, fewer, dropped)) (omega (arith, room, same)) c.self.invariant.few

pub invariant_of-self : goal.invariant_of-self
invariant_of-self c = holds c

pub returns-clause-here : goal.returns-clause-here
returns-clause-here c = list_seen c.undo.new.self (c.self.inside.free + 1) c.args.place ∙ c.undo.ensures.here ∙
    sym (ap (drop 1) (list_was c.self.inside.arena c.self.inside.free c.args.self.now c.args.place c.self.view_is))

pub returns-clause-others : goal.returns-clause-others
returns-clause-others c = others_seen c.self.inside.arena c.undo.new.self c.self.inside.free (c.self.inside.free + 1) c.args.self.now c.args.place c.self.view_is c.undo.ensures.others

pub returns-clause-nodes : goal.returns-clause-nodes
returns-clause-nodes c = let h = holds c in sym h.sum ∙ c.self.invariant.sum ∙ ap nodes_of c.self.view_is
