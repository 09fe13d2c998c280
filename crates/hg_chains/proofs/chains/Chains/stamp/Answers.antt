use Rattle.std.proofs.Common.{◌≡◌, refl, ap, sym, subst, drop, length, ◌∙◌, arith}
use Rattle.std.specs.Prelude.{IsTrue, vec_capacity}
use Rattle.hg_base.specs.Lists.{Each}
use Rattle.hg_chains.specs.Versions.{IsChain, IsBelow, is_open_by, stamped}
use Rattle.hg_chains.specs.Places.{nodes_of}
use Rattle.hg_chains.specs.Arenas.{list_in}
use Rattle.hg_chains.specs.Landmarks.{Holds, landmarks_of}
use Rattle.hg_chains.proofs.LandmarkFacts.{written_landmarks}
use Rattle.hg_chains.proofs.Held.{list_seen, list_was, others_seen, holds_after, chain_stamped, stamped_many}
use Rattle.hg_chains.proofs.Newest.{open_first, open_there}
use Rattle.hg_chains.proofs.chains.Chains.stamp.Goals as goal

pub set_number-requires-clause-head : goal.set_number-requires-clause-head
set_number-requires-clause-head c =
    let a = c.self.inside.arena in
    open_there a c.args.place c.args.by (sym (open_first a c.args.place c.args.by c.self.invariant.arena) ∙
    ap (is_open_by c.args.by) (sym (list_was a c.self.inside.free c.args.self.now c.args.place c.self.view_is)) ∙ c.requires.open_write)

written : (c : goal.After-set_number) → list_in c.set_number.new.self c.args.place ≡ stamped c.args.by c.args.number (list_in c.self.inside.arena c.args.place)
written c = c.set_number.ensures.here c.args.by
    (subst (λ vs. IsTrue (is_open_by c.args.by vs)) (list_was c.self.inside.arena c.self.inside.free c.args.self.now c.args.place c.self.view_is) c.requires.open_write)

holds : (c : goal.After-set_number) → Holds c.set_number.new.self c.self.inside.landmarks c.self.inside.all c.self.inside.free
holds c =
    let a = c.self.inside.arena in
    let b = c.set_number.new.self in
    let was = list_was a c.self.inside.free c.args.self.now c.args.place c.self.view_is in
    let below = subst (λ vs. Each (IsBelow c.args.number) (drop 1 vs)) was c.requires.over in
    let ms = c.self.inside.landmarks in
    let is_open = subst (λ vs. IsTrue (is_open_by c.args.by vs)) was c.requires.open_write in
    let many : length (list_in b c.args.place) ≡ length (list_in a c.args.place) = ap length (written c) ∙ stamped_many c.args.by c.args.number (list_in a c.args.place) in
    let room = c.self.invariant.room in
    let same = ap (λ ns. vec_capacity ns) c.set_number.ensures.nodes in
    holds_after a b ms ms c.args.place c.self.inside.all c.self.inside.free c.self.inside.all c.self.inside.free c.self.invariant c.set_number.ensures.arena
    (subst IsChain (sym (written c)) (chain_stamped c.args.by c.args.number _ (c.self.invariant.chains c.args.place) below)) c.set_number.ensures.others (λ q apart. refl)
    (written_landmarks a b c.args.place c.args.by (landmarks_of ms c.args.place) is_open c.set_number.ensures.stay (c.self.invariant.landmarks c.args.place))
    (omega (arith, many)) (omega (arith, room, same)) c.self.invariant.few

pub invariant_of-self : goal.invariant_of-self
invariant_of-self c = holds c

pub returns-clause-here : goal.returns-clause-here
returns-clause-here c = list_seen c.set_number.new.self c.self.inside.free c.args.place ∙ written c ∙
    sym (ap (stamped c.args.by c.args.number) (list_was c.self.inside.arena c.self.inside.free c.args.self.now c.args.place c.self.view_is))

pub returns-clause-others : goal.returns-clause-others
returns-clause-others c = others_seen c.self.inside.arena c.set_number.new.self c.self.inside.free c.self.inside.free c.args.self.now c.args.place c.self.view_is c.set_number.ensures.others

pub returns-clause-nodes : goal.returns-clause-nodes
returns-clause-nodes c = let h = holds c in sym h.sum ∙ c.self.invariant.sum ∙ ap nodes_of c.self.view_is
