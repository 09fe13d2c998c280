use Rattle.std.proofs.Common.{◌≡◌, ℕ, zero, suc, ◌+◌, None, refl, ap, sym, subst, length, ◌∙◌, arith}
use Rattle.hg_chains.specs.Versions.{IsChain, image_at}
use Rattle.hg_chains.specs.Sweeps.{IsClean, swept, swept_away, last_number}
use Rattle.hg_base.specs.Lifetimes.{goes}
use Rattle.hg_chains.specs.Places.{list_at, nodes_of}
use Rattle.hg_chains.specs.Arenas.{list_in}
use Rattle.hg_chains.specs.Landmarks.{HasLandmarks, landmarks_of, places_in}
use Rattle.hg_chains.proofs.Sweeps.{swept_is_chain, swept_sum}
use Rattle.hg_chains.proofs.Cleanness.{all_clean, base_stays}
use Rattle.hg_chains.proofs.Readers.{seen_same}
use Rattle.hg_chains.proofs.Held.{list_seen, list_was, others_seen, holds_after, counted, free_fits}
use Rattle.hg_chains.proofs.LandmarkFacts.{no_landmarks}
use Rattle.hg_chains.proofs.chains.Chains.sweep.Goals as goal

pub overflow_add-self : goal.overflow_add-self
overflow_add-self g c =
    let a = c.self.inside.arena in
    let f = free_fits a c.self.inside.landmarks c.self.inside.all c.self.inside.free c.self.invariant in
    let m = counted a c.args.place in
    let s = swept_sum c.args.horizon c.args.snapshots.now None (list_in a c.args.place) in
    let e = c.sweep_all-swept.ensures.gone in
    omega (arith, f, m, s, e)

pub invariant_of-self : goal.invariant_of-self
invariant_of-self g c =
    let a = c.self.inside.arena in
    let b = c.sweep_all-swept.new.arena in
    let chain = c.self.invariant.chains c.args.place in
    let fewer = ap length c.sweep_all-swept.ensures.left in
    let s = swept_sum c.args.horizon c.args.snapshots.now None (list_in a c.args.place) in
    let e = c.sweep_all-swept.ensures.gone in
    let room = c.self.invariant.room in
    let same = c.sweep_all-swept.ensures.stay.0.1 in
    holds_after a b c.self.inside.landmarks c.lose.new.self c.args.place c.self.inside.all c.self.inside.free c.self.inside.all (c.self.inside.free + c.sweep_all-swept.result.gone) c.self.invariant
    c.sweep_all-swept.ensures.arena (subst IsChain (sym c.sweep_all-swept.ensures.left) (swept_is_chain c.args.horizon c.args.snapshots.now None (list_in a c.args.place) chain))
    c.sweep_all-swept.ensures.others c.lose.ensures.others (go c.sweep_all-swept.result.gone refl) (omega (arith, fewer, s, e)) (omega (arith, room, same)) c.self.invariant.few
  where
    go : (n : ℕ) → c.sweep_all-swept.result.gone ≡ n → HasLandmarks c.sweep_all-swept.new.arena c.args.place (landmarks_of c.lose.new.self c.args.place)
    go zero none = subst (λ ms. HasLandmarks c.sweep_all-swept.new.arena c.args.place (landmarks_of ms c.args.place)) (sym (c.lose.ensures.none none))
        (subst (λ a. HasLandmarks a c.args.place (landmarks_of c.self.inside.landmarks c.args.place)) (sym (c.sweep_all-swept.ensures.stay.1 none)) (c.self.invariant.landmarks c.args.place))
    go (suc n) some = no_landmarks c.sweep_all-swept.new.arena c.args.place (landmarks_of c.lose.new.self c.args.place) (c.lose.ensures.here (omega (arith, some)))

pub returns-clause-left : goal.returns-clause-left
returns-clause-left g c = list_seen c.sweep_all-swept.new.arena (c.self.inside.free + c.sweep_all-swept.result.gone) c.args.place ∙ c.sweep_all-swept.ensures.left ∙
    sym (ap (swept c.args.horizon c.args.snapshots.now) (list_was c.self.inside.arena c.self.inside.free c.args.self.now c.args.place c.self.view_is))

pub returns-clause-gone : goal.returns-clause-gone
returns-clause-gone g c = c.sweep_all-swept.ensures.gone ∙
    sym (ap (swept_away c.args.horizon c.args.snapshots.now) (list_was c.self.inside.arena c.self.inside.free c.args.self.now c.args.place c.self.view_is))

pub returns-clause-base_gone : goal.returns-clause-base_gone
returns-clause-base_gone g c = c.sweep_all-swept.ensures.base_gone ∙
    sym (ap (λ vs. goes c.args.horizon c.args.snapshots.now (last_number vs) c.args.base) (list_was c.self.inside.arena c.self.inside.free c.args.self.now c.args.place c.self.view_is))

pub returns-clause-cost : goal.returns-clause-cost
returns-clause-cost g c =
    let w = ap length (list_was c.self.inside.arena c.self.inside.free c.args.self.now c.args.place c.self.view_is) in
    let k = c.sweep_all-swept.ensures.cost in
    omega (arith, w, k)

pub returns-clause-clean : goal.returns-clause-clean
returns-clause-clean g c =
    let a = c.self.inside.arena in
    subst (IsClean c.args.horizon c.args.snapshots.now) (sym (list_seen c.sweep_all-swept.new.arena c.self.inside.free c.args.place ∙ c.sweep_all-swept.ensures.left))
    (all_clean c.args.horizon c.args.snapshots.now (list_in a c.args.place) (c.self.invariant.chains c.args.place))

pub returns-clause-base_clean : goal.returns-clause-base_clean
returns-clause-base_clean g c =
    let a = c.self.inside.arena in
    let now : list_at (places_in c.sweep_all-swept.new.arena (c.self.inside.free + c.sweep_all-swept.result.gone)) c.args.place ≡ swept c.args.horizon c.args.snapshots.now
    (list_in a c.args.place) = list_seen c.sweep_all-swept.new.arena (c.self.inside.free + c.sweep_all-swept.result.gone) c.args.place ∙ c.sweep_all-swept.ensures.left in
    rw (c.sweep_all-swept.ensures.base_gone, now) (base_stays c.args.horizon c.args.snapshots.now c.args.base (list_in a c.args.place) (c.self.invariant.chains c.args.place))

pub returns-clause-seen : goal.returns-clause-seen
returns-clause-seen g c =
    λ s p.
    let a = c.self.inside.arena in
    ap (image_at s) (list_seen c.sweep_all-swept.new.arena (c.self.inside.free + c.sweep_all-swept.result.gone) c.args.place ∙ c.sweep_all-swept.ensures.left) ∙
    seen_same c.args.horizon c.args.snapshots.now (list_in a c.args.place) s p ∙
    sym (ap (image_at s) (list_was a c.self.inside.free c.args.self.now c.args.place c.self.view_is))

pub returns-clause-others : goal.returns-clause-others
returns-clause-others g c = others_seen c.self.inside.arena c.sweep_all-swept.new.arena c.self.inside.free (c.self.inside.free + c.sweep_all-swept.result.gone)
    c.args.self.now c.args.place c.self.view_is c.sweep_all-swept.ensures.others

pub returns-clause-nodes : goal.returns-clause-nodes
returns-clause-nodes g c = let h = invariant_of-self g c in sym h.sum ∙ c.self.invariant.sum ∙ ap nodes_of c.self.view_is
