use Rattle.std.proofs.Common.{◌≡◌, ℕ, ◌+◌, ◌-◌, ◌<◌, ◌≤◌, ◌^◌, ◌∷◌, Bool, true, false, length, refl, ap, sym, subst, ◌∙◌, drop, arith}
use Rattle.std.specs.Prelude.{◌==◌, if◌then◌else◌, vec_capacity}
use mir.Val.{bool_byte}
use Rattle.std.proofs.lemmas.Bool.Decides.{Decides-eqb}
use Rattle.hg_base.proofs.ListFacts.{cases, false_true}
use Rattle.hg_chains.specs.declared.arena.Arena.{Arena}
use Rattle.hg_chains.specs.Versions.{IsChain, NoOther, is_open_by, installed, open_write}
use Rattle.hg_chains.specs.Places.{Places, nodes_of}
use Rattle.hg_chains.specs.Arenas.{list_in, chain_in, OthersStayIn}
use Rattle.hg_chains.specs.Landmarks.{landmarks_of}
use Rattle.hg_chains.proofs.LandmarkFacts.{landmarks_after, pushed_landmarks, same_landmarks, written_landmarks}
use Rattle.hg_chains.proofs.Held.{list_seen, list_was, others_seen, holds_after, chain_installed, installed_many, has_room, recounted}
use Rattle.hg_chains.proofs.Newest.{open_first, open_there}
use Rattle.hg_chains.proofs.chains.Chains.install.Goals as goal

-- the open write is replaced

pub set_image-requires-clause-head : goal.set_image-requires-clause-head
set_image-requires-clause-head c =
    let a = c.self.inside.arena in
    open_there a c.args.place c.args.by (sym (open_first a c.args.place c.args.by c.self.invariant.arena) ∙
    ap (is_open_by c.args.by) (sym (list_was a c.self.inside.free c.args.self.now c.args.place c.self.view_is)) ∙ sym c.is_open_by.ensures ∙ c.if-is_open_by.true)

replaced : (c : goal.After-set_image) → list_in c.set_image.new.self c.args.place ≡ installed c.args.by c.args.image (list_in c.self.inside.arena c.args.place)
replaced c = c.set_image.ensures.here c.args.by (ap (is_open_by c.args.by) (sym (list_was c.self.inside.arena c.self.inside.free c.args.self.now c.args.place c.self.view_is)) ∙
    sym c.is_open_by.ensures ∙ c.if-is_open_by.true)

pub invariant_of-self : goal.invariant_of-self
invariant_of-self c =
    let a = c.self.inside.arena in
    let b = c.set_image.new.self in
    let was = list_was a c.self.inside.free c.args.self.now c.args.place c.self.view_is in
    let others = subst (NoOther c.args.by) was c.requires.own in
    let ms = c.self.inside.landmarks in
    let is_open = ap (is_open_by c.args.by) (sym was) ∙ sym c.is_open_by.ensures ∙ c.if-is_open_by.true in
    let many : length (list_in b c.args.place) ≡ length (list_in a c.args.place) = ap length (replaced c) ∙ installed_many c.args.by c.args.image (list_in a c.args.place) is_open in
    let room = c.self.invariant.room in
    let same = ap (λ ns. vec_capacity ns) c.set_image.ensures.nodes in
    holds_after a b ms ms c.args.place c.self.inside.all c.self.inside.free c.self.inside.all c.self.inside.free c.self.invariant c.set_image.ensures.arena
    (subst IsChain (sym (replaced c)) (chain_installed c.args.by c.args.image _ (c.self.invariant.chains c.args.place) others)) c.set_image.ensures.others (λ q apart. refl)
    (written_landmarks a b c.args.place c.args.by (landmarks_of ms c.args.place) is_open c.set_image.ensures.stay (c.self.invariant.landmarks c.args.place))
    (omega (arith, many)) (omega (arith, room, same)) c.self.invariant.few

pub returns-then-is_open_by-clause-ok : goal.returns-then-is_open_by-clause-ok
returns-then-is_open_by-clause-ok c = list_seen c.set_image.new.self c.self.inside.free c.args.place ∙ replaced c ∙
    sym (ap (installed c.args.by c.args.image) (list_was c.self.inside.arena c.self.inside.free c.args.self.now c.args.place c.self.view_is))

pub returns-then-is_open_by-clause-others : goal.returns-then-is_open_by-clause-others
returns-then-is_open_by-clause-others c = others_seen c.self.inside.arena c.set_image.new.self c.self.inside.free c.self.inside.free c.args.self.now c.args.place c.self.view_is
    c.set_image.ensures.others

pub returns-then-is_open_by-clause-taken : goal.returns-then-is_open_by-clause-taken
returns-then-is_open_by-clause-taken c =
    let h = invariant_of-self c in
    let n = h.sum in
    let w = c.self.invariant.sum ∙ ap nodes_of c.self.view_is in
    let was = ap (λ (p : Places). p.free) c.self.view_is in
    (omega (arith, n, w), omega (arith, was))

-- one more stands in front

pub write-requires-clause-room : goal.write-requires-clause-room
write-requires-clause-room c =
    let a = c.self.inside.arena in
    let m = c.make_room.new.self in
    let k = recounted a m c.args.place (λ q apart. c.in-Ok.ensures.lists q) in
    let l = ap (λ x. length x.0) (c.in-Ok.ensures.lists c.args.place) in
    let sum = c.self.invariant.sum in
    has_room m c.args.place c.self.inside.all c.self.inside.free c.in-Ok.ensures.arena c.in-Ok.ensures.head (omega (arith, k, l, sum)) c.in-Ok.ensures.room c.self.invariant.few c.in-Ok.ensures.more

pub write-requires-clause-no_other : goal.write-requires-clause-no_other
write-requires-clause-no_other c =
    subst (NoOther c.args.by) (list_was c.self.inside.arena c.self.inside.free c.args.self.now c.args.place c.self.view_is ∙ sym (ap (λ x. x.0) (c.in-Ok.ensures.lists c.args.place))) c.requires.own

pub write-requires-clause-not_open : goal.write-requires-clause-not_open
write-requires-clause-not_open c =
    ap (is_open_by c.args.by) (ap (λ x. x.0) (c.in-Ok.ensures.lists c.args.place) ∙ sym (list_was c.self.inside.arena c.self.inside.free c.args.self.now c.args.place c.self.view_is)) ∙
    sym c.is_open_by.ensures ∙ c.if-is_open_by.false

others_same : (a m b : Arena) (place : ℕ) → ((q : ℕ) → chain_in m q ≡ chain_in a q) → OthersStayIn place m b → OthersStayIn place a b
others_same a m b place l o q apart = o q apart ∙ l q

pub note-requires-clause-landmarks : goal.note-requires-clause-landmarks
note-requires-clause-landmarks c =
    let a = c.self.inside.arena in
    let ms = c.self.inside.landmarks in
    landmarks_after a c.write.new.self ms ms c.args.place c.self.invariant.landmarks (others_same a c.make_room.new.self c.write.new.self c.args.place c.in-Ok.ensures.lists c.write.ensures.others)
    (λ q apart. refl) (pushed_landmarks a c.write.new.self c.args.place (landmarks_of ms c.args.place)
    (c.write.ensures.behind ∙ ap (λ x. x.1) (c.in-Ok.ensures.lists c.args.place)) (c.self.invariant.landmarks c.args.place))

now : (c : goal.After-self-in-Ok-1) → list_in c.write.new.self c.args.place ≡ open_write c.args.by c.args.image ∷ list_in c.self.inside.arena c.args.place
now c = c.write.ensures.here ∙ ap (λ x. open_write c.args.by c.args.image ∷ x.0) (c.in-Ok.ensures.lists c.args.place)

front : (c : goal.After-self-in-Ok-1) → list_in c.write.new.self c.args.place ≡ installed c.args.by c.args.image (list_in c.self.inside.arena c.args.place)
front c =
    let a = c.self.inside.arena in
    let closed : is_open_by c.args.by (list_in a c.args.place) ≡ false = ap (is_open_by c.args.by) (sym (list_was a c.self.inside.free c.args.self.now c.args.place c.self.view_is)) ∙
    sym c.is_open_by.ensures ∙ c.if-is_open_by.false in
    now c ∙ sym (ap (λ b. open_write c.args.by c.args.image ∷ (if b then drop 1 (list_in a c.args.place) else list_in a c.args.place)) closed)

byte : (b : Bool) → bool_byte b ≡ (if b then 1 else 0)
byte true = refl
byte false = refl

-- how many more there is room for, where a version is added
record Counted (all free all' free' cap : ℕ) : Type 0 where
  sum : all' + free + 1 ≡ all + free' + 2
  room : all' ≤ cap
  few : all' < 2 ^ 32

grown : (all free more free' cap : ℕ) → more ≡ bool_byte (free == 0) → free' ≡ free - 1 → all ≤ cap → all < 2 ^ 32 → (free ≡ 0 → (all + 1 ≤ cap) × (all + 1 < 2 ^ 32)) →
    Counted all free (all + more) free' cap
grown all free more free' cap m f room few need = cases (free == 0) none some
  where
    none : (free == 0) ≡ true → Counted all free (all + more) free' cap
    none e =
        let zero : free ≡ 0 = (Decides-eqb free 0).0 e in
        let one : more ≡ 1 = m ∙ ap bool_byte e in
        let k = need zero in
        let l : all + 1 ≤ cap = k.0 in
        let s : all + 1 < 2 ^ 32 = k.1 in
        record { sum = omega (arith, zero, one, f); room = omega (arith, one, l); few = omega (arith, one, s) }

    some : (free == 0) ≡ false → Counted all free (all + more) free' cap
    some e =
        let bare : more ≡ 0 = m ∙ ap bool_byte e in
        let apart : free ≡ 0 → ⊥ = λ z. absurd (false_true (sym e ∙ (Decides-eqb free 0).1 z)) in
        record { sum = omega (arith, bare, apart, f); room = omega (arith, bare, room); few = omega (arith, bare, few) }

pub invariant_of-self-in-Ok : goal.invariant_of-self-in-Ok
invariant_of-self-in-Ok c =
    let a = c.self.inside.arena in
    let b = c.write.new.self in
    let ms = c.self.inside.landmarks in
    let others = subst (NoOther c.args.by) (list_was a c.self.inside.free c.args.self.now c.args.place c.self.view_is) c.requires.own in
    let k = grown c.self.inside.all c.self.inside.free c.from.result c.saturating_sub-self-inside.result (vec_capacity c.make_room.new.self.nodes) c.from.ensures
    c.saturating_sub-self-inside.ensures c.in-Ok.ensures.room c.self.invariant.few c.in-Ok.ensures.more in
    let sum = k.sum in
    let room = k.room in
    let same = c.write.ensures.capacity in
    let many = ap length (now c) in
    let h = holds_after a b ms ms c.args.place c.self.inside.all c.self.inside.free (c.self.inside.all + c.from.result) c.saturating_sub-self-inside.result c.self.invariant c.write.ensures.arena
    (subst IsChain (sym (front c)) (chain_installed c.args.by c.args.image _ (c.self.invariant.chains c.args.place) others))
    (others_same a c.make_room.new.self b c.args.place c.in-Ok.ensures.lists c.write.ensures.others) (λ q apart. refl)
    (pushed_landmarks a b c.args.place (landmarks_of ms c.args.place) (c.write.ensures.behind ∙ ap (λ x. x.1) (c.in-Ok.ensures.lists c.args.place)) (c.self.invariant.landmarks c.args.place))
    (omega (arith, sum, many)) (omega (arith, room, same)) k.few in
    record {
      arena = h.arena;
      chains = h.chains;
      landmarks = c.note.ensures.landmarks;
      sum = h.sum;
      room = h.room;
      few = h.few;
    }

pub returns-in-Ok-clause-ok : goal.returns-in-Ok-clause-ok
returns-in-Ok-clause-ok c = list_seen c.write.new.self c.saturating_sub-self-inside.result c.args.place ∙ front c ∙
    sym (ap (installed c.args.by c.args.image) (list_was c.self.inside.arena c.self.inside.free c.args.self.now c.args.place c.self.view_is))

pub returns-in-Ok-clause-others : goal.returns-in-Ok-clause-others
returns-in-Ok-clause-others c = others_seen c.self.inside.arena c.write.new.self c.self.inside.free c.saturating_sub-self-inside.result c.args.self.now c.args.place c.self.view_is
    (others_same c.self.inside.arena c.make_room.new.self c.write.new.self c.args.place c.in-Ok.ensures.lists c.write.ensures.others)

pub returns-in-Ok-clause-taken : goal.returns-in-Ok-clause-taken
returns-in-Ok-clause-taken c =
    let h = invariant_of-self-in-Ok c in
    let n : c.self.inside.all ≡ nodes_of c.args.self.now = c.self.invariant.sum ∙ ap nodes_of c.self.view_is in
    let was : c.self.inside.free ≡ c.args.self.now.free = ap (λ (p : Places). p.free) c.self.view_is in
    let f : c.from.result ≡ (if c.args.self.now.free == 0 then 1 else 0) = c.from.ensures ∙ byte (c.self.inside.free == 0) ∙ ap {B = ℕ} (λ k. if k == 0 then 1 else 0) was in
    (sym h.sum ∙ (λ i. n i + f i), c.saturating_sub-self-inside.ensures ∙ ap (λ k. k - 1) was)

-- there is no memory

pub invariant_of-self-in-Err : goal.invariant_of-self-in-Err
invariant_of-self-in-Err c =
    let a = c.self.inside.arena in
    let m = c.make_room.new.self in
    let ms = c.self.inside.landmarks in
    let e = c.make_room.ensures in
    let l = ap (λ x. length x.0) (e.lists c.args.place) in
    holds_after a m ms ms c.args.place c.self.inside.all c.self.inside.free c.self.inside.all c.self.inside.free c.self.invariant e.arena
    (subst IsChain (sym (ap (λ x. x.0) (e.lists c.args.place))) (c.self.invariant.chains c.args.place)) (λ q apart. e.lists q) (λ q apart. refl)
    (same_landmarks a m c.args.place (landmarks_of ms c.args.place) (e.lists c.args.place) (c.self.invariant.landmarks c.args.place))
    (omega (arith, l)) e.room c.self.invariant.few
