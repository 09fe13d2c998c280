use Rattle.std.proofs.Common.{◌≡◌, sym, ap, ◌∙◌, subst, length, get_or, [], ◌∷◌, ◌++◌, ◌+◌, length-append, append_assoc, arith, rules}
use Rattle.hg_lock.specs.Locks.{EachFits}
use Rattle.hg_lock.proofs.Values.{EachFits-push}
use Rattle.hg_rule.specs.New.{EachFrom, IsNewBucket}
use Rattle.hg_store.specs.Slots.{seat_board_id, SlotFits}
use Rattle.hg_store.proofs.Filling.{each_from_at, each_from_first, fits_new}
use Rattle.hg_store.proofs.store.Store.new.Goals as goal

pub loop-seat-preserved : goal.loop-seat-preserved
loop-seat-preserved c =
    let j = c.loop-seat.invariant in
    let xs = c.loop-seat.yielded in
    let t = c.requires.seats.0 in
    let row = c.requires.seats.1 in
    let rest : c.loop-seat.seat-iterator.rest.items ≡ c.in-Some.seat ∷ c.next.new.self.rest.items = search rules in
    let all : c.args.seats ≡ xs ++ c.in-Some.seat ∷ c.next.new.self.rest.items = j.seats ∙ ap (λ r. xs ++ r) rest in
    let here : IsNewBucket t (0 + length xs) c.in-Some.seat = each_from_at (IsNewBucket t) 0 xs c.next.new.self.rest.items c.in-Some.seat (subst (EachFrom (IsNewBucket t) 0) all row) in
    let at : IsNewBucket t (length c.loop-seat.slots.items) c.in-Some.seat = subst (λ n. IsNewBucket t n c.in-Some.seat) (omega (arith, j.count)) here in
    let slot = c.in_ok-slot_of.field-0 in
    let first : c.index.result.now ≡ get_or c.args.seats 0 c.index.result.now = search rules in
    let tag : seat_board_id c.of-tag.result.value ≡ t = ap seat_board_id c.of-tag.ensures ∙
    (each_from_first (IsNewBucket t) 0 c.args.seats c.index.result.now c.requires.some.0 row first).1.0 in record {
      count = ap length c.in_ok-push.ensures.items ∙ length-append c.loop-seat.slots.items _ ∙ (let l = length-append xs (c.in-Some.seat ∷ []) in omega (arith, j.count, l));
      seats = all ∙ sym (append_assoc xs (c.in-Some.seat ∷ []) c.next.new.self.rest.items);
      fit = subst (EachFits (SlotFits c.of-tag.result)) (sym c.in_ok-push.ensures.items)
          (EachFits-push (SlotFits c.of-tag.result) c.loop-seat.slots.items _ j.fit
          (fits_new t c.of-tag.result (length c.loop-seat.slots.items) slot.seat slot.bucket tag (subst (IsNewBucket t (length c.loop-seat.slots.items)) (sym c.in_ok-slot_of.ensures.seat) at) c.in_ok-slot_of.ensures.empty));
    }
