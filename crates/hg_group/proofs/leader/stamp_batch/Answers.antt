use Rattle.std.proofs.Common.{◌≡◌, ◌++◌, ℕ, length, take, get_or, sym, ap, ◌∙◌, subst, arith, refl, append-nil}
use Rattle.hg_base.specs.declared.rid.Rid.{Rid}
use Rattle.hg_rule.specs.Seats.{session_view}
use Rattle.hg_group.specs.Batch.{Stamped, all_pairs, with_session}
use Rattle.hg_group.proofs.Stamped.{stamped_start, stamped_next, ready, take_all, all_next, with_next}
use Rattle.hg_group.proofs.leader.stamp_batch.Goals as goal

abbrev first : Rid
first = record { table = record { 0 = 0 }; key = 0 }

pub loop-tx-init : goal.loop-tx-init
loop-tx-init g c = record { own = (c.requires.own.0, refl); done = stamped_start (session_view c.args.pass.now) c.requires.own.0.3 c.requires.own.1 c.requires.received c.requires.unstamped }

pub loop-rid-init : goal.loop-rid-init
loop-rid-init g c = record {
  own = c.loop-tx.invariant.own;
  done = subst (λ l. Stamped (session_view c.args.pass.now) l (session_view c.loop-tx.pass))
      (sym (append-nil (all_pairs (take c.loop-tx.tx-index c.args.popped.now)))) c.loop-tx.invariant.done;
}

pub stamp_one-requires-clause-own : goal.stamp_one-requires-clause-own
stamp_one-requires-clause-own g c = (
  c.loop-rid.invariant.own.0,
  (ready (session_view c.args.pass.now) (session_view c.loop-rid.pass) c.args.popped.now c.loop-tx.tx-index c.loop-rid.rid-index c.args.number c.tx-item.result
      c.as_slice-rid-items.result.now first c.tx-item.is c.loop-tx-test.true c.as_slice-rid-items.ensures c.loop-rid-test.true c.requires.taken.0 c.requires.taken.1 c.requires.next
      c.loop-rid.invariant.done).has,
)

pub stamp_one-requires-clause-received : goal.stamp_one-requires-clause-received
stamp_one-requires-clause-received g c = (ready (session_view c.args.pass.now) (session_view c.loop-rid.pass) c.args.popped.now c.loop-tx.tx-index c.loop-rid.rid-index
    c.args.number c.tx-item.result c.as_slice-rid-items.result.now first c.tx-item.is c.loop-tx-test.true c.as_slice-rid-items.ensures c.loop-rid-test.true c.requires.taken.0
    c.requires.taken.1 c.requires.next c.loop-rid.invariant.done).received

pub stamp_one-requires-clause-plain : goal.stamp_one-requires-clause-plain
stamp_one-requires-clause-plain g c = (ready (session_view c.args.pass.now) (session_view c.loop-rid.pass) c.args.popped.now c.loop-tx.tx-index c.loop-rid.rid-index c.args.number
    c.tx-item.result c.as_slice-rid-items.result.now first c.tx-item.is c.loop-tx-test.true c.as_slice-rid-items.ensures c.loop-rid-test.true c.requires.taken.0 c.requires.taken.1
    c.requires.next c.loop-rid.invariant.done).plain

pub stamp_one-requires-clause-next : goal.stamp_one-requires-clause-next
stamp_one-requires-clause-next g c = (ready (session_view c.args.pass.now) (session_view c.loop-rid.pass) c.args.popped.now c.loop-tx.tx-index c.loop-rid.rid-index c.args.number
    c.tx-item.result c.as_slice-rid-items.result.now first c.tx-item.is c.loop-tx-test.true c.as_slice-rid-items.ensures c.loop-rid-test.true c.requires.taken.0 c.requires.taken.1
    c.requires.next c.loop-rid.invariant.done).next

pub stamp_one-requires-clause-by : goal.stamp_one-requires-clause-by
stamp_one-requires-clause-by g c = (ready (session_view c.args.pass.now) (session_view c.loop-rid.pass) c.args.popped.now c.loop-tx.tx-index c.loop-rid.rid-index c.args.number
    c.tx-item.result c.as_slice-rid-items.result.now first c.tx-item.is c.loop-tx-test.true c.as_slice-rid-items.ensures c.loop-rid-test.true c.requires.taken.0 c.requires.taken.1
    c.requires.next c.loop-rid.invariant.done).by

pub stamp_one-requires-clause-mine : goal.stamp_one-requires-clause-mine
stamp_one-requires-clause-mine g c = (ready (session_view c.args.pass.now) (session_view c.loop-rid.pass) c.args.popped.now c.loop-tx.tx-index c.loop-rid.rid-index c.args.number
    c.tx-item.result c.as_slice-rid-items.result.now first c.tx-item.is c.loop-tx-test.true c.as_slice-rid-items.ensures c.loop-rid-test.true c.requires.taken.0 c.requires.taken.1
    c.requires.next c.loop-rid.invariant.done).mine

pub stamp_one-requires-clause-once : goal.stamp_one-requires-clause-once
stamp_one-requires-clause-once g c = (ready (session_view c.args.pass.now) (session_view c.loop-rid.pass) c.args.popped.now c.loop-tx.tx-index c.loop-rid.rid-index c.args.number
    c.tx-item.result c.as_slice-rid-items.result.now first c.tx-item.is c.loop-tx-test.true c.as_slice-rid-items.ensures c.loop-rid-test.true c.requires.taken.0 c.requires.taken.1
    c.requires.next c.loop-rid.invariant.done).once

pub loop-rid-preserved : goal.loop-rid-preserved
loop-rid-preserved g c =
    let a = ready (session_view c.args.pass.now) (session_view c.loop-rid.pass) c.args.popped.now c.loop-tx.tx-index c.loop-rid.rid-index c.args.number c.tx-item.result
    c.as_slice-rid-items.result.now first c.tx-item.is c.loop-tx-test.true c.as_slice-rid-items.ensures c.loop-rid-test.true c.requires.taken.0 c.requires.taken.1
    c.requires.next c.loop-rid.invariant.done in
    let j = c.tx-item.result.writer.session in
    let done = all_pairs (take c.loop-tx.tx-index c.args.popped.now) in
    let rs = c.as_slice-rid-items.result.now in
    let k = c.loop-rid.rid-index in
    record {
      own = (c.stamp_one.ensures.own.0, c.stamp_one.ensures.own.1 ∙ c.loop-rid.invariant.own.1);
      done = subst (λ l. Stamped (session_view c.args.pass.now) l (session_view c.stamp_one.new.pass)) (with_next j done rs k first c.loop-rid-test.true)
          (stamped_next (session_view c.args.pass.now) (session_view c.loop-rid.pass) (session_view c.stamp_one.new.pass) (done ++ with_session j (take k rs)) j c.args.number
          (get_or rs k first) a.among c.loop-rid.invariant.done c.stamp_one.ensures.stamped);
    }

pub loop-tx-preserved : goal.loop-tx-preserved
loop-tx-preserved g c =
    let tx = c.tx-item.result in
    let rs = c.as_slice-rid-items.result.now in
    let k : ℕ = c.loop-rid.rid-index in
    let n : ℕ = length rs in
    let done = all_pairs (take c.loop-tx.tx-index c.args.popped.now) in
    let end : k ≡ n = omega (arith, c.loop-rid-test.false, c.loop-rid.auto.rid-index-end) in
    let all : take k rs ≡ tx.records.list = ap (λ m. take m rs) end ∙ (take_all rs ∙ c.as_slice-rid-items.ensures) in
    record {
      own = c.loop-rid.invariant.own;
      done = subst (λ l. Stamped (session_view c.args.pass.now) l (session_view c.loop-rid.pass)) (ap (λ l. done ++ with_session tx.writer.session l) all ∙
          sym (all_next c.args.popped.now c.loop-tx.tx-index tx c.tx-item.is c.loop-tx-test.true)) c.loop-rid.invariant.done;
    }

pub returns-clause-stamped : goal.returns-clause-stamped
returns-clause-stamped g c =
    let k : ℕ = c.loop-tx.tx-index in
    let n : ℕ = length c.args.popped.now in
    let end : k ≡ n = omega (arith, c.loop-tx-test.false, c.loop-tx.auto.tx-index-end) in
    subst (λ l. Stamped (session_view c.args.pass.now) (all_pairs l) (session_view c.loop-tx.pass)) (ap (λ m. take m c.args.popped.now) end ∙ take_all c.args.popped.now) c.loop-tx.invariant.done

pub returns-clause-own : goal.returns-clause-own
returns-clause-own g c = c.loop-tx.invariant.own
