use Rattle.std.proofs.Common.{rules, ◌≡◌, ◌<◌, ◌+◌, ◌-◌, ℕ, length, get_or, ap, ◌∙◌, subst, arith, refl}
use Rattle.hg_core.specs.Phases.{IsSession}
use Rattle.hg_rule.specs.declared.view.SessionPart.{SessionPart}
use Rattle.hg_rule.specs.Seats.{board_id, sizes_of, session_view}
use Rattle.hg_group.specs.declared.book.Laid.{Laid}
use Rattle.hg_group.specs.declared.book.Outcome.TheVariants.{Committed}
use Rattle.hg_group.specs.Batch.{IsLaid}
use Rattle.hg_group.proofs.Batching.{away_back}
use Rattle.hg_group.proofs.Laying_down.{laying_none, next_is, laying_more, laid_one, laid_set, each_at, laid_end}
use Rattle.hg_group.proofs.leader.lay.Goals as goal

pub loop-i-init : goal.loop-i-init
loop-i-init c = record {
  own = (c.requires.own, refl);
  laid = c.requires.laid;
  group = (c.requires.group, laying_none (sizes_of c.args.board.now).sessions (session_view c.args.pass.now) c.args.popped.now c.args.number c.args.place c.requires.group);
}

pub hand_back-seat-requires-clause-own : goal.hand_back-seat-requires-clause-own
hand_back-seat-requires-clause-own c = c.loop-i.invariant.own.0.0

pub hand_back-seat-requires-clause-next : goal.hand_back-seat-requires-clause-next
hand_back-seat-requires-clause-next c = (next_is (sizes_of c.args.board.now).sessions
    (session_view c.args.pass.now) c.args.popped.now c.args.number c.args.place c.loop-i.invariant.group.0 c.loop-i.i
    (session_view c.loop-i.pass) c.index-popped-i.result c.loop-i.invariant.group.1 c.loop-i-test.true).0

pub hand_back-seat-requires-clause-unstamped : goal.hand_back-seat-requires-clause-unstamped
hand_back-seat-requires-clause-unstamped c = ap (λ (p : SessionPart). p.stamped)
    (next_is (sizes_of c.args.board.now).sessions (session_view c.args.pass.now) c.args.popped.now c.args.number c.args.place c.loop-i.invariant.group.0 c.loop-i.i
    (session_view c.loop-i.pass) c.index-popped-i.result c.loop-i.invariant.group.1 c.loop-i-test.true).1

pub loop-i-preserved : goal.loop-i-preserved
loop-i-preserved c =
    let z : ℕ = (sizes_of c.args.board.now).sessions in
    let v = session_view c.args.pass.now in
    let w = session_view c.loop-i.pass in
    let x = session_view c.hand_back-seat.new.pass in
    let txs = c.args.popped.now in
    let i = c.loop-i.i in
    let d = c.index-popped-i.result in
    let g = c.loop-i.invariant.group.0 in
    let s = c.loop-i.invariant.group.1 in
    let j : ℕ = (get_or txs i d).writer.session in
    let inside : IsSession z j = each_at (λ tx. IsSession z tx.writer.session) txs i d c.loop-i-test.true g.inside in
    let few : length c.loop-i.laid.items ≡ z = c.loop-i.invariant.laid.1 in
    let low : j - 1 < length c.loop-i.laid.items = omega (arith, inside.first, inside.last, few) in
    let back : j ≡ 1 + (j - 1) = omega (arith, inside.first) in
    let new : Laid = record { seat = c.hand_back-seat.result; outcome = Committed (record { number = c.args.number; place = c.args.place + i }) } in
    let one = laid_one z v txs c.args.number c.args.place g i w d s c.loop-i-test.true (board_id c.args.board.now) new
    (record { number = c.args.number; place = c.args.place + i }) refl c.hand_back-seat.ensures.tx.0 c.hand_back-seat.ensures.tx.1 c.hand_back-seat.ensures.seat refl refl in
    let away = away_back (board_id c.args.board.now) (sizes_of c.args.board.now) c.loop-i.pass c.hand_back-seat.new.pass c.loop-i.invariant.own.0 c.hand_back-seat.ensures.own.0
    c.hand_back-seat.ensures.own.1 c.hand_back-seat.ensures.view in
    record {
      own = (away.0, away.1 ∙ c.loop-i.invariant.own.1);
      laid = (laid_set (board_id c.args.board.now) 1 (j - 1) c.loop-i.laid.items new low c.loop-i.invariant.laid.0 (subst (λ n. IsLaid (board_id c.args.board.now) n new) back one), search rules);
      group = (g, laying_more z v txs c.args.number c.args.place g i w d s c.loop-i-test.true x c.hand_back-seat.ensures.view);
    }

pub returns-clause-laid : goal.returns-clause-laid
returns-clause-laid c = c.loop-i.invariant.laid

pub returns-clause-all : goal.returns-clause-all
returns-clause-all c =
    let k : ℕ = c.loop-i.i in
    let n : ℕ = length c.args.popped.now in
    let end : k ≡ n = omega (arith, c.loop-i-test.false, c.loop-i.auto.i-end) in
    laid_end (sizes_of c.args.board.now).sessions (session_view c.args.pass.now) c.args.popped.now c.args.number c.args.place c.loop-i.invariant.group.0 c.loop-i.i
    (session_view c.loop-i.pass) end c.loop-i.invariant.group.1

pub returns-clause-own : goal.returns-clause-own
returns-clause-own c = c.loop-i.invariant.own
