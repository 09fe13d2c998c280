use Rattle.std.proofs.Common.{rules, ◌≡◌, List, [], ◌∷◌, ◌++◌, ◌∙◌, sym, ap, subst}
use Rattle.hg_rule.specs.Seats.{board_id, sizes_of, session_view, tx_view}
use Rattle.hg_group.proofs.Popping.{away_on}
use Rattle.hg_queue.specs.declared.known.Known.{Known}
use Rattle.hg_queue.specs.declared.open_tx.OpenTx.{OpenTx}
use Rattle.hg_queue.specs.Queues.{known}
use Rattle.hg_queue.specs.Lines.{pair_of}
use Rattle.hg_group.specs.Batch.{Gathers}
use Rattle.hg_group.proofs.Popping.{gathers_none, gathers_more}
use Rattle.hg_group.proofs.leader.gather.Goals as goal

pub loop-turn-init : goal.loop-turn-init
loop-turn-init g c = record {
  gathered = subst (λ txs. Gathers (session_view c.args.pass.now) (known c.args.line.now).pairs txs (known c.args.line.now).pairs
      (session_view c.args.pass.now)) (sym c.requires.room.0) (gathers_none (session_view c.args.pass.now) (known c.args.line.now).pairs c.requires.own.3 c.requires.alone);
  own = (c.requires.own, search rules);
  line = c.requires.line;
  room = (search rules, search rules);
}

pub loop-turn-preserved : goal.loop-turn-preserved
loop-turn-preserved g c =
    let v = session_view c.args.pass.now in
    let u = session_view c.receive.new.pass in
    let k = known c.loop-turn.line in
    let k' = known c.pop.new.pass in
    let first = (known c.args.line.now).pairs in
    let out = c.in-Some.ensures.popped in
    let same = c.is_empty.ensures.same in
    let pairs : k'.pairs ≡ k.pairs ++ pair_of c.in-Some.handed ∷ [] = ap (λ (y : Known). y.pairs) out.0 in
    let more = gathers_more k.board.id v (session_view c.loop-turn.pass) u first k.pairs k'.pairs c.loop-turn.popped.items c.in-Some.handed c.loop-turn.invariant.gathered out.1
    pairs c.receive.ensures.view in
    let gathered = subst (λ ps. Gathers v first c.push_reserved.new.self.items ps u) (ap (λ (y : Known). y.pairs) (sym {A = Known} same))
    (subst (λ txs. Gathers v first txs k'.pairs u) (sym {A = List OpenTx} c.push_reserved.ensures.items) more) in
    let h = c.loop-turn.invariant in
    let away = away_on (board_id c.args.tools.now.board.now) (sizes_of c.args.tools.now.board.now) c.loop-turn.pass c.receive.new.pass
    (tx_view c.in-Some.handed.seat) h.own.0 c.receive.ensures.own.0 c.receive.ensures.own.1 c.receive.ensures.view in
    record {
      gathered = gathered;
      own = (away, search rules);
      line = (
        c.is_empty.ensures.own,
        ap (λ (y : Known). y.opens) (same ∙ out.0) ∙ h.line.1,
        ap (λ (y : Known). y.leads) (same ∙ out.0) ∙
            h.line.2,
        ap (λ (y : Known). y.board.id) (same ∙ out.0) ∙ h.line.3,
      );
      room = (search rules, search rules);
    }

pub returns-then-is_empty-clause-gathered : goal.returns-then-is_empty-clause-gathered
returns-then-is_empty-clause-gathered g c =
    let v = session_view c.args.pass.now in
    let u = session_view c.receive.new.pass in
    let k = known c.loop-turn.line in
    let k' = known c.pop.new.pass in
    let first = (known c.args.line.now).pairs in
    let out = c.in-Some.ensures.popped in
    let same = c.is_empty.ensures.same in
    let pairs : k'.pairs ≡ k.pairs ++ pair_of c.in-Some.handed ∷ [] = ap (λ (y : Known). y.pairs) out.0 in
    let more = gathers_more k.board.id v (session_view c.loop-turn.pass) u first k.pairs k'.pairs c.loop-turn.popped.items c.in-Some.handed c.loop-turn.invariant.gathered out.1
    pairs c.receive.ensures.view in
    let gathered = subst (λ ps. Gathers v first c.push_reserved.new.self.items ps u) (ap (λ (y : Known). y.pairs) (sym {A = Known} same))
    (subst (λ txs. Gathers v first txs k'.pairs u) (sym {A = List OpenTx} c.push_reserved.ensures.items) more) in
    gathered

pub returns-then-is_empty-clause-own : goal.returns-then-is_empty-clause-own
returns-then-is_empty-clause-own g c =
    let own = c.loop-turn.invariant.own in (
      away_on (board_id c.args.tools.now.board.now) (sizes_of c.args.tools.now.board.now) c.loop-turn.pass c.receive.new.pass
          (tx_view c.in-Some.handed.seat) own.0 c.receive.ensures.own.0 c.receive.ensures.own.1 c.receive.ensures.view,
      search rules,
    )

pub returns-then-is_empty-clause-line : goal.returns-then-is_empty-clause-line
returns-then-is_empty-clause-line g c =
    let line = c.loop-turn.invariant.line in
    let out = c.is_empty.ensures.same ∙ c.in-Some.ensures.popped.0 in
    (c.is_empty.ensures.own, ap (λ (y : Known). y.opens) out ∙ line.1, ap (λ (y : Known). y.leads) out ∙ line.2, ap (λ (y : Known). y.board.id) out ∙ line.3)
