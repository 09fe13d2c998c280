use Rattle.std.proofs.Common.{◌≡◌, refl, sym, ap, ◌∙◌, rules}
use Rattle.hg_rule.specs.Holding.{beyond}
use Rattle.hg_rule.specs.Seats.{session_view, tx_view, IsSeatOf, IsSessionOf}
use Rattle.hg_rule.specs.Views.{session}
use Rattle.hg_rule.specs.declared.view.SessionPart.{SessionPart}
use Rattle.hg_rule.specs.declared.view.View.{View}
use Rattle.hg_rule.proofs.Holders.{still_session}
use Rattle.hg_session.specs.Engines.{engine_board_id, engine_sizes}
use Rattle.hg_session.specs.Sessions.{view_of, number_of}
use Rattle.hg_session.proofs.Handovers.{next_lent_is, handed_parts, resumed_parts, resumed_kept}
use Rattle.hg_session.proofs.lending.take_back.Goals as goal

pub hand_back-seat-requires-clause-next : goal.hand_back-seat-requires-clause-next
hand_back-seat-requires-clause-next c =
    (next_lent_is (session_view c.args.holder.now) (number_of c.args.session.now) c.args.who (session (view_of c.args.session.now)) c.requires.next c.requires.number).0

pub hand_back-seat-requires-clause-unstamped : goal.hand_back-seat-requires-clause-unstamped
hand_back-seat-requires-clause-unstamped c =
    ap (λ (p : SessionPart). p.stamped)
    (next_lent_is (session_view c.args.holder.now) (number_of c.args.session.now) c.args.who (session (view_of c.args.session.now)) c.requires.next c.requires.number).1 ∙ c.requires.unstamped

pub resume-requires-clause-tx : goal.resume-requires-clause-tx
resume-requires-clause-tx c = (search rules, c.hand_back-seat.ensures.tx.1 ∙ sym c.requires.number ∙ c.requires.away.1.0)

pub returns-clause-back : goal.returns-clause-back
returns-clause-back c =
    let v = view_of c.args.session.now in
    let w = session_view c.resume.new.pass in
    let x = tx_view c.hand_back-seat.result in
    let same : session x ≡ session v = ap session c.hand_back-seat.ensures.seat ∙
    (next_lent_is (session_view c.args.holder.now) (number_of c.args.session.now) c.args.who (session v) c.requires.next c.requires.number).1 in
    let own : IsSessionOf (engine_board_id c.args.engine.now) (engine_sizes c.args.engine.now) c.resume.new.pass = search rules in
    record {
      parts = resumed_parts v w x (session v) c.resume.ensures.step same c.requires.alone;
      keeps = record { kept = resumed_kept v w x c.resume.ensures.step; same = refl };
      own = own;
    }

pub returns-clause-parts : goal.returns-clause-parts
returns-clause-parts c = handed_parts (session_view c.args.holder.now) (session_view c.hand_back-seat.new.pass) c.requires.holder.3 c.hand_back-seat.ensures.view

pub returns-clause-kept : goal.returns-clause-kept
returns-clause-kept c = ap (λ (x : View). x.sights) c.hand_back-seat.ensures.view

pub returns-clause-held : goal.returns-clause-held
returns-clause-held c =
    let seat : IsSeatOf (engine_board_id c.args.engine.now) c.hand_back-seat.new.pass.seat = search rules in
    still_session (engine_board_id c.args.engine.now) (engine_sizes c.args.engine.now) c.args.holder.now c.hand_back-seat.new.pass (beyond (session_view c.args.holder.now)) c.requires.holder
    seat c.hand_back-seat.ensures.own.1
    (handed_parts (session_view c.args.holder.now) (session_view c.hand_back-seat.new.pass) c.requires.holder.3 c.hand_back-seat.ensures.view)
