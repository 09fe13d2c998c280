use Rattle.std.proofs.Common.{◌≡◌, ◌++◌, ◌∷◌, [], refl, sym, ap, ◌∙◌, rules}
use Rattle.hg_rule.specs.declared.view.Part.TheVariants.{Lent}
use Rattle.hg_rule.specs.Seats.{session_view, tx_view, IsSeatOf, IsAwayOf}
use Rattle.hg_rule.specs.Views.{session, others}
use Rattle.hg_rule.proofs.Holders.{still_session}
use Rattle.hg_session.specs.Engines.{engine_board_id, engine_sizes}
use Rattle.hg_session.specs.Lent.{lent_of}
use Rattle.hg_session.specs.Sessions.{view_of}
use Rattle.hg_session.proofs.Handovers.{away_alone, away_kept, received_parts, received_kept, received_heard}
use Rattle.hg_session.proofs.lending.lend.Goals as goal

parts : (c : goal.After-receive) → (session_view c.receive.new.pass).parts ≡ (session_view c.args.holder.now).parts ++ lent_of c.args.session.now ∷ []
parts c =
    let v = session_view c.args.holder.now in
    let s = view_of c.args.session.now in
    received_parts v (session_view c.receive.new.pass) (tx_view c.hand_over-seat.result.1) c.args.session.now.pass.number (session s) (session_view c.hand_over-seat.new.pass)
    c.receive.ensures.view c.hand_over-seat.ensures.seat ∙ (λ i. v.parts ++ Lent (sym c.requires.own.pass.1.0 i) (session s) ∷ [])

pub returns-clause-lent : goal.returns-clause-lent
returns-clause-lent c =
    let v = view_of c.args.session.now in
    let w = session_view c.hand_over-seat.new.pass in
    let own : IsAwayOf (engine_board_id c.args.engine.now) (engine_sizes c.args.engine.now) c.hand_over-seat.new.pass = search rules in
    record {
      away = away_alone v w c.hand_over-seat.result.0 c.requires.own.only c.hand_over-seat.ensures.step;
      keeps = record { kept = away_kept v w c.hand_over-seat.result.0 c.hand_over-seat.ensures.step; same = refl };
      own = own;
    }

pub returns-clause-parts : goal.returns-clause-parts
returns-clause-parts c = parts c

pub returns-clause-kept : goal.returns-clause-kept
returns-clause-kept c = received_kept (session_view c.args.holder.now) (session_view c.receive.new.pass) (tx_view c.hand_over-seat.result.1) c.receive.ensures.view

pub returns-clause-heard : goal.returns-clause-heard
returns-clause-heard c =
    let s = view_of c.args.session.now in
    received_heard (session_view c.args.holder.now) (session_view c.receive.new.pass) (tx_view c.hand_over-seat.result.1) c.args.session.now.pass.number (session s)
    (session_view c.hand_over-seat.new.pass) s.sights c.receive.ensures.view c.hand_over-seat.ensures.seat
    (away_kept s (session_view c.hand_over-seat.new.pass) c.hand_over-seat.result.0 c.hand_over-seat.ensures.step)

pub returns-clause-held : goal.returns-clause-held
returns-clause-held c =
    let seat : IsSeatOf (engine_board_id c.args.engine.now) c.receive.new.pass.seat = search rules in
    let v = session_view c.args.holder.now in
    still_session (engine_board_id c.args.engine.now) (engine_sizes c.args.engine.now) c.args.holder.now c.receive.new.pass (others v ++ lent_of c.args.session.now ∷ []) c.requires.holder
    seat c.receive.ensures.own.1 (parts c ∙ ap (λ ps. ps ++ lent_of c.args.session.now ∷ []) c.requires.holder.3)
