use Rattle.std.proofs.Common.{ℕ, ◌∙◌, ap}
use Rattle.atomic_table.specs.declared.shared.Seat.{Seat}
use Rattle.hg_rule.specs.declared.view.View.{View}
use Rattle.hg_rule.specs.Seats.{view}
use Rattle.hg_rule.specs.Handing.{hands_back}
use Rattle.hg_rule.proofs.Handing.{may_hand_back}
use Rattle.hg_rule.proofs.Lent.{has_words, seen, lent, moved}
use Rattle.hg_rule.proofs.board.Board.hand_back.Goals as goal

pub split_seat-seat-requires : goal.split_seat-seat-requires
split_seat-seat-requires g c = ((lent _ _ _ c.seat.ensures.now c.requires.own).0, has_words c.args.self.now, may_hand_back _ _ _)

pub returns-clause-view : goal.returns-clause-view
returns-clause-view g c = seen _ _ (g.met.P.Pass.has_it c.args.pass.now c.split_seat-seat.new.seat) ∙
    (ap (λ m. m.0) c.split_seat-seat.ensures.2 ∙ ap (λ (s : Seat ℕ View). hands_back (view s)) c.seat.ensures.now)

pub returns-clause-own : goal.returns-clause-own
returns-clause-own g c = (
  lent _ _ _ (g.met.P.Pass.has_it c.args.pass.now c.split_seat-seat.new.seat)
      (moved _ c.seat.result.now c.split_seat-seat.new.seat _ c.split_seat-seat.ensures.0 c.split_seat-seat.ensures.2 (lent _ _ _ c.seat.ensures.now c.requires.own)),
  g.met.P.Pass.keeps_rest c.args.pass.now c.split_seat-seat.new.seat,
)
