use Rattle.std.proofs.Common.{ℕ, ◌∙◌, ap}
use Rattle.atomic_table.specs.declared.shared.Seat.{Seat}
use Rattle.hg_rule.specs.declared.view.View.{View}
use Rattle.hg_rule.specs.Seats.{view}
use Rattle.hg_rule.specs.Places.{with_bucket}
use Rattle.hg_rule.proofs.Lent.{has_words, seen, lent, moved}
use Rattle.hg_rule.proofs.Turning.{arrives, holds_bucket}
use Rattle.hg_rule.proofs.board.Board.join_bucket.Goals as goal

pub join_seat-requires : goal.join_seat-requires
join_seat-requires g c =
    ((lent _ _ _ c.seat.ensures.now c.requires.own.0).0, c.requires.bucket.0.0, c.requires.bucket.0.1, has_words c.args.self.now, arrives _ _ _ _ _ _ _ c.requires.bucket.1)

pub look_at-requires : goal.look_at-requires
look_at-requires g c = record {
  own = lent _ _ _ (g.met.P.Pass.has_it c.args.pass.now c.join_seat.new.seat)
      (moved _ c.seat.result.now c.join_seat.new.seat _ c.join_seat.ensures.0 c.join_seat.ensures.2 (lent _ _ _ c.seat.ensures.now c.requires.own.0));
}

pub returns-clause-view : goal.returns-clause-view
returns-clause-view g c = c.look_at.ensures.stays ∙ (seen _ _ (g.met.P.Pass.has_it c.args.pass.now c.join_seat.new.seat) ∙
    (ap (λ m. m.0) c.join_seat.ensures.2 ∙ ap (λ (s : Seat ℕ View). with_bucket (view s) (view c.args.bucket.seat)) c.seat.ensures.now))

pub returns-clause-holds : goal.returns-clause-holds
returns-clause-holds g c = holds_bucket (view (g.P.Pass.seat_of c.args.pass.now)) (view c.args.bucket.seat) (view (g.P.Pass.seat_of c.look_at.new.pass)) c.args.bucket.number _
    c.requires.own.1 c.requires.bucket.1 (returns-clause-view g c)

pub returns-clause-own : goal.returns-clause-own
returns-clause-own g c = (c.look_at.ensures.own.0, c.look_at.ensures.own.1 ∙ g.met.P.Pass.keeps_rest c.args.pass.now c.join_seat.new.seat)
