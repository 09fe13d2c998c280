use Rattle.std.proofs.Common.{◌≡◌, ℕ, [], ◌∙◌, ap, subst}
use Rattle.atomic_table.specs.declared.shared.Seat.{Seat}
use Rattle.hg_rule.specs.declared.view.View.{View}
use Rattle.hg_rule.specs.Rules.{IsBacked}
use Rattle.hg_rule.specs.Seats.{board_id, sizes_of, view}
use Rattle.hg_rule.specs.Moves.{joined, left_bare, left_but_second, right_given, right_second}
use Rattle.hg_rule.proofs.Lent.{has_words, seen, lent, moved}
use Rattle.hg_rule.proofs.Shifts.{joins, gives_all, gives_second, back_left, back_right}
use Rattle.hg_rule.proofs.joins.meet.Given.{Over}
use Rattle.hg_rule.proofs.joins.meet.Goals as goal

-- where the other gave all its parts, the pass has both's
both : (p q lent_p lent_q gift after : Seat ℕ View) (u : View) → lent_q ≡ q → gift.me ≡ (right_given (view lent_q), []) → lent_p ≡ p → after.me ≡ (joined (view lent_p) (view gift), lent_p.me.1) → u ≡ view after
    → u ≡ joined (view p) (view q)
both p q lent_p lent_q gift after u of_q given of_p joins_them same =
    same ∙ (ap (λ m. m.0) joins_them ∙ (ap (λ (s : Seat ℕ View). joined (view s) (view gift)) of_p ∙
    (ap (λ m. joined (view p) m.0) given ∙ ap (λ (s : Seat ℕ View). joined (view p) (right_given (view s))) of_q)))

-- what the other has when it got its parts back
returned : (q lent_q gave lent_gave lent_p back after : Seat ℕ View) (u : View) → lent_q ≡ q → gave.me ≡ (left_bare (view lent_q), lent_q.me.1) → lent_gave ≡ gave → view lent_p ≡ u
    → back.me ≡ (right_second (view lent_p), []) → after.me ≡ (joined (view lent_gave) (view back), lent_gave.me.1) → view after ≡ joined (left_bare (view q)) (right_second u)
returned q lent_q gave lent_gave lent_p back after u of_q left of_gave of_p given joins_them =
    ap (λ m. m.0) joins_them ∙ (ap (λ (s : Seat ℕ View). joined (view s) (view back)) of_gave ∙ (ap (λ m. joined m.0 (view back)) left ∙
    (ap (λ (s : Seat ℕ View). joined (left_bare (view s)) (view back)) of_q ∙ (ap (λ m. joined (left_bare (view q)) m.0) given ∙ ap (λ v. joined (left_bare (view q)) (right_second v)) of_p))))

pub split_seat-gift-requires : goal.split_seat-gift-requires
split_seat-gift-requires g c = ((lent _ _ _ c.seat.ensures.now c.requires.own.1).0, has_words c.args.board.now, gives_all _ _ _)

pub join_seat-requires : goal.join_seat-requires
join_seat-requires g c = (
  (lent _ _ _ c.seat-2.ensures.now c.requires.own.0).0,
  c.split_seat-gift.ensures.3 ∙ (lent _ _ _ c.seat.ensures.now c.requires.own.1).0,
  ap (λ m. m.1) c.split_seat-gift.ensures.4,
  has_words c.args.board.now,
  joins _ _ _ _ _,
)

pub look_at-mark-requires : goal.look_at-mark-requires
look_at-mark-requires g c = record {
  own = lent _ _ _ (g.met.P.Pass.has_it c.args.pass.now c.join_seat.new.seat)
      (moved _ c.seat-2.result.now c.join_seat.new.seat _ c.join_seat.ensures.0 c.join_seat.ensures.2 (lent _ _ _ c.seat-2.ensures.now c.requires.own.0));
}

pub split_seat-back-requires : goal.split_seat-back-requires
split_seat-back-requires g c = ((lent _ _ _ c.seat-3.ensures.now c.look_at-mark.ensures.own.0).0, has_words c.args.board.now, gives_second _ _ _)

pub join_seat-requires-2 : goal.join_seat-requires-2
join_seat-requires-2 g c =
    let gave = c.seat-4.ensures.now ∙ g.met.Q.Pass.has_it c.args.other.now c.split_seat-gift.new.seat in (
      (lent _ _ _ gave (moved _ c.seat.result.now c.split_seat-gift.new.seat _ c.split_seat-gift.ensures.0 c.split_seat-gift.ensures.2 (lent _ _ _ c.seat.ensures.now c.requires.own.1))).0,
      c.split_seat-back.ensures.3 ∙ (lent _ _ _ c.seat-3.ensures.now c.look_at-mark.ensures.own.0).0,
      ap (λ m. m.1) c.split_seat-back.ensures.4,
      has_words c.args.board.now,
      joins _ _ _ _ _,
    )

has_both : (g : Over) (c : goal.After-other-2-1 g) → view (g.P.Pass.seat_of c.look_at-mark.new.pass) ≡ joined (view (g.P.Pass.seat_of c.args.pass.now)) (view (g.Q.Pass.seat_of c.args.other.now))
has_both g c = both (g.P.Pass.seat_of c.args.pass.now) (g.Q.Pass.seat_of c.args.other.now) c.seat-2.result.now c.seat.result.now c.split_seat-gift.result c.join_seat.new.seat _
    c.seat.ensures.now c.split_seat-gift.ensures.4 c.seat-2.ensures.now c.join_seat.ensures.2
    (c.look_at-mark.ensures.stays ∙ seen _ _ (g.met.P.Pass.has_it c.args.pass.now c.join_seat.new.seat))

keeps_own : (g : Over) (c : goal.After-other-2-1 g) → view (g.P.Pass.seat_of (g.P.Pass.with_seat c.look_at-mark.new.pass c.split_seat-back.new.seat)) ≡ left_but_second (view (g.P.Pass.seat_of c.look_at-mark.new.pass))
keeps_own g c = seen _ _ (g.met.P.Pass.has_it c.look_at-mark.new.pass c.split_seat-back.new.seat) ∙
    (ap (λ m. m.0) c.split_seat-back.ensures.2 ∙ ap left_but_second (seen _ _ c.seat-3.ensures.now))

pub returns-clause-backed : goal.returns-clause-backed
returns-clause-backed g c = subst (IsBacked (sizes_of c.args.board.now) c.look_at-mark.result) (has_both g c) c.look_at-mark.ensures.backed

pub returns-clause-pass : goal.returns-clause-pass
returns-clause-pass g c = keeps_own g c ∙
    back_left (view (g.P.Pass.seat_of c.args.pass.now)) (view (g.Q.Pass.seat_of c.args.other.now)) _ c.requires.parts.0 c.requires.parts.1 (has_both g c)

pub returns-clause-other : goal.returns-clause-other
returns-clause-other g c =
    let q = g.Q.Pass.seat_of c.args.other.now in
    let v = view (g.P.Pass.seat_of c.args.pass.now) in
    let u = view (g.P.Pass.seat_of c.look_at-mark.new.pass) in
    let gave = g.Q.Pass.with_seat c.args.other.now c.split_seat-gift.new.seat in
    let end = returned q c.seat.result.now c.split_seat-gift.new.seat c.seat-4.result.now c.seat-3.result.now c.split_seat-back.result c.join_seat-2.new.seat u
    c.seat.ensures.now c.split_seat-gift.ensures.2 (c.seat-4.ensures.now ∙ g.met.Q.Pass.has_it c.args.other.now c.split_seat-gift.new.seat) (seen _ _ c.seat-3.ensures.now)
    c.split_seat-back.ensures.4 c.join_seat-2.ensures.2 in
    seen _ _ (g.met.Q.Pass.has_it gave c.join_seat-2.new.seat) ∙
    (end ∙ back_right v (view q) u _ c.requires.parts.0 c.requires.parts.1 (has_both g c) (keeps_own g c ∙ back_left v (view q) u c.requires.parts.0 c.requires.parts.1 (has_both g c)))

pub returns-clause-own : goal.returns-clause-own
returns-clause-own g c = (
  lent _ _ _ (g.met.P.Pass.has_it c.look_at-mark.new.pass c.split_seat-back.new.seat)
      (moved _ c.seat-3.result.now c.split_seat-back.new.seat _ c.split_seat-back.ensures.0 c.split_seat-back.ensures.2 (lent _ _ _ c.seat-3.ensures.now c.look_at-mark.ensures.own.0)),
  g.met.P.Pass.keeps_rest c.look_at-mark.new.pass c.split_seat-back.new.seat ∙ (c.look_at-mark.ensures.own.1 ∙ g.met.P.Pass.keeps_rest c.args.pass.now c.join_seat.new.seat),
)

pub returns-clause-others : goal.returns-clause-others
returns-clause-others g c =
    let gave = g.Q.Pass.with_seat c.args.other.now c.split_seat-gift.new.seat in (
      lent _ _ _ (g.met.Q.Pass.has_it gave c.join_seat-2.new.seat)
          (moved (board_id c.args.board.now) c.seat-4.result.now c.join_seat-2.new.seat (joined (view c.seat-4.result.now) (view c.split_seat-back.result)) c.join_seat-2.ensures.0 c.join_seat-2.ensures.2 (lent _ _ _ (c.seat-4.ensures.now ∙ g.met.Q.Pass.has_it c.args.other.now c.split_seat-gift.new.seat)
          (moved _ c.seat.result.now c.split_seat-gift.new.seat _ c.split_seat-gift.ensures.0 c.split_seat-gift.ensures.2 (lent _ _ _ c.seat.ensures.now c.requires.own.1)))),
      g.met.Q.Pass.keeps_rest gave c.join_seat-2.new.seat ∙ g.met.Q.Pass.keeps_rest c.args.other.now c.split_seat-gift.new.seat,
    )
