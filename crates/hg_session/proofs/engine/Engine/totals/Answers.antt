use Rattle.std.proofs.Common.{ℕ, ◌<◌, sym, ap, ◌∙◌, subst}
use Rattle.hg_rule.specs.declared.board.Board.{Board}
use Rattle.hg_rule.specs.Seats.{BoardId, board_id, sizes_of, pass_view, IsPassOf, IsCommitOf}
use Rattle.hg_group.specs.Lists.{groups_board_id}
use Rattle.hg_session.specs.Ended.{IsEnded}
use Rattle.hg_session.specs.Visited.{AreBucketsOf, HasVisited}
use Rattle.hg_session.proofs.engine.Engine.totals.Goals as goal

pub totals_with-seat-requires-clause-store : goal.totals_with-seat-requires-clause-store
totals_with-seat-requires-clause-store g c =
    let s = c.args.self.now.shared.value in
    let here : AreBucketsOf c.board.result.now s.store = subst (λ (b : Board). AreBucketsOf b s.store) (sym c.board.ensures)
    (s.store_is, s.buckets_are, subst (λ (n : ℕ). 0 < n) s.buckets_are s.some) in
    subst (AreBucketsOf c.board.result.now) (sym c.store.ensures) here

pub totals_with-seat-requires-clause-own : goal.totals_with-seat-requires-clause-own
totals_with-seat-requires-clause-own g c = subst (λ (b : Board). IsPassOf (board_id b) c.args.pass.now) (sym c.board.ensures) c.requires.own

pub totals_with-seat-requires-clause-commit : goal.totals_with-seat-requires-clause-commit
totals_with-seat-requires-clause-commit g c =
    subst (λ (t : BoardId). IsCommitOf t c.take-held.result.1) (ap groups_board_id c.groups.ensures ∙ (c.args.self.now.shared.value.groups_are ∙ sym (ap board_id c.board.ensures))) c.take-held.ensures.seat

pub totals_with-seat-requires-clause-ended : goal.totals_with-seat-requires-clause-ended
totals_with-seat-requires-clause-ended g c = subst (λ (b : Board). IsEnded (sizes_of b) (pass_view c.args.pass.now)) (sym c.board.ensures) c.requires.ended

pub returns-clause-visited : goal.returns-clause-visited
returns-clause-visited g c =
    subst (λ (b : Board). HasVisited (pass_view c.args.pass.now) (sizes_of b).buckets (pass_view c.totals_with-seat.new.pass)) c.board.ensures c.totals_with-seat.ensures.visited.0

pub returns-clause-kept : goal.returns-clause-kept
returns-clause-kept g c = c.totals_with-seat.ensures.kept

pub returns-clause-removed : goal.returns-clause-removed
returns-clause-removed g c = c.totals_with-seat.ensures.visited.1

pub returns-clause-ended : goal.returns-clause-ended
returns-clause-ended g c = subst (λ (b : Board). IsEnded (sizes_of b) (pass_view c.totals_with-seat.new.pass)) c.board.ensures c.totals_with-seat.ensures.ended

pub returns-clause-own : goal.returns-clause-own
returns-clause-own g c = subst (λ (b : Board). IsPassOf (board_id b) c.totals_with-seat.new.pass) c.board.ensures c.totals_with-seat.ensures.own
