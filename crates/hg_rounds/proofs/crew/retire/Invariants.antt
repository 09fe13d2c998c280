use Rattle.std.proofs.Common.{ℕ, ◌≤◌, length}
use Rattle.std.specs.Prelude.{vec_capacity}
use Rattle.hg_rule.specs.declared.view.View.{View}
use Rattle.hg_rule.specs.Seats.{board_id, pass_view, IsPassOf}
use Rattle.hg_rounds.specs.Crew.{Unites}
use Rattle.hg_rounds.specs.Seats.{draws_id, drawn_by, IsDrawerOf}
use Rattle.hg_rounds.proofs.crew.retire.Given as goal

abbrev pub invariant-loop-helper : goal.invariant-loop-helper
invariant-loop-helper l =
    ((buckets : ℕ) (x : View) → Unites (board_id l.board) (draws_id l.draws) buckets (length l.fn.helpers.items) x l.fn.helpers.items (pass_view l.fn.pass) (drawn_by l.fn.drawer) 0
    → Unites (board_id l.board) (draws_id l.draws) buckets (length l.fn.helpers.items) x l.helpers.items (pass_view l.pass) (drawn_by l.drawer) l.removed)
    × IsPassOf (board_id l.board) l.pass
    × IsDrawerOf (draws_id l.draws) l.drawer
    × (vec_capacity l.fn.helpers ≤ vec_capacity l.helpers)

abbrev pub decreases-loop-helper : goal.decreases-loop-helper
decreases-loop-helper l = length l.helpers.items
