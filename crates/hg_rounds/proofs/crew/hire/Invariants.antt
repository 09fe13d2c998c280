use Rattle.std.proofs.Common.{◌≡◌, ℕ, ◌+◌, ◌≤◌}
use Rattle.std.specs.Prelude.{vec_capacity}
use Rattle.hg_rule.specs.Sharing.{MaySplit}
use Rattle.hg_rule.specs.Views.{pass as own_pass}
use Rattle.hg_rule.specs.Seats.{board_id, pass_view, IsPassOf}
use Rattle.hg_rounds.specs.Crew.{HasHired}
use Rattle.hg_rounds.specs.Seats.{draws_id, drawn_by, IsDrawerOf}
use Rattle.hg_rounds.proofs.crew.hire.Given as goal

abbrev pub invariant-loop-number : goal.invariant-loop-number
invariant-loop-number l =
    HasHired (board_id l.board) (draws_id l.draws) l.number (pass_view l.fn.pass) l.helpers.items (pass_view l.pass) (drawn_by l.drawer)
    × ((m : ℕ) × (m + l.number ≡ l.count) × MaySplit m (own_pass (pass_view l.pass)).share)
    × IsPassOf (board_id l.board) l.pass
    × IsDrawerOf (draws_id l.draws) l.drawer
    × (vec_capacity l.fn.helpers ≤ vec_capacity l.helpers)
