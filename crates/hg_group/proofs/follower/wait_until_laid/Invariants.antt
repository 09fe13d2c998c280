use Rattle.std.specs.Prelude.{◌≡◌}
use Rattle.hg_rule.specs.Seats.{board_id, sizes_of, session_view, IsAwayOf}
use Rattle.hg_group.specs.Leading.{Leads}
use Rattle.hg_group.proofs.follower.wait_until_laid.Given as goal

-- the pass has its own place alone, and waits
abbrev pub invariant-loop : goal.invariant-loop
invariant-loop g l = record { own : IsAwayOf (board_id l.board) (sizes_of l.board) l.pass × (l.pass.number ≡ l.fn.pass.number); led : Leads (session_view l.fn.pass) (session_view l.pass) }
