use Rattle.hg_rule.specs.Seats.{board_id, sizes_of, pass_view, IsPassOf}
use Rattle.hg_session.specs.Visited.{HasVisited}
use Rattle.hg_session.proofs.Visiting.{SumsTell}
use Rattle.hg_session.proofs.totals.counted.Given as goal

abbrev pub invariant-loop-bucket : goal.invariant-loop-bucket
invariant-loop-bucket g l = HasVisited (pass_view l.fn.pass) l.bucket (pass_view l.pass) × IsPassOf (board_id l.fn.board) l.pass × SumsTell (sizes_of l.fn.board) (pass_view l.fn.pass) l.bucket l.sums
