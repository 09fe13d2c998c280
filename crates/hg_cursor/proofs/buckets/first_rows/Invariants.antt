use Rattle.std.proofs.Common.{◌≡◌, ◌+◌, ◌-◌, ◌≤◌}
use Rattle.hg_rule.specs.Seats.{board_id, sizes_of, session_view, IsSessionOf}
use Rattle.hg_store.specs.Stores.{store_buckets}
use Rattle.hg_cursor.specs.Logs.{IsHeard, ReadsAt}
use Rattle.hg_cursor.specs.Firsts.{IsNeeded}
use Rattle.hg_cursor.proofs.Gathering.{IsGathered}
use Rattle.hg_cursor.proofs.buckets.first_rows.Given as goal

-- the first rows of the buckets so far are there
abbrev pub invariant-loop-request : goal.invariant-loop-request
invariant-loop-request g l = record {
  gathered : IsGathered (store_buckets l.fn.store) l.request.most (session_view l.fn.pass) l.request.table l.request.low l.request.high l.ahead l.limit l.firsts.rows (session_view l.pass);
  most : l.firsts.most ≡ l.request.most;
  needed : IsNeeded l.limit l.firsts;
  reached : l.request.low + l.ahead ≤ l.limit + 1;
  reads : ReadsAt l.request.at l.request.table (session_view l.pass);
  heard : IsHeard (session_view l.fn.pass) → IsHeard (session_view l.pass);
  own : IsSessionOf (board_id l.board) (sizes_of l.board) l.pass;
}

abbrev pub decreases-loop-request : goal.decreases-loop-request
decreases-loop-request g l = l.count - l.ahead
