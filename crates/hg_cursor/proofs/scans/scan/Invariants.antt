use Rattle.hg_rule.specs.Seats.{board_id, sizes_of, session_view, IsSessionOf}
use Rattle.hg_store.specs.Stores.{store_buckets}
use Rattle.hg_cursor.specs.Logs.{IsHeard, MayRead}
use Rattle.hg_cursor.proofs.ScanningOrder.{IsScanned}
use Rattle.hg_cursor.proofs.scans.scan.Given as goal

-- the buckets so far are seen, and the session may read on
abbrev pub invariant-loop-bucket : goal.invariant-loop-bucket
invariant-loop-bucket g l = record {
  scanned : IsScanned (store_buckets l.fn.tables.store.now) (session_view l.fn.pass) l.range.table l.range.low l.range.high l.bucket l.rows.items (session_view l.pass);
  reads : MayRead l.at l.range.table (session_view l.pass);
  heard : IsHeard (session_view l.fn.pass) → IsHeard (session_view l.pass);
  own : IsSessionOf (board_id l.fn.tables.board.now) (sizes_of l.fn.tables.board.now) l.pass;
}
