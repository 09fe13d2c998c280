use Rattle.hg_rule.specs.Seats.{board_id, sizes_of, session_view, IsSessionOf}
use Rattle.hg_store.specs.Stores.{store_buckets}
use Rattle.hg_dump.specs.Exports.{Looks}
use Rattle.hg_dump.specs.Readings.{board_in, store_in, script_in, at_in}
use Rattle.hg_dump.proofs.Fetches.{IsSoFar}
use Rattle.hg_dump.proofs.tables.Reading.write_rest.Given as goal

-- the rows of the fetches so far are there
abbrev pub invariant-loop : goal.invariant-loop
invariant-loop g l = record {
  so_far : IsSoFar (script_in l.fn.self).tables (store_buckets (store_in l.fn.self)) (at_in l.fn.self) l.fn.table l.cursor (session_view l.pass) l.fn.into.items l.into.items;
  looks : Looks (session_view l.fn.pass) (session_view l.pass);
  own : IsSessionOf (board_id (board_in l.fn.self)) (sizes_of (board_in l.fn.self)) l.pass;
}
