use Rattle.std.specs.Prelude.{◌≡◌, ◌++◌, take}
use Rattle.hg_rule.specs.Seats.{board_id, sizes_of, session_view, IsAwayOf}
use Rattle.hg_group.specs.Batch.{Stamped, all_pairs, with_session}
use Rattle.hg_group.proofs.leader.stamp_batch.Given as goal

-- the transactions before this one are stamped, and of this one the records so far
abbrev pub invariant-loop-rid : goal.invariant-loop-rid
invariant-loop-rid g l = record {
  own : IsAwayOf (board_id l.tools.board.now) (sizes_of l.tools.board.now) l.pass × (l.pass.number ≡ l.fn.pass.number);
  done : Stamped (session_view l.fn.pass) (all_pairs (take l.tx-index l.popped) ++ with_session l.tx.writer.session (take l.rid-index l.rid-items)) (session_view l.pass);
}

abbrev pub invariant-loop-tx : goal.invariant-loop-tx
invariant-loop-tx g l = record {
  own : IsAwayOf (board_id l.tools.board.now) (sizes_of l.tools.board.now) l.pass × (l.pass.number ≡ l.fn.pass.number);
  done : Stamped (session_view l.fn.pass) (all_pairs (take l.tx-index l.popped)) (session_view l.pass);
}
