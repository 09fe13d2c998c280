use Rattle.std.specs.Prelude.{◌≡◌, length}
use Rattle.hg_rule.specs.Seats.{board_id, sizes_of, session_view, IsAwayOf}
use Rattle.hg_group.specs.Batch.{AreLaid, HasGroup}
use Rattle.hg_group.proofs.Laying_down.{Laying}
use Rattle.hg_group.proofs.leader.lay.Given as goal

-- the first of them are laid down
abbrev pub invariant-loop-i : goal.invariant-loop-i
invariant-loop-i l = record {
  own : IsAwayOf (board_id l.board) (sizes_of l.board) l.pass × (l.pass.number ≡ l.fn.pass.number);
  laid : AreLaid (board_id l.board) 1 l.laid.items × (length l.laid.items ≡ (sizes_of l.board).sessions);
  group : (g : HasGroup (sizes_of l.board).sessions (session_view l.fn.pass) l.popped l.number l.place) ×
      Laying (sizes_of l.board).sessions (session_view l.fn.pass) l.popped l.number l.place g l.i (session_view l.pass);
}
