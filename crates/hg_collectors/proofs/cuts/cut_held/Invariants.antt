use Rattle.std.specs.Prelude.{◌≡◌, take}
use Rattle.hg_rule.specs.Seats.{board_id, pass_view, IsPassOf}
use Rattle.hg_store.specs.Stores.{held_board_id, held_number, Holds}
use Rattle.hg_collectors.specs.Cutting.{CutsHeld}
use Rattle.hg_collectors.proofs.cuts.cut_held.Given as goal

abbrev pub invariant-loop-rid : goal.invariant-loop-rid
invariant-loop-rid l = record {
  cuts : CutsHeld l.bound (pass_view l.fn.pass) (take l.rid-index l.rids) l.gone (pass_view l.pass);
  holds : Holds (pass_view l.pass) l.held;
  held : (held_board_id l.held ≡ held_board_id l.fn.held) × (held_number l.held ≡ held_number l.fn.held);
  own : IsPassOf (board_id l.board) l.pass;
}
