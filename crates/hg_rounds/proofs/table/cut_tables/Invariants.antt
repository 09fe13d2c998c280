use Rattle.std.proofs.Common.{◌≡◌}
use Rattle.hg_base.specs.declared.report.Kind.TheVariants.{Table}
use Rattle.hg_rule.specs.Facts.{record_of}
use Rattle.hg_rule.specs.Views.{pass as own_pass}
use Rattle.hg_rule.specs.Seats.{board_id, pass_view, IsPassOf}
use Rattle.hg_store.specs.Stores.{held_board_id, held_number, Holds}
use Rattle.hg_rounds.specs.Tables.{ClearsTables}
use Rattle.hg_rounds.specs.Cutting.{IsCutBy}
use Rattle.hg_rounds.proofs.table.cut_tables.Given as goal

abbrev pub invariant-loop-number : goal.invariant-loop-number
invariant-loop-number l =
    ClearsTables Table (IsCutBy (record_of (own_pass (pass_view l.fn.pass)))) l.number l.gone (pass_view l.fn.pass) (pass_view l.pass)
    × Holds (pass_view l.pass) l.held
    × IsPassOf (board_id l.board) l.pass
    × (held_board_id l.held ≡ held_board_id l.fn.held)
    × (held_number l.held ≡ held_number l.fn.held)
