use Rattle.std.proofs.Common.{◌≡◌, ◌+◌, ◌≤◌, length, take}
use Rattle.hg_base.specs.declared.report.Kind.TheVariants.{Interval}
use Rattle.hg_bucket.specs.BucketModel.{long_keys}
use Rattle.hg_bucket.proofs.Paying.{keys_cost}
use Rattle.hg_bucket.proofs.Rounds.{Leads}
use Rattle.hg_rule.specs.Seats.{board_id, pass_view, IsPassOf}
use Rattle.hg_store.specs.Stores.{held_board_id, held_number, held_records, Holds}
use Rattle.hg_store.proofs.Rounding.{Rounds}
use Rattle.hg_store.proofs.held.Held.sweep.Given as goal

abbrev pub invariant-loop-at : goal.invariant-loop-at
invariant-loop-at g l =
    Rounds Interval l.table (long_keys (held_records l.fn.self) l.table) (pass_view l.fn.pass) (pass_view l.pass) l.at l.gone
    × Holds (pass_view l.pass) l.self
    × IsPassOf (board_id l.board) l.pass
    × (held_board_id l.self ≡ held_board_id l.fn.self)
    × (held_number l.self ≡ held_number l.fn.self)
    × Leads l.at (long_keys (held_records l.self) l.table) (long_keys (held_records l.fn.self) l.table)
    × (l.steps + keys_cost l.table (length l.guards.snapshots.now) (held_records l.fn.self).records
    (take l.at (long_keys (held_records l.fn.self) l.table)) ≤ l.fn.steps + keys_cost l.table (length l.guards.snapshots.now) (held_records l.fn.self).records
    (long_keys (held_records l.fn.self) l.table))

abbrev pub decreases-loop-at : goal.decreases-loop-at
decreases-loop-at g l = l.at
