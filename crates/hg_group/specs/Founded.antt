-- What fits under the locks of group commit.
use Rattle.std.specs.Prelude.{ℕ}
use Rattle.std.specs.declared.snapshot.Snapshot.{Snapshot}
use Rattle.hg_rule.specs.Seats.{BoardId}
use Rattle.hg_queue.specs.Queues.{IsPassOf}
use Rattle.hg_group.specs.declared.book.Batches.{Batches}
use Rattle.hg_group.specs.declared.book.Founding.{Founding}
use Rattle.hg_group.specs.Places.{seat_board_id}
use Rattle.hg_group.specs.Leading.{IsKept}

-- the board
abbrev pub founding_board_id : Founding → BoardId
founding_board_id f = seat_board_id f.seat.value

-- under the commit lock: what is kept of this board, and the pass of its queue
abbrev pub BatchesFit : Snapshot Founding → ℕ → Batches → Type 0
BatchesFit tag k x = IsKept (founding_board_id tag.value) tag.value.sessions x × IsPassOf tag.value.queue.value x.book.value.line
