-- What fits under a session's lock.
use Rattle.std.specs.Prelude.{◌≡◌, ℕ, true, false}
use Rattle.std.specs.declared.snapshot.Snapshot.{Snapshot}
use Rattle.hg_rule.specs.Seats.{BoardId}
use Rattle.hg_queue.specs.declared.queue.Queue.{Queue}
use Rattle.hg_queue.specs.declared.line.QueuePass.{QueuePass}
use Rattle.hg_queue.specs.Queues.{IsPassOf, known}
use Rattle.hg_group.specs.declared.book.Founding.{Founding}
use Rattle.hg_group.specs.declared.follower.Pusher.{Pusher}
use Rattle.hg_group.specs.Founded.{founding_board_id}

-- a pass of this queue that pushes, and knows the board
abbrev pub IsPushing : Queue → BoardId → QueuePass → Type 0
IsPushing queue t line = IsPassOf queue line × ((known line).opens ≡ false) × ((known line).leads ≡ false) × ((known line).board.id ≡ t)

-- a pass of this queue that pops, and knows the board
abbrev pub IsPopping : Queue → BoardId → QueuePass → Type 0
IsPopping queue t line = IsPassOf queue line × ((known line).opens ≡ false) × ((known line).leads ≡ true) × ((known line).board.id ≡ t)

-- what lies under a session's lock is a pass that pushes to the tag's queue
abbrev pub PusherFits : Snapshot Founding → ℕ → Pusher → Type 0
PusherFits tag k x = IsPushing tag.value.queue.value (founding_board_id tag.value) x.line
