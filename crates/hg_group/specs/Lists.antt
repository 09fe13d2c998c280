-- What a clause says of the locks of group commit.
use Rattle.std.specs.Prelude.{◌≡◌, ℕ, List, [], ◌∷◌, ◌++◌}
use Rattle.hg_lock.specs.Locks.{tag_of, lock_of, IsLoanOf}
use Rattle.hg_rule.specs.Seats.{BoardId}
use Rattle.hg_group.specs.declared.list.GroupList.{GroupList}
use Rattle.hg_group.specs.Founded.{founding_board_id}
use Rattle.hg_group.specs.Pushing.{PusherFits}
use Rattle.hg_group.specs.declared.follower.Submitted.{Submitted}
use Rattle.hg_queue.specs.Queues.{known}

-- the board
abbrev pub groups_board_id : GroupList → BoardId
groups_board_id q = founding_board_id (tag_of q.batches).value

-- how many sessions there are
abbrev pub groups_sessions : GroupList → ℕ
groups_sessions q = (tag_of q.batches).value.sessions

-- it holds a lock of these, and what it has may lie there again
abbrev pub IsSubmittedTo : GroupList → Submitted → Type 0
IsSubmittedTo q s = IsLoanOf q.pushers s.loan × PusherFits (tag_of q.pushers) (lock_of s.loan) s.pusher

-- the last pair that it knows is this one
abbrev pub has_pushed : ℕ → ℕ → Submitted → Type 0
has_pushed j x s = (before : List (ℕ × ℕ)) × ((known s.pusher.line).pairs ≡ before ++ (j, x) ∷ [])

-- which lock it holds
abbrev pub held_lock : Submitted → ℕ
held_lock s = lock_of s.loan
