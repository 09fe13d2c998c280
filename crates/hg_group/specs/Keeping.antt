-- What a clause says of a held commit lock.
use Rattle.std.specs.Prelude.{◌≡◌, ◌≤◌, true, false, [], length, vec_capacity}
use Rattle.hg_lock.specs.Locks.{tag_of}
use Rattle.hg_rule.specs.declared.view.CommitPart.{CommitPart}
use Rattle.hg_rule.specs.Seats.{BoardId}
use Rattle.hg_queue.specs.Queues.{IsPassOf, known}
use Rattle.hg_group.specs.declared.contexts.HeldList.{HeldList}
use Rattle.hg_core.specs.Commits.{commits_in}
use Rattle.hg_group.specs.Contexts.{AreContexts}
use Rattle.hg_group.specs.Order.{FollowsQueue}
use Rattle.hg_group.specs.Batch.{AreLaid}
use Rattle.hg_group.specs.Founded.{founding_board_id}

-- the board
abbrev pub held_board_id : HeldList → BoardId
held_board_id h = founding_board_id (tag_of h.locks.now).value

-- With this part of the committer's it may lie under the lock again.
pub record KeepsBeside (h : HeldList) (part : CommitPart) : Type 0 where
  pub unstamped : part.stamped ≡ []
  pub taken : part.taken ≤ length part.history.list
  pub contexts_are : AreContexts part.history.list part.taken h.book.value.contexts.items
  pub count_is : h.book.value.count ≡ commits_in part.history.list
  pub follows : FollowsQueue part.history.list (known h.book.value.line).pairs
  pub line : ((known h.book.value.line).opens ≡ false) × (((known h.book.value.line).leads ≡ true) × ((known h.book.value.line).board.id ≡ held_board_id h))
  pub room : (h.book.value.popped.items ≡ []) × ((tag_of h.locks.now).value.sessions ≤ vec_capacity h.book.value.popped)
  pub laid : AreLaid (held_board_id h) 1 h.book.value.laid.items × (length h.book.value.laid.items ≡ (tag_of h.locks.now).value.sessions)
  pub pass : IsPassOf (tag_of h.locks.now).value.queue.value h.book.value.line
