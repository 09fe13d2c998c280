-- A session's right to push, by the tag of its locks and by the queue itself.
use Rattle.std.proofs.Common.{◌≡◌, ℕ, sym, subst}
use Rattle.std.specs.declared.snapshot.Snapshot.{Snapshot}
use Rattle.hg_lock.specs.Locks.{tag_of}
use Rattle.hg_rule.specs.Seats.{BoardId}
use Rattle.hg_queue.specs.declared.queue.Queue.{Queue}
use Rattle.hg_group.specs.declared.book.Founding.{Founding}
use Rattle.hg_group.specs.declared.follower.Pusher.{Pusher}
use Rattle.hg_group.specs.declared.list.GroupList.{GroupList}
use Rattle.hg_group.specs.Founded.{founding_board_id}
use Rattle.hg_group.specs.Lists.{groups_board_id}
use Rattle.hg_group.specs.Pushing.{IsPushing, PusherFits}

-- what lies under a lock pushes to the queue
pub pushes : (groups : GroupList) (t : BoardId) (k : ℕ) (x : Pusher) → groups_board_id groups ≡ t → PusherFits (tag_of groups.pushers) k x → IsPushing groups.queue t x.line
pushes groups t k x same fits = subst (λ (q : Queue). IsPushing q t x.line) groups.queue_is (subst (λ (b : BoardId). IsPushing (tag_of groups.batches).value.queue.value b x.line) same
    (subst (λ (f : Snapshot Founding). IsPushing f.value.queue.value (founding_board_id f.value) x.line) groups.tags_are fits))

-- and what pushes to the queue may lie there
pub fits_again : (groups : GroupList) (t : BoardId) (k : ℕ) (x : Pusher) → groups_board_id groups ≡ t → IsPushing groups.queue t x.line → PusherFits (tag_of groups.pushers) k x
fits_again groups t k x same line = subst (λ (f : Snapshot Founding). IsPushing f.value.queue.value (founding_board_id f.value) x.line) (sym groups.tags_are)
    (subst (λ (b : BoardId). IsPushing (tag_of groups.batches).value.queue.value b x.line) (sym same) (subst (λ (q : Queue). IsPushing q t x.line) (sym groups.queue_is) line))
