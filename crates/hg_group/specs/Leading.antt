-- What lies under the commit lock, and what a leader does.
use Rattle.std.specs.Prelude.{◌≡◌, ℕ, ◌≤◌, true, false, [], ◌∷◌, length, vec_capacity}
use Rattle.hg_rule.specs.declared.view.Part.TheVariants.{Away}
use Rattle.hg_rule.specs.declared.view.View.{View}
use Rattle.hg_rule.specs.Facts.{StartsWith}
use Rattle.hg_rule.specs.Views.{number, session, since}
use Rattle.hg_rule.specs.Seats.{BoardId, IsCommitOf}
use Rattle.hg_queue.specs.Queues.{known}
use Rattle.hg_group.specs.declared.book.Batches.{Batches}
use Rattle.hg_core.specs.Commits.{commits_in}
use Rattle.hg_group.specs.Contexts.{AreContexts}
use Rattle.hg_group.specs.Order.{FollowsQueue}
use Rattle.hg_group.specs.Places.{part_in}
use Rattle.hg_group.specs.Batch.{AreLaid}

-- No write has the next number, and the contexts are those of the groups that were not taken. The commits are counted, each has its pair among those that were popped, and their last places rise. There is room for a transaction of each session, and a place for what is laid for it.
pub record IsKept (t : BoardId) (sessions : ℕ) (x : Batches) : Type 0 where
  pub seat : IsCommitOf t x.seat
  pub unstamped : (part_in x.seat).stamped ≡ []
  pub taken : (part_in x.seat).taken ≤ length (part_in x.seat).history.list
  pub contexts_are : AreContexts (part_in x.seat).history.list (part_in x.seat).taken x.book.value.contexts.items
  pub count_is : x.book.value.count ≡ commits_in (part_in x.seat).history.list
  pub follows : FollowsQueue (part_in x.seat).history.list (known x.book.value.line).pairs
  pub line : ((known x.book.value.line).opens ≡ false) × (((known x.book.value.line).leads ≡ true) × ((known x.book.value.line).board.id ≡ t))
  pub room : (x.book.value.popped.items ≡ []) × (sessions ≤ vec_capacity x.book.value.popped)
  pub laid : AreLaid t 1 x.book.value.laid.items × (length x.book.value.laid.items ≡ sessions)

-- the pass has nothing but its own place, and has seen and done more
pub record Leads (v w : View) : Type 0 where
  pub parts : w.parts ≡ Away (number v) (session v) (since v) ∷ []
  pub kept : StartsWith w.sights v.sights
  pub events : StartsWith w.events v.events
