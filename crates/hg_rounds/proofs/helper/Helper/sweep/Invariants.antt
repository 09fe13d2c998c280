use Rattle.hg_tracker.specs.Boards.{trackers_board_id, board_sizes}
use Rattle.hg_store.specs.Stores.{store_buckets}
use Rattle.hg_rounds.specs.Seats.{draws_id, drawn_by}
use Rattle.hg_rounds.proofs.Helped.{Turns}
use Rattle.hg_rounds.proofs.helper.Helper.sweep.Given as goal

abbrev pub invariant-loop-b : goal.invariant-loop-b
invariant-loop-b g l = Turns (trackers_board_id l.tools.trackers.now) (draws_id l.draws) (board_sizes l.tools.trackers.now).sessions
    (store_buckets l.tools.store.now) l.tools.gathered.now l.fn.self l.self l.b l.asked

abbrev pub decreases-loop-b : goal.decreases-loop-b
decreases-loop-b g l = (drawn_by l.self.drawer).left
