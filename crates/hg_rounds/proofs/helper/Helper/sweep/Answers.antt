use Rattle.std.proofs.Common.{rules, refl, ◌+◌}
use Rattle.hg_tracker.specs.Boards.{trackers_board_id, board_sizes}
use Rattle.hg_store.specs.Stores.{store_buckets}
use Rattle.hg_rounds.specs.Seats.{draws_id}
use Rattle.hg_rounds.proofs.Helped.{turn_first, turn_more}
use Rattle.hg_rounds.proofs.helper.Helper.sweep.Goals as goal

pub loop-b-init : goal.loop-b-init
loop-b-init g c = turn_first (trackers_board_id c.args.tools.now.trackers.now) (draws_id c.args.draws.now) (board_sizes c.args.tools.now.trackers.now).sessions
    (store_buckets c.args.tools.now.store.now) c.args.tools.now.gathered.now c.args.self.now
    (record { number = c.args.self.now.number; pass = c.args.self.now.pass; drawer = c.draw-b.new.drawer; removed = c.args.self.now.removed }) c.draw-b.result refl refl refl
    c.requires.ready c.requires.shown c.requires.own c.draw-b.ensures.own c.draw-b.ensures.drew

pub loop-b-preserved : goal.loop-b-preserved
loop-b-preserved g c = turn_more (trackers_board_id c.args.tools.now.trackers.now) (draws_id c.args.draws.now) (board_sizes c.args.tools.now.trackers.now).sessions
    (store_buckets c.args.tools.now.store.now) c.args.tools.now.gathered.now c.args.self.now
    c.loop-b.self c.loop-b.b c.loop-b.asked c.loop-b.invariant
    (record { number = c.loop-b.self.number; pass = c.visit_bucket.new.pass; drawer = c.draw-b-in-loop-b.new.drawer; removed = c.loop-b.self.removed + c.visit_bucket.result })
    c.visit_bucket.result c.draw-b-in-loop-b.result (search rules) c.visit_bucket.ensures.visits c.visit_bucket.ensures.few refl refl c.visit_bucket.ensures.shown
    c.visit_bucket.ensures.own c.draw-b-in-loop-b.ensures.own c.draw-b-in-loop-b.ensures.drew
