use Rattle.hg_session.specs.Visited.{HasVisited}
use Rattle.hg_rule.specs.Seats.{sizes_of, pass_view, commit_view}
use Rattle.hg_session.specs.Ended.{committed}
use Rattle.hg_session.proofs.Visiting.{removed_still, ended_still}
use Rattle.hg_session.proofs.Committing.{ended_comes, told_before, visited_alone}
use Rattle.hg_session.proofs.totals.totals_with.Goals as goal

pub counted-totals-requires-clause-ended : goal.counted-totals-requires-clause-ended
counted-totals-requires-clause-ended g c = ended_comes (pass_view c.args.pass.now) (commit_view c.args.seat) (pass_view c.join_commit.new.pass)
    (committed c.args.seat) c.requires.own.1 c.requires.commit.1 c.join_commit.ensures.view (sizes_of c.args.board.now) c.requires.ended

pub returns-clause-totals : goal.returns-clause-totals
returns-clause-totals g c = told_before (pass_view c.args.pass.now) (commit_view c.args.seat) (pass_view c.join_commit.new.pass)
    (committed c.args.seat) c.requires.own.1 c.requires.commit.1 c.join_commit.ensures.view (sizes_of c.args.board.now) c.counted-totals.result c.counted-totals.ensures.totals

visited : (g : _) (c : goal.After-split_commit-seat g) → HasVisited (pass_view c.args.pass.now) (sizes_of c.args.board.now).buckets (pass_view c.split_commit-seat.new.pass)
visited g c = visited_alone (pass_view c.args.pass.now) (commit_view c.args.seat) (pass_view c.join_commit.new.pass)
    (committed c.args.seat) c.requires.own.1 c.requires.commit.1 c.join_commit.ensures.view _ (pass_view c.counted-totals.new.pass)
    (pass_view c.split_commit-seat.new.pass) c.counted-totals.ensures.visited c.split_commit-seat.ensures.view

pub returns-clause-visited : goal.returns-clause-visited
returns-clause-visited g c = (visited g c, removed_still (pass_view c.args.pass.now) (pass_view c.split_commit-seat.new.pass) (sizes_of c.args.board.now).buckets c.requires.own.1 (visited g c))

pub returns-clause-ended : goal.returns-clause-ended
returns-clause-ended g c = ended_still (pass_view c.args.pass.now) (pass_view c.split_commit-seat.new.pass) (sizes_of c.args.board.now).buckets c.requires.own.1 (visited g c)
    (sizes_of c.args.board.now) c.requires.ended

pub counted-totals-requires-clause-store : goal.counted-totals-requires-clause-store
counted-totals-requires-clause-store g c = c.requires.store

pub counted-totals-requires-clause-commit : goal.counted-totals-requires-clause-commit
counted-totals-requires-clause-commit g c = c.join_commit.ensures.holds

pub counted-totals-requires-clause-backed : goal.counted-totals-requires-clause-backed
counted-totals-requires-clause-backed g c = (c.join_commit.result, c.join_commit.ensures.backed)

pub split_commit-seat-requires-clause-own : goal.split_commit-seat-requires-clause-own
split_commit-seat-requires-clause-own g c = c.counted-totals.ensures.own.0

pub split_commit-seat-requires-clause-holds : goal.split_commit-seat-requires-clause-holds
split_commit-seat-requires-clause-holds g c = c.counted-totals.ensures.commit.0
