-- What a clause says of the interval collector, one or a team.
use Rattle.std.specs.Prelude.{◌≡◌, ℕ, ◌<◌, ◌≤◌}
use Rattle.hg_rule.specs.declared.passes.CollectorPass.{CollectorPass}
use Rattle.hg_rule.specs.declared.view.View.{View}
use Rattle.hg_rule.specs.declared.view.Sizes.{Sizes}
use Rattle.hg_rule.specs.Seats.{BoardId, pass_view}
use Rattle.hg_rounds.specs.IntervalCollectors as one
use Rattle.hg_rounds.specs.Teams as team
use Rattle.hg_collectors.specs.declared.interval.IntervalWorker.{IntervalWorker}
use Rattle.hg_collectors.specs.declared.interval.IntervalWorker.TheVariants.{One, Team}

-- the pass of the interval collector
abbrev pub pass_of : IntervalWorker → CollectorPass
pass_of (One c) = one.pass_of c
pass_of (Team c) = team.pass_of c

-- the view of that pass
abbrev pub view_of : IntervalWorker → View
view_of w = pass_view (pass_of w)

-- it is of this board, and has room for the board's sessions and tables
abbrev pub IsCollectorOf : BoardId → Sizes → IntervalWorker → Type 0
IsCollectorOf t z (One c) = one.IsCollectorOf t z c
IsCollectorOf t z (Team c) = team.IsTeamOf t z c

-- so many share a round: a team of that many if there is more than one
abbrev pub HasHelpers : ℕ → IntervalWorker → Type 0
HasHelpers n (One c) = n ≤ 1
HasHelpers n (Team c) = (1 < n) × (team.size_of c ≡ n)
