-- The interval collector, one or a team.
use Rattle.std.proofs.Common.{◌≡◌, ℕ, zero, suc, ◌≤◌, sym, ap, subst, arith}
use Rattle.hg_rule.specs.declared.passes.CollectorPass.{CollectorPass}
use Rattle.hg_rule.specs.declared.view.Sizes.{Sizes}
use Rattle.hg_rule.specs.declared.view.View.{View}
use Rattle.hg_rule.specs.Keys.{first_share}
use Rattle.hg_rule.specs.Sharing.{MaySplit}
use Rattle.hg_rule.specs.Moves.{meeting}
use Rattle.hg_rule.specs.Views.{pass}
use Rattle.hg_rule.specs.Seats.{BoardId, pass_view, IsPassOf}
use Rattle.hg_rounds.specs.declared.team.SweepTeam.{SweepTeam}
use Rattle.hg_rounds.specs.Teams.{view_of, with_pass, IsTeamOf}
use Rattle.hg_collectors.specs.declared.interval.IntervalWorker.{IntervalWorker}
use Rattle.hg_collectors.specs.declared.interval.IntervalWorker.TheVariants.{One, Team}
use Rattle.hg_collectors.specs.Workers.{pass_of, IsCollectorOf}

-- its pass is one of the board
pub worker_pass : (t : BoardId) (z : Sizes) (w : IntervalWorker) → IsCollectorOf t z w → IsPassOf t (pass_of w)
worker_pass t z (One c) h = h.0
worker_pass t z (Team c) h = h.own.0

-- a pass of a new board may be split for each of sixteen helpers
may_fewer : (m n share : ℕ) → n ≤ m → MaySplit m share → MaySplit n share
may_fewer m zero share l h = tt
may_fewer zero (suc n) share l h = absurd (omega arith)
may_fewer (suc m) (suc n) share l h = (h.0, may_fewer m n _ (omega arith) h.1)

sixteen : MaySplit 16 first_share
sixteen = (
  omega arith,
  (
    omega arith,
    (
      omega arith,
      (
        omega arith,
        (omega arith, (omega arith, (omega arith, (omega arith, (omega arith, (omega arith, (omega arith, (omega arith, (omega arith, (omega arith, (omega arith, (omega arith, tt)))))))))))),
      ),
    ),
  ),
)

pub may_split : (n share : ℕ) → n ≤ 16 → share ≡ first_share → MaySplit n share
may_split n share l e = subst (MaySplit n) (sym e) (may_fewer 16 n first_share l sixteen)

-- a team whose pass met a session is one still
pub team_met : (t : BoardId) (z : Sizes) (c : SweepTeam) (p : CollectorPass) (other : View) → IsTeamOf t z c → IsPassOf t p → pass_view p ≡ meeting (view_of c) other →
    IsTeamOf t z (with_pass c p)
team_met t z c p other h own met = record {
  own = (own, h.own.1);
  may = subst (MaySplit c.count) (sym (ap (λ (v : View). (pass v).share) met)) h.may;
  some = h.some;
  few = h.few;
  none = h.none;
  places = h.places;
  drawer = h.drawer;
  fresh_is = h.fresh_is;
}
