-- What a clause says of a team.
use Rattle.std.specs.Prelude.{◌≡◌, ℕ, ◌<◌, ◌≤◌, List, [], ◌++◌, length, ltb, vec_capacity}
use Rattle.std.specs.List.{flat_map}
use Rattle.hg_base.specs.declared.report.Kind.TheVariants.{Interval}
use Rattle.hg_base.specs.declared.report.Report.{Report}
use Rattle.hg_base.specs.Lists.{Each}
use Rattle.hg_core.specs.declared.visit.Visit.{Visit}
use Rattle.hg_rule.specs.declared.passes.CollectorPass.{CollectorPass}
use Rattle.hg_rule.specs.declared.view.View.{View}
use Rattle.hg_rule.specs.declared.view.Sizes.{Sizes}
use Rattle.hg_rule.specs.Facts.{record_of}
use Rattle.hg_rule.specs.Keys.{one}
use Rattle.hg_rule.specs.Sharing.{MaySplit}
use Rattle.hg_rule.specs.Rounds.{gone_in}
use Rattle.hg_rule.specs.Views.{pass}
use Rattle.hg_rule.specs.Seats.{BoardId}
use Rattle.hg_tracker.specs.Begun.{HasGathered}
use Rattle.hg_rounds.specs.Visits.{GoesOn}
use Rattle.hg_rounds.specs.Reports.{Reports}
use Rattle.hg_rounds.specs.Rounds as rounds
use Rattle.hg_rounds.specs.Sweeping.{IsCleanBy}
use Rattle.hg_rounds.specs.declared.team.SweepTeam.{SweepTeam}
use Rattle.hg_rounds.specs.Word.{times, IsFresh}
use Rattle.hg_rounds.specs.Helpers.{visited, own_buckets, AreVisits, EndsPast}
use Rattle.hg_rounds.specs.Seats.{draws_id, drawn_by, IsDrawerOf}

-- its pass
abbrev pub pass_of : SweepTeam → CollectorPass
pass_of c = rounds.pass_of c.rounds

-- what its pass sees
abbrev pub view_of : SweepTeam → View
view_of c = rounds.view_of c.rounds

-- its last report
abbrev pub report_in : SweepTeam → Report
report_in c = rounds.report_in c.rounds

-- how many helpers it has
abbrev pub size_of : SweepTeam → ℕ
size_of c = c.count

-- what each helper drew in the last round, the last number first
abbrev pub draws_of : SweepTeam → List (List ℕ)
draws_of c = (drawn_by c.drawer).before

-- it with another pass
abbrev pub with_pass : SweepTeam → CollectorPass → SweepTeam
with_pass c p = record c { rounds = rounds.with_pass c.rounds p }

-- Its pass is of this board, and may be split for each helper. It has room for the board's sessions and tables, and for its helpers,
-- of which none is hired. Nothing is drawn.
pub record IsTeamOf (t : BoardId) (z : Sizes) (c : SweepTeam) : Type 0 where
  pub own : rounds.AreRoundsOf t z c.rounds
  pub may : MaySplit c.count (pass (view_of c)).share
  pub some : 0 < c.count
  pub few : c.count ≤ 16
  pub none : c.helpers.items ≡ []
  pub places : c.count ≤ vec_capacity c.helpers
  pub drawer : IsDrawerOf (draws_id c.draws) c.drawer
  pub fresh_is : IsFresh (drawn_by c.drawer)

-- Visits of buckets, each of the first n once and no other, which gave it back clean for what the pass of x gathered.
pub record VisitOnce (n : ℕ) (x : View) (visits : List Visit) : Type 0 where
  pub once : (b : ℕ) → times b (visited visits) ≡ one (ltb b n)
  pub each : AreVisits (IsCleanBy (record_of (pass x))) (pass x).mark (pass x).round n visits

-- One round: a gather, and then one visit of each bucket by some helper. The visits, and the steps that they made, are the pass's
-- own at the end. The report is that of the round.
pub record SweepsBeside (z : Sizes) (v : View) (report : Report) (w : View) : Type 0 where
  pub gathered : View
  pub gathers : HasGathered v z.sessions gathered
  pub on : GoesOn Interval gathered w
  pub gone_is : report.removed ≡ gone_in on.steps
  pub visit_once : VisitOnce z.buckets gathered on.visits
  pub reports : Reports Interval v report w

-- The round was shared by so many helpers. Each drew numbers of its own, and ended with one that no bucket has. The others are those of
-- the buckets that were visited, one helper after the other.
pub record IsShared (n buckets : ℕ) (v : View) (draws : List (List ℕ)) (w : View) : Type 0 where
  pub many : length draws ≡ n
  pub ended : Each (EndsPast buckets) draws
  pub visits : List Visit
  pub more : (pass w).visits ≡ visits ++ (pass v).visits
  pub by_helpers : visited visits ≡ flat_map own_buckets draws
