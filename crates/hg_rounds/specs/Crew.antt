-- Helpers of a round: how they are hired, and what is left of their parts once they are back.
use Rattle.std.specs.Prelude.{◌≡◌, ◌⊎◌, ℕ, ◌+◌, ◌*◌, ◌<◌, ◌≤◌, ◌^◌, List, [], ◌∷◌, ◌++◌, length}
use Rattle.std.specs.List.{flat_map}
use Rattle.atomic_table.specs.Seated.{TableId}
use Rattle.hg_base.specs.declared.report.Kind.TheVariants.{Interval}
use Rattle.hg_base.specs.Lists.{Each}
use Rattle.hg_core.specs.declared.visit.Visit.{Visit}
use Rattle.hg_core.specs.Counters.{removed_all}
use Rattle.hg_rule.specs.declared.view.Event.{Event}
use Rattle.hg_rule.specs.declared.view.PassPart.{PassPart}
use Rattle.hg_rule.specs.declared.view.Part.TheVariants.{OfPass}
use Rattle.hg_rule.specs.declared.view.View.{View}
use Rattle.hg_rule.specs.declared.view.Sizes.{Sizes}
use Rattle.hg_rule.specs.Facts.{StartsWith, record_of}
use Rattle.hg_rule.specs.Views.{number, pass, others, seeing}
use Rattle.hg_rule.specs.Rounds.{IsWork, gone_in}
use Rattle.hg_rule.specs.Seats.{BoardId, pass_view}
use Rattle.hg_tracker.specs.declared.gathered.Gathered.{Gathered}
use Rattle.hg_tracker.specs.Gathers.{IsGatherOf}
use Rattle.hg_rounds.specs.Visits.{IsOnlyFor}
use Rattle.hg_rounds.specs.Sweeping.{IsCleanBy}
use Rattle.hg_rounds.specs.declared.draws.Drawn.{Drawn}
use Rattle.hg_rounds.specs.declared.helper.Helper.{Helper}
use Rattle.hg_rounds.specs.Word.{times, sum, whole_quota, helper_quota}
use Rattle.hg_rounds.specs.Helpers.{visited, own_buckets, AreVisits, EndsPast, IsHelperOf, IsReady, HasHelped}

-- a helper's share
abbrev pub share_of : Helper → ℕ
share_of h = (pass (pass_view h.pass)).share

-- the shares of helpers, added up
abbrev pub shares : List Helper → ℕ
shares hs = sum share_of hs

-- the part of a pass that was split off from the one of x, with this share
abbrev pub branched : View → ℕ → PassPart
branched x share = record (pass x) { visits = []; journal = []; share = share }

-- a helper was hired by the pass of x: it has that record, and has seen the same
pub record IsHiredBy (t : BoardId) (d : TableId) (x : View) (h : Helper) : Type 0 where
  pub own : IsHelperOf t d h
  pub ready : IsReady h
  pub view_is : pass_view h.pass ≡ seeing (OfPass (number (pass_view h.pass)) (branched x (share_of h)) ∷ []) x.sights []

-- it may work, by what was gathered
pub record IsWilling (t : BoardId) (d : TableId) (z : Sizes) (g : Gathered) (h : Helper) : Type 0 where
  pub own : IsHelperOf t d h
  pub ready : IsReady h
  pub shown : IsGatherOf z.sessions (pass (pass_view h.pass)) g

-- The pass of x hired so many. It has the rest of its share, and the drawer the rest of what it may draw.
pub record HasHired (t : BoardId) (d : TableId) (n : ℕ) (x : View) (hs : List Helper) (y : View) (drawn : Drawn) : Type 0 where
  pub own_is : y ≡ seeing (OfPass (number x) (record (pass x) { share = (pass y).share }) ∷ others x) x.sights x.events
  pub shared : (pass y).share + shares hs ≡ (pass x).share
  pub each : Each (IsHiredBy t d x) hs
  pub count : length hs ≡ n
  pub none : drawn.numbers ≡ []
  pub joined : drawn.joined ≡ []
  pub left : drawn.left + n * helper_quota ≡ whole_quota

-- a helper is back from its part of the round
pub record IsBack (t : BoardId) (d : TableId) (buckets : ℕ) (x : View) (h : Helper) : Type 0 where
  pub hired : Helper
  pub hired_is : IsHiredBy t d x hired
  pub helped : HasHelped buckets hired h
  pub own : IsHelperOf t d h
  pub same : share_of h ≡ share_of hired

-- no drawn number is past the last bucket while none of the helpers came back
abbrev pub HasPast : ℕ → ℕ → List Helper → List ℕ → Type 0
HasPast buckets n hs numbers = (length hs ≡ n) ⊎ ((past : ℕ) × (buckets ≤ past) × (0 < times past numbers))

-- Of n helpers of the pass of x some are united with it again, and these are not yet.
pub record Unites (t : BoardId) (d : TableId) (buckets n : ℕ) (x : View) (hs : List Helper) (y : View) (drawn : Drawn) (removed : ℕ) : Type 0 where
  pub share : ℕ
  pub visits : List Visit
  pub steps : List Event
  pub parts : y.parts ≡ OfPass (number x) (record (pass x) { visits = visits ++ (pass x).visits; share = share }) ∷ others x
  pub shared : share + shares hs ≡ (pass x).share
  pub kept : StartsWith y.sights x.sights
  pub events : y.events ≡ x.events ++ steps
  pub work : Each IsWork steps
  pub only : Each (IsOnlyFor Interval) visits
  pub sum_is : gone_in steps ≡ removed_all Interval visits
  pub gone_is : removed ≡ gone_in steps
  pub each : AreVisits (IsCleanBy (record_of (pass x))) (pass x).mark (pass x).round buckets visits
  pub numbers : (b : ℕ) → b < buckets → times b drawn.numbers ≡ times b (visited visits)
  pub quota_is : drawn.left + length drawn.numbers + length hs * helper_quota ≡ whole_quota
  pub past : HasPast buckets n hs drawn.numbers
  pub few : removed + length hs * 2 ^ 41 ≤ n * 2 ^ 41
  pub back : Each (IsBack t d buckets x) hs
  pub many : length drawn.joined + length hs ≡ n
  pub ended : Each (EndsPast buckets) drawn.joined
  pub by_helpers : visited visits ≡ flat_map own_buckets drawn.joined
