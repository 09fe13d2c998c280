-- What cutting records makes of a pass's view.
use Rattle.std.specs.Prelude.{◌≡◌, ◌≢◌, ℕ, List, [], ◌∷◌, ◌++◌, map, reverse, nat_eq, Any, Contains, ⊤}
use Rattle.std.specs.List.{dedup}
use Rattle.std.specs.List.Sorted.{IsStrictlyIncreasing}
use Rattle.hg_base.specs.declared.rid.Rid.{Rid}
use Rattle.hg_base.specs.declared.report.Kind.TheVariants.{Group}
use Rattle.hg_base.specs.Lists.{Each}
use Rattle.hg_core.specs.declared.visit.Visit.{Visit}
use Rattle.hg_core.specs.Clean.{IsCutAt}
use Rattle.hg_core.specs.Contents.{Content, bucket_of, look}
use Rattle.hg_rule.specs.declared.view.Event.{Event}
use Rattle.hg_rule.specs.declared.view.Event.TheVariants.{Reclaim}
use Rattle.hg_rule.specs.declared.view.View.{View}
use Rattle.hg_rule.specs.Facts.{IsAmong}
use Rattle.hg_rule.specs.Holding.{held}
use Rattle.hg_rule.specs.Views.{number, pass}
use Rattle.hg_rule.specs.Rounds.{takes_in, gone_in}
use Rattle.hg_rounds.specs.Tables.{Removes}
use Rattle.hg_rounds.specs.Visits.{closed_visit, GoesOn}

-- the records are of bucket b, of so many
abbrev pub AreIn : ℕ → ℕ → List Rid → Type 0
AreIn buckets b rids = Each (λ r. bucket_of buckets r ≡ b) rids

-- One of these steps cut the record, and one of these visits gave its bucket back with the record cut at the bound.
pub record WasCut (buckets p mark round bound : ℕ) (visits : List Visit) (steps : List Event) (rid : Rid) : Type 0 where
  pub gone : ℕ
  pub step : IsAmong (Reclaim p Group rid gone) steps
  pub all : ℕ
  pub given : Content
  pub visit : IsAmong (closed_visit Group mark round (bucket_of buckets rid) all given) visits
  pub cut : IsCutAt bound (look rid given)

-- it cut each of these records, removed so many versions, and took no group
pub record CutsAll (buckets bound : ℕ) (v : View) (rids : List Rid) (gone : ℕ) (w : View) : Type 0 where
  pub on : GoesOn Group v w
  pub gone_is : gone ≡ gone_in on.steps
  pub takes_none : takes_in on.steps ≡ 0
  pub cut : Each (WasCut buckets (number v) (pass v).mark (pass v).round bound on.visits on.steps) rids

-- ---- which buckets were visited

-- the buckets that the pass has visited, the last one first
abbrev pub visited : View → List ℕ
visited v = map (λ visit. visit.bucket) (pass v).visits

-- from v to w the pass visited these buckets, in this order, and no other
abbrev pub VisitsInOrder : List ℕ → View → View → Type 0
VisitsInOrder numbers v w = visited w ≡ reverse numbers ++ visited v

-- the buckets of the records in their order, one for each stretch of records of one bucket
abbrev pub stretches : ℕ → List Rid → List ℕ
stretches buckets rids = dedup nat_eq (map (bucket_of buckets) rids)

-- the first of the records, if there is one, is not of bucket b
abbrev pub BeginsElsewhere : ℕ → ℕ → List Rid → Type 0
BeginsElsewhere buckets b [] = ⊤
BeginsElsewhere buckets b (r ∷ rids) = bucket_of buckets r ≢ b

-- It visited buckets of these records, and none twice: their numbers rise.
pub record VisitsEachOnce (buckets : ℕ) (rids : List Rid) (v w : View) : Type 0 where
  pub numbers : List ℕ
  pub in_order : VisitsInOrder numbers v w
  pub rise : IsStrictlyIncreasing numbers
  pub needed : (b : ℕ) → Contains numbers b → Any (λ r. bucket_of buckets r ≡ b) rids

-- ---- while a bucket is held

-- one of these steps of pass p cut the record, and so it is in the bucket
abbrev pub IsCutIn : ℕ → ℕ → List Event → View → Rid → Type 0
IsCutIn bound p steps w r = (gone : ℕ) × (IsAmong (Reclaim p Group r gone) steps × IsCutAt bound (held w r))

-- the pass cut each of these records of the bucket, and so many versions went
pub record CutsHeld (bound : ℕ) (v : View) (rids : List Rid) (gone : ℕ) (w : View) : Type 0 where
  pub removes : Removes Group gone v w
  pub takes_none : takes_in removes.steps ≡ 0
  pub cut : Each (IsCutIn bound (number v) removes.steps w) rids
