-- What visits of buckets make of a pass's view.
use Rattle.std.specs.Prelude.{◌≡◌, ℕ, zero, suc, List, [], ◌∷◌, ◌++◌, Some, ⊤}
use Rattle.hg_base.specs.declared.rid.Rid.{Rid}
use Rattle.hg_base.specs.declared.report.Kind.{Kind}
use Rattle.hg_base.specs.Lists.{Each}
use Rattle.hg_core.specs.declared.version.Version.{Version}
use Rattle.hg_core.specs.declared.visit.Visit.{Visit}
use Rattle.hg_core.specs.Contents.{Content, look}
use Rattle.hg_core.specs.Counters.{none_removed, removed_by, removed_more, removed_all}
use Rattle.hg_rule.specs.declared.view.Event.{Event}
use Rattle.hg_rule.specs.declared.view.Part.TheVariants.{OfPass}
use Rattle.hg_rule.specs.declared.view.View.{View}
use Rattle.hg_rule.specs.Facts.{StartsWith}
use Rattle.hg_rule.specs.Views.{number, pass, others}
use Rattle.hg_rule.specs.Rounds.{IsWork, gone_in}

-- a visit of bucket b in this round, at its mark, that removed so many, and gave this content back
abbrev pub closed_visit : Kind → ℕ → ℕ → ℕ → ℕ → Content → Visit
closed_visit kind mark round b gone given = record { bucket = b; mark = mark; round = round; removed = removed_more kind gone none_removed; given = Some given }

-- a visit removed versions for one kind of collector alone
abbrev pub IsOnlyFor : Kind → Visit → Type 0
IsOnlyFor kind visit = visit.removed ≡ removed_more kind (removed_by kind visit.removed) none_removed

-- a visit was made in this round
abbrev pub IsIn : ℕ → Visit → Type 0
IsIn round visit = visit.round ≡ round

-- The pass of v made these visits and steps more in its round, which are work of one kind of collector. All else that it has is as before.
pub record GoesOn (kind : Kind) (v w : View) : Type 0 where
  pub visits : List Visit
  pub steps : List Event
  pub work : Each IsWork steps
  pub only : Each (IsOnlyFor kind) visits
  pub now : Each (IsIn (pass v).round) visits
  pub sum : gone_in steps ≡ removed_all kind visits
  pub parts : w.parts ≡ OfPass (number v) (record (pass v) { visits = visits ++ (pass v).visits }) ∷ others v
  pub kept : StartsWith w.sights v.sights
  pub events : w.events ≡ v.events ++ steps

-- The visit is of bucket b. It removed so many for that kind and none for others, and gave each record back as Q has it.
pub record IsVisitOf (kind : Kind) (Q : Rid → List Version → Type 0) (mark round b : ℕ) (visit : Visit) : Type 0 where
  pub gone : ℕ
  pub given : Content
  pub is : visit ≡ closed_visit kind mark round b gone given
  pub left : (r : Rid) → Q r (look r given)

-- one visit of each of the first n buckets, in order; a list of visits has the newest first
abbrev pub OneEach : (ℕ → Visit → Type 0) → ℕ → List Visit → Type 0
OneEach P zero [] = ⊤
OneEach P zero (visit ∷ visits) = ⊥
OneEach P (suc n) [] = ⊥
OneEach P (suc n) (visit ∷ visits) = P n visit × OneEach P n visits

-- The pass visited bucket b once, and so many versions went.
pub record Visits (kind : Kind) (Q : Rid → List Version → Type 0) (b gone : ℕ) (v w : View) : Type 0 where
  pub on : GoesOn kind v w
  pub gone_is : gone ≡ gone_in on.steps
  pub visit : Visit
  pub only : on.visits ≡ visit ∷ []
  pub is : IsVisitOf kind Q (pass v).mark (pass v).round b visit

-- It visited each of the first n buckets once.
pub record VisitsAll (kind : Kind) (Q : Rid → List Version → Type 0) (n gone : ℕ) (v w : View) : Type 0 where
  pub on : GoesOn kind v w
  pub gone_is : gone ≡ gone_in on.steps
  pub once : OneEach (IsVisitOf kind Q (pass v).mark (pass v).round) n on.visits
