-- What taking groups makes of a pass's view.
use Rattle.std.specs.Prelude.{◌≡◌, ℕ, suc, ◌<◌, ◌≤◌, List, [], ◌∷◌, ◌++◌, length, IsSome, ⊤}
use Rattle.hg_base.specs.declared.rid.Rid.{Rid}
use Rattle.hg_base.specs.declared.report.Kind.TheVariants as kinds
use Rattle.hg_base.specs.Lists.{Each}
use Rattle.hg_base.specs.History.{Group, History, group_image}
use Rattle.hg_core.specs.declared.journal.PassEntry.{PassEntry}
use Rattle.hg_core.specs.declared.journal.PassEntry.TheVariants as entries
use Rattle.hg_core.specs.declared.visit.Visit.{Visit}
use Rattle.hg_rule.specs.declared.view.Part.TheVariants.{OfPass}
use Rattle.hg_rule.specs.declared.view.Event.{Event}
use Rattle.hg_rule.specs.declared.view.Sight.{Sight}
use Rattle.hg_rule.specs.declared.view.Sight.TheVariants.{Saw}
use Rattle.hg_rule.specs.declared.view.View.{View}
use Rattle.hg_rule.specs.Facts.{IsAmong, groups}
use Rattle.hg_rule.specs.Views.{number, pass, others, seeing}
use Rattle.hg_rule.specs.Rounds.{takes_in, gone_in, seen_taken}
use Rattle.hg_group.specs.Oldest.{StandsBehind}
use Rattle.hg_rounds.specs.Visits.{GoesOn}
use Rattle.hg_collectors.specs.Cutting.{WasCut}

-- The group of that number, in a history that was seen: each record that it writes was cut.
pub record WasTaken (buckets p mark round bound : ℕ) (sights : List Sight) (visits : List Visit) (steps : List Event) (taken : ℕ) : Type 0 where
  pub history : History
  pub saw : IsAmong (Saw (groups history)) sights
  pub before : ℕ
  pub taken_is : taken ≡ suc before
  pub group : Group
  pub stands : StandsBehind before group history
  pub cut : (r : Rid) → IsSome (group_image r group) → WasCut buckets p mark round bound visits steps r

-- the numbers fall, from below n on
abbrev pub FallsBelow : ℕ → List ℕ → Type 0
FallsBelow n [] = ⊤
FallsBelow n (m ∷ ms) = (m < n) × FallsBelow m ms

-- what a pass notes that takes the groups of these numbers, the last one first
abbrev pub took : List ℕ → List PassEntry
took [] = []
took (n ∷ taken) = took taken ++ entries.Took n ∷ []

-- v with the groups of these numbers noted in the journal of its pass
abbrev pub noted : View → List ℕ → View
noted v taken = seeing (OfPass (number v) (record (pass v) { journal = (pass v).journal ++ took taken }) ∷ others v) v.sights v.events

-- Groups were taken and noted, one with each Take, and the records of each were cut. Their numbers are given, the last one first.
-- Each is over the count that the pass had seen taken before, and at most the count that it has seen in the end.
pub record TakesGroups (buckets bound : ℕ) (v : View) (gone : ℕ) (w : View) : Type 0 where
  pub taken : List ℕ
  pub on : GoesOn kinds.Group (noted v taken) w
  pub gone_is : gone ≡ gone_in on.steps
  pub count : length taken ≡ takes_in on.steps
  pub falls : FallsBelow (suc (seen_taken w.sights)) taken
  pub over : Each (λ n. seen_taken v.sights < n) taken
  pub each : Each (WasTaken buckets (number v) (pass v).mark (pass v).round bound w.sights on.visits on.steps) taken

-- so many groups or more were taken in the end
pub record TakesAll (buckets bound : ℕ) (v : View) (gone : ℕ) (w : View) : Type 0 where
  pub some : TakesGroups buckets bound v gone w
  pub enough : bound ≤ seen_taken w.sights
