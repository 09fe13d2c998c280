-- A leader's turn: a batch goes through whole, or not at all.
use Rattle.std.specs.Prelude.{◌≡◌, ◌⊎◌, ℕ, suc, List, [], ◌∷◌, ◌++◌, length, map}
use Rattle.hg_base.specs.History.{Group, History}
use Rattle.hg_base.specs.Lists.{Each}
use Rattle.hg_rule.specs.declared.view.Sight.{Sight}
use Rattle.hg_rule.specs.declared.view.Sight.TheVariants.{Saw}
use Rattle.hg_rule.specs.declared.view.Event.{Event}
use Rattle.hg_rule.specs.declared.view.Event.TheVariants.{Publish}
use Rattle.hg_rule.specs.declared.view.View.{View}
use Rattle.hg_rule.specs.Facts.{IsAmong, groups}
use Rattle.hg_group.specs.Batch.{IsStamp, backs}

-- The batch was refused: nothing was stamped or published, and its sessions have their parts back.
abbrev pub IsRefusedWhole : List Event → Type 0
IsRefusedWhole steps = (js : List ℕ) × (steps ≡ backs js)

-- The batch was stamped, and published as one group, in a history that was seen then. The sessions of that group have their parts
-- back, in its order, and no others.
pub record IsPublishedWhole (sights : List Sight) (steps : List Event) : Type 0 where
  pub stamps : List Event
  pub only : Each IsStamp stamps
  pub before : History
  pub group : Group
  pub saw : IsAmong (Saw (groups (before ++ group ∷ []))) sights
  pub steps_are : steps ≡ stamps ++ Publish (suc (length before)) ∷ backs (map (λ c. c.session) group)

-- The pass led one batch, or an empty one, and did nothing else.
pub record TakesTurn (v w : View) : Type 0 where
  pub steps : List Event
  pub events : w.events ≡ v.events ++ steps
  pub whole : IsRefusedWhole steps ⊎ IsPublishedWhole w.sights steps
