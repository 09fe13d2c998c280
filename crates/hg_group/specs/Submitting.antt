-- What handing over makes of a session's view.
use Rattle.std.specs.Prelude.{◌≡◌, ℕ, ◌<◌, ◌≤◌, List, [], ◌∷◌, ◌++◌, length}
use Rattle.hg_rule.specs.declared.view.Part.TheVariants.{OfSession, Away}
use Rattle.hg_base.specs.History.{History}
use Rattle.hg_base.specs.Lists.{Each}
use Rattle.hg_core.specs.declared.log.LogEntry.TheVariants.{Published}
use Rattle.hg_core.specs.Logs.{commit_in}
use Rattle.hg_rule.specs.declared.view.Sight.TheVariants.{Saw, Heard}
use Rattle.hg_rule.specs.declared.view.View.{View}
use Rattle.hg_rule.specs.Facts.{StartsWith, IsAmong, groups}
use Rattle.hg_rule.specs.Holding.{snapshot}
use Rattle.hg_rule.specs.Writes.{with_published}
use Rattle.hg_group.specs.declared.receipt.Receipt.{Receipt}
use Rattle.hg_group.specs.Order.{StandsIn}
use Rattle.hg_rule.specs.Views.{number, session}
use Rattle.hg_rule.specs.Steps.{Within, loaded_in}
use Rattle.hg_rule.specs.Handing.{HandsOver}
use Rattle.hg_queue.specs.declared.known.Known.{Known}

-- its own part is away since the mark, and all that was seen before is a beginning of the history at that mark
pub record HasSubmitted (v : View) (mark : ℕ) (w : View) : Type 0 where
  pub step : HandsOver v mark w
  pub over : loaded_in (session v).phase ≤ mark
  pub parts : w.parts ≡ Away (number v) (session v) mark ∷ []

-- it has its part again, as it was
pub record IsBackAgain (v w : View) : Type 0 where
  pub parts : w.parts ≡ OfSession (number v) (session v) ∷ []
  pub kept : StartsWith w.sights v.sights
  pub events : StartsWith w.events v.events

-- the list of pairs goes on, and ends with this one
abbrev pub ends_with : ℕ → ℕ → Known → Known → Type 0
ends_with j x old new = (others : List (ℕ × ℕ)) × (new.pairs ≡ old.pairs ++ (others ++ (j, x) ∷ []))

-- Its transaction was published, in a group that comes after all that was seen and over its snapshot. Its commit is in a history that was seen then.
pub record HasCommitted (v : View) (receipt : Receipt) (w : View) : Type 0 where
  pub seen : History
  pub most : Each (Within seen) v.sights
  pub over : length seen < receipt.number
  pub begun : snapshot v < receipt.number
  pub history : History
  pub saw : IsAmong (Saw (groups history)) w.sights
  pub stands : StandsIn history receipt (commit_in (number v) (session v).log)
  pub heard : IsAmong (Heard (number v) (Published receipt.number ∷ (session v).log)) w.sights
  pub parts : w.parts ≡ OfSession (number v) (with_published receipt.number (session v)) ∷ []
  pub kept : StartsWith w.sights v.sights
  pub events : StartsWith w.events v.events
