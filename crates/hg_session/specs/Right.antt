-- What a view says of a reply that it has heard.
use Rattle.std.specs.Prelude.{ℕ, List, ⊤}
use Rattle.hg_base.specs.History.{History}
use Rattle.hg_base.specs.Lists.{Each}
use Rattle.hg_base.specs.Transcript.{Said}
use Rattle.hg_core.specs.declared.log.LogEntry.{LogEntry}
use Rattle.hg_core.specs.Answered.{IsAnswered}
use Rattle.hg_core.specs.Reading.{Unprinted}
use Rattle.hg_rule.specs.declared.view.Sight.{Sight}
use Rattle.hg_rule.specs.declared.view.Sight.TheVariants.{Saw, Heard, Took, Did}
use Rattle.hg_rule.specs.declared.view.View.{View}
use Rattle.hg_rule.specs.Facts.{StartsWith, EndsWith}
use Rattle.hg_headline.specs.Logged.{Logged}

-- a history begins with what was seen of it, and logs end with what was heard of them
abbrev pub GoesOnFrom : History → (ℕ → List LogEntry) → Sight → Type 0
GoesOnFrom h logs (Saw seen) = StartsWith h seen.list
GoesOnFrom h logs (Heard j log) = EndsWith (logs j) log
GoesOnFrom h logs (Took n) = ⊤
GoesOnFrom h logs (Did e) = ⊤

-- A history with its logs, both at or past all that the view has seen.
pub record IsKnownBy (buckets : ℕ) (v : View) (h : History) (logs : ℕ → List LogEntry) : Type 0 where
  pub logged : Logged buckets h logs
  pub seen : Each (GoesOnFrom h logs) v.sights

-- Over such a history the reply, as one in its transaction, is the one of a table that never reclaims, a refusal shows its
-- cause, and a commit number is that of the group that has the transaction.
pub record IsRight (buckets : ℕ) (v : View) (j : ℕ) (u : Unprinted) (before : List LogEntry) (now : Said) : Type 0 where
  pub history : History
  pub logs : ℕ → List LogEntry
  pub known : IsKnownBy buckets v history logs
  pub answered : IsAnswered buckets history logs j u before now
