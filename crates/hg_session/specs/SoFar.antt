-- What the buckets count between two statements, where one thread has all sessions.
use Rattle.std.specs.Prelude.{◌≡◌, ℕ, ◌+◌, ◌<◌, ◌≤◌, List, length, get_or}
use Rattle.hg_base.specs.declared.line.Totals.{Totals}
use Rattle.hg_base.specs.History.{History}
use Rattle.hg_base.specs.Lists.{Each}
use Rattle.hg_core.specs.declared.log.LogEntry.{LogEntry}
use Rattle.hg_core.specs.Phases.{IsSession}
use Rattle.hg_core.specs.State.{CoreState}
use Rattle.hg_rule.specs.declared.view.Part.{Part}
use Rattle.hg_rule.specs.declared.view.Sizes.{Sizes}
use Rattle.hg_rule.specs.Facts.{Shown}
use Rattle.hg_tracker.specs.Begun.{SawGroups}
use Rattle.hg_headline.specs.Counted.{made_in, undone_in}
use Rattle.hg_headline.specs.Logged.{Logged}
use Rattle.hg_session.specs.declared.engine.Engine.{Engine}
use Rattle.hg_session.specs.declared.session.Session.{Session}
use Rattle.hg_session.specs.Engines.{engine_sizes}
use Rattle.hg_session.specs.Finished.{logs_of}
use Rattle.hg_session.specs.Sessions.{seen_by}

-- these are the logs of all sessions, in each state that the parts are true of
abbrev pub ShowLogs : Sizes → List Part → (ℕ → List LogEntry) → Type 0
ShowLogs z parts logs = (s : CoreState) → Each (Shown s) parts → (j : ℕ) → IsSession z.sessions j → s.log j ≡ logs j

-- the totals are what the logs made and took back, and they balance
pub record CountLogs (sessions : ℕ) (logs : ℕ → List LogEntry) (totals : Totals) : Type 0 where
  pub made : totals.made ≡ made_in sessions logs
  pub undone : totals.undone ≡ undone_in sessions logs
  pub balance : totals.made ≡ totals.undone + totals.group + totals.table + totals.interval + totals.left

-- The totals of these sessions' logs, and a history that the logs have: what a session had seen of the groups stands in it.
pub record AreSoFar (e : Engine) (list : List Session) (totals : Totals) : Type 0 where
  pub history : History
  pub logged : Logged (engine_sizes e).buckets history (logs_of list)
  pub saw : (d : Session) (k n : ℕ) → k < length list → SawGroups n (seen_by (get_or list k d)) → n ≤ length history
  pub counted : CountLogs (engine_sizes e).sessions (logs_of list) totals
