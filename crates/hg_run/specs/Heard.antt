-- What a session's pass knows of all logs, where one thread has all sessions.
use Rattle.std.specs.Prelude.{◌≡◌, ◌⊎◌, ℕ, List}
use Rattle.hg_core.specs.declared.log.LogEntry.{LogEntry}
use Rattle.hg_rule.specs.declared.view.View.{View}
use Rattle.hg_rule.specs.declared.view.Sight.{Sight}
use Rattle.hg_rule.specs.Views.{number, session, HasOnlySession}
use Rattle.hg_tracker.specs.Begun.{SawGroups}
use Rattle.hg_rule.specs.Facts.{IsHeard}

-- these are the logs, as far as one session's own goes
pub record HasLog (logs : ℕ → List LogEntry) (v : View) : Type 0 where
  pub only : HasOnlySession v
  pub own : (session v).log ≡ logs (number v)

-- each log was heard as it is, unless it is empty
abbrev pub HasHeard : (ℕ → List LogEntry) → View → Type 0
HasHeard logs v = (k : ℕ) → IsHeard k (logs k) v.sights

-- so many groups were seen
abbrev pub HasSeen : ℕ → List Sight → Type 0
HasSeen n sights = (n ≡ 0) ⊎ SawGroups n sights
