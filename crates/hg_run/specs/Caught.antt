-- What one thread has to learn of its sessions' logs before it knows that each write's line shows its first cause. A look at a write
-- hears every log as it is then. Where none was heard further than it goes later, it has not changed in between.
use Rattle.std.specs.Prelude.{◌≡◌, ◌⊎◌, ℕ, suc, ◌<◌, ◌≢◌, List, [], length, get_or, IsTrue}
use Rattle.hg_core.specs.declared.log.LogEntry.{LogEntry}
use Rattle.hg_core.specs.Logs.{is_plain}
use Rattle.hg_rule.specs.declared.view.Sight.{Sight}
use Rattle.hg_rule.specs.declared.view.Sight.TheVariants.{Heard}
use Rattle.hg_rule.specs.Facts.{EndsWith, IsAmong}
use Rattle.hg_session.specs.declared.session.Session.{Session}
use Rattle.hg_session.specs.Finished.{AreAmong, logs_of}
use Rattle.hg_session.specs.Sessions.{view_of}

-- no log that was heard of session k goes further than this one
abbrev pub IsHeardUpTo : ℕ → List LogEntry → List Sight → Type 0
IsHeardUpTo k log sights = (l : List LogEntry) → IsAmong (Heard k l) sights → EndsWith log l

-- a log at a look and the same session's log now: this one is empty, or it is that one, and nothing of it was undone or published
abbrev pub IsStill : List LogEntry → List LogEntry → Type 0
IsStill more log = (log ≡ []) ⊎ ((more ≡ log) × IsTrue (is_plain log))

-- the session at i of a list heard its own log no further than it goes
abbrev pub HasOwn : ℕ → List Session → Type 0
HasOwn i list = (d : Session) → IsHeardUpTo (suc i) (logs_of list (suc i)) (view_of (get_or list i d)).sights

-- and so it did of each other session's
abbrev pub HasCaughtUp : ℕ → List Session → Type 0
HasCaughtUp i list = (d : Session) (k : ℕ) → k < length list → k ≢ i → IsHeardUpTo (suc k) (logs_of list (suc k)) (view_of (get_or list i d)).sights

-- the session at i of a later list has seen all that the one at j of the earlier had
abbrev pub SeesAll : ℕ → List Session → ℕ → List Session → Type 0
SeesAll j old i new = (d : Session) → AreAmong (view_of (get_or old j d)).sights (view_of (get_or new i d)).sights
