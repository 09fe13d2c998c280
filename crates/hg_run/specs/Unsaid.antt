-- What a statement leaves at which memory ran out: no line tells what its session's log has more.
use Rattle.std.specs.Prelude.{◌≡◌, ◌⊎◌, ℕ, suc, ◌≢◌, List, [], ◌∷◌, ◌++◌, None, ⊤}
use Rattle.hg_base.specs.declared.rid.Rid.{Rid}
use Rattle.hg_base.specs.declared.image.Image.{Image}
use Rattle.hg_base.specs.declared.scope.Scope.{Scope}
use Rattle.hg_base.specs.Lists.{Each}
use Rattle.hg_core.specs.declared.log.LogEntry.{LogEntry}
use Rattle.hg_core.specs.declared.log.LogEntry.TheVariants.{Began, Saw, Over}
use Rattle.hg_core.specs.Logs.{current}
use Rattle.hg_rule.specs.Facts.{StartsWith}
use Rattle.hg_session.specs.declared.engine.Engine.{Engine}
use Rattle.hg_session.specs.declared.session.Session.{Session}
use Rattle.hg_session.specs.Finished.{logs_of}
use Rattle.hg_session.specs.Refused.{taken_back}
use Rattle.hg_session.specs.Sessions.{log_of, seen_by}
use Rattle.hg_run.specs.Caught.{SeesAll}
use Rattle.hg_run.specs.Listed.{AreReady, KeepCursors, one_more}

-- ---- a log

-- a look
abbrev pub IsLook : LogEntry → Type 0
IsLook (Saw table low high bucket rows) = ⊤
IsLook _ = ⊥

-- a log has looks more, and nothing else
pub record OnlyLooked (old new : List LogEntry) : Type 0 where
  pub looks : List LogEntry
  pub only : Each IsLook looks
  pub log : new ≡ looks ++ old

-- nothing was stored, or one write, which was taken back
abbrev pub NothingStays : List LogEntry → Type 0
NothingStays stored = (stored ≡ []) ⊎ ((r : Rid) × (image : Image) × (stored ≡ taken_back r image))

-- No transaction was open. One began, looked, left nothing that was stored, and is over: it published nothing.
pub record GaveUp (old new : List LogEntry) : Type 0 where
  pub alone : current old ≡ None
  pub at : ℕ
  pub scope : Scope
  pub looks : List LogEntry
  pub only : Each IsLook looks
  pub stored : List LogEntry
  pub nothing : NothingStays stored
  pub log : new ≡ Over ∷ (stored ++ (looks ++ Began at scope ∷ old))

-- what a log has more after a statement at which memory ran out: looks, or a transaction that gave up
abbrev pub LeavesUnsaid : List LogEntry → List LogEntry → Type 0
LeavesUnsaid old new = OnlyLooked old new ⊎ GaveUp old new

-- ---- a session

-- Memory ran out at a statement of the session. It has seen all that it had seen.
pub record HasRunOut (old new : Session) : Type 0 where
  pub log : LeavesUnsaid (log_of old) (log_of new)
  pub kept : StartsWith (seen_by new) (seen_by old)

-- ---- one of a list

-- So it did at a statement of the session at i. Each other log is as it was.
pub record HasRunOutAt (e : Engine) (i : ℕ) (old new : List Session) : Type 0 where
  pub log : LeavesUnsaid (logs_of old (suc i)) (logs_of new (suc i))
  pub rest : (k : ℕ) → k ≢ i → logs_of new (suc k) ≡ logs_of old (suc k)
  pub sees : SeesAll i old i new
  pub ready : (left : ℕ → ℕ) → AreReady e i (one_more (suc i) left) old → AreReady e i left new

-- It ran out at a round of a collector, whose pass the session at i had met. Each log and each cursor is as it was.
pub record HasOnlyMet (e : Engine) (i : ℕ) (old new : List Session) : Type 0 where
  pub logs : logs_of new ≡ logs_of old
  pub cursors : KeepCursors old new
  pub sees : SeesAll i old i new
  pub ready : (left : ℕ → ℕ) → AreReady e i left old → AreReady e i left new
