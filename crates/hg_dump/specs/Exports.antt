-- What an export needs of a session's pass, and what it leaves of it.
use Rattle.std.specs.Prelude.{◌≡◌, ℕ, ◌<◌, List, [], ◌∷◌, ◌++◌, false, Some, IsTrue, Result, Ok, Err, ⊤}
use Rattle.hg_base.specs.declared.fault.NoMemory.{NoMemory}
use Rattle.hg_base.specs.declared.scope.Scope.TheVariants.{All}
use Rattle.hg_base.specs.Lists.{Each}
use Rattle.hg_core.specs.declared.log.LogEntry.{LogEntry}
use Rattle.hg_core.specs.declared.log.LogEntry.TheVariants.{Began, Saw, Over}
use Rattle.hg_core.specs.declared.phase.Phase.TheVariants.{Idle, Live}
use Rattle.hg_core.specs.Logs.{begans, current, is_plain, own_writes}
use Rattle.hg_rule.specs.declared.passes.SessionPass.{SessionPass}
use Rattle.hg_rule.specs.declared.view.Sizes.{Sizes}
use Rattle.hg_rule.specs.declared.view.View.{View}
use Rattle.hg_rule.specs.declared.view.Sight.TheVariants.{Heard}
use Rattle.hg_rule.specs.Facts.{StartsWith, IsAmong}
use Rattle.hg_rule.specs.Seats.{BoardId, session_view, IsSessionOf}
use Rattle.hg_rule.specs.Views.{number, session, HasOnlySession}
use Rattle.hg_cursor.specs.Logs.{Adds}

-- a session that has no snapshot and no write, and holds nothing of the board
pub record IsResting (v : View) : Type 0 where
  pub only : HasOnlySession v
  pub idle : (session v).phase ≡ Idle
  pub unstamped : (session v).stamped ≡ false

-- a pass of the board, of a session that rests and may still begin a transaction
pub record MayExport (t : BoardId) (z : Sizes) (p : SessionPass) : Type 0 where
  pub own : IsSessionOf t z p
  pub rests : IsResting (session_view p)
  pub begins : begans (session (session_view p)).log < z.quota

-- a read of a range
abbrev pub IsLook : LogEntry → Type 0
IsLook (Saw table low high b rows) = ⊤
IsLook _ = ⊥

-- the log has gained looks, and nothing else has changed; what was seen is kept
pub record Looks (old new : View) : Type 0 where
  pub entries : List LogEntry
  pub each : Each IsLook entries
  pub adds : Adds old entries new

-- The session rests again, and its log has one transaction more, which looked at all tables at a snapshot, wrote nothing, and is
-- over. What was seen is kept, and its own log was heard.
pub record HasReadAt (at : ℕ) (old new : View) : Type 0 where
  pub rests : IsResting new
  pub entries : List LogEntry
  pub each : Each IsLook entries
  pub number_is : number new ≡ number old
  pub log : (session new).log ≡ Over ∷ (entries ++ Began at All ∷ (session old).log)
  pub kept : StartsWith new.sights old.sights
  pub heard : IsAmong (Heard (number new) (session new).log) new.sights

-- at the snapshot that was returned, and after a refusal at some snapshot
abbrev pub HasRead : View → Result ℕ NoMemory → View → Type 0
HasRead old (Ok s) new = HasReadAt s old new
HasRead old (Err e) new = (s : ℕ) × HasReadAt s old new

-- ---- while it reads

-- the session reads all tables at a snapshot, and has written nothing
pub record IsReading (at : ℕ) (v : View) : Type 0 where
  pub only : HasOnlySession v
  pub live : (session v).phase ≡ Live at All
  pub opens : current (session v).log ≡ Some (record { at = at; scope = All })
  pub unwritten : own_writes (session v).log ≡ []
  pub plain : IsTrue (is_plain (session v).log)
  pub unstamped : (session v).stamped ≡ false
