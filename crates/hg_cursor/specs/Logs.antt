-- What a session's log gains, and what a session must be to read.
use Rattle.std.specs.Prelude.{◌≡◌, ◌⊎◌, ℕ, List, [], ◌∷◌, ◌++◌, false, Some, IsTrue}
use Rattle.hg_base.specs.declared.rid.TableId.{TableId}
use Rattle.hg_base.specs.declared.scope.Scope.{Scope}
use Rattle.hg_base.specs.History.{History}
use Rattle.hg_base.specs.Transcript.{has}
use Rattle.hg_core.specs.declared.log.LogEntry.{LogEntry}
use Rattle.hg_core.specs.declared.phase.Phase.TheVariants.{Live}
use Rattle.hg_core.specs.Logs.{current, is_plain, own_writes}
use Rattle.hg_core.specs.Replies.{RepliesAnswer}
use Rattle.hg_rule.specs.declared.view.Part.TheVariants.{OfSession}
use Rattle.hg_rule.specs.declared.view.Sight.TheVariants.{Heard}
use Rattle.hg_rule.specs.declared.view.View.{View}
use Rattle.hg_rule.specs.Facts.{StartsWith, EndsWith, IsAmong}
use Rattle.hg_rule.specs.Views.{number, session, HasOnlySession}
use Rattle.hg_rule.specs.Writes.{with_log}

-- The view has only its session's part, whose log has gained these entries. All sights are kept.
pub record Adds (old : View) (entries : List LogEntry) (new : View) : Type 0 where
  pub parts : new.parts ≡ OfSession (number old) (with_log (entries ++ (session old).log) (session old)) ∷ []
  pub kept : StartsWith new.sights old.sights

-- the view has heard its session's whole log
abbrev pub IsHeard : View → Type 0
IsHeard v = ((session v).log ≡ []) ⊎ IsAmong (Heard (number v) (session v).log) v.sights

-- The session may read the table at a snapshot: it is live there with the table in its scope, nothing of its transaction is undone
-- or published, and it holds no bucket.
pub record MayRead (at : ℕ) (table : TableId) (v : View) : Type 0 where
  pub only : HasOnlySession v
  pub scope : Scope
  pub live : (session v).phase ≡ Live at scope
  pub declared : IsTrue (has scope table)
  pub plain : IsTrue (is_plain (session v).log)
  pub unstamped : (session v).stamped ≡ false

-- The session reads the table at a snapshot: it is live there with the table in its scope, its transaction has written nothing,
-- and it holds no bucket.
pub record ReadsAt (at : ℕ) (table : TableId) (v : View) : Type 0 where
  pub only : HasOnlySession v
  pub scope : Scope
  pub live : (session v).phase ≡ Live at scope
  pub opens : current (session v).log ≡ Some (record { at = at; scope = scope })
  pub declared : IsTrue (has scope table)
  pub unwritten : own_writes (session v).log ≡ []
  pub plain : IsTrue (is_plain (session v).log)
  pub unstamped : (session v).stamped ≡ false

-- A history with the logs of all sessions: each entry is right, and this session's log goes on from the one in the view. The
-- state that backs the view has such a history, and each later state has.
pub record GoesOn (buckets : ℕ) (v : View) (h : History) (logs : ℕ → List LogEntry) : Type 0 where
  pub answers : RepliesAnswer buckets h logs
  pub later : EndsWith (logs (number v)) (session v).log
