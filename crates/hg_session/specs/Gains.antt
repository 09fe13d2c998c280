-- What a call leaves of a session's view.
use Rattle.std.specs.Prelude.{◌≡◌, ◌⊎◌, map, ℕ, suc, ◌<◌, ◌≤◌, ◌==◌, Bool, true, false, List, [], ◌∷◌, ◌++◌, Option, Some, None, Result, Ok, Err, IsFalse, ⊤}
use Rattle.hg_base.specs.declared.rid.Rid.{Rid}
use Rattle.hg_base.specs.declared.rid.TableId.{TableId}
use Rattle.hg_base.specs.declared.image.Image.{Image}
use Rattle.hg_base.specs.declared.line.Answer.TheVariants as answers
use Rattle.hg_base.specs.History.{History}
use Rattle.hg_base.specs.Lists.{Each}
use Rattle.hg_core.specs.declared.log.LogEntry.{LogEntry}
use Rattle.hg_core.specs.declared.log.LogEntry.TheVariants.{Refused, Outside, Wrote, Undid}
use Rattle.hg_core.specs.Logs.{commit_in}
use Rattle.hg_core.specs.Phases.{IsSession}
use Rattle.hg_bucket.specs.declared.refusal.WriteRefusal.{WriteRefusal}
use Rattle.hg_bucket.specs.declared.refusal.WriteRefusal.TheVariants.{Open, Newer, NoMemory}
use Rattle.hg_rule.specs.declared.view.SessionPart.{SessionPart}
use Rattle.hg_rule.specs.declared.view.Part.TheVariants.{OfSession}
use Rattle.hg_rule.specs.declared.view.Sight.{Sight}
use Rattle.hg_rule.specs.declared.view.Sight.TheVariants.{Saw, Heard}
use Rattle.hg_rule.specs.Writes.{with_log}
use Rattle.hg_rule.specs.declared.view.Sizes.{Sizes}
use Rattle.hg_rule.specs.declared.view.View.{View}
use Rattle.hg_rule.specs.Facts.{StartsWith, IsAmong, groups}
use Rattle.hg_rule.specs.Views.{number, session}
use Rattle.hg_tracker.specs.Begun.{AtMost}
use Rattle.hg_store.specs.Ends.{HasNoEnd}
use Rattle.hg_group.specs.declared.receipt.Receipt.{Receipt}
use Rattle.hg_group.specs.Order.{StandsIn}

-- a view that has a session's part alone, and has seen what was seen before
pub record Alone (j : ℕ) (part : SessionPart) (old : List Sight) (v : View) : Type 0 where
  pub parts : v.parts ≡ OfSession j part ∷ []
  pub kept : StartsWith v.sights old

-- the log has these entries more, and what was seen is kept
pub record Gains (old : View) (entries : List LogEntry) (new : View) : Type 0 where
  pub number_is : number new ≡ number old
  pub log : (session new).log ≡ entries ++ (session old).log
  pub kept : StartsWith new.sights old.sights

-- what a write leaves in the log, newest first, by its answer
abbrev pub entries_of : {T : Type 0} → Rid → Image → Result T WriteRefusal → List LogEntry
entries_of rid image (Ok t) = Wrote rid image ∷ []
entries_of rid image (Err (Open j x)) = Refused rid (answers.OpenBy (record { session = j; transaction = x })) ∷ []
entries_of rid image (Err (Newer number)) = Refused rid (answers.Newer number) ∷ []
entries_of rid image (Err NoMemory) = []

-- What refuses a write: another session of the board, whose transaction goes on, by all that was seen; or a group over the
-- snapshot.
abbrev pub IsRefusedBy : Sizes → View → ℕ → WriteRefusal → Type 0
IsRefusedBy z v at (Open j x) = IsSession z.sessions j × (IsFalse (j == number v) × Each (HasNoEnd (record { session = j; transaction = x })) v.sights)
IsRefusedBy z v at (Newer number) = at < number
IsRefusedBy z v at NoMemory = ⊤

-- what a look outside of the declared tables leaves
abbrev pub outside_entries : Bool → TableId → List LogEntry
outside_entries true table = Outside table ∷ []
outside_entries false table = []

-- a receipt's number
abbrev pub receipt_number : Option Receipt → Option ℕ
receipt_number None = None
receipt_number (Some receipt) = Some receipt.number

-- a commit number is over all that was seen, and over the transaction's own snapshot
pub record IsAfter (sights : List Sight) (at : ℕ) (c : ℕ) : Type 0 where
  pub before : ℕ
  pub next : c ≡ suc before
  pub over : Each (AtMost before) sights
  pub begun : at ≤ before

-- a view that has the session's part alone, whose log has an `Undid` for each of these records, the last one being the oldest
pub record HasUndone (old : View) (rids : List Rid) (new : View) : Type 0 where
  pub alone : Alone (number old) (with_log (map Undid rids ++ (session old).log) (session old)) old.sights new
  pub heard : (rids ≡ []) ⊎ IsAmong (Heard (number old) (map Undid rids ++ (session old).log)) new.sights

-- a view that has the session's part alone, whose log has what a write leaves there by its answer
pub record HasWritten (old : View) (rid : Rid) (image : Image) (answer : Result Bool WriteRefusal) (new : View) : Type 0 where
  pub alone : Alone (number old) (with_log (entries_of rid image answer ++ (session old).log) (session old)) old.sights new
  pub heard : IsAmong (Heard (number old) (entries_of rid image answer ++ (session old).log)) new.sights

-- The receipt of a commit says its place: the commit is there in a history that the session has seen.
pub record HasPlace (old new : View) (receipt : Receipt) : Type 0 where
  pub history : History
  pub saw : IsAmong (Saw (groups history)) new.sights
  pub stands : StandsIn history receipt (commit_in (number old) (session old).log)
