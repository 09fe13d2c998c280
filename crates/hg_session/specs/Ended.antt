-- What a view says once all sessions and all collectors' passes are joined to it.
use Rattle.std.specs.Prelude.{◌≡◌, ℕ, ◌<◌, List}
use Rattle.hg_base.specs.History.{History}
use Rattle.hg_base.specs.declared.report.Kind.{Kind}
use Rattle.hg_core.specs.declared.log.LogEntry.{LogEntry}
use Rattle.hg_core.specs.declared.visit.Visit.{Visit}
use Rattle.hg_core.specs.Counters.{removed_all}
use Rattle.hg_core.specs.Phases.{IsSession}
use Rattle.hg_rule.specs.declared.passes.CommitSeat.{CommitSeat}
use Rattle.hg_rule.specs.declared.view.CommitPart.{CommitPart}
use Rattle.hg_rule.specs.declared.view.View.{View}
use Rattle.hg_rule.specs.declared.view.Sizes.{Sizes}
use Rattle.hg_rule.specs.Keys.{session_key, commit_key, pass_key, count, shares, whole_share}
use Rattle.hg_rule.specs.Views.{session_there, commit_there, pass_there, first_in}
use Rattle.hg_rule.specs.Reading.{seek, passes_in, AllRest}
use Rattle.hg_rule.specs.Seats.{commit_view}

-- the log of each session
abbrev pub logs_in : View → ℕ → List LogEntry
logs_in v = λ j. (session_there (seek (session_key j) v.parts)).log

-- the visits of each pass
abbrev pub visits_in : View → ℕ → List Visit
visits_in v = λ p. (pass_there (seek (pass_key p) v.parts)).visits

-- the history
abbrev pub history_in : View → History
history_in v = (commit_there (seek commit_key v.parts)).history.list

-- the logs stay, and how many passes are joined
abbrev pub KeepsLogs : View → View → Type 0
KeepsLogs v w = (logs_in w ≡ logs_in v) × (passes_in w.parts ≡ passes_in v.parts)

-- what the visits of each pass removed stays, of each kind
abbrev pub KeepsRemoved : View → View → Type 0
KeepsRemoved v w = (kind : Kind) (p : ℕ) → removed_all kind (visits_in w p) ≡ removed_all kind (visits_in v p)

-- it has each session's part
abbrev pub HasAllSessions : Sizes → View → Type 0
HasAllSessions z v = (j : ℕ) → IsSession z.sessions j → 0 < count (session_key j) v.parts

-- it has the shares of all passes
abbrev pub HasAllPasses : View → Type 0
HasAllPasses v = shares v.parts ≡ whole_share

-- all sessions rest, and are there with all passes
pub record IsEnded (z : Sizes) (v : View) : Type 0 where
  pub sessions : HasAllSessions z v
  pub passes : HasAllPasses v
  pub rest : AllRest v

-- the committer's part, as its seat has it
abbrev pub committed : CommitSeat → CommitPart
committed seat = commit_there (first_in (commit_view seat).parts)
