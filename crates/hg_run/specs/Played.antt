-- What is known once all records of a script are answered.
use Rattle.std.specs.Prelude.{◌≡◌, ℕ, ◌+◌, ◌<◌, List, [], None, length}
use Rattle.hg_base.specs.declared.report.Kind.{Kind}
use Rattle.hg_base.specs.declared.line.Line.{Line}
use Rattle.hg_base.specs.Script.{Script}
use Rattle.hg_core.specs.declared.log.LogEntry.{LogEntry}
use Rattle.hg_core.specs.Reading.{Follows}
use Rattle.hg_core.specs.Shown.{ShowsFirsts}
use Rattle.hg_headline.specs.Counted.{Closes}
use Rattle.hg_headline.specs.Following.{IsFollowing, told_removed}
use Rattle.hg_session.specs.declared.engine.Engine.{Engine}
use Rattle.hg_session.specs.declared.session.Session.{Session}
use Rattle.hg_session.specs.Engines.{engine_sizes}
use Rattle.hg_session.specs.Finished.{logs_of}
use Rattle.hg_collectors.specs.declared.collectors.Collectors.{Collectors}
use Rattle.hg_collectors.specs.Collecting.{HaveMade, removed_of}
use Rattle.hg_collectors.specs.Telling.{sweeps_of}
use Rattle.hg_run.specs.Few.{KeepsFew}
use Rattle.hg_run.specs.Listed.{AreReady, SawAt, none_left}

-- The lines follow the logs, where so many groups were seen, by the session that has seen most too, and each write's line shows its
-- first cause by them. Their reports tell all that the collectors removed, and each round of theirs. Where these had removed nothing
-- before, few versions are held after each interval report.
pub record HasPlayed (e : Engine) (long : ℕ) (before after : Collectors) (list : List Session) (script : Script) (lines : List Line) : Type 0 where
  pub seen : ℕ
  pub top : ℕ
  pub following : IsFollowing (engine_sizes e).buckets (engine_sizes e).sessions (logs_of list) seen top script.records lines
  pub firsts : Follows (engine_sizes e).buckets ShowsFirsts (λ j. []) (λ j. None) script.records lines (logs_of list)
  pub last : ℕ
  pub ready : AreReady e last none_left list
  pub saw : SawAt seen last list
  pub told : (k : Kind) → removed_of k after ≡ removed_of k before + told_removed k lines
  pub rounds : HaveMade (engine_sizes e) long before (λ k. sweeps_of k lines) after
  pub few : ((k : Kind) → removed_of k before ≡ 0) → KeepsFew script lines

-- the same of the logs as they were before what was open was rolled back or closed
pub record HasPlayedOut (e : Engine) (before after : Collectors) (list : List Session) (script : Script) (lines : List Line) : Type 0 where
  pub logs : ℕ → List LogEntry
  pub closes : (j : ℕ) → Closes (logs j) (logs_of list j)
  pub seen : ℕ
  pub top : ℕ
  pub following : IsFollowing (engine_sizes e).buckets (engine_sizes e).sessions logs seen top script.records lines
  pub firsts : Follows (engine_sizes e).buckets ShowsFirsts (λ j. []) (λ j. None) script.records lines logs
  pub last : ℕ
  pub within : last < length list
  pub saw : SawAt seen last list
  pub told : (k : Kind) → removed_of k after ≡ removed_of k before + told_removed k lines
  pub few : ((k : Kind) → removed_of k before ≡ 0) → KeepsFew script lines
