-- A replay to its totals.
use Rattle.std.proofs.Common.{◌≡◌, ℕ, ◌≤◌, inr, List, [], length, Option, sym, ap, ◌∙◌, arith}
use Rattle.std.specs.Prelude.{sum_by, IsSome}
use Rattle.hg_base.specs.declared.scope.Snapshot.{Snapshot}
use Rattle.hg_base.specs.declared.report.Kind.{Kind}
use Rattle.hg_base.specs.declared.report.Kind.TheVariants as kinds
use Rattle.hg_base.specs.declared.statement.Statement.TheVariants.{Rollback}
use Rattle.hg_base.specs.declared.line.Reply.{Reply}
use Rattle.hg_base.specs.declared.line.Line.{Line}
use Rattle.hg_base.specs.declared.line.Printed.{Printed}
use Rattle.hg_base.specs.declared.line.Totals.{Totals}
use Rattle.hg_base.specs.History.{History}
use Rattle.hg_base.specs.Script.{Script, replay}
use Rattle.hg_base.specs.Shape.{HasShape}
use Rattle.hg_base.specs.Sound.{IsSound, all_said}
use Rattle.hg_base.specs.Transcript.{said_from}
use Rattle.hg_base.specs.Counts.{removed_by}
use Rattle.hg_core.specs.declared.log.LogEntry.{LogEntry}
use Rattle.hg_core.specs.Logs.{current}
use Rattle.hg_core.specs.Reading.{Unprinted, Fits, is_alone, log_with, log_after}
use Rattle.hg_core.proofs.Updates.{some_is as some_of_yes}
use Rattle.hg_headline.specs.Logged.{Logged}
use Rattle.hg_headline.specs.Counted.{Closes, IsCounted}
use Rattle.hg_headline.specs.Following.{IsFollowing, told_removed, AreTotalsBy}
use Rattle.hg_headline.proofs.Counting.{replay_whole}
use Rattle.hg_headline.proofs.Before.{logged_before}
use Rattle.hg_headline.proofs.Removed.{removed_said}
use Rattle.hg_headline.proofs.Following.{following_ends}

-- ---- what is open is rolled back without a line

-- as by a `rollback`
pub closes_rollback : (buckets : ℕ) (u : Unprinted) (log closed : List LogEntry) (reply : Reply) → IsSome (current log) → Fits buckets u log Rollback reply →
    closed ≡ log_after buckets u Rollback reply log → Closes log closed
closes_rollback buckets u log closed reply opened fits is =
    let snapshot = some_of_yes (current log) opened in
    inr (opened, (u.undone, fits.answer.1, is ∙ ap (λ (o : Option Snapshot). log_with (is_alone o Rollback) buckets u Rollback reply log) snapshot.1))

-- ---- the totals

pub counted_told : (sessions : ℕ) (h : History) (closed : ℕ → List LogEntry) (script : Script) (lines : List Line) (totals : Totals) → HasShape script.records lines →
    AreTotalsBy sessions h closed (λ kind. told_removed kind lines) totals → IsCounted sessions h closed (all_said replay script lines) totals
counted_told sessions h closed script lines totals shape t =
    let same : (kind : Kind) → sum_by (removed_by kind) (said_from [] script.records lines) ≡ told_removed kind lines = λ kind. removed_said kind [] script.records lines shape in
    record {
      made = t.made;
      undone = t.undone;
      group = t.group ∙ sym (same kinds.Group);
      table = (let e = same kinds.Table in let k = t.table in omega (arith, e, k));
      interval = t.interval ∙ sym (same kinds.Interval);
      left = t.left;
      balance = t.balance;
    }

-- The whole replay. The history is known at its end with the logs as they are closed.
pub following_last : (buckets sessions seen top : ℕ) (h : History) (logs closed : ℕ → List LogEntry) (script : Script) (printed : Printed) →
    IsFollowing buckets sessions logs seen top script.records printed.lines → ((j : ℕ) → Closes (logs j) (closed j)) → Logged buckets h closed → seen ≤ length h →
    AreTotalsBy sessions h closed (λ kind. told_removed kind printed.lines) printed.totals → IsSound replay script printed
following_last buckets sessions seen top h logs closed script printed g closes logged saw totals =
    let replayed = following_ends buckets sessions h logs seen top script.records printed.lines g (logged_before buckets h logs closed closes logged) saw in
    replay_whole buckets sessions top h logs closed script printed replayed closes (counted_told sessions h closed script printed.lines printed.totals g.shape totals)
