-- The totals at the end, where the collectors may have removed more than the lines say.
use Rattle.std.proofs.Common.{◌≡◌, ℕ, ◌+◌, ◌-◌, ◌≤◌, List, [], refl, arith}
use Rattle.std.specs.Prelude.{sum_by}
use Rattle.hg_base.specs.declared.report.Kind.{Kind}
use Rattle.hg_base.specs.declared.report.Kind.TheVariants as kinds
use Rattle.hg_base.specs.declared.line.Line.{Line}
use Rattle.hg_base.specs.declared.line.Totals.{Totals}
use Rattle.hg_base.specs.Counts.{AreTotals, removed_by}
use Rattle.hg_base.specs.History.{History}
use Rattle.hg_base.specs.Script.{Script, replay}
use Rattle.hg_base.specs.Sound.{all_said}
use Rattle.hg_base.specs.Transcript.{history_of, said_from}
use Rattle.hg_core.specs.declared.log.LogEntry.{LogEntry}
use Rattle.hg_headline.specs.Counted.{Closes}
use Rattle.hg_headline.specs.Following.{told_removed, AreTotalsBy}
use Rattle.hg_headline.specs.Replayed.{HasReplayed}
use Rattle.hg_headline.proofs.Closing.{counted_told}
use Rattle.hg_headline.proofs.Counting.{replay_whole}
use Rattle.hg_headline.proofs.Removed.{removed_said}
use Rattle.hg_exact.specs.SoFar.{AreFinal}

-- the totals, where the table collector's have what the others removed untold
abbrev as_told : List Line → Totals → Totals
as_told lines t = record {
  made = t.made;
  undone = t.undone;
  group = told_removed kinds.Group lines;
  table = t.table + (t.group - told_removed kinds.Group lines) + (t.interval - told_removed kinds.Interval lines);
  interval = told_removed kinds.Interval lines;
  left = t.left;
}

pub final_totals : (buckets sessions top : ℕ) (h : History) (logs closed : ℕ → List LogEntry) (script : Script) (lines : List Line) (removed : Kind → ℕ) (totals : Totals) →
    HasReplayed buckets sessions h logs top script.records lines → ((j : ℕ) → Closes (logs j) (closed j)) → AreTotalsBy sessions h closed removed totals →
    ((kind : Kind) → told_removed kind lines ≤ removed kind) → AreFinal (all_said replay script lines) (history_of (all_said replay script lines)) totals
final_totals buckets sessions top h logs closed script lines removed totals r closes t told =
    let g = told kinds.Group in
    let m = told kinds.Table in
    let n = told kinds.Interval in
    let group = t.group in
    let table = t.table in
    let interval = t.interval in
    let balance = t.balance in
    let by : AreTotalsBy sessions h closed (λ kind. told_removed kind lines) (as_told lines totals) = record {
      made = t.made;
      undone = t.undone;
      group = refl;
      table = omega (arith, m, table);
      interval = refl;
      left = t.left;
      balance = omega (arith, balance, group, interval, g, n);
    } in
    let all : AreTotals (all_said replay script lines) (history_of (all_said replay script lines)) (as_told lines totals) =
    (replay_whole buckets sessions top h logs closed script (record { lines = lines; totals = as_told lines totals }) r closes (counted_told sessions h closed script lines (as_told lines totals) r.shape by)).totals in
    let same : (kind : Kind) → sum_by (removed_by kind) (said_from [] script.records lines) ≡ told_removed kind lines = λ kind. removed_said kind [] script.records lines r.shape in
    record {
      made = all.made;
      undone = all.undone;
      group = (let e = same kinds.Group in omega (arith, e, g, group));
      table = (let e = same kinds.Table in omega (arith, e, m, table));
      interval = (let e = same kinds.Interval in omega (arith, e, n, interval));
      left = all.left;
      balance = t.balance;
    }
