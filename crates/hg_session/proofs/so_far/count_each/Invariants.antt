use Rattle.std.proofs.Common.{◌≡◌, ℕ, List}
use Rattle.hg_core.specs.declared.log.LogEntry.{LogEntry}
use Rattle.hg_rule.specs.Facts.{StartsWith}
use Rattle.hg_rule.specs.Seats.{session_view, IsSessionOf}
use Rattle.hg_session.specs.Engines.{engine_board_id, engine_sizes}
use Rattle.hg_session.specs.SoFar.{ShowLogs}
use Rattle.hg_session.proofs.SoFar.{SumLogs}
use Rattle.hg_session.proofs.so_far.count_each.Given as goal

abbrev pub invariant-loop-bucket : goal.invariant-loop-bucket
invariant-loop-bucket g l = record {
  own : IsSessionOf (engine_board_id l.engine) (engine_sizes l.engine) l.holder;
  parts : (session_view l.holder).parts ≡ (session_view l.fn.holder).parts;
  kept : StartsWith (session_view l.holder).sights (session_view l.fn.holder).sights;
  sums : (logs : ℕ → List LogEntry) → ShowLogs (engine_sizes l.engine) (session_view l.fn.holder).parts logs → SumLogs (engine_sizes l.engine) l.bucket logs l.sums;
}
