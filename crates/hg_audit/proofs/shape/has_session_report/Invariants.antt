use Rattle.std.proofs.Common.{◌≡◌, false, take}
use Rattle.std.specs.List.{list_any}
use Rattle.hg_audit.specs.Verdict.{is_session_report}
use Rattle.hg_audit.proofs.shape.has_session_report.Given as goal

abbrev pub invariant-loop-line : goal.invariant-loop-line
invariant-loop-line l = list_any is_session_report (take l.line-index l.lines) ≡ false
