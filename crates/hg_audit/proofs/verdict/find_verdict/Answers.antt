use Rattle.std.proofs.Common.{◌∙◌, sym, ap, subst}
use Rattle.std.specs.List.{list_any}
use Rattle.hg_base.specs.Script.{run}
use Rattle.hg_audit.specs.Verdict.{IsOfRun, is_session_report}
use Rattle.hg_audit.proofs.verdict.find_verdict.Goals as goal

pub returns-in-Some : goal.returns-in-Some
returns-in-Some c =
    let h = subst (IsOfRun c.args.script.now c.args.printed.now) c.in-Some.is c.in_ok-verdict.ensures in
    (run h.0, (sym (c.has_session_report.ensures ∙ ap (list_any is_session_report) c.as_slice.ensures) ∙ c.if-has_session_report.false, h.1), h.2)
