use Rattle.hg_base.specs.Script.{Script}
use Rattle.hg_exact.specs.Conversed.{accepted, lines_of}
use Rattle.hg_exact.proofs.Accepted.{all_answered}
use Rattle.std.proofs.Common.{◌++◌, map}
use Rattle.hg_base.specs.declared.statement.Record.{Record}
use Rattle.hg_base.specs.Lists.{greatest}
use Rattle.hg_run.proofs.Desking.{ended_exact}
use Rattle.hg_run.proofs.desk.Desk.end.Goals as goal

pub returns-clause-exact : goal.returns-clause-exact
returns-clause-exact g c sent answers why h =
    let script = accepted (sent ++ h.unsaid) in
    ended_exact c.args.self sent answers why h
    (c.end_live-totals.ensures.exact script (lines_of (answers ++ h.lost)) h.stopped (all_answered (sent ++ h.unsaid) (greatest (map (λ (r : Record). r.session) script.records))))

pub returns-clause-totals : goal.returns-clause-totals
returns-clause-totals g c sent answers h = c.end_live-totals.ensures.counted (accepted sent) (lines_of answers) h.live h.told
