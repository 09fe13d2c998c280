use Rattle.std.proofs.Common.{refl}
use Rattle.hg_base.specs.Reports.{sweep_of}
use Rattle.hg_collectors.specs.GroupCollectors.{report_in}
use Rattle.hg_collectors.proofs.collectors.GroupCollectorWorker.make_round.Goals as goal

pub returns-clause-made : goal.returns-clause-made
returns-clause-made g c =
    let report = report_in c.collect.new.self in
    (sweep_of report, (report, (c.collect.ensures.collects, refl)))
