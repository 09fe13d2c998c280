use Rattle.std.proofs.Common.{inl, refl}
use Rattle.hg_base.specs.Reports.{sweep_of}
use Rattle.hg_rounds.specs.IntervalCollectors.{report_in}
use Rattle.hg_collectors.proofs.collectors.sweep_intervals.Goals as goal

pub returns-clause-made : goal.returns-clause-made
returns-clause-made g c =
    let report = report_in c.collect.new.self in
    (sweep_of report, (report, (inl c.collect.ensures.sweeps, refl)))
