-- A collector's report as it is printed: without the scopes of its entries.
use Rattle.std.specs.Prelude.{map}
use Rattle.hg_base.specs.declared.report.Entry.{Entry}
use Rattle.hg_base.specs.declared.report.Told.{Told}
use Rattle.hg_base.specs.declared.report.Report.{Report}
use Rattle.hg_base.specs.declared.report.Sweep.{Sweep}

-- an entry of a report as it is printed
abbrev pub told_of : Entry → Told
told_of entry = record { session = entry.session; number = entry.number; moved = entry.moved }

-- a report as it is printed
abbrev pub sweep_of : Report → Sweep
sweep_of report = record { kind = report.kind; mark = report.mark; horizon = report.horizon; removed = report.removed; held = map told_of report.entries.list }
