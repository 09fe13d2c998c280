use Rattle.hg_rule.specs.Views.{pass}
use Rattle.hg_rule.specs.Seats.{pass_view}
use Rattle.hg_collectors.proofs.Teams.{may_split}
use Rattle.hg_collectors.proofs.interval.IntervalWorker.new.Goals as goal

pub returns-then-helpers-gt1-clause-own : goal.returns-then-helpers-gt1-clause-own
returns-then-helpers-gt1-clause-own c t z own share sessions tables =
    let may = may_split c.args.helpers (pass (pass_view c.args.pass)).share c.requires.helpers share in
    c.in-Ok.ensures.team t z own may sessions tables

pub returns-clause-own : goal.returns-clause-own
returns-clause-own c t z own share sessions tables = c.in-Ok-new.ensures.collector t z own sessions tables
