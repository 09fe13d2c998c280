use Rattle.std.proofs.Common.{◌≡◌, inr, refl}
use Rattle.hg_base.specs.declared.report.Kind.TheVariants.{Interval}
use Rattle.hg_base.specs.Reports.{sweep_of}
use Rattle.hg_rounds.specs.Teams.{report_in, view_of}
use Rattle.hg_collectors.specs.Lent.{lent_sizes}
use Rattle.hg_collectors.specs.Rounding.{IsRoundBy}
use Rattle.hg_collectors.proofs.Among.{if_ok}
use Rattle.hg_collectors.proofs.collectors.sweep_round.Goals as goal

pub returns-in-Team-clause-round : goal.returns-in-Team-clause-round
returns-in-Team-clause-round g c =
    let report = report_in c.collect.new.self in
    rw c.in-Team.is (if_ok (λ sweep. sweep ≡ sweep_of report) (λ sweep. IsRoundBy Interval (lent_sizes c.args.lent.now) 0 (view_of c.in-Team.team) sweep (view_of c.collect.new.self)) c.told.result
    (λ sweep is. (report, (inr c.collect.ensures.sweeps, is))) c.told.ensures)

pub returns-in-Team-clause-made : goal.returns-in-Team-clause-made
returns-in-Team-clause-made g c =
    let report = report_in c.collect.new.self in
    rw c.in-Team.is (sweep_of report, (report, (inr c.collect.ensures.sweeps, refl)))
