use Rattle.std.proofs.Common.{◌≡◌, subst}
use Rattle.hg_rule.specs.declared.passes.CollectorPass.{CollectorPass}
use Rattle.hg_rule.specs.Agreed.{AgreesWith}
use Rattle.hg_rule.specs.Moves.{meeting}
use Rattle.hg_rule.specs.Seats.{pass_view}
use Rattle.hg_rule.specs.Views.{session}
use Rattle.hg_session.specs.Engines.{engine_board_id, engine_sizes}
use Rattle.hg_session.specs.Sessions.{view_of, number_of}
use Rattle.hg_collectors.specs.Workers.{IsCollectorOf}
use Rattle.hg_collectors.proofs.Teams.{team_met}
use Rattle.hg_run.proofs.gc.meet_worker.Goals as goal

pub returns-in-One-clause-agrees : goal.returns-in-One-clause-agrees
returns-in-One-clause-agrees c = rw c.in-One.is (subst (λ (p : CollectorPass). AgreesWith (pass_view p) (number_of c.args.session.now) (session (view_of c.args.session.now)))
    c.lend.ensures.pass c.meet_pass.ensures.agrees)

pub returns-in-One-clause-pass : goal.returns-in-One-clause-pass
returns-in-One-clause-pass c = rw c.in-One.is (subst (λ (p : CollectorPass). pass_view c.meet_pass.new.pass ≡ meeting (pass_view p) (view_of c.args.session.now))
    c.lend.ensures.pass c.meet_pass.ensures.pass)

pub returns-in-Team-clause-agrees : goal.returns-in-Team-clause-agrees
returns-in-Team-clause-agrees c = rw c.in-Team.is (subst (λ (p : CollectorPass). AgreesWith (pass_view p) (number_of c.args.session.now) (session (view_of c.args.session.now)))
    c.lend-in-Team.ensures.pass c.meet_pass-in-Team.ensures.agrees)

pub returns-in-Team-clause-pass : goal.returns-in-Team-clause-pass
returns-in-Team-clause-pass c = rw c.in-Team.is (subst (λ (p : CollectorPass). pass_view c.meet_pass-in-Team.new.pass ≡ meeting (pass_view p) (view_of c.args.session.now))
    c.lend-in-Team.ensures.pass c.meet_pass-in-Team.ensures.pass)

pub returns-in-Team-clause-own : goal.returns-in-Team-clause-own
returns-in-Team-clause-own c =
    let t = engine_board_id c.args.engine.now in
    let z = engine_sizes c.args.engine.now in
    let met = subst (λ (p : CollectorPass). pass_view c.meet_pass-in-Team.new.pass ≡ meeting (pass_view p) (view_of c.args.session.now)) c.lend-in-Team.ensures.pass
    c.meet_pass-in-Team.ensures.pass in (
      team_met t z c.in-Team.team c.meet_pass-in-Team.new.pass (view_of c.args.session.now)
          (subst (IsCollectorOf t z) c.in-Team.is c.requires.own.0) c.meet_pass-in-Team.ensures.own.1 met,
      c.meet_pass-in-Team.ensures.own.0,
    )
