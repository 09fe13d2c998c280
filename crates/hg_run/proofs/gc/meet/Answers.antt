use Rattle.std.proofs.Common.{◌≡◌, sym, subst}
use Rattle.hg_rule.specs.declared.passes.CollectorPass.{CollectorPass}
use Rattle.hg_rule.specs.Agreed.{AgreesWith}
use Rattle.hg_rule.specs.Moves.{meeting}
use Rattle.hg_rule.specs.Seats.{pass_view}
use Rattle.hg_rule.specs.Views.{session}
use Rattle.hg_collectors.specs.GroupCollectors.{with_pass as with_group}
use Rattle.hg_rounds.specs.TableCollectors.{with_pass as with_table}
use Rattle.hg_session.specs.Finished.{AreAmong}
use Rattle.hg_session.specs.Sessions.{view_of, number_of, seen_by}
use Rattle.hg_collectors.specs.Collecting.{view_in}
use Rattle.hg_collectors.specs.Workers as interval
use Rattle.hg_collectors.proofs.Meetings.{met_none, met_kinds}
use Rattle.hg_run.specs.Meeting.{HasMetPass}
use Rattle.hg_run.proofs.Meetings.{met_pass, met_sessions, heard_session}
use Rattle.hg_run.proofs.gc.meet.Goals as goal

pub returns-in-Group-clause-met : goal.returns-in-Group-clause-met
returns-in-Group-clause-met c = subst (λ kind. HasMetPass (view_in kind c.args.collectors.now) c.args.session.now c.meet_pass.new.self) (sym c.in-Group.is)
    (met_pass 0 (pass_view c.args.collectors.now.group.rounds.pass) (pass_view c.meet_pass.new.pass) c.args.session.now c.meet_pass.new.self c.requires.own.0.alone.group.only
    (subst (λ (p : CollectorPass). AgreesWith (pass_view p) (number_of c.args.session.now) (session (view_of c.args.session.now))) c.lend.ensures.pass c.meet_pass.ensures.agrees)
    (subst (λ (p : CollectorPass). pass_view c.meet_pass.new.pass ≡ meeting (pass_view p) (view_of c.args.session.now)) c.lend.ensures.pass c.meet_pass.ensures.pass)
    c.meet_pass.ensures.view c.meet_pass.ensures.kept c.meet_pass.ensures.cursor)

pub returns-in-Group-clause-heard : goal.returns-in-Group-clause-heard
returns-in-Group-clause-heard c =
    let new = record c.args.collectors.now { group = with_group c.args.collectors.now.group c.meet_pass.new.pass } in
    subst (λ kind. AreAmong (seen_by c.args.session.now) (view_in kind new).sights) (sym c.in-Group.is)
    (heard_session (pass_view c.args.collectors.now.group.rounds.pass) (pass_view c.meet_pass.new.pass) c.args.session.now
    (subst (λ (p : CollectorPass). pass_view c.meet_pass.new.pass ≡ meeting (pass_view p) (view_of c.args.session.now)) c.lend.ensures.pass c.meet_pass.ensures.pass))

pub returns-in-Group-clause-pass : goal.returns-in-Group-clause-pass
returns-in-Group-clause-pass c = met_kinds _ _ (met_sessions (pass_view c.args.collectors.now.group.rounds.pass) (pass_view c.meet_pass.new.pass) c.args.session.now
    (subst (λ (p : CollectorPass). pass_view c.meet_pass.new.pass ≡ meeting (pass_view p) (view_of c.args.session.now)) c.lend.ensures.pass c.meet_pass.ensures.pass)) (met_none _) (met_none _)

pub returns-in-Table-clause-met : goal.returns-in-Table-clause-met
returns-in-Table-clause-met c = subst (λ kind. HasMetPass (view_in kind c.args.collectors.now) c.args.session.now c.meet_pass-in-Table.new.self) (sym c.in-Table.is)
    (met_pass 1 (pass_view c.args.collectors.now.table.rounds.pass) (pass_view c.meet_pass-in-Table.new.pass) c.args.session.now c.meet_pass-in-Table.new.self c.requires.own.0.alone.table.only
    (subst (λ (p : CollectorPass). AgreesWith (pass_view p) (number_of c.args.session.now) (session (view_of c.args.session.now))) c.lend-in-Table.ensures.pass c.meet_pass-in-Table.ensures.agrees)
    (subst (λ (p : CollectorPass). pass_view c.meet_pass-in-Table.new.pass ≡ meeting (pass_view p) (view_of c.args.session.now)) c.lend-in-Table.ensures.pass c.meet_pass-in-Table.ensures.pass)
    c.meet_pass-in-Table.ensures.view c.meet_pass-in-Table.ensures.kept c.meet_pass-in-Table.ensures.cursor)

pub returns-in-Table-clause-heard : goal.returns-in-Table-clause-heard
returns-in-Table-clause-heard c =
    let new = record c.args.collectors.now { table = with_table c.args.collectors.now.table c.meet_pass-in-Table.new.pass } in
    subst (λ kind. AreAmong (seen_by c.args.session.now) (view_in kind new).sights) (sym c.in-Table.is)
    (heard_session (pass_view c.args.collectors.now.table.rounds.pass) (pass_view c.meet_pass-in-Table.new.pass) c.args.session.now
    (subst (λ (p : CollectorPass). pass_view c.meet_pass-in-Table.new.pass ≡ meeting (pass_view p) (view_of c.args.session.now)) c.lend-in-Table.ensures.pass c.meet_pass-in-Table.ensures.pass))

pub returns-in-Table-clause-pass : goal.returns-in-Table-clause-pass
returns-in-Table-clause-pass c = met_kinds _ _ (met_none _) (met_sessions (pass_view c.args.collectors.now.table.rounds.pass) (pass_view c.meet_pass-in-Table.new.pass) c.args.session.now
    (subst (λ (p : CollectorPass). pass_view c.meet_pass-in-Table.new.pass ≡ meeting (pass_view p) (view_of c.args.session.now)) c.lend-in-Table.ensures.pass c.meet_pass-in-Table.ensures.pass)) (met_none _)

pub returns-in-Interval-clause-met : goal.returns-in-Interval-clause-met
returns-in-Interval-clause-met c = subst (λ kind. HasMetPass (view_in kind c.args.collectors.now) c.args.session.now c.meet_worker.new.session) (sym c.in-Interval.is)
    (met_pass 2 (interval.view_of c.args.collectors.now.interval) (interval.view_of c.meet_worker.new.worker) c.args.session.now c.meet_worker.new.session c.requires.own.0.alone.interval.only
    c.meet_worker.ensures.agrees c.meet_worker.ensures.pass c.meet_worker.ensures.view c.meet_worker.ensures.kept c.meet_worker.ensures.cursor)

pub returns-in-Interval-clause-heard : goal.returns-in-Interval-clause-heard
returns-in-Interval-clause-heard c =
    let new = record c.args.collectors.now { interval = c.meet_worker.new.worker } in
    subst (λ kind. AreAmong (seen_by c.args.session.now) (view_in kind new).sights) (sym c.in-Interval.is)
    (heard_session (interval.view_of c.args.collectors.now.interval) (interval.view_of c.meet_worker.new.worker) c.args.session.now c.meet_worker.ensures.pass)

pub returns-in-Interval-clause-pass : goal.returns-in-Interval-clause-pass
returns-in-Interval-clause-pass c = met_kinds _ _ (met_none _) (met_none _)
    (met_sessions (interval.view_of c.args.collectors.now.interval) (interval.view_of c.meet_worker.new.worker) c.args.session.now c.meet_worker.ensures.pass)
