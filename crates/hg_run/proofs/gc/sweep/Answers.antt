use Rattle.std.proofs.Common.{◌≡◌, sym, ap, subst, arith}
use Rattle.hg_base.specs.declared.statement.Statement.TheVariants.{Gc}
use Rattle.hg_base.specs.declared.line.Reply.{Reply}
use Rattle.hg_base.specs.declared.report.Sweep.{Sweep}
use Rattle.hg_session.specs.Engines.{engine_sizes}
use Rattle.hg_run.specs.Asked.{HasReplied}
use Rattle.hg_collectors.specs.Collecting.{HaveMade, view_in}
use Rattle.hg_collectors.specs.Telling.{sweeps_in}
use Rattle.hg_run.specs.Listed.{none_left}
use Rattle.hg_collectors.specs.Swept.{told_of, swept_by}
use Rattle.hg_collectors.proofs.Driving.{made_one}
use Rattle.hg_run.proofs.Going.{are_placed}
use Rattle.hg_run.proofs.MeetingAll.{HasOneMet, HaveAllMet, ready_one}
use Rattle.hg_run.proofs.RunningOut.{at_err, only_met}
use Rattle.hg_run.proofs.Sweeping.{swept_reply, swept_ready}
use Rattle.hg_run.proofs.gc.sweep.Goals as goal

pub meet_at-requires-clause-within : goal.meet_at-requires-clause-within
meet_at-requires-clause-within g c = c.requires.ready.within

pub meet_at-requires-clause-own : goal.meet_at-requires-clause-own
meet_at-requires-clause-own g c d = (c.requires.ready.placed d c.args.i c.requires.ready.within).own

pub meet_all-requires-clause-own : goal.meet_all-requires-clause-own
meet_all-requires-clause-own g c d k within =
    let m = c.meet_at.ensures in
    let e = c.args.engine.now in
    let one : HasOneMet e (view_in c.args.kind c.args.crew.now.collectors) (view_in c.args.kind c.meet_at.new.collectors) c.args.i c.args.crew.now.sessions.items
    c.meet_at.new.list.items = record { many = m.others.many; met = m.met; rest = m.others.rest; own = m.own; pass = m.pass c.args.kind; heard = m.heard } in
    ((ready_one e _ _ c.args.i none_left c.args.crew.now.sessions.items c.meet_at.new.list.items one c.requires.ready).placed d k within).own

pub returns-clause-replied : goal.returns-clause-replied
returns-clause-replied g c seen reads rest saw have =
    let m = c.meet_at.ensures in
    let e = c.args.engine.now in
    let v = view_in c.args.kind c.args.crew.now.collectors in
    let v1 = view_in c.args.kind c.meet_at.new.collectors in
    let w = view_in c.args.kind c.round.new.collectors in
    let old = c.args.crew.now.sessions.items in
    let mid = c.meet_at.new.list.items in
    let new = c.meet_all.new.list.items in
    let one : HasOneMet e v v1 c.args.i old mid = record { many = m.others.many; met = m.met; rest = m.others.rest; own = m.own; pass = m.pass c.args.kind; heard = m.heard } in
    let all : HaveAllMet e w mid new = record { many = c.meet_all.ensures.many; met = c.meet_all.ensures.met; own = c.meet_all.ensures.own } in
    subst (λ (reply : Reply). HasReplied e seen reads rest old c.args.i (Gc c.args.kind) reply new) (sym c.inside.ensures)
    (swept_reply e c.args.kind c.args.i v v1 w c.in_ok-swept.swept old mid new one c.in_ok-swept.ensures.swept all c.requires.ready seen reads rest saw have)

pub returns-clause-ready : goal.returns-clause-ready
returns-clause-ready g c left ready =
    let m = c.meet_at.ensures in
    let e = c.args.engine.now in
    let v = view_in c.args.kind c.args.crew.now.collectors in
    let v1 = view_in c.args.kind c.meet_at.new.collectors in
    let w = view_in c.args.kind c.round.new.collectors in
    let old = c.args.crew.now.sessions.items in
    let mid = c.meet_at.new.list.items in
    let new = c.meet_all.new.list.items in
    let one : HasOneMet e v v1 c.args.i old mid = record { many = m.others.many; met = m.met; rest = m.others.rest; own = m.own; pass = m.pass c.args.kind; heard = m.heard } in
    let all : HaveAllMet e w mid new = record { many = c.meet_all.ensures.many; met = c.meet_all.ensures.met; own = c.meet_all.ensures.own } in
    swept_ready e c.args.kind c.args.i v v1 w c.in_ok-swept.swept old mid new one c.in_ok-swept.ensures.swept all c.requires.ready left ready

pub returns-clause-told : goal.returns-clause-told
returns-clause-told g c =
    let e = c.args.engine.now in
    let kind : c.in_ok-swept.swept.kind ≡ c.args.kind = ap (λ (s : Sweep). s.kind) c.in_ok-swept.ensures.swept.told in
    record {
      removed = λ k.
          let told : told_of k c.inside.result ≡ swept_by k c.in_ok-swept.swept = ap (told_of k) c.inside.ensures in
          let first = c.meet_at.ensures.removed k in
          let now = c.in_ok-swept.ensures.removed k in
          let last = c.meet_all.ensures.removed k in
          omega (arith, told, first, now, last);
      rounds =
          subst (λ (reply : Reply). HaveMade (engine_sizes e) c.args.long c.args.crew.now.collectors (λ k. sweeps_in k reply) c.meet_all.new.collectors) (sym c.inside.ensures)
          (made_one (engine_sizes e) c.args.long c.args.kind c.args.crew.now.collectors c.meet_at.new.collectors c.round.new.collectors c.meet_all.new.collectors
          c.in_ok-swept.swept kind c.meet_at.ensures.pass c.in_ok-swept.ensures.round c.round.ensures.others c.meet_all.ensures.pass);
    }

pub returns-in_err-swept-clause-placed : goal.returns-in_err-swept-clause-placed
returns-in_err-swept-clause-placed g c =
    let m = c.meet_at.ensures in
    let e = c.args.engine.now in
    let one : HasOneMet e (view_in c.args.kind c.args.crew.now.collectors) (view_in c.args.kind c.meet_at.new.collectors) c.args.i c.args.crew.now.sessions.items
    c.meet_at.new.list.items = record { many = m.others.many; met = m.met; rest = m.others.rest; own = m.own; pass = m.pass c.args.kind; heard = m.heard } in
    are_placed e c.args.i none_left c.meet_at.new.list.items (ready_one e _ _ c.args.i none_left c.args.crew.now.sessions.items c.meet_at.new.list.items one c.requires.ready)

pub returns-clause-placed : goal.returns-clause-placed
returns-clause-placed g c = are_placed c.args.engine.now c.args.i none_left c.meet_all.new.list.items (returns-clause-ready g c none_left c.requires.ready)

pub returns-in_err-swept-clause-stopped : goal.returns-in_err-swept-clause-stopped
returns-in_err-swept-clause-stopped g c =
    let m = c.meet_at.ensures in
    let e = c.args.engine.now in
    let v = view_in c.args.kind c.args.crew.now.collectors in
    let v1 = view_in c.args.kind c.meet_at.new.collectors in
    let old = c.args.crew.now.sessions.items in
    let mid = c.meet_at.new.list.items in
    let one : HasOneMet e v v1 c.args.i old mid = record { many = m.others.many; met = m.met; rest = m.others.rest; own = m.own; pass = m.pass c.args.kind; heard = m.heard } in
    at_err _ _ (only_met e v v1 c.args.i old mid c.requires.ready.within one)

pub returns-clause-kept : goal.returns-clause-kept
returns-clause-kept g c k =
    let first = c.meet_at.ensures.removed k in
    let now = c.round.ensures.kept k in
    let last = c.meet_all.ensures.removed k in
    omega (arith, first, now, last)

pub returns-in_err-swept-clause-kept : goal.returns-in_err-swept-clause-kept
returns-in_err-swept-clause-kept g c k =
    let first = c.meet_at.ensures.removed k in
    let now = c.round.ensures.kept k in
    omega (arith, first, now)
