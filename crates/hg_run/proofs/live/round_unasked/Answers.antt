use Rattle.std.proofs.Common.{◌≡◌, ◌≤◌, ℕ, arith}
use Rattle.hg_base.specs.declared.statement.Statement.TheVariants.{Gc}
use Rattle.hg_run.specs.Asked.{Replies}
use Rattle.hg_run.specs.Listed.{AreReady, none_left}
use Rattle.hg_run.proofs.Counted.{told_kept}
use Rattle.hg_run.proofs.Going.{ready_less}
use Rattle.hg_run.proofs.Living.{live_met, live_round}
use Rattle.hg_run.proofs.live.round_unasked.Goals as goal

pub sweep-requires-clause-ready : goal.sweep-requires-clause-ready
sweep-requires-clause-ready g c ks within =
    let ready = c.requires.live.2.ready in
    ready_less c.args.engine.now c.args.last none_left _ c.args.crew.now.sessions.items (λ j. omega arith) ready

pub returns-clause-live : goal.returns-clause-live
returns-clause-live g c records lines live =
    live_round c.args.engine.now c.args.crew.now.sessions.items c.sweep.new.crew.sessions.items c.args.last records lines c.args.kind c.in_ok-sweep.field-0 live
    (c.in_ok-sweep.ensures.replied live.seen _ _ live.saw live.cursors) (c.in_ok-sweep.ensures.ready _ live.ready)

pub returns-in_err-sweep-clause-live : goal.returns-in_err-sweep-clause-live
returns-in_err-sweep-clause-live g c records lines live =
    live_met c.args.engine.now c.args.crew.now.sessions.items c.sweep.new.crew.sessions.items c.args.last records lines live c.in_err-sweep.ensures.stopped

pub returns-clause-told : goal.returns-clause-told
returns-clause-told g c lines told = told_kept c.args.crew.now.collectors c.sweep.new.crew.collectors lines c.sweep.ensures.kept told

pub returns-in_err-sweep-clause-told : goal.returns-in_err-sweep-clause-told
returns-in_err-sweep-clause-told g c lines told = told_kept c.args.crew.now.collectors c.sweep.new.crew.collectors lines c.sweep.ensures.kept told
