use Rattle.std.proofs.lemmas.Result.{IfOk-weaker}
use Rattle.hg_session.specs.Engines.{engine_sizes}
use Rattle.hg_run.specs.Driven.{HasDrivenAll}
use Rattle.hg_run.proofs.Closing.{of_ok}
use Rattle.hg_run.proofs.run_text.run_crew.Goals as goal

pub returns-clause-ended : goal.returns-clause-ended
returns-clause-ended g c =
    let new = c.run_on-driven.new.crew.sessions.items in
    let after = c.run_on-driven.new.crew.collectors in
    IfOk-weaker c.close_crew.result _ _ (λ o h. record {
      new = new;
      after = after;
      driven = of_ok c.run_on-driven.result o.transcript (λ t. HasDrivenAll (engine_sizes c.args.engine.now) c.args.plan.now.long c.args.plan.now.rounds c.args.script.now.records
          c.args.crew.sessions.items c.args.crew.collectors t.lines new after) h.0 c.run_on-driven.ensures.driven;
      closed = h.1;
    }) c.close_crew.ensures

pub returns-clause-tables : goal.returns-clause-tables
returns-clause-tables g c = IfOk-weaker c.close_crew.result _ _ (λ o h. of_ok c.run_on-driven.result o.transcript _ h.0 c.run_on-driven.ensures.tables) c.close_crew.ensures
