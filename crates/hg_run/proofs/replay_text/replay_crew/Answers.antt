use Rattle.std.proofs.lemmas.Result.{IfOk-weaker}
use Rattle.hg_session.specs.Engines.{engine_sizes}
use Rattle.hg_run.specs.Driven.{HasDrivenOne}
use Rattle.hg_run.specs.Played.{HasPlayedOut}
use Rattle.hg_run.proofs.Closing.{of_ok}
use Rattle.hg_run.proofs.replay_text.replay_crew.Goals as goal

pub returns-clause-ended : goal.returns-clause-ended
returns-clause-ended g c =
    let driven = c.replay_on-driven.result in
    let new = c.replay_on-driven.new.crew.sessions.items in
    let after = c.replay_on-driven.new.crew.collectors in
    IfOk-weaker c.close_crew.result _ _ (λ o h. record {
      new = new;
      after = after;
      driven = of_ok driven o.transcript (λ t. HasDrivenOne (engine_sizes c.args.engine.now) c.args.options.now.long c.args.script.now.records c.args.crew.sessions.items
          c.args.crew.collectors t.lines new after) h.0 c.replay_on-driven.ensures.driven;
      played = of_ok driven o.transcript (λ t. HasPlayedOut c.args.engine.now c.args.crew.collectors after new c.args.script.now t.lines) h.0 c.replay_on-driven.ensures.played;
      closed = h.1;
    }) c.close_crew.ensures

pub returns-clause-tables : goal.returns-clause-tables
returns-clause-tables g c = IfOk-weaker c.close_crew.result _ _ (λ o h. of_ok c.replay_on-driven.result o.transcript _ h.0 c.replay_on-driven.ensures.tables) c.close_crew.ensures
