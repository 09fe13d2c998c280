use Rattle.std.proofs.Common.{sym, ◌∙◌}
use Rattle.hg_session.specs.Engines.{engine_sizes}
use Rattle.hg_run.proofs.Working.{beside_taken, asked_taken}
use Rattle.hg_run.proofs.work.answer_beside.Goals as goal

pub returns-in-Some-clause-taken : goal.returns-in-Some-clause-taken
returns-in-Some-clause-taken g c = rw c.inside.ensures (beside_taken (engine_sizes c.args.engine.now).buckets c.args.session.now c.args.statement c.in-Some.field-0
    (sym c.asked.ensures ∙ c.in-Some.is))

pub returns-in-None-clause-taken : goal.returns-in-None-clause-taken
returns-in-None-clause-taken g c = asked_taken (engine_sizes c.args.engine.now) c.args.session.now c.ask.new.session c.args.statement c.ask.result (sym c.asked.ensures ∙
    c.in-None.is) c.ask.ensures.answers
