use Rattle.std.proofs.Common.{◌≡◌, ◌+◌, subst, arith}
use Rattle.std.specs.Prelude.{IfOk}
use Rattle.hg_run.specs.Driven.{IsOpenedWith, sessions_in}
use Rattle.hg_run.proofs.engine.open_for.Goals as goal

pub returns-clause-opened : goal.returns-clause-opened
returns-clause-opened c =
    let none : 0 + sessions_in c.args.script.now ≡ sessions_in c.args.script.now = omega arith in
    subst (λ n. IfOk c.open_with.result (λ o. IsOpenedWith n c.args.script.now c.args.options.now.buckets o.0 o.1.sessions.items o.1.collectors)) none c.open_with.ensures.opened
