use Rattle.std.proofs.Common.{◌≡◌, suc, length, sym, ap, subst, arith}
use Rattle.hg_session.specs.Engines.{engine_sizes}
use Rattle.hg_run.specs.Working.{HasRun}
use Rattle.hg_run.proofs.Working.{running_first, running_more, running_last}
use Rattle.hg_run.proofs.work.Worker.run.Goals as goal

pub loop-number-init : goal.loop-number-init
loop-number-init g c = (running_first c.args.engine.now c.args.self.now c.requires.hired, (let most = c.requires.hired.most in omega (arith, most)))

pub loop-number-preserved : goal.loop-number-preserved
loop-number-preserved g c =
    let inv = c.loop-number.invariant in
    let e = c.step.ensures in
    let h = c.in_ok-step.ensures.more c.if-branch.true in
    let many : length c.loop-number.self.records ≡ suc (length c.step.new.self.records) = ap (λ rs. length rs) h.1.records in
    let most = inv.1 in
    (running_more c.args.engine.now h.0 c.args.self.now c.loop-number.self c.step.new.self h.1 e.own e.number e.tables e.kept inv.0, omega (arith, many, most))

pub returns-clause-ran : goal.returns-clause-ran
returns-clause-ran g c =
    let o = c.in_ok-step.ensures.over c.if-branch.false in
    subst (HasRun (engine_sizes c.args.engine.now).buckets c.args.self.now) (sym o.1) (running_last c.args.engine.now c.args.self.now c.loop-number.self o.0 c.loop-number.invariant.0)
