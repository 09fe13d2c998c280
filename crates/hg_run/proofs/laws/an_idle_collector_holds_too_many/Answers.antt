use Rattle.std.proofs.Common.{◌≤◌, ◌+◌, ◌*◌, [], take, refl, arith}
use Rattle.hg_base.specs.declared.line.Answer.TheVariants.{Swept}
use Rattle.hg_base.specs.declared.report.Kind.TheVariants.{Interval}
use Rattle.hg_base.specs.declared.report.Sweep.{Sweep}
use Rattle.hg_base.specs.Script.{replay}
use Rattle.hg_decide.specs.Writing.{line}
use Rattle.hg_decide.proofs.Decide.{so}
use Rattle.hg_decide.proofs.Decided.{decide_sound}
use Rattle.hg_run.specs.Idle.{idle}
use Rattle.hg_run.proofs.laws.an_idle_collector_holds_too_many.Goals as goal

pub returns-clause-sound : goal.returns-clause-sound
returns-clause-sound c = so (decide_sound replay idle.script idle.printed) refl

pub returns-clause-exact : goal.returns-clause-exact
returns-clause-exact c = refl

pub returns-clause-few : goal.returns-clause-few
returns-clause-few c = λ k.
    let report : Sweep = record { kind = Interval; mark = 2; horizon = 2; removed = 0; held = [] } in
    let two : 2 ≤ 0 + 1 * 1 = k (take 2 idle.printed.lines) [] (line 1 4 (Swept report)) report refl refl refl in
    omega (arith, two)
