use Rattle.std.proofs.Common.{refl, subst, arith}
use Rattle.hg_base.specs.Faults.{Rose}
use Rattle.hg_memory.specs.Memory.{SteadyFeed, steady_inflow}
use Rattle.hg_run.specs.Serving.{Comes}
use Rattle.hg_streams.specs.Streams.{Gives, change_of}
use Rattle.hg_steady.proofs.steady.serve_steadily.Goals as goal

-- a count that is always 0 never rose
never : ¬ (Rose 0 0)
never h = omega (arith, h)

-- the source tells its bytes
gives : (old new : SteadyFeed) → Gives (change_of steady_inflow old new) old.left
gives old new = record { told = refl; steady = never }

pub returns-clause-reads : goal.returns-clause-reads
returns-clause-reads g c = λ e. let k = subst (Comes _ _ _) e c.serve.ensures.comes in never k.holds.1.failed

pub returns-clause-writes : goal.returns-clause-writes
returns-clause-writes g c = λ e. let k = subst (Comes _ _ _) e c.serve.ensures.comes in never k.holds.failed

pub returns-clause-complete : goal.returns-clause-complete
returns-clause-complete g c script within short valid = c.serve.ensures.decided.complete c.args.source.now.left script within (gives c.args.source.now c.serve.new.source) short valid never

pub returns-clause-bad_script : goal.returns-clause-bad_script
returns-clause-bad_script g c script line code within short refused = c.serve.ensures.decided.bad_script c.args.source.now.left script line code within
    (gives c.args.source.now c.serve.new.source) short refused

pub returns-clause-too_long : goal.returns-clause-too_long
returns-clause-too_long g c script within long = c.serve.ensures.decided.too_long c.args.source.now.left script within (gives c.args.source.now c.serve.new.source) long

pub returns-clause-long_input : goal.returns-clause-long_input
returns-clause-long_input g c asked long = c.serve.ensures.decided.long_input c.args.source.now.left asked (gives c.args.source.now c.serve.new.source) long

pub returns-clause-loaded : goal.returns-clause-loaded
returns-clause-loaded g c making = c.serve.ensures.decided.loaded making never
