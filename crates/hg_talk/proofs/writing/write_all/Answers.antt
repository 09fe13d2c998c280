use Rattle.std.proofs.Common.{arith, length-drop, refl, take, drop}
use Rattle.std.proofs.lemmas.List.{take_rest}
use Rattle.std.proofs.Math.Seq.{take-add}
use Rattle.hg_talk.proofs.Written.{wrote_none, wrote_more, wrote_failed, parted, on_error}
use Rattle.hg_talk.proofs.Talking.{rose_before}
use Rattle.hg_talk.proofs.writing.write_all.Goals as goal

pub loop-at-preserved : goal.loop-at-preserved
loop-at-preserved g c =
    let bound = rw take_rest at c.in_ok-at.ensures.bound in
    let log = rw take_rest at c.in_ok-at.ensures.log in record {
      later = omega (arith, c.loop-at.invariant.later, c.in_ok-at.ensures.cause.later);
      within = omega (arith, length-drop c.loop-at.at c.args.text.now, bound.0);
      wrote = rw take-add (wrote_more _ _ _ _ _ _ c.loop-at.invariant.wrote log refl);
    }

pub loop-at-init : goal.loop-at-init
loop-at-init g c = record { within = omega arith; later = omega arith; wrote = wrote_none _ }

pub returns-in_err-at-clause-part : goal.returns-in_err-at-clause-part
returns-in_err-at-clause-part g c = on_error _ c.from_residual.result (
  take c.loop-at.at c.args.text.now,
  drop c.loop-at.at c.args.text.now,
  parted c.loop-at.at c.args.text.now,
  wrote_failed _ _ _ _ c.loop-at.invariant.wrote c.in_err-at.ensures.log,
)

pub returns-in_err-at-clause-cause : goal.returns-in_err-at-clause-cause
returns-in_err-at-clause-cause g c = record {
  later = omega (arith, c.loop-at.invariant.later, c.in_err-at.ensures.cause.later);
  failed = on_error _ c.from_residual.result (rose_before _ _ _ c.loop-at.invariant.later c.in_err-at.ensures.cause.failed);
}

pub returns-clause-cause : goal.returns-clause-cause
returns-clause-cause g c = record { later = c.loop-at.invariant.later; failed = tt }
