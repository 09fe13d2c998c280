use Rattle.std.proofs.Common.{◌∙◌, sym, arith, false}
use Rattle.hg_report.specs.Fields.{unquoted}
use Rattle.hg_report.proofs.Unquoted.{kept_more, left_out_more, at_end}
use Rattle.hg_report.proofs.values.unquoted.Goals as goal
use Rattle.hg_report.proofs.values.unquoted.Goals.{then-not-left_out+in_ok-push, else-not-left_out}

pub loop-b-preserved : goal.loop-b-preserved
loop-b-preserved c =
    let bytes = c.args.bytes.now in
    let i = c.loop-b.b-index in
    elim c.if-not-left_out.branch [
      | then-not-left_out+in_ok-push w ↦
          rw (w.text-is, w.in_ok-push.ensures.items, w.if-not-left_out.true)
          (kept_more c.loop-b.text.items (unquoted false bytes) bytes c.loop-b.left_out i c.loop-b-test.true c.loop-b.invariant (sym c.is_left_out-left_out.ensures ∙ w.if-not-left_out.true))
      | else-not-left_out w ↦
          rw (w.text-is, w.if-not-left_out.false)
          (left_out_more c.loop-b.text.items (unquoted false bytes) bytes c.loop-b.left_out i c.loop-b-test.true c.loop-b.invariant (sym c.is_left_out-left_out.ensures ∙ w.if-not-left_out.false))
    ]

pub returns : goal.returns
returns c = at_end c.loop-b.text.items (unquoted false c.args.bytes.now) c.args.bytes.now c.loop-b.left_out c.loop-b.b-index (omega (arith, c.loop-b-test.false)) c.loop-b.invariant
