use Rattle.std.proofs.Common.{◌++◌, ◌∙◌, sym, append-nil, ap}
use Rattle.hg_records.proofs.RecordBytes.{escaped_none, escaped_more_of, still_begins, after_error}
use Rattle.hg_records.proofs.fields.add_escaped.Goals as goal

pub loop-b-init : goal.loop-b-init
loop-b-init c = sym (ap (λ bytes. c.args.text.now.items ++ bytes) escaped_none ∙ append-nil c.args.text.now.items)

pub loop-b-preserved : goal.loop-b-preserved
loop-b-preserved c = escaped_more_of c.args.text.now.items c.loop-b.text.items c.add_byte.new.text.items c.args.field.now c.loop-b.b-index c.loop-b-test.true c.loop-b.invariant
    c.in_ok-add_byte.ensures.added

pub returns-in_err-add_byte-clause-kept : goal.returns-in_err-add_byte-clause-kept
returns-in_err-add_byte-clause-kept c =
    after_error c.from_residual.result (still_begins c.args.text.now.items _ c.loop-b.text.items c.add_byte.new.text.items c.loop-b.invariant c.in_err-add_byte.ensures.kept)
