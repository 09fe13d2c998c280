use Rattle.std.proofs.Common.{sym, arith}
use Rattle.hg_records.proofs.Links.{led_is, led_past}
use Rattle.hg_records.proofs.statements.lead.Goals as goal

pub returns-then-l-len : goal.returns-then-l-len
returns-then-l-len c = rw c.index_mut.ensures.value (led_is c.args.l c.args.i c.args.entries.now.items _ (omega (arith, c.if-l-len.true, c.len.ensures)))

pub returns-else-l-len : goal.returns-else-l-len
returns-else-l-len c = sym (led_past c.args.l c.args.i c.args.entries.now.items (omega (arith, c.if-l-len.false, c.len.ensures)))
