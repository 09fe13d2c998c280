use Rattle.hg_reason.proofs.Printable.{is_utf8}
use Rattle.hg_reason.proofs.reason.ReasonDisplay.fmt.Goals as goal

pub unreachable-requires : goal.unreachable-requires
unreachable-requires g c = c.in-Err.ensures.cases.0 (rw c.deref.ensures.value (is_utf8 c.self.inside.text.items c.self.invariant))
