use Rattle.std.proofs.Common.{arith}
use Rattle.std.proofs.lemmas.Bool.{or_parts}
use Rattle.hg_base.specs.declared.limits.TheConstants.{MOST_SESSIONS}
use Rattle.hg_script.proofs.Growth.{lies}
use Rattle.hg_script.proofs.draft.Draft.breaks_order.Goals as goal

pub is_open-requires : goal.is_open-requires
is_open-requires c =
    let range = rw c.in-Session.is at c.requires.range in
    let lie = lies 1 MOST_SESSIONS c.in-Session.session (or_parts _ _ range).0 in
    omega (arith, lie.most, c.value-session.ensures)

pub is_reading-requires : goal.is_reading-requires
is_reading-requires c =
    let range = rw c.in-Session.is at c.requires.range in
    let lie = lies 1 MOST_SESSIONS c.in-Session.session (or_parts _ _ range).0 in
    omega (arith, lie.most, c.value-session.ensures)
