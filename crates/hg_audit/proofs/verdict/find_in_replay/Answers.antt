use Rattle.std.proofs.Common.{refl, sym}
use Rattle.hg_base.specs.Script.{replay}
use Rattle.hg_audit.proofs.Finding.{found_here, if_ok_keeps}
use Rattle.hg_audit.proofs.verdict.find_in_replay.Goals as goal

pub returns : goal.returns
returns c =
    let script = c.args.script.now in
    let printed = c.args.printed.now in
    if_ok_keeps c.verdict_of.result _ _
    (λ v h. h replay script printed (sym c.as_slice-lines.ensures)
    (found_here replay script printed _ _ c.in_ok-found.found c.in_ok-found.found (c.in_ok-found.ensures replay tt) refl c.of_replay-order.ensures c.as_slice-lines.ensures))
    c.verdict_of.ensures
