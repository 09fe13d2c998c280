use Rattle.std.proofs.Common.{refl, sym, arith}
use Rattle.hg_script.proofs.Walk.{skips, stands}
use Rattle.hg_script.proofs.record_list.RecordList.new.Goals as goal

pub invariant_of-result : goal.invariant_of-result
invariant_of-result c =
    let all = c.args.script.now.records in
    rw c.first_of.ensures.first (stands c.args.session 0 all all refl (omega (arith, c.first_of.ensures.most)))

pub returns : goal.returns
returns c =
    let all = c.args.script.now.records in
    rw c.first_of.ensures.first (sym (skips c.args.session 0 all all refl (omega (arith, c.first_of.ensures.most))))
