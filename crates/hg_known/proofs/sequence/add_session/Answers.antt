use Rattle.std.proofs.Common.{◌++◌, sym, ap, subst, map}
use Rattle.hg_base.specs.Lists.{Each}
use Rattle.hg_known.specs.Sequenced.{IsRecordOf, record_at}
use Rattle.hg_known.proofs.Sequencing.{of_script}
use Rattle.hg_known.proofs.sequence.add_session.Goals as goal

pub loop-record-init : goal.loop-record-init
loop-record-init c = record {
  records = ap (λ rs. map (record_at c.args.script.now) c.args.into.now.items ++ rs) c.records_of-list.ensures;
  each = subst (Each (IsRecordOf c.args.script.now)) (sym c.records_of-list.ensures) (of_script c.args.script.now c.args.session);
  indices = λ h. h;
}
