use Rattle.std.proofs.Common.{ℕ, ◌-◌, List, length, ◌∙◌, sym, ap, arith}
use Rattle.hg_base.specs.declared.value.Value.{Value}
use Rattle.hg_known.proofs.Rests.{passed_last, passed_none}
use Rattle.hg_known.proofs.said.Rest.passed.Goals as goal

pub returns-then-count-eq0 : goal.returns-then-count-eq0
returns-then-count-eq0 c = sym (passed_none c.args.most c.args.self.high c.args.rows.now (omega arith))

pub returns : goal.returns
returns c = ap (λ (p : ℕ × List Value). p.0) (sym c.index-rows-count.is) ∙
    passed_last c.args.most c.args.self.high c.args.rows.now (length c.args.rows.now - 1) c.index-rows-count.result (omega arith) (omega arith) c.index-rows-count.is
