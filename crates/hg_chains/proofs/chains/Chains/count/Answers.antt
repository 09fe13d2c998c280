use Rattle.std.proofs.Common.{◌+◌, ap, sym, length, ◌∙◌, arith}
use Rattle.hg_chains.specs.declared.node.Strand.{Strand}
use Rattle.hg_chains.proofs.Held.{list_was, counted}
use Rattle.hg_chains.proofs.Newest.{count_none, count_some}
use Rattle.hg_chains.proofs.chains.Chains.count.Goals as goal

pub returns-then-is_empty : goal.returns-then-is_empty
returns-then-is_empty c =
    let a = c.self.inside.arena in
    count_none a c.args.place c.self.invariant.arena (sym c.is_empty.ensures ∙ c.if-is_empty.true) ∙ sym (ap length (list_was a c.self.inside.free c.args.self.now c.args.place c.self.view_is))

pub overflow_add-result : goal.overflow_add-result
overflow_add-result c =
    let a = c.self.inside.arena in
    let n = count_some a c.args.place (sym c.is_empty.ensures ∙ c.if-is_empty.false) in
    let e = ap (λ (s : Strand). s.count) c.strand.ensures in
    let k = counted a c.args.place in
    let sum = c.self.invariant.sum in
    let few = c.self.invariant.few in
    omega (arith, n, e, k, sum, few)

pub returns : goal.returns
returns c =
    let a = c.self.inside.arena in
    ap (λ (s : Strand). s.count + 1) c.strand.ensures ∙ count_some a c.args.place (sym c.is_empty.ensures ∙ c.if-is_empty.false) ∙
    sym (ap length (list_was a c.self.inside.free c.args.self.now c.args.place c.self.view_is))
