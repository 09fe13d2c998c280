use Rattle.std.proofs.Common.{◌+◌, arith}
use Rattle.hg_rule.specs.Holding.{bucket}
use Rattle.hg_cursor.specs.Keys.{HasVersion}
use Rattle.hg_cursor.proofs.Keys.{own_key, own_apart, own_next, leads_through}
use Rattle.hg_cursor.proofs.own_keys.next_after.Goals as goal

pub returns-then-high-key-clause-leads : goal.returns-then-high-key-clause-leads
returns-then-high-key-clause-leads c = λ v b h are own k l m has.
    let far = own_apart c.args.count b c.args.table c.args.key k c.requires.some own (own_key c.args.count b (bucket v).content c.args.table k are has) l in
    omega (arith, far, m, c.if-high-key.true, c.requires.within)

pub returns-then-is_dense-clause-own : goal.returns-then-is_dense-clause-own
returns-then-is_dense-clause-own c = λ v b h are own. own_next c.args.count b c.args.table c.args.key c.requires.some own

pub returns-then-is_dense-clause-leads : goal.returns-then-is_dense-clause-leads
returns-then-is_dense-clause-leads c = λ v b h are own k l m has. own_apart c.args.count b c.args.table c.args.key k c.requires.some own
    (own_key c.args.count b (bucket v).content c.args.table k are has) l

pub returns-else-is_dense-clause-own : goal.returns-else-is_dense-clause-own
returns-else-is_dense-clause-own c = λ v b h are own. c.next_from.ensures.own v b h are (own_next c.args.count b c.args.table c.args.key c.requires.some own)

pub returns-else-is_dense-clause-leads : goal.returns-else-is_dense-clause-leads
returns-else-is_dense-clause-leads c = λ v b h are own. leads_through (HasVersion (bucket v).content c.args.table) (c.args.key + 1) (c.args.key + c.args.count) c.args.high c.next_from.result
    (λ k l has. own_apart c.args.count b c.args.table c.args.key k c.requires.some own (own_key c.args.count b (bucket v).content c.args.table k are has) l)
    (c.next_from.ensures.leads v h)
