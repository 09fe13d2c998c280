use Rattle.hg_rule.specs.Holding.{bucket}
use Rattle.hg_cursor.proofs.Keys.{own_found}
use Rattle.hg_cursor.proofs.own_keys.next_from.Goals as goal

pub returns-else-high-own-clause-own : goal.returns-else-high-own-clause-own
returns-else-high-own-clause-own c = λ v b h are own. own_found c.args.count b (bucket v).content c.args.table c.next_there.result are (c.next_there.ensures.there v h)
