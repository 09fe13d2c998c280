use Rattle.std.proofs.Common.{rules}
use Rattle.std.proofs.lemmas.List.Sorted.{IsNonDecreasingBy-from_sort_by_key}
use Rattle.hg_base.specs.declared.report.Entry.{Entry}
use Rattle.hg_tracker.proofs.lists.rank.Goals as goal

pub returns-clause-rises : goal.returns-clause-rises
returns-clause-rises c = IsNonDecreasingBy-from_sort_by_key (λ (e : Entry). e.number) _ c.sort_unstable_by_key.ensures.sorted (λ a r q k. search rules)
