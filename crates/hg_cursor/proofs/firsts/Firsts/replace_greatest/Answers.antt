use Rattle.std.proofs.Common.{rules}
use Rattle.std.specs.BinaryHeap.{heap_items}
use Rattle.std.specs.BinaryHeap.PeekMut.{peek_mut_rest, peek_mut_top}
use Rattle.std.proofs.lemmas.List.Sorted.{le_from_greatest}
use Rattle.std.proofs.lemmas.Option.{MatchOption-at_some}
use Rattle.hg_base.proofs.ListFacts.{false_true}
use Rattle.hg_cursor.proofs.Counting.{replaced}
use Rattle.hg_cursor.proofs.firsts.Firsts.replace_greatest.Goals as goal

pub returns-in-Some : goal.returns-in-Some
returns-in-Some c =
    let top = c.in-Some.greatest in
    let keys = heap_items c.args.keys.now in
    let leaves = MatchOption-at_some _ _ top c.in-Some.is c.peek_mut.ensures.permutation in
    let order = MatchOption-at_some _ _ top c.in-Some.is c.peek_mut.ensures.heap_order in
    let greatest = MatchOption-at_some _ _ top c.in-Some.is c.peek_mut.ensures.greatest in
    let comes = c.drop-greatest.ensures.permutation (search rules) in
    record {
      heap = λ h. let t = c.drop-greatest.ensures.heap_order (search rules) (order h) in search rules;
      least = λ n rows row h many needed a.
          let t = replaced n keys (peek_mut_rest top) _ rows (peek_mut_top top) c.args.key row leaves comes (le_from_greatest (peek_mut_top top) keys (greatest h)) many needed a in
          search rules;
    }

pub returns-in_default-clause-heap : goal.returns-in_default-clause-heap
returns-in_default-clause-heap c = absurd (false_true (c.in_default.ensures.variant.1 (let some = c.requires in search rules)))

pub returns-in_default-clause-least : goal.returns-in_default-clause-least
returns-in_default-clause-least c = absurd (false_true (c.in_default.ensures.variant.1 (let some = c.requires in search rules)))
