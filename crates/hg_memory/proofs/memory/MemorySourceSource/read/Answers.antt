use Rattle.std.proofs.Common.{◌+◌, arith, length-drop}
use Rattle.std.proofs.lemmas.List.{drop_all, take_rest}
use Rattle.hg_memory.proofs.Fronts.{given, added, as_long}
use Rattle.hg_memory.proofs.memory.MemorySourceSource.read.Goals as goal

pub returns-clause-left : goal.returns-clause-left
returns-clause-left c =
    let e = rw (take_rest, c.deref-2.ensures.value) at c.copy_front-count.ensures.copied in
    let n = rw (take_rest, c.deref-2.ensures.value) at c.copy_front-count.ensures.count in
    let xs = c.self.inside.bytes.items in
    let d = length-drop c.self.inside.at xs in
    let same = as_long xs c.args.into.now _ c.self.inside.at c.copy_front-count.result (omega (arith, n, d)) (omega (arith, n)) e in
    rw (← c.self.view_is) (
      given xs c.args.into.now _ c.self.inside.at c.copy_front-count.result (omega (arith, n, d)) e,
      λ none some. drop_all (c.self.inside.at + c.copy_front-count.result) xs (omega (arith, n, d, none, some, same, c.self.invariant)),
    )

pub returns-clause-given : goal.returns-clause-given
returns-clause-given c =
    let e = rw (take_rest, c.deref-2.ensures.value) at c.copy_front-count.ensures.copied in
    let n = rw (take_rest, c.deref-2.ensures.value) at c.copy_front-count.ensures.count in
    let xs = c.self.inside.bytes.items in
    rw (← c.self.view_is) (added xs c.args.into.now _ c.self.inside.at c.copy_front-count.result (omega (arith, n, length-drop c.self.inside.at xs)) e)
