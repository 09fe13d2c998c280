use Rattle.hg_store.proofs.Stepping.{none_between, some_there}
use Rattle.hg_store.proofs.Boxing.{boxed, boxed_holds}
use Rattle.hg_store.proofs.held.Held.next_key.Goals as goal

pub returns-clause-there : goal.returns-clause-there
returns-clause-there c v hold = some_there (boxed c.args.self.now c.deref.result.now) v c.args.table c.next_key.result
    (boxed_holds c.args.self.now c.deref.result.now c.deref.ensures hold) c.next_key.ensures.there

pub returns-clause-none : goal.returns-clause-none
returns-clause-none c v hold = none_between (boxed c.args.self.now c.deref.result.now) v c.args.table c.args.from c.next_key.result
    (boxed_holds c.args.self.now c.deref.result.now c.deref.ensures hold) c.next_key.ensures.next
