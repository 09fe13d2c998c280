use Rattle.std.proofs.Common.{refl, rules}
use Rattle.hg_rule.specs.Seats.{session_view}
use Rattle.hg_store.proofs.Stepping.{undo_holds}
use Rattle.hg_store.proofs.Boxing.{boxed, boxed_holds}
use Rattle.hg_store.proofs.held.Held.undo.Goals as goal

pub returns-clause-holds : goal.returns-clause-holds
returns-clause-holds c = (
  (
    search rules,
    undo_holds (session_view c.args.pass.now) (session_view c.undo-2.new.pass) (boxed c.args.self.now c.deref_mut.result.now) _ c.args.rid
        (boxed_holds c.args.self.now c.deref_mut.result.now c.deref_mut.ensures.value c.requires.holds.1) refl c.requires.mine c.undo-2.ensures.step c.undo.ensures.here
        c.undo.ensures.others c.undo.ensures.undone,
  ),
  (search rules, search rules),
)
