use Rattle.std.proofs.Common.{refl, subst, rules}
use Rattle.hg_rule.specs.Rules.{IsBacked}
use Rattle.hg_rule.specs.Seats.{session_view, sizes_of}
use Rattle.hg_rule.specs.Handing.{Stamps}
use Rattle.hg_store.proofs.Stepping.{over_by, stamp_holds}
use Rattle.hg_store.proofs.Boxing.{boxed, boxed_holds}
use Rattle.hg_store.proofs.held.Held.stamp.Goals as goal

pub stamp-requires-clause-over : goal.stamp-requires-clause-over
stamp-requires-clause-over c =
    let backed = subst (IsBacked (sizes_of c.args.board.now) c.look_at.result) c.look_at.ensures.stays c.look_at.ensures.backed in
    over_by (sizes_of c.args.board.now) c.look_at.result c.args.number (session_view c.args.pass.now) (boxed c.args.self.now c.deref_mut.result.now) c.args.rid c.args.by
    (boxed_holds c.args.self.now c.deref_mut.result.now c.deref_mut.ensures.value c.requires.holds.1) backed c.requires.both c.requires.here c.requires.mine c.requires.next

pub returns-clause-holds : goal.returns-clause-holds
returns-clause-holds c =
    let backed = subst (IsBacked (sizes_of c.args.board.now) c.look_at.result) c.look_at.ensures.stays c.look_at.ensures.backed in
    let step = subst (λ v. Stamps v c.args.by.session c.args.rid c.args.number (session_view c.stamp-2.new.pass)) c.look_at.ensures.stays c.stamp-2.ensures.step in (
      (
        search rules,
        stamp_holds (sizes_of c.args.board.now) c.look_at.result c.args.number c.args.by.session (session_view c.args.pass.now) (session_view c.stamp-2.new.pass)
            (boxed c.args.self.now c.deref_mut.result.now) _ c.args.rid c.args.by c.requires.by
            (boxed_holds c.args.self.now c.deref_mut.result.now c.deref_mut.ensures.value c.requires.holds.1) backed c.requires.both refl c.requires.here c.requires.mine
            c.requires.next step c.stamp.ensures.here c.stamp.ensures.others c.stamp.ensures.counters,
      ),
      (search rules, search rules),
      search rules,
    )
