use Rattle.std.proofs.Common.{◌≡◌, ◌-◌, ◌<◌, ℕ, suc, sym, ◌∙◌, subst, arith}
use Rattle.std.specs.Prelude.{IfSome}
use Rattle.hg_lock.specs.Locks.{tag_of}
use Rattle.hg_rule.specs.Seats.{board_id, sizes_of}
use Rattle.hg_queue.specs.Queues.{IsPassOf}
use Rattle.hg_group.specs.Batch.{IsLaid}
use Rattle.hg_group.specs.Leading.{IsKept}
use Rattle.hg_group.proofs.list.GroupList.turn.Goals as goal

pub give-requires-clause-fits : goal.give-requires-clause-fits
give-requires-clause-fits g c =
    let t = board_id c.args.board.now in
    let z = (sizes_of c.args.board.now).sessions in
    let k = c.lead_unless_laid-kept.ensures.kept in
    let new = c.take_laid-laid.new.kept in
    let groups = c.args.self.now in
    let kept : IsKept t z new = (c.take_laid-laid.ensures.taken t z k.0).0 in (
      subst (λ u. IsKept u (tag_of groups.batches).value.sessions new) (sym c.requires.engine.1.0) (subst (λ n. IsKept t n new) (sym c.requires.engine.1.1) kept),
      subst (λ q. IsPassOf q new.book.value.line) (sym groups.queue_is) (subst (λ l. IsPassOf groups.queue l) (sym c.take_laid-laid.ensures.line) k.1),
    )

pub returns-clause-laid : goal.returns-clause-laid
returns-clause-laid g c =
    let t = board_id c.args.board.now in
    let n : ℕ = c.writer.result.session in
    let p : ℕ = c.args.pass.now.number in
    let e1 : n ≡ p = c.writer.ensures.session ∙ c.requires.own.1.0 in
    let e2 : c.lead_unless_laid-kept.new.pass.number ≡ p = c.lead_unless_laid-kept.ensures.own.1 in
    let low : 0 < p = subst (λ (m : ℕ). 0 < m) c.requires.own.1.0 c.requires.own.2.first in
    let same : suc (n - 1) ≡ c.lead_unless_laid-kept.new.pass.number = omega (arith, low) in
    subst (λ (m : ℕ). IfSome c.take_laid-laid.result (IsLaid t m)) same (c.take_laid-laid.ensures.taken t (sizes_of c.args.board.now).sessions c.lead_unless_laid-kept.ensures.kept.0).1
