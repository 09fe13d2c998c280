use Rattle.std.proofs.Common.{◌≡◌, ◌+◌, ◌<◌, length, ℕ, suc, set, get_or, sym, ◌∙◌, subst, arith, length-set}
use Rattle.std.specs.Prelude.{IfSome}
use Rattle.hg_group.specs.Batch.{IsLaid, AreLaid}
use Rattle.hg_group.specs.declared.book.Book.{Book}
use Rattle.hg_group.proofs.Booked.{booked_kept}
use Rattle.hg_group.proofs.Laying_down.{laid_at, laid_none}
use Rattle.hg_group.proofs.follower.take_laid.Goals as goal

pub returns-clause-taken : goal.returns-clause-taken
returns-clause-taken c t sessions is =
    let b = c.deref_mut.result.now in
    let xs = b.laid.items in
    let k = booked_kept t sessions c.args.kept.now b c.deref_mut.ensures.value is in
    let i : ℕ = c.args.index in
    let up : 1 + i ≡ suc i = omega arith in (
      record {
        seat = k.seat;
        unstamped = k.unstamped;
        taken = k.taken;
        contexts_are = k.contexts_are;
        count_is = k.count_is;
        follows = k.follows;
        line = k.line;
        room = k.room;
        laid = (subst (λ x. AreLaid t 1 (set xs i x)) (sym c.take.ensures.after) (laid_none t 1 i xs k.laid.0), length-set xs i c.take.new.self ∙ k.laid.1);
      },
      subst (λ o. IfSome o (IsLaid t (suc i))) (sym (c.take.ensures.value ∙ c.index_mut.ensures.value))
          (subst (λ n. IfSome (get_or xs i c.index_mut.result.now) (IsLaid t n)) up
          (laid_at t 1 i xs c.index_mut.result.now (subst (λ (b : Book). i < length b.laid.items) (sym c.deref_mut.ensures.value) c.requires.index) k.laid.0)),
    )
