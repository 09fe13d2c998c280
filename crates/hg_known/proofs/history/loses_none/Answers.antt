use Rattle.std.proofs.Common.{ℕ, ◌≡◌, ◌<◌, sym, subst, None}
use Rattle.std.specs.Prelude.{IfSome}
use Rattle.hg_known.specs.Written.{image_at}
use Rattle.hg_known.proofs.Joining.{IsSmall, ends, left_over}
use Rattle.hg_known.proofs.Losing.{Going, going_on}
use Rattle.hg_known.proofs.history.loses_none.Goals as goal

pub loop-found-smaller : goal.loop-found-smaller
loop-found-smaller c =
    subst (λ o. left_over c.next_after-found.result < left_over o) (sym c.in-Some.is)
    (ends c.args.own.now c.args.tx.session c.args.tx.number c.in-Some.rid c.next_after-found.result c.next_after-found.ensures.next
    (subst (λ o. IfSome o IsSmall) c.in-Some.is c.loop-found.invariant.small) c.next_after-found.ensures.small)

pub loop-found-preserved : goal.loop-found-preserved
loop-found-preserved c = record {
  going = going_on c.args.own.now c.args.tx.session c.args.tx.number (λ r. (m : ℕ) → c.args.at < m → m < c.args.number → image_at c.args.writes.now r m ≡ None) c.in-Some.rid c.next_after-found.result
      (subst (Going c.args.own.now c.args.tx.session c.args.tx.number (λ r. (m : ℕ) → c.args.at < m → m < c.args.number → image_at c.args.writes.now r m ≡ None)) c.in-Some.is
      c.loop-found.invariant.going)
      (c.is_kept.ensures.0 c.if-not-is_kept.false) c.next_after-found.ensures.next;
  small = c.next_after-found.ensures.small;
}
