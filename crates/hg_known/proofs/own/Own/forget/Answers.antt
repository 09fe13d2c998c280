use Rattle.std.proofs.Common.{◌≡◌, ◌<◌, ◌∙◌, sym, subst, cond, refl, None, true}
use Rattle.std.specs.Prelude.{◌&&◌, ◌==◌, IfSome}
use Rattle.std.proofs.lemmas.Bool.Decides.{Decides-eqb}
use Rattle.hg_base.specs.History.{same_rid}
use Rattle.hg_known.specs.Owned.{own_at}
use Rattle.hg_known.proofs.Joining.{IsSmall, ends, left_over}
use Rattle.hg_known.proofs.Losing.{Left, left_first, left_on}
use Rattle.hg_known.proofs.own.Own.forget.Goals as goal

pub loop-found-init : goal.loop-found-init
loop-found-init c = record {
  kept = λ j x r e. refl;
  left = left_first c.args.self.now c.args.tx.session c.args.tx.number c.next-found.result c.next-found.ensures.next;
  small = c.next-found.ensures.small;
}

pub loop-found-smaller : goal.loop-found-smaller
loop-found-smaller c =
    subst (λ o. left_over c.next_after-found.result < left_over o) (sym c.in-Some.is)
    (ends c.loop-found.self c.args.tx.session c.args.tx.number c.in-Some.rid c.next_after-found.result c.next_after-found.ensures.next
    (subst (λ o. IfSome o IsSmall) c.in-Some.is c.loop-found.invariant.small) c.next_after-found.ensures.small)

pub loop-found-preserved : goal.loop-found-preserved
loop-found-preserved c =
    let old = c.loop-found.self in
    let j = c.args.tx.session in
    let x = c.args.tx.number in
    let r = c.in-Some.rid in
    let its : ((j == j) && (x == x)) ≡ true = λ i. (Decides-eqb j j).1 refl i && (Decides-eqb x x).1 refl i in
    record {
      kept = λ k y q e. c.remove.ensures k y q ∙ (λ i. cond (e i && same_rid r q) None (own_at old k y q)) ∙ c.loop-found.invariant.kept k y q e;
      left = left_on old c.remove.new.self j x r c.next_after-found.result (λ q. c.remove.ensures j x q ∙
          (λ i. cond (its i && same_rid r q) None (own_at old j x q))) c.next_after-found.ensures.next (subst (Left old j x) c.in-Some.is c.loop-found.invariant.left);
      small = c.next_after-found.ensures.small;
    }
