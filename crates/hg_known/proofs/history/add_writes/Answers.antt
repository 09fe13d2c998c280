use Rattle.std.proofs.Common.{◌≡◌, ◌<◌, ◌∙◌, Bool, false, Option, None, refl, sym, ap, subst, Some}
use Rattle.std.specs.Prelude.{is_none, IfSome, IsSome}
use Rattle.hg_base.specs.declared.image.Image.{Image}
use Rattle.hg_known.specs.Owned.{own_at}
use Rattle.hg_known.proofs.Joining.{IsSmall, Joining, all_joined, clash_there, ends, first_joining, left_over, none_is, one_more}
use Rattle.hg_known.proofs.history.add_writes.Goals as goal

pub loop-found-init : goal.loop-found-init
loop-found-init c = record {
  joining = first_joining c.args.own.now c.args.tx.session c.args.tx.number c.args.number c.args.writes.now c.next-found.result c.next-found.ensures.next;
  small = c.next-found.ensures.small;
}

pub loop-found-preserved : goal.loop-found-preserved
loop-found-preserved c =
    let own = c.args.own.now in
    let j = c.args.tx.session in
    let x = c.args.tx.number in
    let r = c.in-Some.rid in
    let h = subst (Joining own j x c.args.number c.args.writes.now c.loop-found.writes) c.in-Some.is c.loop-found.invariant.joining in
    let its : own_at own j x r ≡ Some c.in_ok-copy.field-0 = sym c.in-Some-image.ensures ∙ ap (λ (i : Image). Some i) (sym c.in_ok-copy.ensures) in
    record {
      joining = one_more own j x c.args.number c.args.writes.now c.loop-found.writes c.add.new.self r c.in_ok-copy.field-0 c.next_after-found.result h its
          (none_is _ c.in_ok-add.field-0 c.in_ok-add.ensures.first c.if-not-branch.false) c.in_ok-add.ensures.added c.next_after-found.ensures.next;
      small = c.next_after-found.ensures.small;
    }

pub loop-found-smaller : goal.loop-found-smaller
loop-found-smaller c =
    subst (λ o. left_over c.next_after-found.result < left_over o) (sym c.in-Some.is)
    (ends c.args.own.now c.args.tx.session c.args.tx.number c.in-Some.rid c.next_after-found.result c.next_after-found.ensures.next
    (subst (λ o. IfSome o IsSmall) c.in-Some.is c.loop-found.invariant.small) c.next_after-found.ensures.small)

some_is : (o : Option Image) (b : Bool) → b ≡ is_none o → b ≡ false → IsSome o
some_is None b e f = cc
some_is (Some i) b e f = refl

pub returns-then-not-branch : goal.returns-then-not-branch
returns-then-not-branch c =
    let own = c.args.own.now in
    let j = c.args.tx.session in
    let x = c.args.tx.number in
    let h = subst (Joining own j x c.args.number c.args.writes.now c.loop-found.writes) c.in-Some.is c.loop-found.invariant.joining in
    clash_there own j x c.args.number c.args.writes.now c.loop-found.writes c.in-Some.rid h (some_is _ c.in_ok-add.field-0 c.in_ok-add.ensures.first c.if-not-branch.true)

pub returns : goal.returns
returns c =
    let own = c.args.own.now in
    let j = c.args.tx.session in
    let x = c.args.tx.number in
    all_joined own j x c.args.number c.args.writes.now c.loop-found.writes (subst (Joining own j x c.args.number c.args.writes.now c.loop-found.writes) c.in_default.is c.loop-found.invariant.joining)
