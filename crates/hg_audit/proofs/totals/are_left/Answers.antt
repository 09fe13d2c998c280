use Rattle.std.proofs.Common.{◌≡◌, ℕ, ◌+◌, ◌-◌, ◌<◌, ◌≤◌, ◌∙◌, sym, ap, subst, arith, length, true, false, Some, None}
use Rattle.std.specs.Prelude.{IfSome}
use Rattle.std.proofs.lemmas.Bool.Decides.{Decides-eqb}
use Rattle.hg_base.specs.Counts.{live}
use Rattle.hg_base.proofs.ListFacts.{false_true}
use Rattle.hg_known.specs.Written.{IsNextRid}
use Rattle.hg_known.proofs.Joining.{IsSmall, left_over}
use Rattle.hg_audit.proofs.Living.{met, first_met, next_met, all_met, some_met, written_next, walk_ends, IsWritten, is_row, count, one_if}
use Rattle.hg_audit.proofs.totals.are_left.Goals as goal

pub loop-found-init : goal.loop-found-init
loop-found-init c = record {
  met = λ h of many. let none = first_met h c.args.writes.now of c.next_rid-found.result c.next_rid-found.ensures.next in omega (arith, none);
  here = written_next c.args.writes.now _ _ c.next_rid-found.result c.next_rid-found.ensures.next;
  small = c.next_rid-found.ensures.small;
}

pub loop-found-smaller-then-not-is_row : goal.loop-found-smaller-then-not-is_row
loop-found-smaller-then-not-is_row c =
    let h = c.requires.0 in
    let next = subst (λ n. IsNextRid c.args.writes.now c.in-Some.rid n c.next_rid-found-in-Some.result) (sym c.requires.2) c.next_rid-found-in-Some.ensures.next in
    subst (λ o. left_over c.next_rid-found-in-Some.result < left_over o) (sym c.in-Some.is)
    (walk_ends h c.args.writes.now c.requires.1 c.in-Some.rid c.next_rid-found-in-Some.result next
    (subst (λ o. IfSome o IsSmall) c.in-Some.is c.loop-found.invariant.small) c.next_rid-found-in-Some.ensures.small)

pub loop-found-smaller : goal.loop-found-smaller
loop-found-smaller c =
    let h = c.requires.0 in
    let next = subst (λ n. IsNextRid c.args.writes.now c.in-Some.rid n c.next_rid-found-in-Some.result) (sym c.requires.2) c.next_rid-found-in-Some.ensures.next in
    subst (λ o. left_over c.next_rid-found-in-Some.result < left_over o) (sym c.in-Some.is)
    (walk_ends h c.args.writes.now c.requires.1 c.in-Some.rid c.next_rid-found-in-Some.result next
    (subst (λ o. IfSome o IsSmall) c.in-Some.is c.loop-found.invariant.small) c.next_rid-found-in-Some.ensures.small)

pub loop-found-preserved-then-not-is_row : goal.loop-found-preserved-then-not-is_row
loop-found-preserved-then-not-is_row c = record {
  met = λ h of many.
      let next = subst (λ n. IsNextRid c.args.writes.now c.in-Some.rid n c.next_rid-found-in-Some.result) (sym many) c.next_rid-found-in-Some.ensures.next in
      let there = subst (λ o. IfSome o (IsWritten c.args.writes.now)) c.in-Some.is c.loop-found.invariant.here in
      let row : is_row h c.in-Some.rid ≡ false = sym (c.is_row.ensures h of many) ∙ c.if-not-is_row.true in
      let one : one_if h c.in-Some.rid ≡ 0 = ap count row in
      let more : met h c.next_rid-found-in-Some.result ≡ met h (Some c.in-Some.rid) + one_if h c.in-Some.rid = next_met h c.args.writes.now of c.in-Some.rid
      c.next_rid-found-in-Some.result there next in
      let was : c.loop-found.rest + met h (Some c.in-Some.rid) ≡ c.args.told = ap (λ o. c.loop-found.rest + met h o) (sym c.in-Some.is) ∙ c.loop-found.invariant.met h of many in
      omega (arith, one, more, was);
  here = written_next c.args.writes.now _ _ c.next_rid-found-in-Some.result c.next_rid-found-in-Some.ensures.next;
  small = c.next_rid-found-in-Some.ensures.small;
}

pub returns-then-rest-eq0 : goal.returns-then-rest-eq0
returns-then-rest-eq0 c =
    λ h of many.
    let next = subst (λ n. IsNextRid c.args.writes.now c.in-Some.rid n c.next_rid-found-in-Some.result) (sym many) c.next_rid-found-in-Some.ensures.next in
    let there = subst (λ o. IfSome o (IsWritten c.args.writes.now)) c.in-Some.is c.loop-found.invariant.here in
    let row : is_row h c.in-Some.rid ≡ true = sym (c.is_row.ensures h of many) ∙ c.if-not-is_row.false in
    let one : one_if h c.in-Some.rid ≡ 1 = ap count row in
    let more : met h c.next_rid-found-in-Some.result ≡ met h (Some c.in-Some.rid) + one_if h c.in-Some.rid = next_met h c.args.writes.now of c.in-Some.rid c.next_rid-found-in-Some.result there next in
    let was : c.loop-found.rest + met h (Some c.in-Some.rid) ≡ c.args.told = ap (λ o. c.loop-found.rest + met h o) (sym c.in-Some.is) ∙ c.loop-found.invariant.met h of many in
    let some : met h c.next_rid-found-in-Some.result ≤ length (live h) = some_met h c.args.writes.now of c.next_rid-found-in-Some.result in
    let zero = c.if-rest-eq0.true in (
      λ e. absurd (false_true e),
      λ e. absurd (omega (arith, one, more, was, some, zero, e)),
    )

less : (rest new old row told : ℕ) → (rest ≡ 0 → ⊥) → new ≡ old + row → row ≡ 1 → rest + old ≡ told → (rest - 1) + new ≡ told
less rest new old row told f e g k = omega (arith, f, e, g, k)

pub loop-found-preserved : goal.loop-found-preserved
loop-found-preserved c = record {
  met = λ h of many.
      let next = subst (λ n. IsNextRid c.args.writes.now c.in-Some.rid n c.next_rid-found-in-Some.result) (sym many) c.next_rid-found-in-Some.ensures.next in
      let there = subst (λ o. IfSome o (IsWritten c.args.writes.now)) c.in-Some.is c.loop-found.invariant.here in
      let row : is_row h c.in-Some.rid ≡ true = sym (c.is_row.ensures h of many) ∙ c.if-not-is_row.false in
      let one : one_if h c.in-Some.rid ≡ 1 = ap count row in
      let more : met h c.next_rid-found-in-Some.result ≡ met h (Some c.in-Some.rid) + one_if h c.in-Some.rid = next_met h c.args.writes.now of c.in-Some.rid
      c.next_rid-found-in-Some.result there next in
      let was : c.loop-found.rest + met h (Some c.in-Some.rid) ≡ c.args.told = ap (λ o. c.loop-found.rest + met h o) (sym c.in-Some.is) ∙ c.loop-found.invariant.met h of many in
      less c.loop-found.rest (met h c.next_rid-found-in-Some.result) (met h (Some c.in-Some.rid)) (one_if h c.in-Some.rid) c.args.told c.if-rest-eq0.false more one was;
  here = written_next c.args.writes.now _ _ c.next_rid-found-in-Some.result c.next_rid-found-in-Some.ensures.next;
  small = c.next_rid-found-in-Some.ensures.small;
}

pub returns : goal.returns
returns c =
    λ h of many.
    let all : met h None ≡ length (live h) = all_met h c.args.writes.now of in
    let was : c.loop-found.rest + met h None ≡ c.args.told = ap (λ o. c.loop-found.rest + met h o) (sym c.in_default.is) ∙ c.loop-found.invariant.met h of many in (
      λ e. let z : c.loop-found.rest ≡ 0 = (Decides-eqb c.loop-found.rest 0).0 e in omega (arith, all, was, z),
      λ e. (Decides-eqb c.loop-found.rest 0).1 (omega (arith, all, was, e)),
    )
