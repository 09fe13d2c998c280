use Rattle.std.proofs.Common.{◌≡◌, ℕ, ◌+◌, ◌<◌, ◌≤◌, ◌∙◌, sym, ap, subst, arith, length, take, get_or}
use Rattle.std.specs.Prelude.{sum_by, nat_lt}
use Rattle.std.specs.Option.{MatchOption}
use Rattle.std.proofs.lemmas.List.{get_or_default}
use Rattle.std.proofs.lemmas.Bool.{ltb-true, ltb-false}
use Rattle.hg_base.specs.Transcript.{Said}
use Rattle.hg_base.specs.Counts.{removed_by}
use Rattle.hg_base.proofs.ListFacts.{cases}
use Rattle.hg_known.proofs.Walking.{AtLine, at_line, take_all}
use Rattle.hg_known.proofs.Asking.{no_line}
use Rattle.hg_known.proofs.Tallying.{sum_next, sum_within}
use Rattle.hg_audit.proofs.totals.without_removed.Goals as goal

more : (rest now up told all : ℕ) → (now ≤ rest → ⊥) → rest + up ≡ told → up + now ≤ all → told < all
more rest now up told all f e within = cases (nat_lt told all) (λ k. ltb-true told all k) (λ k. let over = ltb-false told all k in absurd (f (omega (arith, e, within, over))))

pub returns-in_err-rest : goal.returns-in_err-rest
returns-in_err-rest c =
    let xs = c.args.all.now in
    let k = c.loop-k.k in
    let less : k < length xs = omega (arith, c.len-k-end.ensures.same) in
    let now = get_or xs k no_line in
    let is : now ≡ get_or xs k now = get_or_default xs k no_line now less in
    let at : AtLine xs k now = at_line xs k now less is in
    let f : Said → ℕ = removed_by c.args.kind in
    let over = more c.loop-k.rest (f now) (sum_by f (take k xs)) c.args.told (sum_by f xs)
    (subst (λ n. n ≤ c.loop-k.rest → ⊥) (c.removed.ensures now (c.reply.ensures now is)) c.in_err-rest.ensures) c.loop-k.invariant (sum_within f xs k now at) in
    subst (λ o. MatchOption o (c.args.told < sum_by f xs) (λ rest. rest + sum_by f xs ≡ c.args.told)) (sym c.from_residual.ensures) over

pub loop-k-preserved : goal.loop-k-preserved
loop-k-preserved c =
    let xs = c.args.all.now in
    let k = c.loop-k.k in
    let less : k < length xs = omega (arith, c.len-k-end.ensures.same) in
    let now = get_or xs k no_line in
    let is : now ≡ get_or xs k now = get_or_default xs k no_line now less in
    let at : AtLine xs k now = at_line xs k now less is in
    let f : Said → ℕ = removed_by c.args.kind in
    let h = c.in_ok-rest.ensures in
    let e = c.removed.ensures now (c.reply.ensures now is) in
    let next = sum_next f xs k now at in
    let was = c.loop-k.invariant in
    omega (arith, h.0, h.1, e, next, was)

pub returns : goal.returns
returns c =
    let xs = c.args.all.now in
    let f : Said → ℕ = removed_by c.args.kind in
    ap (λ ys. c.loop-k.rest + sum_by f ys) (sym (take_all xs c.loop-k.k (omega (arith, c.len-k-end.ensures.same)))) ∙ c.loop-k.invariant
