use Rattle.std.proofs.Common.{◌≡◌, ◌<◌, ◌≤◌, inr, length, get_or, subst, arith, rules}
use Rattle.std.specs.Prelude.{nat_lt}
use Rattle.std.specs.BinaryHeap.{heap_items}
use Rattle.std.proofs.lemmas.Bool.Decides.{nat_tests}
use Rattle.std.proofs.lemmas.List.Sorted.{le_from_greatest}
use Rattle.hg_base.proofs.ListFacts.{cases, false_true}
use Rattle.hg_cursor.specs.Firsts.{Copied, IsNeeded, count_upto}
use Rattle.hg_cursor.proofs.Counting.{enough, all_needed, last_needed, lower_needed}
use Rattle.hg_cursor.proofs.firsts.Firsts.limit_after.Goals as goal

pub returns-then-len-self-clause-needed : goal.returns-then-len-self-clause-needed
returns-then-len-self-clause-needed c =
    let keys = heap_items c.self.inside.keys in
    let fewer : length keys < c.self.inside.most = search rules in
    subst (IsNeeded c.args.limit) c.self.view_is (all_needed c.self.inside.most keys c.self.inside.rows.items c.args.limit c.self.invariant.2 fewer)

pub returns-in-Some-clause-within : goal.returns-in-Some-clause-within
returns-in-Some-clause-within c =
    let keys = heap_items c.self.inside.keys in
    let last = c.in-Some.last.now in
    let many : c.self.inside.most ≤ length keys = search rules in
    let full = subst (λ (k : Copied). k.most ≤ count_upto last k.rows) c.self.view_is (enough c.self.inside.most keys c.self.inside.rows.items last c.self.invariant.2
    (le_from_greatest last keys (c.in-Some.ensures.greatest c.self.invariant.1)) many) in
    (cases (nat_lt last c.args.key) (λ t. let few = c.requires.needed last (grind (arith, nat_tests, t)) in absurd (omega (arith, few, full))) (λ f. grind (arith, nat_tests, f)), c.if-last-limit.true)

pub returns-in-Some-clause-enough : goal.returns-in-Some-clause-enough
returns-in-Some-clause-enough c =
    let keys = heap_items c.self.inside.keys in
    let last = c.in-Some.last.now in
    let many : c.self.inside.most ≤ length keys = search rules in
    inr (subst (λ (k : Copied). k.most ≤ count_upto last k.rows) c.self.view_is (enough c.self.inside.most keys c.self.inside.rows.items last c.self.invariant.2
    (le_from_greatest last keys (c.in-Some.ensures.greatest c.self.invariant.1)) many))

pub returns-in-Some-clause-needed : goal.returns-in-Some-clause-needed
returns-in-Some-clause-needed c =
    let keys = heap_items c.self.inside.keys in
    let last = c.in-Some.last.now in
    let some : 0 < length keys = search rules in
    let first : last ≡ get_or keys 0 last = search rules in
    subst (IsNeeded last) c.self.view_is
    (last_needed c.self.inside.most keys c.self.inside.rows.items last c.self.invariant.2 (le_from_greatest last keys (c.in-Some.ensures.greatest c.self.invariant.1)) some first)

pub returns-in-Some-2-clause-needed : goal.returns-in-Some-2-clause-needed
returns-in-Some-2-clause-needed c =
    let keys = heap_items c.self.inside.keys in
    let last = c.in-Some.last.now in
    let some : 0 < length keys = search rules in
    let first : last ≡ get_or keys 0 last = search rules in
    let over = c.if-last-limit.false in
    lower_needed c.args.self.now last c.args.limit (omega (arith, over)) (subst (IsNeeded last) c.self.view_is
    (last_needed c.self.inside.most keys c.self.inside.rows.items last c.self.invariant.2 (le_from_greatest last keys (c.in-Some.ensures.greatest c.self.invariant.1)) some first))

pub returns-in-None-clause-needed : goal.returns-in-None-clause-needed
returns-in-None-clause-needed c = absurd (false_true (c.in-None.ensures.variant.1 (let most = c.self.invariant.0 in let full = c.if-len-self.false in let len = c.len.ensures in search rules)))
