use Rattle.std.proofs.Common.{◌≡◌, ◌+◌, ◌*◌, ◌%◌, sym, ap, ◌∙◌, rules, arith}
use Rattle.std.proofs.Math.Nat.{mod-add-mod}
use Rattle.hg_core.specs.Contents.{bucket_of}
use Rattle.hg_store.proofs.store.bucket_among.Goals as goal

pub returns-in-Some-clause-own : goal.returns-in-Some-clause-own
unfolding bucket_of
returns-in-Some-clause-own c =
    let sum : c.in-Some.sum ≡ c.args.rid.key + 31 * c.from-table.result = search rules in
    c.remainder.ensures ∙ ap (λ x. x % c.args.count) sum ∙ sym (mod-add-mod c.args.rid.key c.args.count (31 * c.from-table.result)) ∙ ap (λ t. (c.args.rid.key % c.args.count + 31 * t) % c.args.count) c.from-table.ensures

pub returns-in-Some-clause-within : goal.returns-in-Some-clause-within
returns-in-Some-clause-within c = omega (arith, c.remainder.ensures, c.requires.some)

pub returns-in-None-clause-own : goal.returns-in-None-clause-own
unfolding bucket_of
returns-in-None-clause-own c = ap (λ t. (c.args.rid.key % c.args.count + 31 * t) % c.args.count) c.from-table.ensures
