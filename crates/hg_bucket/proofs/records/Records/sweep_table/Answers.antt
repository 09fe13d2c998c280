use Rattle.std.proofs.Common.{◌≡◌, ◌-◌, ◌+◌, ◌<◌, ◌≤◌, length, take, slice_get, refl, sym, ap, ◌∙◌, subst, arith}
use Rattle.std.proofs.lemmas.List.{take_all}
use Rattle.hg_bucket.specs.BucketModel.{keys_in}
use Rattle.hg_bucket.proofs.Walking.{Swept, swept_keeps}
use Rattle.hg_bucket.proofs.Rounds.{Rounds, round_begins, round_goes, round_ends}
use Rattle.hg_bucket.proofs.Costing.{cost_of}
use Rattle.hg_bucket.proofs.Paying.{keys_cost, all_keys_paid, key_paid}
use Rattle.hg_bucket.proofs.records.Records.sweep_table.Goals as goal

pub loop-left-init : goal.loop-left-init
loop-left-init g c =
    let xs = c.args.snapshots.now in
    let t = c.args.table in
    let old = c.args.self.now in
    let keys = keys_in old.long t in
    let count = c.long_count-left.ensures.count in
    let whole = c.long_count-left.ensures.whole in
    let cost = ap (λ n. keys_cost t (length xs) old.records (take n keys)) count ∙ ap (keys_cost t (length xs) old.records) (take_all (length keys) keys (omega arith)) in
    let paid = all_keys_paid t xs old.records keys whole.once in (
      subst (λ n. Rounds (Swept c.args.horizon xs) t keys old.records old.records n 0) (sym count) (round_begins (Swept c.args.horizon xs) t keys old.records (swept_keeps c.args.horizon xs) whole),
      refl,
      omega (arith, count),
      omega (arith, cost, paid),
    )

pub long_key-key-requires : goal.long_key-key-requires
long_key-key-requires g c =
    let some = c.loop-left-test.true in
    let walk = c.loop-left.invariant in
    subst (λ ls. c.loop-left.left - 1 < length (keys_in ls c.args.table)) (sym walk.1) (omega (arith, some, walk.2))

pub loop-left-preserved : goal.loop-left-preserved
loop-left-preserved g c =
    let xs = c.args.snapshots.now in
    let n = length xs in
    let t = c.args.table in
    let old = c.args.self.now in
    let now = c.loop-left.self in
    let new = c.sweep_long-gone.new.self in
    let keys = keys_in old.long t in
    let many = c.loop-left.left in
    let l = many - 1 in
    let k = c.long_key-key.result in
    let some = c.loop-left-test.true in
    let walk = c.loop-left.invariant in
    let there = ap (λ ls. slice_get (keys_in ls t) l) (sym walk.1) ∙ c.long_key-key.ensures in
    let same = walk.0.rest l k (omega (arith, some)) there in
    let cost = subst (λ vs. c.sweep_long-gone.new.steps ≤ c.loop-left.steps + cost_of n vs) same c.sweep_long-gone.ensures.cost in
    let once = key_paid t n old.records keys many l k (omega (arith, some)) there in (
      round_goes (Swept c.args.horizon xs) t keys old.records now.records new.records many l k c.loop-left.gone c.sweep_long-gone.result
          (omega (arith, some)) c.long_count-left.ensures.whole.once there walk.0 (c.sweep_long-gone.ensures.here, c.sweep_long-gone.ensures.clean) c.sweep_long-gone.ensures.others
          c.sweep_long-gone.ensures.left,
      c.sweep_long-gone.ensures.listed ∙ walk.1,
      omega (arith, some, walk.2),
      omega (arith, walk.3, cost, once),
    )

pub sweep_long-gone-requires-clause-few : goal.sweep_long-gone-requires-clause-few
sweep_long-gone-requires-clause-few g c = omega (arith, c.requires.few, c.loop-left.invariant.0.left)

pub overflow_add-gone : goal.overflow_add-gone
overflow_add-gone g c = omega (arith, c.requires.few, c.loop-left.invariant.0.left, c.sweep_long-gone.ensures.left)

pub returns-clause-each : goal.returns-clause-each
returns-clause-each g c =
    λ k.
    let xs = c.args.snapshots.now in
    let keys = keys_in c.args.self.now.long c.args.table in
    let none : c.loop-left.left ≡ 0 = omega (arith, c.loop-left-test.false) in
    (round_ends (Swept c.args.horizon xs) c.args.table keys c.args.self.now.records c.loop-left.self.records c.loop-left.gone
    (subst (λ n. Rounds (Swept c.args.horizon xs) c.args.table keys c.args.self.now.records c.loop-left.self.records n c.loop-left.gone) none c.loop-left.invariant.0) k).0

pub returns-clause-clean : goal.returns-clause-clean
returns-clause-clean g c =
    λ k.
    let xs = c.args.snapshots.now in
    let keys = keys_in c.args.self.now.long c.args.table in
    let none : c.loop-left.left ≡ 0 = omega (arith, c.loop-left-test.false) in
    (round_ends (Swept c.args.horizon xs) c.args.table keys c.args.self.now.records c.loop-left.self.records c.loop-left.gone
    (subst (λ n. Rounds (Swept c.args.horizon xs) c.args.table keys c.args.self.now.records c.loop-left.self.records n c.loop-left.gone) none c.loop-left.invariant.0) k).1

pub returns-clause-others : goal.returns-clause-others
returns-clause-others g c = c.loop-left.invariant.0.others

pub returns-clause-left : goal.returns-clause-left
returns-clause-left g c = c.loop-left.invariant.0.left

pub returns-clause-cost : goal.returns-clause-cost
returns-clause-cost g c = omega (arith, c.loop-left.invariant.3)
