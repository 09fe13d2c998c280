use Rattle.std.proofs.Common.{◌≡◌, ◌-◌, sym, subst, arith}
use Rattle.hg_bucket.specs.BucketModel.{keys_in}
use Rattle.hg_bucket.proofs.Walking.{Cut, cut_keeps}
use Rattle.hg_bucket.proofs.Rounds.{Rounds, Leads, round_begins, round_goes, round_ends, leads_first, leads_within, leads_key, leads_on}
use Rattle.hg_bucket.proofs.records.Records.cut_table.Goals as goal

pub loop-left-init : goal.loop-left-init
loop-left-init c =
    let old = c.args.self.now in
    let keys = keys_in old.long c.args.table in
    subst (λ n. Rounds (Cut c.args.bound) c.args.table keys old.records old.records n 0 × Leads n keys keys) (sym c.long_count-left.ensures.count)
    (round_begins (Cut c.args.bound) c.args.table keys old.records (cut_keeps c.args.bound) c.long_count-left.ensures.whole, leads_first keys)

pub long_key-key-requires : goal.long_key-key-requires
long_key-key-requires c =
    let some = c.loop-left-test.true in
    leads_within c.loop-left.left (c.loop-left.left - 1) (keys_in c.loop-left.self.long c.args.table) (keys_in c.args.self.now.long c.args.table) c.loop-left.invariant.1 (omega (arith, some))

pub loop-left-preserved : goal.loop-left-preserved
loop-left-preserved c =
    let t = c.args.table in
    let old = c.args.self.now in
    let now = c.loop-left.self in
    let new = c.cut_long-gone.new.self in
    let keys = keys_in old.long t in
    let many = c.loop-left.left in
    let l = many - 1 in
    let k = c.long_key-key.result in
    let some = c.loop-left-test.true in
    let walk = c.loop-left.invariant in
    let there = leads_key many l k (keys_in now.long t) keys walk.1 (omega (arith, some)) c.long_key-key.ensures in (
      round_goes (Cut c.args.bound) t keys old.records now.records new.records many l k c.loop-left.gone c.cut_long-gone.result
          (omega (arith, some)) c.long_count-left.ensures.whole.once there walk.0 c.cut_long-gone.ensures.here c.cut_long-gone.ensures.others c.cut_long-gone.ensures.left,
      leads_on many l (keys_in now.long t) (keys_in new.long t) keys walk.1 (omega (arith, some)) c.cut_long-gone.ensures.front,
    )

pub cut_long-gone-requires-clause-few : goal.cut_long-gone-requires-clause-few
cut_long-gone-requires-clause-few c = omega (arith, c.requires, c.loop-left.invariant.0.left)

pub overflow_add-gone : goal.overflow_add-gone
overflow_add-gone c = omega (arith, c.requires, c.loop-left.invariant.0.left, c.cut_long-gone.ensures.left)

pub returns-clause-each : goal.returns-clause-each
returns-clause-each c =
    let keys = keys_in c.args.self.now.long c.args.table in
    let none : c.loop-left.left ≡ 0 = omega (arith, c.loop-left-test.false) in
    round_ends (Cut c.args.bound) c.args.table keys c.args.self.now.records c.loop-left.self.records c.loop-left.gone
    (subst (λ n. Rounds (Cut c.args.bound) c.args.table keys c.args.self.now.records c.loop-left.self.records n c.loop-left.gone) none c.loop-left.invariant.0)

pub returns-clause-others : goal.returns-clause-others
returns-clause-others c = c.loop-left.invariant.0.others

pub returns-clause-left : goal.returns-clause-left
returns-clause-left c = c.loop-left.invariant.0.left
