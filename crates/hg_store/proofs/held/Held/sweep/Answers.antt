use Rattle.std.proofs.Common.{◌≡◌, ◌+◌, ◌-◌, ◌<◌, ◌≤◌, length, take, slice_get, Some, refl, sym, ap, ◌∙◌, subst, arith}
use Rattle.std.proofs.Math.Seq.{take-length}
use Rattle.hg_base.specs.declared.report.Kind.TheVariants.{Interval}
use Rattle.hg_core.specs.Clean.{IsClean}
use Rattle.hg_core.specs.Passes.{IsWhole, horizon, recorded}
use Rattle.hg_bucket.specs.BucketModel.{record_at, BucketModel}
use Rattle.hg_bucket.specs.Long.{AreLong}
use Rattle.hg_bucket.specs.BucketModel.{long_keys}
use Rattle.hg_bucket.specs.Sweeping.{swept}
use Rattle.hg_bucket.proofs.Costing.{cost_of}
use Rattle.hg_bucket.proofs.Paying.{keys_cost, all_keys_paid, key_paid}
use Rattle.hg_bucket.proofs.Rounds.{Leads, leads_first, leads_within, leads_key, leads_on}
use Rattle.hg_rule.specs.Facts.{record_of}
use Rattle.hg_rule.specs.Rules.{IsBacked}
use Rattle.hg_rule.specs.Views.{pass, HasPass}
use Rattle.hg_rule.specs.Seats.{sizes_of, pass_view}
use Rattle.hg_store.specs.Clearing.{HaveSame}
use Rattle.hg_store.specs.Stores.{held_records, Holds}
use Rattle.hg_store.proofs.Doing.{does_interval}
use Rattle.hg_store.proofs.Clearing.{same_record, gone_fits, clean_left}
use Rattle.hg_store.proofs.Spending.{spends_keys}
use Rattle.hg_store.proofs.Rounding.{Rounds, round_begins, round_goes, round_ends, key_here, kept_at}
use Rattle.hg_store.proofs.held.Held.sweep.Goals as goal

pub loop-at-init : goal.loop-at-init
loop-at-init g c =
    let t = c.args.table in
    let h = c.args.self.now in
    let keys = long_keys (held_records h) t in
    let v = pass_view c.args.pass.now in
    let d = does_interval t (record_of (pass v)) c.args.guards.now.horizon c.args.guards.now.snapshots.now c.requires.gathered.0 c.requires.gathered.2 in
    let long = subst (λ (b : BucketModel). AreLong (long_keys b t) t b.records) c.deref.ensures c.long_count-at.ensures.whole in
    let many = subst (λ (b : BucketModel). c.long_count-at.result ≡ length (long_keys b t)) c.deref.ensures c.long_count-at.ensures.count in
    let round = round_begins Interval (swept c.args.guards.now.horizon c.args.guards.now.snapshots.now) t keys v h c.requires.holds.1 d long in (
      subst (λ n. Rounds Interval t keys v (pass_view c.look_at.new.pass) n 0) (sym many) (subst (λ w. Rounds Interval t keys v w (length keys) 0) (sym c.look_at.ensures.stays) round),
      subst (λ w. Holds w h) (sym c.look_at.ensures.stays) c.requires.holds.1,
      (c.look_at.ensures.own.0, subst HasPass (sym c.look_at.ensures.stays) c.requires.holds.0.1),
      refl,
      refl,
      subst (λ n. Leads n keys keys) (sym many) (leads_first keys),
      (let all = ap (keys_cost t (length c.args.guards.now.snapshots.now) (held_records h).records) (ap (λ n. take n keys) many ∙ take-length keys) in omega (arith, all)),
    )

pub long_key-key-requires : goal.long_key-key-requires
long_key-key-requires g c =
    let left = c.loop-at.at in
    let within = leads_within left (left - 1) (long_keys (held_records c.loop-at.self) c.args.table) (long_keys (held_records c.args.self.now) c.args.table) c.loop-at.invariant.5 (omega arith) in
    subst (λ (b : BucketModel). left - 1 < length (long_keys b c.args.table)) (sym c.deref-in-loop-at.ensures) within

pub sweep_one-gone-requires-clause-whole : goal.sweep_one-gone-requires-clause-whole
sweep_one-gone-requires-clause-whole g c =
    let same = same_record (pass_view c.args.pass.now) (pass_view c.loop-at.pass) Interval c.loop-at.gone c.loop-at.invariant.0.counts in
    subst (IsWhole (sizes_of c.args.board.now).sessions) (sym same) c.requires.whole

pub sweep_one-gone-requires-clause-here : goal.sweep_one-gone-requires-clause-here
sweep_one-gone-requires-clause-here g c =
    let z = sizes_of c.args.board.now in
    let t = c.args.table in
    let h = c.args.self.now in
    let v = pass_view c.args.pass.now in
    let keys = long_keys (held_records h) t in
    let left = c.loop-at.at in
    let l = left - 1 in
    let k = c.long_key-key.result in
    let backed = subst (IsBacked z c.look_at.result) c.look_at.ensures.stays c.look_at.ensures.backed in
    let long = subst (λ (b : BucketModel). AreLong (long_keys b t) t b.records) c.deref.ensures c.long_count-at.ensures.whole in
    let stands = subst (λ (b : BucketModel). slice_get (long_keys b t) l ≡ Some k) c.deref-in-loop-at.ensures c.long_key-key.ensures in
    let there = leads_key left l k (long_keys (held_records c.loop-at.self) t) keys c.loop-at.invariant.5 (omega arith) stands in
    key_here z c.look_at.result t keys v h l k backed c.requires.holds.1 long there ∙ sym c.loop-at.invariant.4

pub sweep_one-gone-requires-clause-gathered : goal.sweep_one-gone-requires-clause-gathered
sweep_one-gone-requires-clause-gathered g c =
    let same = same_record (pass_view c.args.pass.now) (pass_view c.loop-at.pass) Interval c.loop-at.gone c.loop-at.invariant.0.counts in
    (c.requires.gathered.0 ∙ ap horizon (sym same), c.requires.gathered.1, subst (λ p. HaveSame c.args.guards.now.snapshots.now (recorded c.args.table p)) (sym same) c.requires.gathered.2)

pub overflow_add-gone : goal.overflow_add-gone
overflow_add-gone g c =
    let z = sizes_of c.args.board.now in
    let v = pass_view c.args.pass.now in
    let backed = subst (IsBacked z c.look_at.result) c.look_at.ensures.stays c.look_at.ensures.backed in
    let most = gone_fits z c.look_at.result Interval v (pass_view c.loop-at.pass) (pass_view c.sweep_one-gone.new.pass) c.args.self.now
    (record_at c.args.table c.long_key-key.result) c.loop-at.gone backed c.requires.holds.1 c.loop-at.invariant.0.counts c.sweep_one-gone.ensures.step in
    omega (arith, most, c.sweep_one-gone.ensures.gone, c.args.board.now.room.begins)

pub loop-at-preserved : goal.loop-at-preserved
loop-at-preserved g c =
    let t = c.args.table in
    let h = c.args.self.now in
    let v = pass_view c.args.pass.now in
    let keys = long_keys (held_records h) t in
    let left = c.loop-at.at in
    let l = left - 1 in
    let k = c.long_key-key.result in
    let long = subst (λ (b : BucketModel). AreLong (long_keys b t) t b.records) c.deref.ensures c.long_count-at.ensures.whole in
    let stands = subst (λ (b : BucketModel). slice_get (long_keys b t) l ≡ Some k) c.deref-in-loop-at.ensures c.long_key-key.ensures in
    let there = leads_key left l k (long_keys (held_records c.loop-at.self) t) keys c.loop-at.invariant.5 (omega arith) stands in
    let w = pass_view c.loop-at.pass in
    let x = pass_view c.sweep_one-gone.new.pass in
    let n = length c.args.guards.now.snapshots.now in
    let old = (held_records h).records in
    let before : c.loop-at.steps + keys_cost t n old (take left keys) ≤ c.args.steps.now + keys_cost t n old keys = c.loop-at.invariant.6 in
    let cost = subst (λ vs. c.sweep_one-gone.new.steps ≤ c.loop-at.steps + cost_of n vs)
    (kept_at Interval t keys v w h c.loop-at.self left l k c.loop-at.gone c.requires.holds.1 c.loop-at.invariant.1 c.loop-at.invariant.0 (omega arith) there)
    c.sweep_one-gone.ensures.cost in
    let once = key_paid t n old keys left l k (omega arith) there in
    let more = round_goes Interval t keys v w x h left l k c.loop-at.gone (omega arith) c.requires.holds.1 long there c.loop-at.invariant.0 c.sweep_one-gone.ensures.step in (
      subst (λ n. Rounds Interval t keys v x l (c.loop-at.gone + n)) (sym c.sweep_one-gone.ensures.gone) more,
      c.sweep_one-gone.ensures.holds.0.1,
      c.sweep_one-gone.ensures.holds.0.0,
      c.sweep_one-gone.ensures.holds.1.0 ∙ c.loop-at.invariant.3,
      c.sweep_one-gone.ensures.holds.1.1 ∙ c.loop-at.invariant.4,
      leads_on left l (long_keys (held_records c.loop-at.self) t) (long_keys (held_records c.sweep_one-gone.new.self) t) keys c.loop-at.invariant.5 (omega arith) c.sweep_one-gone.ensures.front,
      omega (arith, before, cost, once),
    )

pub returns-clause-left : goal.returns-clause-left
returns-clause-left g c =
    let done = round_ends Interval c.args.table (long_keys (held_records c.args.self.now) c.args.table) (pass_view c.args.pass.now)
    (pass_view c.loop-at.pass) c.loop-at.at c.loop-at.gone (omega arith) c.loop-at.invariant.0 in
    (done, c.loop-at.invariant.0.others)

pub returns-clause-clean : goal.returns-clause-clean
returns-clause-clean g c =
    λ k.
    let v = pass_view c.args.pass.now in
    let done = round_ends Interval c.args.table (long_keys (held_records c.args.self.now) c.args.table) v (pass_view c.loop-at.pass) c.loop-at.at c.loop-at.gone
    (omega arith) c.loop-at.invariant.0 in
    subst (IsClean c.args.guards.now.horizon (recorded c.args.table (record_of (pass v)))) (sym (done k))
    (clean_left v c.args.self.now (record_at c.args.table k) c.args.guards.now.horizon c.requires.holds.1 c.requires.gathered.0)

pub returns-clause-steps : goal.returns-clause-steps
returns-clause-steps g c = c.loop-at.invariant.0.clears

pub returns-clause-gone : goal.returns-clause-gone
returns-clause-gone g c = c.loop-at.invariant.0.counts

pub returns-clause-cost : goal.returns-clause-cost
returns-clause-cost g c =
    let t = c.args.table in
    let h = c.args.self.now in
    let keys = long_keys (held_records h) t in
    let long = subst (λ (b : BucketModel). AreLong (long_keys b t) t b.records) c.deref.ensures c.long_count-at.ensures.whole in
    omega (arith, c.loop-at.invariant.6, all_keys_paid t c.args.guards.now.snapshots.now (held_records h).records keys long.once)

pub returns-clause-spends : goal.returns-clause-spends
returns-clause-spends g c =
    let t = c.args.table in
    let h = c.args.self.now in
    let keys = long_keys (held_records h) t in
    let long = subst (λ (b : BucketModel). AreLong (long_keys b t) t b.records) c.deref.ensures c.long_count-at.ensures.whole in
    spends_keys t (length c.args.guards.now.snapshots.now) c.args.steps.now c.loop-at.steps (pass_view c.args.pass.now) h keys c.requires.holds.1 long (omega (arith, c.loop-at.invariant.6))

pub sweep_one-gone-requires-clause-listed : goal.sweep_one-gone-requires-clause-listed
sweep_one-gone-requires-clause-listed g c = subst (λ (b : BucketModel). slice_get (long_keys b c.args.table) (c.loop-at.at - 1) ≡ Some c.long_key-key.result)
    c.deref-in-loop-at.ensures c.long_key-key.ensures
