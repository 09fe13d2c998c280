use Rattle.std.proofs.Common.{◌≡◌, ◌+◌, ◌-◌, ◌<◌, length, slice_get, Some, refl, sym, ap, ◌∙◌, subst, arith}
use Rattle.hg_base.specs.declared.report.Kind.TheVariants.{Table}
use Rattle.hg_core.specs.Clean.{IsCutAt}
use Rattle.hg_core.specs.Passes.{IsWhole, table_bound}
use Rattle.hg_bucket.specs.BucketModel.{cut_at, record_at, BucketModel}
use Rattle.hg_bucket.specs.Long.{AreLong}
use Rattle.hg_bucket.specs.BucketModel.{long_keys}
use Rattle.hg_bucket.proofs.Rounds.{Leads, leads_first, leads_within, leads_key, leads_on}
use Rattle.hg_rule.specs.Facts.{record_of}
use Rattle.hg_rule.specs.Rules.{IsBacked}
use Rattle.hg_rule.specs.Views.{pass, HasPass}
use Rattle.hg_rule.specs.Seats.{sizes_of, pass_view}
use Rattle.hg_store.specs.Stores.{held_records, Holds}
use Rattle.hg_store.proofs.Doing.{does_table}
use Rattle.hg_store.proofs.Clearing.{same_record, gone_fits, cut_left}
use Rattle.hg_store.proofs.Rounding.{Rounds, round_begins, round_goes, round_ends, key_here}
use Rattle.hg_store.proofs.held.Held.cut_table.Goals as goal

pub loop-left-init : goal.loop-left-init
loop-left-init c =
    let t = c.args.table in
    let h = c.args.self.now in
    let keys = long_keys (held_records h) t in
    let v = pass_view c.args.pass.now in
    let d = does_table t (record_of (pass v)) c.args.bound c.requires.bound in
    let long = subst (λ (b : BucketModel). AreLong (long_keys b t) t b.records) c.deref.ensures c.long_count-left.ensures.whole in
    let many = subst (λ (b : BucketModel). c.long_count-left.result ≡ length (long_keys b t)) c.deref.ensures c.long_count-left.ensures.count in
    let round = round_begins Table (cut_at c.args.bound) t keys v h c.requires.holds.1 d long in (
      subst (λ n. Rounds Table t keys v (pass_view c.look_at.new.pass) n 0) (sym many) (subst (λ w. Rounds Table t keys v w (length keys) 0) (sym c.look_at.ensures.stays) round),
      subst (λ w. Holds w h) (sym c.look_at.ensures.stays) c.requires.holds.1,
      (c.look_at.ensures.own.0, subst HasPass (sym c.look_at.ensures.stays) c.requires.holds.0.1),
      refl,
      refl,
      subst (λ n. Leads n keys keys) (sym many) (leads_first keys),
    )

pub long_key-key-requires : goal.long_key-key-requires
long_key-key-requires c =
    let left = c.loop-left.left in
    let within = leads_within left (left - 1) (long_keys (held_records c.loop-left.self) c.args.table) (long_keys (held_records c.args.self.now) c.args.table) c.loop-left.invariant.5 (omega arith) in
    subst (λ (b : BucketModel). left - 1 < length (long_keys b c.args.table)) (sym c.deref-in-loop-left.ensures) within

pub cut_one-gone-requires-clause-whole : goal.cut_one-gone-requires-clause-whole
cut_one-gone-requires-clause-whole c =
    let same = same_record (pass_view c.args.pass.now) (pass_view c.loop-left.pass) Table c.loop-left.gone c.loop-left.invariant.0.counts in
    subst (IsWhole (sizes_of c.args.board.now).sessions) (sym same) c.requires.whole

pub cut_one-gone-requires-clause-here : goal.cut_one-gone-requires-clause-here
cut_one-gone-requires-clause-here c =
    let z = sizes_of c.args.board.now in
    let t = c.args.table in
    let h = c.args.self.now in
    let v = pass_view c.args.pass.now in
    let keys = long_keys (held_records h) t in
    let left = c.loop-left.left in
    let l = left - 1 in
    let k = c.long_key-key.result in
    let backed = subst (IsBacked z c.look_at.result) c.look_at.ensures.stays c.look_at.ensures.backed in
    let long = subst (λ (b : BucketModel). AreLong (long_keys b t) t b.records) c.deref.ensures c.long_count-left.ensures.whole in
    let stands = subst (λ (b : BucketModel). slice_get (long_keys b t) l ≡ Some k) c.deref-in-loop-left.ensures c.long_key-key.ensures in
    let there = leads_key left l k (long_keys (held_records c.loop-left.self) t) keys c.loop-left.invariant.5 (omega arith) stands in
    key_here z c.look_at.result t keys v h l k backed c.requires.holds.1 long there ∙ sym c.loop-left.invariant.4

pub cut_one-gone-requires-clause-bound : goal.cut_one-gone-requires-clause-bound
cut_one-gone-requires-clause-bound c =
    let same = same_record (pass_view c.args.pass.now) (pass_view c.loop-left.pass) Table c.loop-left.gone c.loop-left.invariant.0.counts in
    c.requires.bound ∙ ap (table_bound c.args.table) (sym same)

pub overflow_add-gone : goal.overflow_add-gone
overflow_add-gone c =
    let z = sizes_of c.args.board.now in
    let v = pass_view c.args.pass.now in
    let backed = subst (IsBacked z c.look_at.result) c.look_at.ensures.stays c.look_at.ensures.backed in
    let most = gone_fits z c.look_at.result Table v (pass_view c.loop-left.pass) (pass_view c.cut_one-gone.new.pass) c.args.self.now
    (record_at c.args.table c.long_key-key.result) c.loop-left.gone backed c.requires.holds.1 c.loop-left.invariant.0.counts c.cut_one-gone.ensures.step in
    omega (arith, most, c.cut_one-gone.ensures.gone, c.args.board.now.room.begins)

pub loop-left-preserved : goal.loop-left-preserved
loop-left-preserved c =
    let t = c.args.table in
    let h = c.args.self.now in
    let v = pass_view c.args.pass.now in
    let keys = long_keys (held_records h) t in
    let left = c.loop-left.left in
    let l = left - 1 in
    let k = c.long_key-key.result in
    let long = subst (λ (b : BucketModel). AreLong (long_keys b t) t b.records) c.deref.ensures c.long_count-left.ensures.whole in
    let stands = subst (λ (b : BucketModel). slice_get (long_keys b t) l ≡ Some k) c.deref-in-loop-left.ensures c.long_key-key.ensures in
    let there = leads_key left l k (long_keys (held_records c.loop-left.self) t) keys c.loop-left.invariant.5 (omega arith) stands in
    let w = pass_view c.loop-left.pass in
    let x = pass_view c.cut_one-gone.new.pass in
    let more = round_goes Table t keys v w x h left l k c.loop-left.gone (omega arith) c.requires.holds.1 long there c.loop-left.invariant.0 c.cut_one-gone.ensures.step in (
      subst (λ n. Rounds Table t keys v x l (c.loop-left.gone + n)) (sym c.cut_one-gone.ensures.gone) more,
      c.cut_one-gone.ensures.holds.0.1,
      c.cut_one-gone.ensures.holds.0.0,
      c.cut_one-gone.ensures.holds.1.0 ∙ c.loop-left.invariant.3,
      c.cut_one-gone.ensures.holds.1.1 ∙ c.loop-left.invariant.4,
      leads_on left l (long_keys (held_records c.loop-left.self) t) (long_keys (held_records c.cut_one-gone.new.self) t) keys c.loop-left.invariant.5 (omega arith) c.cut_one-gone.ensures.front,
    )

pub returns-clause-left : goal.returns-clause-left
returns-clause-left c =
    let done = round_ends Table c.args.table (long_keys (held_records c.args.self.now) c.args.table) (pass_view c.args.pass.now)
    (pass_view c.loop-left.pass) c.loop-left.left c.loop-left.gone (omega arith) c.loop-left.invariant.0 in
    (done, c.loop-left.invariant.0.others)

pub returns-clause-cut : goal.returns-clause-cut
returns-clause-cut c =
    λ k.
    let v = pass_view c.args.pass.now in
    let done = round_ends Table c.args.table (long_keys (held_records c.args.self.now) c.args.table) v (pass_view c.loop-left.pass) c.loop-left.left c.loop-left.gone
    (omega arith) c.loop-left.invariant.0 in
    subst (IsCutAt c.args.bound) (sym (done k)) (cut_left v (record_at c.args.table k) c.args.bound c.requires.bound)

pub returns-clause-steps : goal.returns-clause-steps
returns-clause-steps c = c.loop-left.invariant.0.clears

pub returns-clause-gone : goal.returns-clause-gone
returns-clause-gone c = c.loop-left.invariant.0.counts

pub cut_one-gone-requires-clause-listed : goal.cut_one-gone-requires-clause-listed
cut_one-gone-requires-clause-listed c = subst (λ (b : BucketModel). slice_get (long_keys b c.args.table) (c.loop-left.left - 1) ≡ Some c.long_key-key.result)
    c.deref-in-loop-left.ensures c.long_key-key.ensures
