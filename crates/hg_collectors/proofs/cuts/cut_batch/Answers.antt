use Rattle.std.proofs.Common.{◌≡◌, ◌∙◌, subst, rules}
use Rattle.std.specs.List.{dedup}
use Rattle.std.specs.List.Sorted.{IsSortedByKey}
use Rattle.std.specs.Ordering.{nat_cmp}
use Rattle.std.proofs.lemmas.Fn.{always_returns_same}
use Rattle.std.proofs.lemmas.List.Filters.{dedup_is}
use Rattle.hg_base.specs.History.{same_rid}
use Rattle.hg_base.specs.RidOrder.{rid_cmp}
use Rattle.hg_store.specs.Stores.{store_buckets}
use Rattle.hg_rule.specs.Seats.{sizes_of, pass_view}
use Rattle.hg_core.specs.Contents.{bucket_of}
use Rattle.hg_collectors.specs.Cutting.{stretches}
use Rattle.hg_collectors.proofs.Going.{cuts_listed}
use Rattle.hg_collectors.proofs.Stretches.{by_first, stretches_rise, stretches_needed}
use Rattle.hg_collectors.proofs.cuts.cut_batch.Goals as goal

pub returns-clause-cuts : goal.returns-clause-cuts
returns-clause-cuts g c =
    let old = c.args.rids.now.items in
    let sorted = c.sort_unstable_by_key.new.self.items in
    cuts_listed (sizes_of c.args.board.now).buckets c.args.bound (pass_view c.args.pass.now)
    (pass_view c.cut_all-gone.new.pass) old sorted c.as_slice.result.now c.cut_all-gone.result c.sort_unstable_by_key.ensures.permutation
    (c.as_slice.ensures.value ∙ dedup_is same_rid sorted c.dedup.new.self.items c.dedup.ensures.filtered) c.cut_all-gone.ensures.cuts

pub returns-clause-visits : goal.returns-clause-visits
returns-clause-visits g c =
    let z = (sizes_of c.args.board.now).buckets in
    let old = c.args.rids.now.items in
    let sorted = c.sort_unstable_by_key.new.self.items in
    let left = c.as_slice.result.now in
    let is : left ≡ dedup same_rid sorted = c.as_slice.ensures.value ∙ dedup_is same_rid sorted c.dedup.new.self.items c.dedup.ensures.filtered in
    let up : IsSortedByKey (bucket_of z) nat_cmp sorted = subst (λ n. IsSortedByKey (bucket_of n) nat_cmp sorted) c.requires.buckets.1
    (by_first (bucket_of (store_buckets c.args.store.now)) (λ r. r) rid_cmp sorted
    (c.sort_unstable_by_key.ensures.sorted (λ r. (bucket_of (store_buckets c.args.store.now) r, r)) (always_returns_same _ _ _ (λ a r q k. search rules)))) in
    record {
      numbers = stretches z left;
      in_order = c.cut_all-gone.ensures.visits;
      rise = stretches_rise z sorted left up is;
      needed = stretches_needed z old sorted left c.sort_unstable_by_key.ensures.permutation is;
    }
