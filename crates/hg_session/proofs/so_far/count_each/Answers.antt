use Rattle.std.proofs.Common.{◌≡◌, ℕ, ◌+◌, ◌<◌, List, refl, sym, ◌∙◌, subst, arith}
use Rattle.hg_core.specs.declared.log.LogEntry.{LogEntry}
use Rattle.hg_rule.specs.Seats.{session_view}
use Rattle.hg_rule.proofs.Lists.{starts_same, starts_on}
use Rattle.hg_session.specs.Engines.{engine_sizes}
use Rattle.hg_session.specs.SoFar.{ShowLogs}
use Rattle.hg_session.proofs.Reading.{counted}
use Rattle.hg_session.proofs.SoFar.{SumLogs, SumsFit, CountBucket, sum_more, sums_fit, sums_all, bucket_counted, parts_after, sights_after}
use Rattle.hg_session.proofs.so_far.count_each.Goals as goal

pub loop-bucket-init : goal.loop-bucket-init
loop-bucket-init g c = record {
  own = c.requires.own;
  parts = refl;
  kept = starts_same _;
  sums = λ logs show. record { made = refl; undone = refl; balance = refl };
}

pub count_one-counts-requires-clause-own : goal.count_one-counts-requires-clause-own
count_one-counts-requires-clause-own g c = c.loop-bucket.invariant.own

pub count_one-counts-requires-clause-bucket : goal.count_one-counts-requires-clause-bucket
count_one-counts-requires-clause-bucket g c =
    let same = counted c.args.engine.now c.store.result.now c.store.ensures in
    omega (arith, c.loop-bucket-test.true, c.loop-bucket.auto.bucket-end, c.buckets-bucket-end.ensures, same)

-- what the bucket's counts say of the logs
told : (g : _) (c : goal.After-count_one-counts g) (logs : ℕ → List LogEntry) → ShowLogs (engine_sizes c.args.engine.now) (session_view c.args.holder.now).parts logs →
    CountBucket (engine_sizes c.args.engine.now) logs c.loop-bucket.bucket c.count_one-counts.result
told g c logs show =
    let z = engine_sizes c.args.engine.now in
    let k = c.count_one-counts.ensures.counts in
    bucket_counted z (session_view c.loop-bucket.holder) k.held c.loop-bucket.bucket c.loop-bucket.invariant.own.3 k.takes k.mark k.backed logs
    (subst (λ ps. ShowLogs z ps logs) (sym c.loop-bucket.invariant.parts) show) c.count_one-counts.result k.counts_are

fit : (g : _) (c : goal.After-count_one-counts g) → SumsFit c.loop-bucket.sums c.count_one-counts.result
fit g c =
    let z = engine_sizes c.args.engine.now in
    let same = counted c.args.engine.now c.store.result.now c.store.ensures in
    let less : c.loop-bucket.bucket < z.buckets = omega (arith, c.loop-bucket-test.true, c.loop-bucket.auto.bucket-end, c.buckets-bucket-end.ensures, same) in
    sums_fit z c.loop-bucket.bucket c.requires.logs.0 c.loop-bucket.sums c.count_one-counts.result c.args.engine.now.shared.value.trackers.board.room less
    (c.loop-bucket.invariant.sums c.requires.logs.0 c.requires.logs.1) (told g c c.requires.logs.0 c.requires.logs.1)

pub add-sums-requires : goal.add-sums-requires
add-sums-requires g c = let f = fit g c in record { made = f.made; undone = f.undone; group = f.group; table = f.table; interval = f.interval; left = f.left }

pub loop-bucket-preserved : goal.loop-bucket-preserved
loop-bucket-preserved g c =
    let z = engine_sizes c.args.engine.now in
    let v = session_view c.loop-bucket.holder in
    let w = session_view c.count_one-counts.new.holder in
    let k = c.count_one-counts.ensures.counts in
    let h = c.loop-bucket.invariant in
    record {
      own = c.count_one-counts.ensures.own;
      parts = parts_after z v k.held c.loop-bucket.bucket h.own.3 k.takes w k.after ∙ h.parts;
      kept = starts_on w.sights v.sights (session_view c.args.holder.now).sights h.kept (sights_after z v k.held c.loop-bucket.bucket h.own.3 k.takes w k.after);
      sums = λ logs show. sum_more z c.loop-bucket.bucket (c.loop-bucket.bucket + 1) logs c.loop-bucket.sums c.count_one-counts.result c.add-sums.result (omega arith) c.add-sums.ensures
          (h.sums logs show) (bucket_counted z v k.held c.loop-bucket.bucket h.own.3 k.takes k.mark k.backed logs (subst (λ ps. ShowLogs z ps logs) (sym h.parts) show)
          c.count_one-counts.result k.counts_are);
    }

pub returns-clause-counted : goal.returns-clause-counted
returns-clause-counted g c logs show =
    let z = engine_sizes c.args.engine.now in
    let same = counted c.args.engine.now c.store.result.now c.store.ensures in
    let all : c.loop-bucket.bucket ≡ z.buckets = omega (arith, c.loop-bucket-test.false, c.loop-bucket.auto.bucket-end, c.buckets-bucket-end.ensures, same) in
    let some = c.args.engine.now.shared.value.some in
    let are = c.args.engine.now.shared.value.buckets_are in
    sums_all z logs c.loop-bucket.sums (omega (arith, some, are)) (subst (λ n. SumLogs z n logs c.loop-bucket.sums) all (c.loop-bucket.invariant.sums logs show))

pub returns-clause-parts : goal.returns-clause-parts
returns-clause-parts g c = c.loop-bucket.invariant.parts

pub returns-clause-kept : goal.returns-clause-kept
returns-clause-kept g c = c.loop-bucket.invariant.kept

pub returns-clause-own : goal.returns-clause-own
returns-clause-own g c = c.loop-bucket.invariant.own
