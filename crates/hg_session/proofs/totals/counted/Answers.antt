use Rattle.std.proofs.Common.{◌≡◌, suc, ◌+◌, ◌^◌, [], refl, subst, sym, append-nil, arith}
use Rattle.hg_rule.specs.Seats.{sizes_of, pass_view}
use Rattle.hg_headline.proofs.Totalling.{Fits}
use Rattle.hg_session.specs.Visited.{HasVisited}
use Rattle.hg_session.proofs.Visiting.{SumsTell, sums_more, sums_fit, sums_all, visited_next, logs_told, newest_told, run_told}
use Rattle.hg_session.proofs.totals.counted.Goals as goal

pub loop-bucket-init : goal.loop-bucket-init
loop-bucket-init g c = (
  record { contents = []; each = refl; parts = c.requires.own.1; kept = ([], sym (append-nil _)); events = refl },
  c.requires.own,
  record { made = refl; undone = refl; group = refl; table = refl; interval = refl; left = λ _. refl; balance = refl },
)

fit : (g : _) (c : goal.After-count_bucket-counts g) → Fits (2 ^ 40) c.loop-bucket.sums c.count_bucket-counts.result
fit g c =
    let v = pass_view c.args.pass.now in
    sums_fit (sizes_of c.args.board.now) v c.requires.own.1 c.requires.commit (pass_view c.loop-bucket.pass)
    (pass_view c.count_bucket-counts.new.pass) c.loop-bucket.bucket c.requires.backed.0 c.loop-bucket.sums c.count_bucket-counts.result c.requires.ended
    c.loop-bucket.invariant.0 c.loop-bucket.invariant.2 c.count_bucket-counts.ensures.counts
    c.args.board.now.room (omega (arith, c.loop-bucket-test.true, c.loop-bucket.auto.bucket-end, c.buckets-bucket-end.ensures, c.requires.store.1)) c.requires.backed.1

pub add-sums-requires : goal.add-sums-requires
add-sums-requires g c = let f = fit g c in record {
  made = omega (arith, f.made);
  undone = omega (arith, f.undone);
  group = omega (arith, f.group);
  table = omega (arith, f.table);
  interval = omega (arith, f.interval);
  left = omega (arith, f.left);
}

pub loop-bucket-preserved : goal.loop-bucket-preserved
loop-bucket-preserved g c =
    let z = sizes_of c.args.board.now in
    let v = pass_view c.args.pass.now in
    let u = pass_view c.loop-bucket.pass in
    let w = pass_view c.count_bucket-counts.new.pass in
    let n = c.loop-bucket.bucket in
    let sums = c.loop-bucket.sums in
    let counts = c.count_bucket-counts.result in
    let next : suc n ≡ n + 1 = omega arith in (
      subst (λ k. HasVisited v k w) next (visited_next z v c.requires.own.1 c.requires.commit u w n c.requires.backed.0 sums counts c.requires.ended c.loop-bucket.invariant.0
          c.loop-bucket.invariant.2 c.count_bucket-counts.ensures.counts),
      c.count_bucket-counts.ensures.own,
      subst (λ k. SumsTell z v k c.add-sums.result) next (subst (SumsTell z v (suc n)) (sym c.add-sums.ensures)
          (sums_more z v c.requires.own.1 c.requires.commit u w n c.requires.backed.0 sums counts c.requires.ended c.loop-bucket.invariant.0 c.loop-bucket.invariant.2
          c.count_bucket-counts.ensures.counts)),
    )

pub returns-clause-totals : goal.returns-clause-totals
returns-clause-totals g c =
    let z = sizes_of c.args.board.now in
    let v = pass_view c.args.pass.now in
    let all : c.loop-bucket.bucket ≡ z.buckets = omega (arith, c.loop-bucket-test.false, c.loop-bucket.auto.bucket-end, c.buckets-bucket-end.ensures, c.requires.store.1) in (
      sums_all z v c.requires.own.1 c.requires.commit c.requires.backed.0 c.loop-bucket.sums c.requires.store.2 c.requires.ended c.requires.backed.1
          (subst (λ k. SumsTell z v k c.loop-bucket.sums) all c.loop-bucket.invariant.2),
      logs_told z v c.requires.own.1 c.requires.commit c.requires.backed.0 c.requires.store.2 c.requires.ended c.requires.backed.1,
      newest_told z v c.requires.own.1 c.requires.commit c.requires.backed.0 c.requires.ended c.requires.backed.1,
      run_told z v c.requires.own.1 c.requires.commit c.requires.backed.0 c.loop-bucket.sums c.requires.store.2 c.requires.ended c.requires.backed.1
          (subst (λ k. SumsTell z v k c.loop-bucket.sums) all c.loop-bucket.invariant.2),
    )
