use Rattle.std.proofs.Common.{◌≡◌, [], suc, ◌+◌, true, Ok, Err, sym, ◌∙◌, subst, rules, arith}
use Rattle.std.proofs.lemmas.List.Sorted.{IsNonDecreasingBy-from_sort, answers_always}
use Rattle.hg_core.specs.Contents.{has_own}
use Rattle.hg_rule.specs.Seats.{session_view}
use Rattle.hg_store.specs.Stores.{store_buckets}
use Rattle.hg_cursor.specs.Scans.{ScansAll, Scans}
use Rattle.hg_cursor.proofs.Rows.{key_of}
use Rattle.hg_cursor.proofs.Seeing.{may_read_on}
use Rattle.hg_cursor.proofs.Trips.{adds_none}
use Rattle.hg_cursor.proofs.ScanningOrder.{IsScanned, none_scanned, one_scanned, one_passed, stops, all_scanned}
use Rattle.hg_cursor.proofs.scans.scan.Goals.{then-is_reached+in_ok-see_range, else-is_reached}
use Rattle.hg_cursor.proofs.scans.scan.Goals as goal

pub loop-bucket-init : goal.loop-bucket-init
loop-bucket-init g c =
    let count = store_buckets c.args.tables.now.store.now in
    let v = session_view c.args.pass.now in
    record {
      scanned = subst (λ rows. IsScanned count v c.args.range.table c.args.range.low c.args.range.high 0 rows v) (sym c.in_ok-rows.ensures)
          (none_scanned count v c.args.range.table c.args.range.low c.args.range.high c.requires.reads.only);
      reads = c.requires.reads;
      heard = λ h. h;
      own = c.requires.own;
    }

pub loop-bucket-preserved : goal.loop-bucket-preserved
loop-bucket-preserved g c =
    let count = store_buckets c.args.tables.now.store.now in
    let v = session_view c.args.pass.now in
    let u = session_view c.loop-bucket.pass in
    let n = c.loop-bucket.bucket in
    let h = c.loop-bucket.invariant in
    let table = c.args.range.table in
    let low = c.args.range.low in
    let high = c.args.range.high in
    let rows = c.loop-bucket.rows.items in
    let next : suc n ≡ n + 1 = omega arith in
    let test : c.is_reached.result ≡ has_own count table low high n = search rules in
    elim c.if-is_reached.branch [
      | then-is_reached+in_ok-see_range w ↦ rw (w.pass-is, w.rows-is) (
          let x = session_view w.see_range.new.pass in
          let sees = w.in_ok-see_range.ensures.sees in
          record {
            scanned = subst (λ m. IsScanned count v table low high m w.see_range.new.rows.items x) next
                (one_scanned count v u x table low high n rows w.see_range.new.rows.items (Ok w.in_ok-see_range.field-0) h.scanned (sym test ∙ w.if-is_reached.true) sees sees.added);
            reads = may_read_on c.args.at table u x table low high n sees.part h.reads sees.adds;
            heard = λ before. w.in_ok-see_range.ensures.heard;
            own = w.in_ok-see_range.ensures.own;
          })
      | else-is_reached w ↦ rw (w.pass-is, w.rows-is) (record {
        scanned = subst (λ m. IsScanned count v table low high m rows u) next (one_passed count v u table low high n rows (sym test ∙ w.if-is_reached.false) h.scanned);
        reads = h.reads;
        heard = h.heard;
        own = h.own;
      })
    ]

pub returns-in_err-rows-clause-scans : goal.returns-in_err-rows-clause-scans
returns-in_err-rows-clause-scans g c =
    let count = store_buckets c.args.tables.now.store.now in
    let v = session_view c.args.pass.now in
    let refused : c.from_residual.result ≡ Err c.in_err-rows.field-0.0 = search rules in
    subst (λ r. Scans count v c.args.range.table c.args.range.low c.args.range.high r v) (sym refused)
    (record { seen = 0; within = omega arith; part = λ b. []; adds = adds_none v c.requires.reads.only })

pub returns-in_err-see_range-clause-scans : goal.returns-in_err-see_range-clause-scans
returns-in_err-see_range-clause-scans g c =
    let count = store_buckets c.args.tables.now.store.now in
    let v = session_view c.args.pass.now in
    let w = session_view c.see_range.new.pass in
    let table = c.args.range.table in
    let low = c.args.range.low in
    let high = c.args.range.high in
    let reached : has_own count table low high c.loop-bucket.bucket ≡ true = search rules in
    let refused : c.from_residual-in_err-see_range.result ≡ Err c.in_err-see_range.field-0.0 = search rules in
    let all : c.buckets-count.result ≡ count = search rules in
    subst (λ r. Scans count v table low high r w) (sym refused)
    (stops count v (session_view c.loop-bucket.pass) w table low high c.loop-bucket.bucket c.loop-bucket.rows.items c.see_range.new.rows.items c.see_range.result
    c.loop-bucket.invariant.scanned reached c.see_range.ensures.sees (omega (arith, c.loop-bucket-test.true, c.loop-bucket.auto.bucket-end, all)))

pub returns-clause-scans : goal.returns-clause-scans
returns-clause-scans g c =
    let count = store_buckets c.args.tables.now.store.now in
    let v = session_view c.args.pass.now in
    let w = session_view c.loop-bucket.pass in
    let table = c.args.range.table in
    let low = c.args.range.low in
    let high = c.args.range.high in
    let sorted = c.sort_unstable_by_key.new.self.items in
    let counted : c.buckets-count.result ≡ count = search rules in
    let all : c.loop-bucket.bucket ≡ count = omega (arith, c.loop-bucket-test.false, c.loop-bucket.auto.bucket-end, counted) in
    subst (λ rows. ScansAll count v table low high rows w) (sym c.from.ensures)
    (all_scanned count v w table low high c.loop-bucket.bucket c.loop-bucket.rows.items sorted all c.loop-bucket.invariant.scanned c.sort_unstable_by_key.ensures.permutation
    (IsNonDecreasingBy-from_sort key_of sorted (c.sort_unstable_by_key.ensures.sorted key_of (answers_always _ _ _ (λ f a r g h. search rules)))))
