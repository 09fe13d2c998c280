use Rattle.std.proofs.Common.{◌≡◌, suc, ◌+◌, ◌<◌, false, Err, sym, ap, ◌∙◌, subst, rules, arith}
use Rattle.std.specs.Prelude.{nat_lt, nat_le, ◌&&◌}
use Rattle.hg_rule.specs.Seats.{session_view}
use Rattle.hg_store.specs.Stores.{store_buckets}
use Rattle.hg_base.specs.Transcript.{passed}
use Rattle.hg_core.specs.Reading.{bucket_at}
use Rattle.hg_cursor.specs.Cursors.{Fetches, FetchesRows}
use Rattle.hg_cursor.specs.Firsts.{Copied, rows_upto, Keeps, IsNeeded}
use Rattle.hg_cursor.specs.Looks.{Takes}
use Rattle.hg_cursor.proofs.Trips.{reads_on}
use Rattle.hg_cursor.proofs.Gathering.{IsGathered, none_gathered, one_gathered, stops, up_to_limit}
use Rattle.hg_cursor.proofs.Cutting.{cut}
use Rattle.hg_cursor.proofs.Picking.{needed, unneeded, passes, fetched}
use Rattle.hg_cursor.proofs.buckets.first_rows.Goals as goal

pub loop-request-init : goal.loop-request-init
loop-request-init g c =
    let count = store_buckets c.args.store.now in
    let v = session_view c.args.pass.now in
    record {
      gathered = subst (λ (k : Copied). IsGathered count c.args.request.most v c.args.request.table c.args.request.low c.args.request.high 0 c.args.request.high k.rows v)
          (sym c.new-firsts.ensures) (none_gathered count c.args.request.most v c.args.request.table c.args.request.low c.args.request.high c.requires.range c.requires.reads.only);
      most = ap (λ (k : Copied). k.most) c.new-firsts.ensures;
      needed = subst (IsNeeded c.args.request.high) (sym c.new-firsts.ensures) (λ k under. c.requires.most);
      reached = (let some = c.requires.range in omega (arith, some));
      reads = c.requires.reads;
      heard = λ h. h;
      own = c.requires.own;
    }

pub returns-in_err-limit-clause-gains : goal.returns-in_err-limit-clause-gains
returns-in_err-limit-clause-gains g c =
    let count = store_buckets c.args.store.now in
    let v = session_view c.args.pass.now in
    let u = session_view c.loop-request.pass in
    let w = session_view c.see_bucket.new.pass in
    let h = c.loop-request.invariant in
    let counted : c.from-count.result ≡ count = search rules in
    let test = sym c.is_needed.ensures ∙ c.loop-request-test.true in
    let here = needed c.loop-request.ahead c.from-count.result c.args.request.low c.loop-request.limit test in
    let refused : c.from_residual.result ≡ Err c.in_err-limit.field-0.0 = search rules in
    subst (λ r. Fetches count c.args.request.most v c.args.request.table c.args.request.low c.args.request.high r w) (sym refused)
    (stops count c.args.request.most v u w c.args.request.table c.args.request.low c.args.request.high c.loop-request.ahead c.loop-request.limit c.loop-request.limit
    c.loop-request.firsts.rows c.see_bucket.new.firsts.rows h.gathered c.see_bucket.ensures.sees.part c.see_bucket.ensures.sees.adds
    (subst (λ n. c.loop-request.ahead < n) counted here.0) here.1)

pub loop-request-preserved : goal.loop-request-preserved
loop-request-preserved g c =
    let count = store_buckets c.args.store.now in
    let most = c.args.request.most in
    let table = c.args.request.table in
    let low = c.args.request.low in
    let high = c.args.request.high in
    let ahead = c.loop-request.ahead in
    let limit = c.loop-request.limit in
    let upto = c.in_ok-limit.limit in
    let v = session_view c.args.pass.now in
    let u = session_view c.loop-request.pass in
    let w = session_view c.see_bucket.new.pass in
    let rows = c.loop-request.firsts.rows in
    let new = c.see_bucket.new.firsts.rows in
    let h = c.loop-request.invariant in
    let counted : c.from-count.result ≡ count = search rules in
    let test = sym c.is_needed.ensures ∙ c.loop-request-test.true in
    let here = needed ahead c.from-count.result low limit test in
    let sees = c.in_ok-limit.ensures.sees in
    let taken = subst (λ n. Takes n limit sees.part rows new upto) h.most sees.taken in
    let more = one_gathered count most v u w table low high ahead limit upto rows new h.gathered sees.part sees.adds (subst (λ n. ahead < n) counted here.0) here.1 sees.within sees.own taken in
    let next : suc ahead ≡ ahead + 1 = omega arith in
    record {
      gathered = subst (λ m. IsGathered count most v table low high m upto new w) next more;
      most = sees.most ∙ h.most;
      needed = c.in_ok-limit.ensures.needed;
      reached = (let far = c.in_ok-limit.ensures.reached in omega (arith, far));
      reads = reads_on c.args.request.at table u w table low high (bucket_at count table low ahead) sees.part h.reads sees.adds;
      heard = λ a. c.in_ok-limit.ensures.heard;
      own = c.in_ok-limit.ensures.own;
    }

pub returns-clause-gains : goal.returns-clause-gains
returns-clause-gains g c =
    let count = store_buckets c.args.store.now in
    let most = c.args.request.most in
    let table = c.args.request.table in
    let low = c.args.request.low in
    let high = c.args.request.high in
    let ahead = c.loop-request.ahead in
    let limit = c.loop-request.limit in
    let v = session_view c.args.pass.now in
    let w = session_view c.loop-request.pass in
    let rows = c.into_rows.result.items in
    let counted : c.from-count.result ≡ count = search rules in
    let test = sym c.is_needed.ensures ∙ c.loop-request-test.false in
    let end = unneeded ahead count low limit (subst (λ n. (nat_lt ahead n && nat_le (low + ahead) limit) ≡ false) counted test) in
    let keeps = subst (λ n. Keeps n limit (rows_upto limit c.loop-request.firsts.rows) rows (passed n limit rows)) c.loop-request.invariant.most c.into_rows.ensures in
    let gathered = up_to_limit count most v w table low high ahead limit c.loop-request.firsts.rows c.loop-request.invariant.gathered in
    let k = cut count most v w table low high ahead limit (passed most limit rows) (rows_upto limit c.loop-request.firsts.rows) rows c.requires.most gathered keeps in
    let inv = c.loop-request.invariant in
    let far = passes most limit (passed most limit rows) c.loop-request.firsts rows inv.most inv.needed keeps k.below in
    let reached = inv.reached in
    subst (λ rs. FetchesRows count most v table low high rs w) (sym c.from.ensures)
    (fetched count most v w table low high ahead limit (passed most limit rows) rows c.requires.most c.args.store.now.some k keeps.upto_is end (omega (arith, far, reached)))
