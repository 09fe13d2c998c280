use Rattle.std.proofs.Common.{◌≡◌, [], ◌∷◌, inr, sym, ap, ◌∙◌, subst, rules}
use Rattle.hg_core.specs.Contents.{bucket_of}
use Rattle.hg_bucket.specs.BucketModel.{record_at}
use Rattle.hg_rule.specs.declared.view.Sight.TheVariants.{Heard}
use Rattle.hg_rule.specs.Facts.{IsAmong}
use Rattle.hg_rule.specs.Views.{number, session}
use Rattle.hg_rule.specs.Steps.{loaded_in}
use Rattle.hg_rule.specs.Writes.{with_log, log_asked}
use Rattle.hg_rule.specs.Holding.{bucket}
use Rattle.hg_rule.specs.declared.view.View.{View}
use Rattle.hg_rule.specs.declared.view.Part.TheVariants.{OfSession}
use Rattle.hg_core.specs.declared.ask.Ask.TheVariants.{Read}
use Rattle.hg_cursor.specs.Keys.{AreOwn}
use Rattle.hg_rule.specs.Places.{HoldsBucket}
use Rattle.hg_rule.specs.Seats.{sizes_of, session_view}
use Rattle.hg_store.specs.Stores.{store_buckets}
use Rattle.hg_cursor.proofs.Keys.{held_own}
use Rattle.hg_cursor.proofs.Looking.{saw_rows, sees}
use Rattle.hg_cursor.proofs.Trips.{arrived, looked, departed, writer_beside, snapshot_beside, first_number, first_session}
use Rattle.hg_cursor.proofs.looks.see_bucket.Goals as goal

pub returns-clause-sees : goal.returns-clause-sees
returns-clause-sees g c =
    let count = store_buckets c.args.store.now in
    let v = session_view c.args.pass.now in
    let u = session_view c.take-held.new.pass in
    let w = session_view c.see.new.pass in
    let x = session_view c.give.new.pass in
    let b = c.bucket_of-bucket.result in
    let m = c.see.ensures.step.0 in
    let k = c.see.ensures.step.1 in
    let reads = c.requires.reads in
    let h = arrived v u b reads.only c.take-held.ensures.view in
    let by = writer_beside (number v) b (session v) v.sights u c.writer-by.result h c.writer-by.ensures.session c.writer-by.ensures.transaction in
    let l = c.args.look in
    let live : l.request.at ≡ loaded_in (session v).phase = sym (ap loaded_in reads.live) in
    let at = live ∙ sym (snapshot_beside (number v) b (session v) v.sights u h) in
    let placed = held_own (sizes_of c.args.board.now) c.take-held.ensures.backed.0 b u c.take-held.ensures.backed.1
    (subst (λ n. HoldsBucket n u) c.take-held.ensures.held.1 c.take-held.ensures.holds.has) in
    let are = subst (λ n. AreOwn n b (bucket u).content) (sym c.requires.buckets) placed in
    let counted : c.from-count.result ≡ count = search rules in
    let rows = saw_rows count (number v) b m (session v) v.sights l u w h k in
    let seen = looked (number v) (session v) b m v.sights (Read l.request.table l.request.low l.request.high) u w h k in
    let d = departed (number v) _ b v.sights w x seen.0 c.give.ensures.view in
    sees count (number v) b m (session v) v.sights l u w h k v x c.writer-by.result c.args.firsts.now c.push_rows-reached.new.firsts c.push_rows-reached.result
    c.requires.first c.requires.within.1 c.bucket_of-bucket.ensures.own are by at c.push_rows-reached.ensures.most
    (c.push_rows-reached.ensures.rows u b c.take-held.ensures.holds (subst (λ n. AreOwn n b (bucket u).content) (sym counted) are)
    (ap (λ n. bucket_of n (record_at l.request.table l.own)) counted ∙ sym c.bucket_of-bucket.ensures.own))
    (record { parts = d.0 ∙ (λ i. OfSession (number v) (with_log (rows i) (session v)) ∷ []); kept = d.1 })

pub returns-clause-heard : goal.returns-clause-heard
returns-clause-heard g c =
    let v = session_view c.args.pass.now in
    let u = session_view c.take-held.new.pass in
    let w = session_view c.see.new.pass in
    let x = session_view c.give.new.pass in
    let b = c.bucket_of-bucket.result in
    let m = c.see.ensures.step.0 in
    let k = c.see.ensures.step.1 in
    let h = arrived v u b c.requires.reads.only c.take-held.ensures.view in
    let ask = Read c.args.look.request.table c.args.look.request.low c.args.look.request.high in
    let l = looked (number v) (session v) b m v.sights ask u w h k in
    let d = departed (number v) _ b v.sights w x l.0 c.give.ensures.view in
    let there = subst (IsAmong (Heard (number v) (log_asked u ask m k.rows))) (sym (ap (λ (y : View). y.sights) c.give.ensures.view)) l.1 in
    let n = first_number x (number v) (with_log (log_asked u ask m k.rows) (session v)) [] d.0 in
    let s = first_session x (number v) (with_log (log_asked u ask m k.rows) (session v)) [] d.0 in
    inr (subst (λ e. IsAmong e x.sights) (λ i. Heard (sym n i) (sym s i).log) there)
