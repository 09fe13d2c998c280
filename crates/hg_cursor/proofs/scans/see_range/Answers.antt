use Rattle.std.proofs.Common.{◌≡◌, sym, ap, ◌∙◌, subst, rules}
use Rattle.hg_core.specs.declared.ask.Ask.TheVariants.{Read}
use Rattle.hg_core.specs.declared.log.LogEntry.TheVariants.{Saw}
use Rattle.hg_rule.specs.Views.{number, session}
use Rattle.hg_rule.specs.Steps.{loaded_in}
use Rattle.hg_rule.specs.Holding.{bucket}
use Rattle.hg_rule.specs.Places.{HoldsBucket}
use Rattle.hg_rule.specs.Seats.{board_id, sizes_of, session_view}
use Rattle.hg_store.specs.Stores.{store_buckets}
use Rattle.hg_cursor.specs.Keys.{IsOwnKey, AreOwn}
use Rattle.hg_cursor.proofs.Keys.{held_own}
use Rattle.hg_cursor.proofs.Seeing.{look_adds, look_heard, look_own}
use Rattle.hg_cursor.proofs.ScanningLooks.{saw_rows, sees, on_ok, from_first}
use Rattle.hg_cursor.proofs.Trips.{arrived, writer_beside, snapshot_beside}
use Rattle.hg_cursor.proofs.scans.see_range.Goals as goal

pub returns-clause-sees : goal.returns-clause-sees
returns-clause-sees g c =
    let board = c.args.tables.now.board.now in
    let count = store_buckets c.args.tables.now.store.now in
    let table = c.args.sought.range.table in
    let low = c.args.sought.range.low in
    let high = c.args.sought.range.high in
    let v = session_view c.args.pass.now in
    let u = session_view c.take-held.new.pass in
    let w = session_view c.see.new.pass in
    let x = session_view c.give.new.pass in
    let b = c.args.bucket in
    let n = c.see.ensures.step.0 in
    let k = c.see.ensures.step.1 in
    let reads = c.requires.reads in
    let h = arrived v u b reads.only c.take-held.ensures.view in
    let by = writer_beside (number v) b (session v) v.sights u c.writer-by.result h c.writer-by.ensures.session c.writer-by.ensures.transaction in
    let at = sym (snapshot_beside (number v) b (session v) v.sights u h ∙ ap loaded_in reads.live) in
    let placed = held_own (sizes_of board) c.take-held.ensures.backed.0 b u c.take-held.ensures.backed.1 (subst (λ m. HoldsBucket m u) c.take-held.ensures.held.1 c.take-held.ensures.holds.has) in
    let all : (sizes_of board).buckets ≡ count = search rules in
    let own = subst (λ m. AreOwn m b (bucket u).content) all placed in
    let rows = saw_rows count (number v) b n (session v) v.sights table low high u w h k in
    let adds = look_adds v u w x b n (Read table low high) reads.only c.take-held.ensures.view k c.give.ensures.view (Saw table low high b k.rows) rows in
    let counted : c.from-count.result ≡ count = search rules in
    let first = c.requires.first in
    let pushed = c.push_rows-pushed.ensures u b c.take-held.ensures.holds (subst (λ m. AreOwn m b (bucket u).content) (sym counted) own)
    (subst (λ m. IsOwnKey m b table c.args.sought.own) (sym counted) first.1) in
    sees count (number v) b n (session v) v.sights table low high u w h k v x c.writer-by.result c.args.sought.at c.args.rows.now.items c.push_rows-pushed.new.rows.items
    c.push_rows-pushed.result own by at
    (on_ok c.push_rows-pushed.result
    (from_first count b (bucket u).content c.writer-by.result c.args.sought.at table low c.args.sought.own high c.args.rows.now.items c.push_rows-pushed.new.rows.items own first) pushed) adds

pub returns-clause-heard : goal.returns-clause-heard
returns-clause-heard g c =
    let range = c.args.sought.range in
    look_heard (session_view c.args.pass.now) (session_view c.take-held.new.pass) (session_view c.see.new.pass) (session_view c.give.new.pass)
    c.args.bucket c.see.ensures.step.0 (Read range.table range.low range.high) c.requires.reads.only c.take-held.ensures.view c.see.ensures.step.1 c.give.ensures.view

pub returns-clause-own : goal.returns-clause-own
returns-clause-own g c =
    let board = c.args.tables.now.board.now in
    let range = c.args.sought.range in
    look_own (board_id board) (sizes_of board) (session_view c.args.pass.now) (session_view c.take-held.new.pass)
    c.see.new.pass c.give.new.pass c.args.bucket c.see.ensures.step.0 (Read range.table range.low range.high) c.requires.reads.only c.take-held.ensures.view
    c.see.ensures.step.1 c.give.ensures.view c.see.ensures.holds.0 c.give.ensures.own.0 c.give.ensures.own.1
