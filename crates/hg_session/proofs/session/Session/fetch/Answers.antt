use Rattle.std.proofs.Common.{◌≡◌, Some, refl, sym, ◌∙◌, subst, rules, ap}
use Rattle.std.specs.Prelude.{Ok, Err, OnErr}
use Rattle.hg_base.specs.declared.statement.Statement.TheVariants as say
use Rattle.hg_base.specs.declared.line.Answer.TheVariants.{Rows}
use Rattle.hg_cursor.specs.Cursors.{table_of, high_of, rest_of, FetchesRest}
use Rattle.hg_rule.specs.declared.board.Board.{Board}
use Rattle.hg_rule.specs.Seats.{board_id, sizes_of, session_view, IsSessionOf}
use Rattle.hg_store.specs.Stores.{store_buckets}
use Rattle.hg_session.specs.Cursors.{FitsRest, HasLookedOn}
use Rattle.hg_session.specs.Engines.{engine_sizes}
use Rattle.hg_session.specs.Replies.{AnswersFrom, inside}
use Rattle.hg_session.specs.Sessions.{view_of, cursor_of}
use Rattle.hg_session.specs.Ties.{snapshot_of}
use Rattle.hg_session.proofs.Cursors.{fits_some, reads_at, fetched, fetch_replies, fetch_moves, looked_on}
use Rattle.hg_session.proofs.Reading.{counted}
use Rattle.hg_core.specs.Logs.{current}
use Rattle.hg_rule.specs.Views.{session}
use Rattle.hg_rule.specs.declared.view.View.{View}
use Rattle.hg_session.proofs.session.Session.fetch.Goals as goal

pub fetch-requires-clause-reads : goal.fetch-requires-clause-reads
fetch-requires-clause-reads g c =
    let e = c.args.engine.now in
    reads_at e c.spend.new.self c.in-Some.cursor (c.spend.ensures.own e c.requires.own) c.in-Some.is

pub returns-in_err-rows-clause-refused : goal.returns-in_err-rows-clause-refused
returns-in_err-rows-clause-refused g c =
    let v = view_of c.spend.new.self in
    let w = session_view c.fetch.new.pass in
    let cursor = c.in-Some.cursor in
    let same : c.from_residual.result ≡ Err c.in_err-rows.field-0.0 = search rules in
    let f = subst (λ r. FetchesRest (store_buckets c.tables-tables.result.store.now) c.args.most v (table_of cursor) (rest_of cursor) (high_of cursor) r w) c.in_err-rows.was c.fetch.ensures.looks in
    let is = sym c.spend.ensures.cursor ∙ c.in-Some.is in
    subst (λ r. OnErr r (HasLookedOn (cursor_of c.args.self.now) (view_of c.args.self.now) w × (cursor_of c.spend.new.self ≡ cursor_of c.args.self.now))) (sym same) (
      subst (λ o. HasLookedOn o (view_of c.args.self.now) w) (sym is)
          (subst (λ x. HasLookedOn (Some cursor) x w) c.spend.ensures.kept.0 (looked_on (store_buckets c.tables-tables.result.store.now) c.args.most cursor v w _ f)),
      c.spend.ensures.cursor,
    )

pub returns-in_err-rows-clause-spent : goal.returns-in_err-rows-clause-spent
returns-in_err-rows-clause-spent g c =
    let e = c.args.engine.now in
    let cursor = c.in-Some.cursor in
    let own = c.spend.ensures.own e c.requires.own in
    let pass = subst (λ (b : Board). IsSessionOf (board_id b) (sizes_of b) c.fetch.new.pass) c.tables-tables.ensures.board c.fetch.ensures.own in (
      fetched e c.spend.new.self _ cursor cursor _ c.args.most _ own c.in-Some.is c.in-Some.is refl refl refl refl refl pass c.fetch.ensures.looks c.fetch.ensures.reads.only
          (c.fetch.ensures.heard own.heard),
      c.spend.ensures.left,
      c.spend.ensures.retries,
    )

pub returns-clause-answers : goal.returns-clause-answers
returns-clause-answers g c = λ rest left.
    let e = c.args.engine.now in
    let z = engine_sizes e in
    let v = view_of c.spend.new.self in
    let w = session_view c.fetch.new.pass in
    let cursor = c.in-Some.cursor in
    let own = c.spend.ensures.own e c.requires.own in
    let opened = own.ties.opens ∙ (fits_some c.spend.new.self cursor own.cursor c.in-Some.is).0 in
    let count = counted e c.tables-tables.result.store.now c.tables-tables.ensures.store in
    let f = subst (λ r. FetchesRest (store_buckets c.tables-tables.result.store.now) c.args.most v (table_of cursor) (rest_of cursor) (high_of cursor) r w) c.in_ok-rows.was c.fetch.ensures.looks in
    subst (λ x. AnswersFrom rest z x (say.Fetch c.args.most) (inside (Rows c.in_ok-rows.rows)) w) c.spend.ensures.kept.0
    (fetch_replies z v w c.args.most (snapshot_of cursor) cursor c.in_ok-rows.rows rest opened
    (subst (λ n. FetchesRest n c.args.most v (table_of cursor) (rest_of cursor) (high_of cursor) (Ok c.in_ok-rows.rows) w) count f)
    (subst (λ o. FitsRest o rest) (sym c.spend.ensures.cursor ∙ c.in-Some.is) left))

pub returns-clause-moved : goal.returns-clause-moved
returns-clause-moved g c = λ rest left.
    let v = view_of c.spend.new.self in
    let w = session_view c.fetch.new.pass in
    let cursor = c.in-Some.cursor in
    let m = c.in_ok-rows.ensures.moved in
    let f = subst (λ r. FetchesRest (store_buckets c.tables-tables.result.store.now) c.args.most v (table_of cursor) (rest_of cursor) (high_of cursor) r w) c.in_ok-rows.was c.fetch.ensures.looks in
    fetch_moves (store_buckets c.tables-tables.result.store.now) c.args.most cursor c.fetch.new.self c.in_ok-rows.rows v w rest m.1 m.2 m.3 f
    (subst (λ o. FitsRest o rest) (sym c.spend.ensures.cursor ∙ c.in-Some.is) left)

pub returns-clause-spent : goal.returns-clause-spent
returns-clause-spent g c =
    let e = c.args.engine.now in
    let cursor = c.in-Some.cursor in
    let own = c.spend.ensures.own e c.requires.own in
    let m = c.in_ok-rows.ensures.moved in
    let pass = subst (λ (b : Board). IsSessionOf (board_id b) (sizes_of b) c.fetch.new.pass) c.tables-tables.ensures.board c.fetch.ensures.own in (
      fetched e c.spend.new.self _ cursor c.fetch.new.self _ c.args.most _ own c.in-Some.is refl m.0 m.1 refl refl refl pass c.fetch.ensures.looks c.fetch.ensures.reads.only
          (c.fetch.ensures.heard own.heard),
      c.spend.ensures.left,
      c.spend.ensures.retries,
    )

pub fetch-requires-clause-own : goal.fetch-requires-clause-own
fetch-requires-clause-own g c = subst (λ (b : Board). IsSessionOf (board_id b) (sizes_of b) c.spend.new.self.pass) (sym c.tables-tables.ensures.board)
    (c.spend.ensures.own c.args.engine.now c.requires.own).pass

pub returns-in_err-rows-clause-open : goal.returns-in_err-rows-clause-open
returns-in_err-rows-clause-open g c =
    let e = c.args.engine.now in
    let cursor = c.in-Some.cursor in
    let own = c.spend.ensures.own e c.requires.own in
    let pass = subst (λ (b : Board). IsSessionOf (board_id b) (sizes_of b) c.fetch.new.pass) c.tables-tables.ensures.board c.fetch.ensures.own in
    let new = fetched e c.spend.new.self (record c.spend.new.self { pass = c.fetch.new.pass }) cursor cursor _ c.args.most _ own c.in-Some.is c.in-Some.is refl refl refl refl refl pass c.fetch.ensures.looks
    c.fetch.ensures.reads.only (c.fetch.ensures.heard own.heard) in
    new.ties.opens ∙ (sym own.ties.opens ∙ ap (λ (v : View). current (session v).log) c.spend.ensures.kept.0)

pub returns-clause-open : goal.returns-clause-open
returns-clause-open g c =
    let e = c.args.engine.now in
    let cursor = c.in-Some.cursor in
    let own = c.spend.ensures.own e c.requires.own in
    let pass = subst (λ (b : Board). IsSessionOf (board_id b) (sizes_of b) c.fetch.new.pass) c.tables-tables.ensures.board c.fetch.ensures.own in
    let new = fetched e c.spend.new.self (record c.spend.new.self { pass = c.fetch.new.pass; cursor = Some c.fetch.new.self }) cursor c.fetch.new.self _ c.args.most _ own c.in-Some.is refl c.in_ok-rows.ensures.moved.0 c.in_ok-rows.ensures.moved.1 refl refl refl pass c.fetch.ensures.looks
    c.fetch.ensures.reads.only (c.fetch.ensures.heard own.heard) in
    new.ties.opens ∙ (sym own.ties.opens ∙ ap (λ (v : View). current (session v).log) c.spend.ensures.kept.0)
