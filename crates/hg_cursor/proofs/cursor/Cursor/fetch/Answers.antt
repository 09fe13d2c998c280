use Rattle.std.proofs.Common.{sym, subst}
use Rattle.hg_rule.specs.Seats.{session_view}
use Rattle.hg_store.specs.Stores.{store_buckets}
use Rattle.hg_cursor.specs.Cursors.{at_of, table_of, high_of, shown_at}
use Rattle.hg_cursor.specs.Given.{AreFirstOf}
use Rattle.hg_cursor.proofs.Right.{right}
use Rattle.hg_cursor.proofs.cursor.Cursor.fetch.Goals as goal

pub returns-clause-rows : goal.returns-clause-rows
returns-clause-rows g c = λ h logs on. subst (λ o. AreFirstOf (shown_at h (table_of c.args.self.now) (at_of c.args.self.now)) c.args.most o
    (high_of c.args.self.now) c.in_ok-rows.rows) (sym c.in-Some.is)
    (right (store_buckets c.args.tables.now.store.now) c.args.most (session_view c.args.pass.now) (session_view c.first_rows.new.pass) (at_of c.args.self.now)
    (table_of c.args.self.now) c.in-Some.low (high_of c.args.self.now) c.in_ok-rows.rows h logs c.requires.reads c.in_ok-rows.ensures.gains on)
