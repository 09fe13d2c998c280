use Rattle.std.proofs.Common.{refl, subst}
use Rattle.hg_cursor.specs.Scans.{Scans}
use Rattle.hg_rule.specs.Seats.{session_view}
use Rattle.hg_session.specs.Sessions.{view_of}
use Rattle.hg_session.proofs.Reading.{counted, may_read, scan_looks, looked_in}
use Rattle.hg_session.proofs.scan.scan_rows.Goals as goal

pub scan-requires-clause-reads : goal.scan-requires-clause-reads
scan-requires-clause-reads g c = may_read c.args.engine.now 0 1 c.args.session.now c.args.snapshot c.args.range.table c.requires.own c.requires.opened c.requires.table

pub returns-clause-gains : goal.returns-clause-gains
returns-clause-gains g c =
    subst (λ n. Scans n (view_of c.args.session.now) c.args.range.table c.args.range.low c.args.range.high c.scan.result (session_view c.scan.new.pass))
    (counted c.args.engine.now c.tables.result.store.now c.tables.ensures.store) c.scan.ensures.scans

pub returns-clause-own : goal.returns-clause-own
returns-clause-own g c =
    let looks = scan_looks _ (view_of c.args.session.now) (session_view c.scan.new.pass) c.args.range.table c.args.range.low c.args.range.high c.scan.result c.scan.ensures.scans in
    looked_in c.args.engine.now 0 1 c.args.session.now _ c.tables.result.board.now looks.0 c.tables.ensures.board c.requires.own looks.1
    looks.2 (c.scan.ensures.heard c.requires.own.heard) c.scan.ensures.own refl refl refl refl
