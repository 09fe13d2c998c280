use Rattle.std.proofs.Common.{◌∷◌, [], refl, subst}
use Rattle.hg_core.specs.Reading.{saw}
use Rattle.hg_cursor.specs.Keys.{rows_at}
use Rattle.hg_rule.specs.Seats.{session_view}
use Rattle.hg_session.specs.Gains.{Gains}
use Rattle.hg_session.specs.Sessions.{view_of}
use Rattle.hg_session.proofs.Reading.{counted, may_read, adds_gain, looked_in}
use Rattle.hg_session.proofs.del.see_there.Goals as goal

pub has_row-requires-clause-reads : goal.has_row-requires-clause-reads
has_row-requires-clause-reads g c = may_read c.args.engine.now 0 1 c.args.session.now c.args.snapshot c.args.rid.table c.requires.own c.requires.opened c.requires.table

pub returns-clause-gains : goal.returns-clause-gains
returns-clause-gains g c =
    let v = view_of c.args.session.now in
    let w = session_view c.has_row.new.pass in
    let a = c.has_row.ensures.adds in
    let same = counted c.args.engine.now c.tables.result.store.now c.tables.ensures.store in
    (a.0, (subst (λ n. Gains v (saw n c.args.rid (rows_at c.args.rid.key a.0) ∷ []) w) same (adds_gain v w _ a.1.0), a.1.1))

pub returns-clause-own : goal.returns-clause-own
returns-clause-own g c = looked_in c.args.engine.now 0 1 c.args.session.now _ c.tables.result.board.now _ c.tables.ensures.board c.requires.own (tt, tt)
    c.has_row.ensures.adds.1.0 c.has_row.ensures.heard c.has_row.ensures.own refl refl refl refl
