use Rattle.hg_records.proofs.Links.{first_known}
use Rattle.hg_records.proofs.Unpacked.{unpacked_sessions}
use Rattle.hg_records.proofs.statements.StatementList.first_of.Goals as goal

pub returns : goal.returns
returns c =
    let es = c.self.inside.entries.items in
    let (most, few, rows, within, sessions, chained, cursored, known) = c.self.invariant in
    rw (← c.self.view_is, unpacked_sessions c.self.inside.numbers.items c.self.inside.rows.items es)
    (first_known c.self.inside.ends es c.args.session c.first.result chained sessions c.first.ensures.known c.first.ensures.other)
