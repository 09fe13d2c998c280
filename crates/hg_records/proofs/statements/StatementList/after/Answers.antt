use Rattle.std.proofs.Common.{◌<◌, ◌∙◌, ap, length, arith}
use Rattle.hg_records.specs.declared.statements.Entry.{Entry}
use Rattle.std.proofs.lemmas.List.{length-map}
use Rattle.hg_records.specs.Packed.{unpacked}
use Rattle.hg_records.proofs.Links.{leads_on}
use Rattle.hg_records.proofs.Unpacked.{unpacked_session, unpacked_sessions}
use Rattle.hg_records.proofs.statements.StatementList.after.Goals as goal

pub returns : goal.returns
returns c = λ d.
    let es = c.self.inside.entries.items in
    let ns = c.self.inside.numbers.items in
    let rows = c.self.inside.rows.items in
    let (most, few, less_rows, within, sessions, chained, cursored, known) = c.self.invariant in
    let inside = rw (← c.self.view_is) at c.requires in
    let less : c.args.i < length es = omega (arith, inside, length-map es (unpacked ns rows)) in
    let on = leads_on c.args.i es c.index.result.now less chained.links in
    rw (← c.self.view_is, unpacked_sessions ns rows es, unpacked_session ns rows es c.args.i d c.index.result.now less) (ap (λ (e : Entry). e.next) c.index.ensures ∙ on)
