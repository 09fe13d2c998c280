use Rattle.std.proofs.Common.{◌≡◌, ◌<◌, ◌∙◌, ℕ, sym, ap, subst, length, take, map, get_or, [], arith}
use Rattle.std.proofs.lemmas.List.{length-map}
use Rattle.hg_records.specs.declared.statements.Entry.{Entry}
use Rattle.hg_base.specs.declared.statement.Statement.{Statement}
use Rattle.hg_records.specs.Asked.{asked_by}
use Rattle.hg_records.specs.Cursors.{HasCursor, cursor_among, cursor_in}
use Rattle.hg_records.specs.Packed.{statement_in, unpacked}
use Rattle.hg_records.proofs.Opening.{cursored_at, unpacked_cursor}
use Rattle.hg_records.proofs.Unpacked.{unpacked_at}
use Rattle.hg_records.proofs.statements.StatementList.asked.Goals as goal

pub returns : goal.returns
returns c =
    let es = c.self.inside.entries.items in
    let ns = c.self.inside.numbers.items in
    let rows = c.self.inside.rows.items in
    let i = c.args.i in
    let e : Entry = c.index-entry.result.now in
    let (most, few, less_rows, within, sessions, chained, cursored, known) = c.self.invariant in
    let inside = rw (← c.self.view_is) at c.requires in
    let less : i < length es = omega (arith, inside, length-map es (unpacked ns rows)) in
    let is : e ≡ get_or es i e = c.index-entry.ensures in
    let has : HasCursor (cursor_among e.session (take i es)) e.packed = subst (λ (x : Entry). HasCursor (cursor_among x.session (take i es)) x.packed) (sym is) (cursored_at [] es i e less cursored) in
    rw (← c.self.view_is) (λ d.
    let said : get_or (map (unpacked ns rows) es) i d ≡ unpacked ns rows e = unpacked_at ns rows es i d e less ∙ ap (unpacked ns rows) (sym is) in
    ap (λ a. (e.session, a)) (c.asked.ensures ns rows (cursor_among e.session (take i es)) has)
    ∙ ap (λ o. (e.session, asked_by o (statement_in ns rows e.packed))) (unpacked_cursor ns rows e.session i es)
    ∙ ap (λ (s : ℕ × Statement). (s.0, asked_by (cursor_in s.0 (take i (map (unpacked ns rows) es))) s.1)) (sym said))
