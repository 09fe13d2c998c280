use Rattle.std.proofs.Common.{◌≡◌, ℕ, ◌<◌, ◌∙◌, ◌+◌, sym, ap, length, take, get_or, None, arith}
use Rattle.hg_base.specs.declared.statement.Record.{Record}
use Rattle.hg_base.specs.declared.statement.Statement.{Statement}
use Rattle.hg_base.specs.Text.{cursor_before}
use Rattle.hg_records.specs.Asked.{asked_by}
use Rattle.hg_records.specs.Cursors.{cursor_in}
use Rattle.hg_script.specs.Numbered.{many_before, numbered}
use Rattle.hg_script.proofs.Numbered.{numbered_asks, numbered_cursor, numbered_many, places_are}
use Rattle.hg_script.proofs.script.Script.asked.Goals as goal

pub asked-requires : goal.asked-requires
asked-requires c =
    let less = rw (← c.self.view_is) at c.requires in
    omega (arith, less, numbered_many (many_before c.self.inside.version (length c.self.inside.tables) + 1) c.self.inside.statements)

pub returns : goal.returns
returns c =
    let place = many_before c.self.inside.version (length c.self.inside.tables) + 1 in
    let xs = c.self.inside.statements in
    let i = c.args.i in
    let less = rw (← c.self.view_is) at c.requires in
    let within : i < length xs = omega (arith, less, numbered_many place xs) in
    rw (← c.self.view_is) (λ d.
    let e : ℕ × Statement = (d.session, d.statement) in
    let r : Record = get_or (numbered place xs) i d in
    let said = get_or xs i e in
    let mine : r.session ≡ said.0 = ap (λ p. p.0) (numbered_asks place xs i d e None within) in
    let cursor : cursor_before (numbered place xs) r.session r.place ≡ cursor_in said.0 (take i xs) =
    numbered_cursor place xs r.session i r.place (places_are place xs i d within) ∙ ap (λ s. cursor_in s (take i xs)) mine in
    c.asked.ensures e ∙ ap (λ o. (said.0, asked_by o said.1)) (sym cursor) ∙ sym (numbered_asks place xs i d e (cursor_before (numbered place xs) r.session r.place) within))
