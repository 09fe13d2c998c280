use Rattle.std.proofs.Common.{ℕ, ◌<◌, ◌+◌, ap, length, None, arith}
use Rattle.hg_base.specs.declared.statement.Statement.{Statement}
use Rattle.hg_script.specs.Numbered.{many_before}
use Rattle.hg_script.proofs.Numbered.{numbered_many, numbered_asks, numbered_sessions}
use Rattle.hg_script.proofs.script.Script.after.Goals as goal

pub after-requires : goal.after-requires
after-requires c =
    let less = rw (← c.self.view_is) at c.requires in
    omega (arith, less, numbered_many (many_before c.self.inside.version (length c.self.inside.tables) + 1) c.self.inside.statements)

pub returns : goal.returns
returns c = λ d.
    let place = many_before c.self.inside.version (length c.self.inside.tables) + 1 in
    let statements = c.self.inside.statements in
    let e : ℕ × Statement = (d.session, d.statement) in
    let less = rw (← c.self.view_is) at c.requires in
    let within : c.args.i < length statements = omega (arith, less, numbered_many place statements) in
    let alike = numbered_asks place statements c.args.i d e None within in
    rw (← c.self.view_is, numbered_sessions place statements, ap (λ p. p.0) alike) (c.after.ensures e)
