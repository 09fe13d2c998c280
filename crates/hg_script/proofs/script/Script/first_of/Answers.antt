use Rattle.std.proofs.Common.{◌+◌, length, arith}
use Rattle.hg_script.specs.Numbered.{many_before}
use Rattle.hg_script.proofs.Numbered.{numbered_many, numbered_sessions}
use Rattle.hg_script.proofs.script.Script.first_of.Goals as goal

pub returns-clause-first : goal.returns-clause-first
returns-clause-first c =
    rw (← c.self.view_is, numbered_sessions (many_before c.self.inside.version (length c.self.inside.tables) + 1) c.self.inside.statements) c.first_of.ensures

pub returns-clause-most : goal.returns-clause-most
returns-clause-most c =
    let most = c.self.invariant in
    rw (← c.self.view_is) (omega (arith, most.1, numbered_many (many_before c.self.inside.version (length c.self.inside.tables) + 1) c.self.inside.statements))
