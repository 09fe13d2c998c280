use Rattle.std.proofs.Common.{◌+◌, ◌∙◌, sym, length, arith}
use Rattle.hg_script.specs.Numbered.{many_before}
use Rattle.hg_script.proofs.Numbered.{numbered_many, places_are}
use Rattle.hg_script.proofs.script.Script.record_count.Goals as goal

pub returns-clause-same : goal.returns-clause-same
returns-clause-same c = rw (← c.self.view_is) (c.len.ensures ∙ sym (numbered_many (many_before c.self.inside.version (length c.self.inside.tables) + 1) c.self.inside.statements))

pub returns-clause-most : goal.returns-clause-most
returns-clause-most c =
    let most = c.self.invariant in
    rw (← c.self.view_is) (omega (arith, most.1, numbered_many (many_before c.self.inside.version (length c.self.inside.tables) + 1) c.self.inside.statements))

pub returns-clause-places : goal.returns-clause-places
returns-clause-places c =
    let place = many_before c.self.inside.version (length c.self.inside.tables) + 1 in
    rw (← c.self.view_is) (λ i d less. places_are place c.self.inside.statements i d (omega (arith, less, numbered_many place c.self.inside.statements)) ∙ omega arith)
