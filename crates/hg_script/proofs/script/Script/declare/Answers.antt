use Rattle.std.proofs.Common.{◌+◌, length, refl}
use Rattle.hg_script.specs.Numbered.{many_before}
use Rattle.hg_script.proofs.Numbered.{none_numbered}
use Rattle.hg_script.proofs.script.Script.declare.Goals as goal

pub returns : goal.returns
returns c =
    let first = rw (← c.self.view_is) at c.requires.first in
    let none = none_numbered _ (many_before c.self.inside.version (length c.push.new.self) + 1) c.self.inside.statements first in
    rw (← c.self.view_is, first, none, c.in_ok-push.ensures.ok) refl
