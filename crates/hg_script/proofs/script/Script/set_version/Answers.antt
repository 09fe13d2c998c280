use Rattle.std.proofs.Common.{◌+◌, length, refl}
use Rattle.hg_script.specs.Numbered.{many_before}
use Rattle.hg_script.proofs.Numbered.{none_numbered}
use Rattle.hg_script.proofs.script.Script.set_version.Goals as goal

pub returns : goal.returns
returns c =
    let first = rw (← c.self.view_is) at c.requires in
    let none = none_numbered _ (many_before c.args.version (length c.self.inside.tables) + 1) c.self.inside.statements first in
    rw (← c.self.view_is, first, none) refl
