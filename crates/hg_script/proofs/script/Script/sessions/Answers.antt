use Rattle.std.proofs.Common.{◌∙◌, ap, sym, max, length, ◌+◌}
use Rattle.hg_base.specs.Lists.{greatest}
use Rattle.hg_script.specs.Numbered.{many_before}
use Rattle.hg_script.proofs.Numbered.{numbered_sessions}
use Rattle.hg_script.proofs.script.Script.sessions.Goals as goal

pub returns : goal.returns
returns c =
    rw (← c.self.view_is) (c.sessions.ensures ∙ ap (λ ns. max 1 (greatest ns)) (sym (numbered_sessions (many_before c.self.inside.version (length c.self.inside.tables) + 1) c.self.inside.statements)))
