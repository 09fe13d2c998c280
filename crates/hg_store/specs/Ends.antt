-- What a pass knows of another's transaction that is open.
use Rattle.std.specs.Prelude.{◌≡◌, IsFalse, ⊤}
use Rattle.hg_base.specs.declared.writer.Writer.{Writer}
use Rattle.hg_core.specs.Logs.{has_end}
use Rattle.hg_rule.specs.declared.view.Sight.{Sight}
use Rattle.hg_rule.specs.declared.view.Sight.TheVariants.{Saw, Heard, Took, Did}

-- what was seen of the log of a writer's session has no end of its transaction
abbrev pub HasNoEnd : Writer → Sight → Type 0
HasNoEnd w (Heard j log) = j ≡ w.session → IsFalse (has_end w.transaction log)
HasNoEnd w (Saw h) = ⊤
HasNoEnd w (Took n) = ⊤
HasNoEnd w (Did e) = ⊤
