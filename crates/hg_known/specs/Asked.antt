-- Which lines ask for what all lines say.
use Rattle.std.specs.Prelude.{◌==◌, Bool, true, false, not, length}
use Rattle.hg_base.specs.declared.line.Answer.TheVariants.{OpenBy, Swept}
use Rattle.hg_base.specs.Transcript.{Said}

-- a write is refused for another's open write
abbrev pub names_writer : Said → Bool
names_writer said = elim said.reply.answer [ OpenBy writer ↦ true | _ ↦ false ]

-- a report names held snapshots
abbrev pub tells_held : Said → Bool
tells_held said = elim said.reply.answer [ Swept sweep ↦ not (length sweep.held == 0) | _ ↦ false ]
