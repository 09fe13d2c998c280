-- What was known when a line was printed.
use Rattle.std.specs.Prelude.{◌≡◌, List, map}
use Rattle.hg_base.specs.Lists.{greatest}
use Rattle.hg_base.specs.Transcript.{Said}
use Rattle.hg_known.specs.declared.before.Before.{Before}
use Rattle.hg_known.specs.Lines.{AreLasts}
use Rattle.hg_known.specs.Heard.{AreHeard, AreCommitted}
use Rattle.hg_known.specs.Marked.{AreMarks}

-- all that is kept of the earlier lines is as these lines say
pub record AreBefore (before : Before) (earlier : List Said) : Type 0 where
  pub heard : AreHeard before.heard earlier
  pub committed : AreCommitted before.committed earlier
  pub marks : AreMarks before.marks earlier
  pub lasts : AreLasts before.lasts earlier
  pub sessions : before.sessions ≡ greatest (map (λ said. said.session) earlier)
