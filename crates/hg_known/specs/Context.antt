-- What is kept of all lines, where some line asks for it.
use Rattle.std.specs.Prelude.{List, Bool, ◌&&◌, IsTrue}
use Rattle.std.specs.List.{list_any}
use Rattle.hg_base.specs.Transcript.{Said}
use Rattle.hg_known.specs.declared.context.Context.{Context}
use Rattle.hg_known.specs.declared.context.Wants.{Wants}
use Rattle.hg_known.specs.Asked.{names_writer, tells_held}
use Rattle.hg_known.specs.Owned.{AreOwn}
use Rattle.hg_known.specs.Ended.{AreNumbers}
use Rattle.hg_known.specs.Marked.{ArePoints}

-- which parts some line asks for: what is stored, in a run alone, and commit numbers where a write is refused for an open one, and
-- printed snapshots where a report names held ones
abbrev pub wants_of : Bool → List Said → Wants
wants_of is_run all = record { stored = is_run && list_any names_writer all; numbers = list_any names_writer all; points = list_any tells_held all }

-- each part that is asked for is that of these lines
pub record IsContext (wants : Wants) (context : Context) (lines : List Said) : Type 0 where
  pub stored : IsTrue wants.stored → AreOwn context.stored lines
  pub numbers : IsTrue wants.numbers → AreNumbers context.numbers lines
  pub points : IsTrue wants.points → ArePoints context.points lines
