-- What a printed text has to be: the headline, as one fact about a script and what was printed for it.
use Rattle.std.specs.Prelude.{◌≤◌, List, []}
use Rattle.hg_base.specs.declared.line.Line.{Line}
use Rattle.hg_base.specs.declared.line.Printed.{Printed}
use Rattle.hg_base.specs.Lists.{Each, EachAfter}
use Rattle.hg_base.specs.Script.{Script, Mode}
use Rattle.hg_base.specs.History.{History, IsHistory, NoLostUpdate}
use Rattle.hg_base.specs.Transcript.{Said, in_order, said_from, commits, history_of}
use Rattle.hg_base.specs.Shape.{HasShape}
use Rattle.hg_base.specs.Replies.{IsReply}
use Rattle.hg_base.specs.Conflicts.{ShowsConflict}
use Rattle.hg_base.specs.Freshness.{IsFresh}
use Rattle.hg_base.specs.Counts.{AreTotals}

-- the printed commit numbers are 1 to N, and what they give is a history
pub record IsWhole (all : List Said) : Type 0 where
  pub numbers : Each (λ p. 1 ≤ p.0) (commits all)
  pub history : IsHistory (history_of all)

-- one line, of all lines, in the history h that they print
pub record IsRight (mode : Mode) (h : History) (all : List Said) (earlier : List Said) (now : Said) : Type 0 where
  pub reply : IsReply mode h earlier now
  pub conflict : ShowsConflict mode h all earlier now
  pub fresh : IsFresh mode h all earlier now

-- all lines, read together with their records
pub record AreRight (mode : Mode) (all : List Said) : Type 0 where
  pub whole : IsWhole all
  pub kept : NoLostUpdate (history_of all)
  pub lines : EachAfter (IsRight mode (history_of all) all) [] all

-- the printed lines with their records
abbrev pub all_said : Mode → Script → List Line → List Said
all_said mode script lines = said_from [] (in_order mode script.records) lines

-- The lines that a script may print.
pub record LinesAreSound (mode : Mode) (script : Script) (lines : List Line) : Type 0 where
  pub shape : HasShape (in_order mode script.records) lines
  pub right : AreRight mode (all_said mode script lines)

-- All that a script may print.
pub record IsSound (mode : Mode) (script : Script) (printed : Printed) : Type 0 where
  pub lines : LinesAreSound mode script printed.lines
  pub totals : AreTotals (all_said mode script printed.lines) (history_of (all_said mode script printed.lines)) printed.totals
