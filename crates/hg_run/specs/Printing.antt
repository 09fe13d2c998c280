-- What a script may print.
use Rattle.std.specs.Prelude.{◌≡◌, ℕ, List, map, ⊤}
use Rattle.std.specs.List.{flat_map}
use Rattle.hg_base.specs.declared.line.Line.{Line}
use Rattle.hg_base.specs.declared.line.Printed.{Printed}
use Rattle.hg_base.specs.declared.line.Totals.{Totals}
use Rattle.hg_base.specs.Script.{Mode, Script, replay, run}
use Rattle.hg_base.specs.Sound.{IsSound}
use Rattle.hg_base.specs.Text.{IsFit, text_of, totals_records}
use Rattle.hg_records.specs.Bytes.{record_bytes}
use Rattle.hg_exact.specs.Replayed.{plain, replayed}
use Rattle.hg_seed.specs.Generator.{IsMade}
use Rattle.hg_headline.specs.OneRun.{IsOneRun}
use Rattle.hg_run.specs.Driven.{sessions_in}
use Rattle.hg_run.specs.Few.{KeepsFewIn}
use Rattle.hg_run.specs.Words.{Settings}

-- One list of steps printed these lines and these totals, under these settings, with the script's sessions and so many that print no line.
pub record PrintsOneRun (more : ℕ) (settings : Settings) (script : Script) (lines : List Line) (totals : Totals) : Type 0 where
  -- how many statements a session might have run
  pub quota : ℕ
  pub run : IsOneRun (sessions_in script) more settings.buckets quota settings.long script lines totals

-- On one thread the lines are those that are replayed, but for what their reports say was removed and moved. So they are a function of
-- the script. Of a run no such thing is said.
abbrev pub AreExact : Mode → Script → List Line → Type 0
AreExact replay script lines = map plain lines ≡ replayed script
AreExact (run rounds) script lines = ⊤

-- A text that a script may print under these settings: that of a printed value which is sound for it, exact and of few versions in a replay,
-- fits it, and is what one list of steps printed. So the text determines the value.
pub record IsPrintedFor (settings : Settings) (script : Script) (text : List ℕ) : Type 0 where
  pub printed : Printed
  pub sound : IsSound settings.mode script printed
  pub exact : AreExact settings.mode script printed.lines
  pub few : KeepsFewIn settings.mode script printed.lines
  pub fit : IsFit script printed
  pub one_run : PrintsOneRun 0 settings script printed.lines printed.totals
  pub same : text ≡ text_of record_bytes script printed

-- The totals of lines that a script prints in a replay: both are sound for it and fit it, one list of steps printed both, and the lines are
-- exact.
pub record HasTotals (settings : Settings) (script : Script) (totals : Totals) : Type 0 where
  pub lines : List Line
  pub sound : IsSound replay script (record { lines = lines; totals = totals })
  pub exact : AreExact replay script lines
  pub fit : IsFit script (record { lines = lines; totals = totals })
  pub one_run : PrintsOneRun 0 settings script lines totals

-- the same of the script of a seed
pub record HasTotalsBy (seed : ℕ) (settings : Settings) (totals : Totals) : Type 0 where
  pub script : Script
  pub made : IsMade seed script
  pub has : HasTotals settings script totals

-- The text of the totals of a printed value that is sound and exact for the script of a seed in a replay, fits it, and is what one list of
-- steps printed: the last six records of its text.
pub record AreTotalsOf (seed : ℕ) (settings : Settings) (text : List ℕ) : Type 0 where
  pub script : Script
  pub made : IsMade seed script
  pub printed : Printed
  pub sound : IsSound replay script printed
  pub exact : AreExact replay script printed.lines
  pub fit : IsFit script printed
  pub one_run : PrintsOneRun 0 settings script printed.lines printed.totals
  pub same : text ≡ flat_map record_bytes (totals_records printed.totals)
