-- What fails first of the lines.
use Rattle.std.specs.Prelude.{ℕ, List, [], Option, Some, None}
use Rattle.std.specs.Option.{MatchOption}
use Rattle.hg_base.specs.declared.statement.Record.{Record}
use Rattle.hg_base.specs.declared.line.Line.{Line}
use Rattle.hg_base.specs.declared.line.Totals as printed
use Rattle.hg_base.specs.Lists.{EachAfter}
use Rattle.hg_base.specs.Script.{Mode}
use Rattle.hg_base.specs.History.{NoLostUpdate}
use Rattle.hg_base.specs.Transcript.{Said, said_from, history_of}
use Rattle.hg_base.specs.Shape.{HasShape}
use Rattle.hg_base.specs.Counts.{AreTotals}
use Rattle.hg_decide.specs.Audit.{FirstOutOfShape, FirstWithout, GiveHistory, IsRightReply, IsKnown}
use Rattle.hg_audit.specs.declared.fault.Faults.{Faults}
use Rattle.hg_audit.specs.declared.fault.Found.{Found}
use Rattle.hg_audit.specs.declared.fault.Found.TheVariants.{Right, Shape, Commits, Reply, Fresh, Totals}

-- of lines that give a history, with totals: all is right, or what fails first
abbrev pub IsJudged : Mode → List Said → printed.Totals → Found → Type 0
IsJudged mode all totals Right = EachAfter (IsRightReply mode all) [] all × EachAfter (IsKnown mode all) [] all × AreTotals all (history_of all) totals
IsJudged mode all totals (Reply k) = FirstWithout (IsRightReply mode all) [] all k
IsJudged mode all totals (Fresh k) = EachAfter (IsRightReply mode all) [] all × FirstWithout (IsKnown mode all) [] all k
IsJudged mode all totals Totals = EachAfter (IsRightReply mode all) [] all × EachAfter (IsKnown mode all) [] all × ¬ AreTotals all (history_of all) totals
IsJudged mode all totals _ = ⊥

-- of lines whose commits give a history: an update is lost in it, or else all is right, or what fails first
abbrev pub IsDecided : Mode → List Said → printed.Totals → Found → Type 0
IsDecided mode all totals Commits = ¬ NoLostUpdate (history_of all)
IsDecided mode all totals found = NoLostUpdate (history_of all) × IsJudged mode all totals found

-- of any lines with these records, and any totals: all is right, or what fails first
abbrev pub IsFound : Mode → List Record → List Line → printed.Totals → Found → Type 0
IsFound mode records lines totals (Shape k) = FirstOutOfShape records lines k
IsFound mode records lines totals Commits = HasShape records lines × ¬ GiveHistory (said_from [] records lines)
IsFound mode records lines totals found = HasShape records lines × GiveHistory (said_from [] records lines) × IsJudged mode (said_from [] records lines) totals found

-- the first line of which P does not hold with the lines before it, or none
abbrev pub IsFirst : (List Said → Said → Type 0) → List Said → Option ℕ → Type 0
IsFirst P all found = MatchOption found (EachAfter P [] all) (λ k. FirstWithout P [] all k)

-- the first lines that are wrong, where no update is lost
abbrev pub AreFaults : Mode → List Said → Option Faults → Type 0
AreFaults mode all None = ¬ NoLostUpdate (history_of all)
AreFaults mode all (Some faults) = NoLostUpdate (history_of all) × IsFirst (IsRightReply mode all) all faults.unanswered × IsFirst (IsKnown mode all) all faults.unordered
