-- The first part of `IsSound` that fails, and where.
use Rattle.std.specs.Prelude.{◌≡◌, ℕ, zero, suc, List, [], ◌∷◌}
use Rattle.hg_base.specs.declared.statement.Record.{Record}
use Rattle.hg_base.specs.declared.line.Line.{Line}
use Rattle.hg_base.specs.declared.line.Printed.{Printed}
use Rattle.hg_base.specs.Lists.{EachAfter}
use Rattle.hg_base.specs.Script.{Script, Mode}
use Rattle.hg_base.specs.History.{NoLostUpdate}
use Rattle.hg_base.specs.Transcript.{Said, in_order, history_of}
use Rattle.hg_base.specs.Shape.{IsLineOf, HasShape}
use Rattle.hg_base.specs.Replies.{IsReply}
use Rattle.hg_base.specs.Conflicts.{ShowsConflict}
use Rattle.hg_base.specs.Freshness.{IsFresh}
use Rattle.hg_base.specs.Counts.{AreTotals}
use Rattle.hg_base.specs.Sound.{IsWhole, all_said}

-- The part that fails: the shape at a line, the commits, the reply of a line, what was known at a line, or the totals.
-- Lines count from 0.
pub data Fault : Type 0 where
  in_shape : ℕ → Fault
  in_commits : Fault
  in_reply : ℕ → Fault
  in_fresh : ℕ → Fault
  in_totals : Fault

-- line k is the first that is not the next one of the shape, or the first that is missing
abbrev pub FirstOutOfShape : List Record → List Line → ℕ → Type 0
FirstOutOfShape [] [] k = ⊥
FirstOutOfShape [] (line ∷ lines) k = k ≡ 0
FirstOutOfShape (r ∷ rs) [] k = k ≡ 0
FirstOutOfShape (r ∷ rs) (line ∷ lines) zero = ¬ IsLineOf r line
FirstOutOfShape (r ∷ rs) (line ∷ lines) (suc k) = IsLineOf r line × FirstOutOfShape rs lines k

-- line k is the first of which P does not hold, with the lines before it
abbrev pub FirstWithout : (List Said → Said → Type 0) → List Said → List Said → ℕ → Type 0
FirstWithout P earlier [] k = ⊥
FirstWithout P earlier (now ∷ later) zero = ¬ P earlier now
FirstWithout P earlier (now ∷ later) (suc k) = P earlier now × FirstWithout P (now ∷ earlier) later k

-- the printed commits give a history, in which no update is lost
abbrev pub GiveHistory : List Said → Type 0
GiveHistory all = IsWhole all × NoLostUpdate (history_of all)

-- of one line: its reply, and the cause of a refused write
abbrev pub IsRightReply : Mode → List Said → List Said → Said → Type 0
IsRightReply mode all earlier now = IsReply mode (history_of all) earlier now × ShowsConflict mode (history_of all) all earlier now

-- of one line: it is in order with what was known when it was printed
abbrev pub IsKnown : Mode → List Said → List Said → Said → Type 0
IsKnown mode all earlier now = IsFresh mode (history_of all) all earlier now

-- The part fails, and those before it hold.
abbrev pub HasFault : Mode → Script → Printed → Fault → Type 0
HasFault mode script printed (in_shape k) = FirstOutOfShape (in_order mode script.records) printed.lines k
HasFault mode script printed in_commits = HasShape (in_order mode script.records) printed.lines × ¬ GiveHistory (all_said mode script printed.lines)
HasFault mode script printed (in_reply k) =
    let all = all_said mode script printed.lines in
    HasShape (in_order mode script.records) printed.lines × GiveHistory all × FirstWithout (IsRightReply mode all) [] all k
HasFault mode script printed (in_fresh k) =
    let all = all_said mode script printed.lines in
    HasShape (in_order mode script.records) printed.lines × GiveHistory all × EachAfter (IsRightReply mode all) [] all × FirstWithout (IsKnown mode all) [] all k
HasFault mode script printed in_totals =
    let all = all_said mode script printed.lines in
    HasShape (in_order mode script.records) printed.lines × GiveHistory all × EachAfter (IsRightReply mode all) [] all × EachAfter (IsKnown mode all) [] all ×
    ¬ AreTotals all (history_of all) printed.totals
