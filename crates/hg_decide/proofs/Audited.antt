-- Faults are decided by computation. Kept in step with `Audit`.
use Rattle.std.proofs.Common.{ℕ, zero, suc, List, [], ◌∷◌}
use Rattle.hg_base.specs.declared.statement.Record.{Record}
use Rattle.hg_base.specs.declared.line.Line.{Line}
use Rattle.hg_base.specs.declared.line.Printed.{Printed}
use Rattle.hg_base.specs.Script.{Script, Mode}
use Rattle.hg_base.specs.Transcript.{Said, in_order, history_of}
use Rattle.hg_base.specs.Sound.{all_said}
use Rattle.hg_decide.specs.Audit.{Fault, in_shape, in_commits, in_reply, in_fresh, in_totals, FirstOutOfShape, FirstWithout, GiveHistory, IsRightReply, IsKnown, HasFault}
use Rattle.hg_decide.proofs.Decide.{Decided, decide_equal, decide_never, decide_both, decide_all3, decide_all4, decide_all5, decide_not, decide_each_after}
use Rattle.hg_decide.proofs.DecidedCommits.{decide_line, decide_shape, decide_whole, decide_no_lost_update}
use Rattle.hg_decide.proofs.DecidedReplies.{decide_reply}
use Rattle.hg_decide.proofs.Decided.{decide_conflict, decide_fresh, decide_totals}

abbrev pub decide_out_of_shape : (records : List Record) (lines : List Line) (k : ℕ) → Decided (FirstOutOfShape records lines k)
decide_out_of_shape [] [] k = decide_never
decide_out_of_shape [] (line ∷ lines) k = decide_equal k 0
decide_out_of_shape (r ∷ rs) [] k = decide_equal k 0
decide_out_of_shape (r ∷ rs) (line ∷ lines) zero = decide_not (decide_line r line)
decide_out_of_shape (r ∷ rs) (line ∷ lines) (suc k) = decide_both (decide_line r line) (decide_out_of_shape rs lines k)

abbrev pub decide_without : (P : List Said → Said → Type 0) → ((earlier : List Said) (now : Said) → Decided (P earlier now)) → (earlier all : List Said) (k : ℕ) →
    Decided (FirstWithout P earlier all k)
decide_without P d earlier [] k = decide_never
decide_without P d earlier (now ∷ later) zero = decide_not (d earlier now)
decide_without P d earlier (now ∷ later) (suc k) = decide_both (d earlier now) (decide_without P d (now ∷ earlier) later k)

abbrev pub decide_history : (all : List Said) → Decided (GiveHistory all)
decide_history all = decide_both (decide_whole all) (decide_no_lost_update (history_of all))

abbrev pub decide_answered : (mode : Mode) (all : List Said) (earlier : List Said) (now : Said) → Decided (IsRightReply mode all earlier now)
decide_answered mode all earlier now = decide_both (decide_reply mode (history_of all) earlier now) (decide_conflict mode (history_of all) all earlier now)

abbrev pub decide_known : (mode : Mode) (all : List Said) (earlier : List Said) (now : Said) → Decided (IsKnown mode all earlier now)
decide_known mode all earlier now = decide_fresh mode (history_of all) all earlier now

abbrev pub decide_fault : (mode : Mode) (script : Script) (printed : Printed) (fault : Fault) → Decided (HasFault mode script printed fault)
decide_fault mode script printed (in_shape k) = decide_out_of_shape (in_order mode script.records) printed.lines k
decide_fault mode script printed in_commits = decide_both (decide_shape (in_order mode script.records) printed.lines) (decide_not (decide_history (all_said mode script printed.lines)))
decide_fault mode script printed (in_reply k) =
    let all = all_said mode script printed.lines in
    decide_all3 (decide_shape (in_order mode script.records) printed.lines) (decide_history all) (decide_without (IsRightReply mode all) (decide_answered mode all) [] all k)
decide_fault mode script printed (in_fresh k) =
    let all = all_said mode script printed.lines in
    decide_all4 (decide_shape (in_order mode script.records) printed.lines) (decide_history all) (decide_each_after (IsRightReply mode all) (decide_answered mode all) [] all)
    (decide_without (IsKnown mode all) (decide_known mode all) [] all k)
decide_fault mode script printed in_totals =
    let all = all_said mode script printed.lines in
    decide_all5 (decide_shape (in_order mode script.records) printed.lines) (decide_history all) (decide_each_after (IsRightReply mode all) (decide_answered mode all) [] all)
    (decide_each_after (IsKnown mode all) (decide_known mode all) [] all) (decide_not (decide_totals all (history_of all) printed.totals))
