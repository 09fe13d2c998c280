use Rattle.std.proofs.Common.{◌≡◌, take}
use Rattle.hg_base.specs.Lists.{Each}
use Rattle.hg_base.specs.Script.{Mode}
use Rattle.hg_base.specs.Sound.{IsWhole}
use Rattle.hg_base.specs.Transcript.{commits, history_of}
use Rattle.hg_decide.specs.Audit.{IsKnown, IsRightReply}
use Rattle.hg_known.specs.Before.{AreBefore}
use Rattle.hg_known.specs.Commits.{LosesNone}
use Rattle.hg_known.specs.Ended.{AreOpenOwn, ForgetsOver}
use Rattle.hg_known.specs.Written.{IsOfHistory}
use Rattle.hg_known.proofs.Walking.{earlier_at}
use Rattle.hg_audit.specs.Judged.{IsOf}
use Rattle.hg_audit.specs.Known.{Knows}
use Rattle.hg_audit.proofs.Firsts.{SoFar}
use Rattle.hg_audit.proofs.fault.find_faults.Given as goal

abbrev pub invariant-loop-k : goal.invariant-loop-k
invariant-loop-k l = record {
  reader : l.reader ≡ (l.k, l.all);
  own : AreOpenOwn l.own (earlier_at l.all l.k);
  over : ForgetsOver l.own (earlier_at l.all l.k);
  before : AreBefore l.before (earlier_at l.all l.k);
  kept : IsWhole l.all → IsOfHistory (history_of l.all) l.facts.past.now.writes → Each (LosesNone (commits l.all)) (commits (take l.k l.all));
  answered : (mode : Mode) → IsOf l.facts.command mode → Knows (history_of l.all) l.all l.facts → SoFar (IsRightReply mode l.all) l.all l.k l.unanswered;
  ordered : (mode : Mode) → IsOf l.facts.command mode → Knows (history_of l.all) l.all l.facts → SoFar (IsKnown mode l.all) l.all l.k l.unordered;
}
