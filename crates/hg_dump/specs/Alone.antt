-- What is right of the lines of a run without the reader's: all that is right of a run, with one change.
use Rattle.std.specs.Prelude.{◌≡◌, ◌⊎◌, ℕ, ◌≤◌, ◌==◌, List, [], length, map, filter_map, IfSome, IsFalse, IsTrue}
use Rattle.std.specs.List.{list_any}
use Rattle.hg_base.specs.declared.report.Sweep.{Sweep}
use Rattle.hg_base.specs.declared.report.Told.{Told}
use Rattle.hg_base.specs.declared.line.Printed.{Printed}
use Rattle.hg_base.specs.Conflicts.{ShowsConflict}
use Rattle.hg_base.specs.Counts.{AreTotals}
use Rattle.hg_base.specs.Freshness.{IsHeld, known, mark_of, snapshot_of}
use Rattle.hg_base.specs.History.{History, NoLostUpdate}
use Rattle.hg_base.specs.Lists.{Ascends, Each, EachAfter}
use Rattle.hg_base.specs.Replies.{IsReply}
use Rattle.hg_base.specs.Script.{Script, run}
use Rattle.hg_base.specs.Shape.{HasShape, report_of}
use Rattle.hg_base.specs.Sound.{IsWhole, all_said}
use Rattle.hg_base.specs.Transcript.{Said, history_of, in_order}
use Rattle.hg_dump.specs.Reader.{reader_of}

-- a held snapshot of the reader: one at which it read, and not moved
pub record IsReaders (script : Script) (ats : List ℕ) (told : Told) : Type 0 where
  pub session : told.session ≡ reader_of script
  pub read : IsTrue (list_any (λ at. at == told.number) ats)
  pub unmoved : IsFalse told.moved

-- a report as `IsReported` of `hg_base` has it, but a held snapshot may be the reader's: this is the one change
pub record IsReportedBut (script : Script) (ats : List ℕ) (h : History) (all : List Said) (earlier : List Said) (sweep : Sweep) : Type 0 where
  pub rising : Each (λ mark. mark ≤ sweep.mark) (filter_map (mark_of sweep.kind) earlier)
  pub horizon : sweep.horizon ≤ sweep.mark
  pub mark : sweep.mark ≤ length h
  pub sessions : Ascends (map (λ told. told.session) sweep.held)
  pub held : Each (λ told. IsHeld all told ⊎ IsReaders script ats told) sweep.held

-- one line of a run
pub record IsRightBut (rounds : ℕ) (script : Script) (ats : List ℕ) (h : History) (all : List Said) (earlier : List Said) (now : Said) : Type 0 where
  pub reply : IsReply (run rounds) h earlier now
  pub conflict : ShowsConflict (run rounds) h all earlier now
  pub rising : IfSome (snapshot_of now) (λ s. Each (λ n. n ≤ s) (known now.session earlier))
  pub report : IfSome (report_of now.reply) (IsReportedBut script ats h all earlier)

-- all that a run printed
pub record IsSoundBut (rounds : ℕ) (script : Script) (ats : List ℕ) (printed : Printed) : Type 0 where
  pub shape : HasShape (in_order (run rounds) script.records) printed.lines
  pub whole : IsWhole (all_said (run rounds) script printed.lines)
  pub kept : NoLostUpdate (history_of (all_said (run rounds) script printed.lines))
  pub lines : EachAfter (IsRightBut rounds script ats (history_of (all_said (run rounds) script printed.lines)) (all_said (run rounds) script printed.lines)) []
      (all_said (run rounds) script printed.lines)
  pub totals : AreTotals (all_said (run rounds) script printed.lines) (history_of (all_said (run rounds) script printed.lines)) printed.totals
