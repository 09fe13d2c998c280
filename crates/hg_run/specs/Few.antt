-- How few versions a replay holds after a round of the interval collector.
use Rattle.std.specs.Prelude.{◌≡◌, ◌++◌, List, [], ◌∷◌, length, Some, ⊤}
use Rattle.hg_base.specs.declared.rid.Rid.{Rid}
use Rattle.hg_base.specs.declared.line.Line.{Line}
use Rattle.hg_base.specs.declared.line.Reply.{Reply}
use Rattle.hg_base.specs.declared.report.Kind.TheVariants.{Interval}
use Rattle.hg_base.specs.declared.report.Sweep.{Sweep}
use Rattle.hg_base.specs.Script.{Mode, Script, replay, run}
use Rattle.hg_base.specs.Shape.{report_of}
use Rattle.hg_base.specs.Sound.{all_said}
use Rattle.hg_core.specs.Few.{IsCleanFor}
use Rattle.hg_headline.specs.Few.{HoldsFew}
use Rattle.hg_session.specs.declared.engine.Engine.{Engine}
use Rattle.hg_session.specs.declared.session.Session.{Session}
use Rattle.hg_session.specs.Moment.{AreAtOnce}
use Rattle.hg_collectors.specs.declared.collectors.Collectors.{Collectors}
use Rattle.hg_run.specs.Collecting.{passes_of}

-- ---- by the lines

-- whenever the lines so far end with an interval report, they hold few versions, for as many snapshots as it lists
abbrev pub KeepsFew : Script → List Line → Type 0
KeepsFew script lines = (before after : List Line) (line : Line) (sweep : Sweep) → lines ≡ before ++ line ∷ after → report_of line.reply ≡ Some sweep → sweep.kind ≡ Interval →
    HoldsFew (length sweep.held) (all_said replay script (before ++ line ∷ []))

-- a replay does; of a run no such thing is said
abbrev pub KeepsFewIn : Mode → Script → List Line → Type 0
KeepsFewIn replay script lines = KeepsFew script lines
KeepsFewIn (run rounds) script lines = ⊤

-- ---- by the state

-- one state has these logs and visits, and each record is clean there at the mark, for as many snapshots as the report lists
pub record LeavesFew (e : Engine) (list : List Session) (collectors : Collectors) (sweep : Sweep) : Type 0 where
  pub moment : AreAtOnce e list (passes_of collectors)
  pub clean : (r : Rid) → IsCleanFor moment.state (length sweep.held) r

-- the same of a reply, if it reports an interval round
abbrev pub LeavesFewIfSwept : Engine → List Session → Collectors → Reply → Type 0
LeavesFewIfSwept e list collectors reply = (sweep : Sweep) → report_of reply ≡ Some sweep → sweep.kind ≡ Interval → LeavesFew e list collectors sweep
