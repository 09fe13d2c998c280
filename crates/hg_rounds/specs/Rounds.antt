-- What a clause says of a collector's rounds.
use Rattle.std.specs.Prelude.{◌≤◌}
use Rattle.hg_base.specs.declared.report.Report.{Report}
use Rattle.hg_rule.specs.declared.passes.CollectorPass.{CollectorPass}
use Rattle.hg_rule.specs.declared.view.View.{View}
use Rattle.hg_rule.specs.declared.view.Sizes.{Sizes}
use Rattle.hg_rule.specs.Seats.{BoardId, pass_view, IsPassOf}
use Rattle.hg_tracker.specs.Gathers.{IsMadeFor}
use Rattle.hg_rounds.specs.declared.rounds.Rounds.{Rounds}

-- their pass
abbrev pub pass_of : Rounds → CollectorPass
pass_of r = r.pass

-- what the pass sees
abbrev pub view_of : Rounds → View
view_of r = pass_view r.pass

-- the last report
abbrev pub report_in : Rounds → Report
report_in r = r.report

-- the same with another pass
abbrev pub with_pass : Rounds → CollectorPass → Rounds
with_pass r p = record r { pass = p }

-- their pass is of this board, and they have room for the board's sessions and tables
abbrev pub AreRoundsOf : BoardId → Sizes → Rounds → Type 0
AreRoundsOf t z r = IsPassOf t r.pass × (IsMadeFor z.sessions z.tables r.gathered × (z.sessions ≤ r.report.entries.room))
