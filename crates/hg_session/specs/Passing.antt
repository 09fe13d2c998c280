-- The passes of an engine's collectors.
use Rattle.std.specs.Prelude.{◌≡◌, ℕ, eqb, List, [], ◌∷◌, if◌then◌else◌}
use Rattle.hg_core.specs.declared.journal.PassEntry.{PassEntry}
use Rattle.hg_core.specs.declared.visit.Visit.{Visit}
use Rattle.hg_rule.specs.declared.passes.CollectorPass.{CollectorPass}
use Rattle.hg_rule.specs.declared.view.Part.TheVariants.{OfPass}
use Rattle.hg_rule.specs.Keys.{first_share}
use Rattle.hg_rule.specs.Views.{pass}
use Rattle.hg_rule.specs.Seats.{BoardId, pass_view, IsPassOf}
use Rattle.hg_session.specs.declared.engine.Engine.{Engine}
use Rattle.hg_session.specs.declared.engine.Passes.{Passes}
use Rattle.hg_session.specs.Engines.{engine_board_id}

-- pass p of a board, which has its own part alone, with all of its share
pub record IsAlonePass (t : BoardId) (p : ℕ) (c : CollectorPass) : Type 0 where
  pub own : IsPassOf t c
  pub only : (pass_view c).parts ≡ OfPass p (pass (pass_view c)) ∷ []
  pub share : (pass (pass_view c)).share ≡ first_share

-- the three passes of an engine, whatever rounds they made
pub record AreAlone (e : Engine) (passes : Passes) : Type 0 where
  pub group : IsAlonePass (engine_board_id e) 0 passes.group
  pub table : IsAlonePass (engine_board_id e) 1 passes.table
  pub interval : IsAlonePass (engine_board_id e) 2 passes.interval

-- these three
abbrev pub passes_with : CollectorPass → CollectorPass → CollectorPass → Passes
passes_with group table interval = record { group = group; table = table; interval = interval }

-- the visits of each, by its number
abbrev pub visits_of : Passes → ℕ → List Visit
visits_of passes p =
    if eqb 1 p then (pass (pass_view passes.table)).visits
    else (if eqb 2 p then (pass (pass_view passes.interval)).visits
    else (if eqb 0 p then (pass (pass_view passes.group)).visits
    else []))

-- the journal of each, by its number
abbrev pub journals_of : Passes → ℕ → List PassEntry
journals_of passes p =
    if eqb 1 p then (pass (pass_view passes.table)).journal
    else (if eqb 2 p then (pass (pass_view passes.interval)).journal
    else (if eqb 0 p then (pass (pass_view passes.group)).journal
    else []))
