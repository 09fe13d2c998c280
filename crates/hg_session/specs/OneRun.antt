-- What a view says of the whole run once all sessions and all passes are joined to it.
use Rattle.std.specs.Prelude.{◌≡◌, ℕ, List}
use Rattle.hg_base.specs.declared.line.Totals.{Totals}
use Rattle.hg_base.specs.History.{History}
use Rattle.hg_base.specs.Lists.{Each}
use Rattle.hg_core.specs.declared.journal.PassEntry.{PassEntry}
use Rattle.hg_core.specs.State.{CoreState}
use Rattle.hg_core.specs.Steps.{LeadsTo}
use Rattle.hg_headline.specs.OneRun.{AreTotalsAt}
use Rattle.hg_rule.specs.declared.view.View.{View}
use Rattle.hg_rule.specs.declared.view.Sizes.{Sizes}
use Rattle.hg_rule.specs.Facts.{Known}
use Rattle.hg_rule.specs.Keys.{pass_key}
use Rattle.hg_rule.specs.Reading.{seek, passes_in}
use Rattle.hg_rule.specs.Rules.{IsSized, new_state}
use Rattle.hg_rule.specs.Views.{pass_there}
use Rattle.hg_session.specs.Ended.{logs_in, visits_in}

-- the journal of each pass
abbrev pub journals_in : View → ℕ → List PassEntry
journals_in v = λ p. (pass_there (seek (pass_key p) v.parts)).journal

-- There is one list of steps from a new board. It ends with this history and these totals, and with the logs, the passes, their visits and
-- their journals that the view has. What the view has seen is so at its end.
pub record EndsOneRun (z : Sizes) (v : View) (history : History) (totals : Totals) : Type 0 where
  pub state : CoreState
  pub reached : LeadsTo (new_state z) state
  pub sized : IsSized z state
  pub logs : state.log ≡ logs_in v
  pub history_is : state.history ≡ history
  pub passes : state.passes ≡ passes_in v.parts
  pub visits : state.visits ≡ visits_in v
  pub journals : (p : ℕ) → (state.pass p).journal ≡ journals_in v p
  pub seen : Each (Known state) v.sights
  pub counted : AreTotalsAt state totals
