-- What a pass knows, and removes, once all sessions rest.
use Rattle.std.specs.Prelude.{◌≡◌, ℕ, ◌≤◌, List}
use Rattle.hg_base.specs.declared.report.Kind.TheVariants.{Group, Table, Interval}
use Rattle.hg_core.specs.declared.visit.Visit.{Visit}
use Rattle.hg_core.specs.Phases.{IsSession}
use Rattle.hg_rule.specs.declared.view.View.{View}
use Rattle.hg_rule.specs.declared.view.Sizes.{Sizes}
use Rattle.hg_rule.specs.Views.{number, pass}
use Rattle.hg_core.specs.Counters.{removed_all}
use Rattle.hg_session.specs.Ended.{logs_in, visits_in}
use Rattle.hg_session.specs.OneRun.{journals_in}
use Rattle.hg_rule.specs.Facts.{IsHeard}

-- the whole log of each session was heard
abbrev pub HasHeardAll : Sizes → View → Type 0
HasHeardAll z v = (j : ℕ) → IsSession z.sessions j → IsHeard j (logs_in v j) v.sights

-- what the later visits removed was removed for tables
pub record RemovesForTables (before after : List Visit) : Type 0 where
  pub group : removed_all Group after ≡ removed_all Group before
  pub table : removed_all Table before ≤ removed_all Table after
  pub interval : removed_all Interval after ≡ removed_all Interval before

-- A pass has visits and a journal of its own, and those of all other passes that are joined to it stay.
pub record KeepsOthers (v w : View) : Type 0 where
  pub number_is : number w ≡ number v
  pub own_visits : visits_in w (number v) ≡ (pass w).visits
  pub own_journal : journals_in w (number v) ≡ (pass w).journal
  pub visits : (p : ℕ) → (p ≡ number v → ⊥) → visits_in w p ≡ visits_in v p
  pub journals : (p : ℕ) → (p ≡ number v → ⊥) → journals_in w p ≡ journals_in v p
