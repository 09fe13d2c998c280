-- What a pass knows that all sessions went to.
use Rattle.std.specs.Prelude.{◌≡◌, ℕ, zero, suc, List, [], ◌∷◌, ◌++◌, map, get_or, None}
use Rattle.hg_base.specs.Lists.{Each}
use Rattle.hg_core.specs.declared.log.LogEntry.{LogEntry}
use Rattle.hg_rule.specs.declared.view.Sight.{Sight}
use Rattle.hg_rule.specs.declared.view.Sight.TheVariants.{Did}
use Rattle.hg_rule.specs.declared.view.Event.{Event}
use Rattle.hg_rule.specs.declared.view.Part.{Part}
use Rattle.hg_rule.specs.declared.view.Part.TheVariants.{OfPass}
use Rattle.hg_rule.specs.declared.view.View.{View}
use Rattle.hg_rule.specs.Keys.{session_key, count}
use Rattle.hg_rule.specs.Facts.{StartsWith, IsAmong}
use Rattle.hg_rule.specs.Reading.{passes_in}
use Rattle.hg_rule.specs.Views.{number, pass, others}
use Rattle.hg_session.specs.Ended.{visits_in}
use Rattle.hg_session.specs.OneRun.{journals_in}
use Rattle.hg_session.specs.declared.engine.Engine.{Engine}
use Rattle.hg_session.specs.declared.session.Session.{Session}
use Rattle.hg_session.specs.Sessions.{IsOf, view_of, number_of, log_of, open_of, seen_by}

-- the log of session j, which is at index j - 1
abbrev pub logs_of : List Session → ℕ → List LogEntry
logs_of sessions zero = []
logs_of sessions (suc k) = get_or (map log_of sessions) k []

-- session j of the engine, of whose transactions none is open
pub record IsClosed (e : Engine) (j : ℕ) (s : Session) : Type 0 where
  pub own : IsOf e s
  pub number_is : number_of s ≡ j
  pub closed : open_of s ≡ None

-- a view without sessions
abbrev pub HasNoSession : View → Type 0
HasNoSession v = (j : ℕ) → count (session_key j) v.parts ≡ 0

-- A pass that sessions go to keeps what it has seen, its steps, and of all passes that are joined to it how many they are, their visits and
-- their journals.
abbrev pub KeepsPass : View → View → Type 0
KeepsPass v w = StartsWith w.sights v.sights × (w.events ≡ v.events) × (visits_in w ≡ visits_in v) × (passes_in w.parts ≡ passes_in v.parts) ×
    (journals_in w ≡ journals_in v)

-- all of the first sights are among the others
abbrev pub AreAmong : List Sight → List Sight → Type 0
AreAmong some all = (x : Sight) → IsAmong x some → IsAmong x all

-- all of the steps are known to be done
abbrev pub AreDone : List Event → List Sight → Type 0
AreDone events all = (x : Event) → IsAmong x events → IsAmong (Did x) all

-- the parts of these sessions, those of the last one first
abbrev pub parts_of : List Session → List Part
parts_of [] = []
parts_of (s ∷ sessions) = parts_of sessions ++ (view_of s).parts

-- These sessions went to a pass: it has their parts after its own, and has seen what they had seen. Its own part and steps are
-- as they were.
pub record HaveGone (sessions : List Session) (v w : View) : Type 0 where
  pub parts : w.parts ≡ OfPass (number v) (pass v) ∷ (parts_of sessions ++ others v)
  pub seen : Each (λ s. AreAmong (seen_by s) w.sights) sessions
  pub kept : StartsWith w.sights v.sights
  pub events : w.events ≡ v.events
