-- What moves of long snapshots make of a pass's view.
use Rattle.std.specs.Prelude.{◌≡◌, ℕ, suc, ◌-◌, ◌&&◌, not, nat_le, if◌then◌else◌, Bool, List, [], ◌∷◌, ◌++◌, length, filter}
use Rattle.hg_base.specs.declared.report.Entry.{Entry}
use Rattle.hg_base.specs.Freshness.{is_declared}
use Rattle.hg_core.specs.declared.loaded.Loaded.{Loaded}
use Rattle.hg_core.specs.declared.journal.PassEntry.{PassEntry}
use Rattle.hg_core.specs.declared.journal.PassEntry.TheVariants.{Tried}
use Rattle.hg_core.specs.Events.{moved_in}
use Rattle.hg_rule.specs.declared.view.Part.TheVariants.{OfPass}
use Rattle.hg_rule.specs.declared.view.Event.{Event}
use Rattle.hg_rule.specs.declared.view.Event.TheVariants.{Move}
use Rattle.hg_rule.specs.declared.view.View.{View}
use Rattle.hg_rule.specs.Views.{number, pass, others}
use Rattle.hg_rule.specs.Rounds.{entries_of}

-- an entry is long in use at a mark: its tables are declared, it isn't moved, and it is so many commits old
abbrev pub is_long : ℕ → ℕ → Entry → Bool
is_long mark long e = is_declared e.scope && (not e.moved && (nat_le e.number mark && nat_le long (mark - e.number)))

-- a try for each entry, with its outcome
abbrev pub tries_of : ℕ → List Entry → List Bool → List Event
tries_of p [] outcomes = []
tries_of p (e ∷ entries) [] = []
tries_of p (e ∷ entries) (moved ∷ outcomes) = Move p e.session e.number moved ∷ tries_of p entries outcomes

-- the journal's entry of each try, with its outcome
abbrev pub try_notes : List Entry → List Bool → List PassEntry
try_notes [] outcomes = []
try_notes (e ∷ entries) [] = []
try_notes (e ∷ entries) (moved ∷ outcomes) = Tried e.session e.number moved ∷ try_notes entries outcomes

-- what a record has loaded after the tries
abbrev pub moved_by : List Entry → List Bool → List (ℕ × Loaded) → List (ℕ × Loaded)
moved_by [] outcomes loaded = loaded
moved_by (e ∷ entries) [] loaded = loaded
moved_by (e ∷ entries) (moved ∷ outcomes) loaded = moved_by entries outcomes (if moved then moved_in e.session loaded else loaded)

-- how many tries succeeded
abbrev pub successes : List Bool → ℕ
successes [] = 0
successes (moved ∷ outcomes) = if moved then suc (successes outcomes) else successes outcomes

-- a pass tried to move each of these entries once, and nothing else
pub record HasTried (v : View) (entries : List Entry) (count : ℕ) (w : View) : Type 0 where
  pub outcomes : List Bool
  pub each : length outcomes ≡ length entries
  pub count_is : count ≡ successes outcomes
  pub parts : w.parts ≡ OfPass (number v) (record (pass v) { loaded = moved_by entries outcomes (pass v).loaded; journal = (pass v).journal ++ try_notes entries outcomes }) ∷ others v
  pub sights : w.sights ≡ v.sights
  pub events : w.events ≡ v.events ++ tries_of (number v) entries outcomes

-- each long one of its record
abbrev pub HasMoved : View → ℕ → ℕ → View → Type 0
HasMoved v long count w = HasTried v (filter (is_long (pass v).mark long) (entries_of (pass v).loaded)) count w
