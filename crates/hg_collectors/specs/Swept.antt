-- A round of a collector, whichever it is, and what is known of its pass.
use Rattle.std.specs.Prelude.{◌≡◌, ℕ, ◌+◌, List, ◌∷◌, ◌++◌, map, if◌then◌else◌}
use Rattle.std.specs.Option.{option_map_or}
use Rattle.hg_base.specs.declared.report.Kind.{Kind}
use Rattle.hg_base.specs.declared.report.Sweep.{Sweep}
use Rattle.hg_base.specs.Lists.{Each}
use Rattle.hg_base.specs.declared.line.Reply.{Reply}
use Rattle.hg_base.specs.Shape.{same_kind, report_of}
use Rattle.hg_rule.specs.declared.view.Event.{Event}
use Rattle.hg_rule.specs.declared.view.Part.TheVariants.{OfPass}
use Rattle.hg_rule.specs.declared.view.View.{View}
use Rattle.hg_rule.specs.Facts.{StartsWith}
use Rattle.hg_rule.specs.Rounds.{IsRoundOf, round_told}
use Rattle.hg_rule.specs.Views.{number, pass, others}
use Rattle.hg_tracker.specs.Begun.{AtMost, SawGroups}
use Rattle.hg_tracker.specs.Entries.{down_from}
use Rattle.hg_tracker.specs.Gathers.{IsFull}
use Rattle.hg_core.specs.Counters.{removed_all}

-- how many versions of a kind a report says were removed
abbrev pub swept_by : Kind → Sweep → ℕ
swept_by kind sweep = if same_kind sweep.kind kind then sweep.removed else 0

-- and a reply
abbrev pub told_of : Kind → Reply → ℕ
told_of kind reply = option_map_or (swept_by kind) (report_of reply) 0

-- A round of a collector of that kind, which is told so. It began with a load of the mark, when the pass had seen all that it had
-- seen before; it loaded the words of each session; and all that it removed is told. Its part stays alone, with its share.
pub record HasSwept (kind : Kind) (sessions : ℕ) (v : View) (sweep : Sweep) (w : View) : Type 0 where
  pub steps : List Event
  pub events : w.events ≡ v.events ++ steps
  pub round : IsRoundOf (number v) (pass w) steps
  pub told : sweep ≡ round_told kind steps
  pub parts : w.parts ≡ OfPass (number v) (pass w) ∷ others v
  pub share : (pass w).share ≡ (pass v).share
  pub seen : (pass w).seen ≡ v.sights
  pub keys : map (λ e. e.0) (pass w).loaded ≡ down_from sessions
  pub registers : Each (λ e. IsFull e.1) (pass w).loaded
  pub most : Each (AtMost sweep.mark) v.sights
  pub saw : SawGroups sweep.mark w.sights
  pub kept : StartsWith w.sights v.sights
  pub removed : (k : Kind) → removed_all k (pass w).visits ≡ removed_all k (pass v).visits + swept_by k sweep

-- a pass that met sessions keeps its part and its steps, and has seen more
pub record HasMetSessions (v w : View) : Type 0 where
  pub parts : w.parts ≡ v.parts
  pub events : w.events ≡ v.events
  pub kept : StartsWith w.sights v.sights
