-- Meetings of a pass one after the other, and a pass that has its own part alone.
use Rattle.std.proofs.Common.{◌≡◌, ℕ, [], ◌∷◌, refl, sym, ap, ◌∙◌}
use Rattle.hg_base.specs.declared.report.Kind.{Kind}
use Rattle.hg_base.specs.declared.report.Kind.TheVariants.{Group, Table, Interval}
use Rattle.hg_base.specs.declared.report.Sweep.{Sweep}
use Rattle.hg_base.proofs.ListFacts.{append_nil}
use Rattle.hg_rule.specs.declared.passes.CollectorPass.{CollectorPass}
use Rattle.hg_rule.specs.declared.view.Part.TheVariants.{OfPass}
use Rattle.hg_rule.specs.declared.view.View.{View}
use Rattle.hg_rule.specs.Views.{number, part_number, pass, after_first, others}
use Rattle.hg_rule.specs.Seats.{BoardId, pass_view, IsPassOf}
use Rattle.hg_collectors.specs.Collecting.{IsLone}
use Rattle.hg_collectors.specs.Swept.{HasSwept, HasMetSessions}
use Rattle.hg_collectors.proofs.Rounds.{starts_more}

-- ---- none or more meetings

pub met_none : (v : View) → HasMetSessions v v
met_none v = record { parts = refl; events = refl; kept = ([], sym (append_nil v.sights)) }

pub met_more : (u v w : View) → HasMetSessions u v → HasMetSessions v w → HasMetSessions u w
met_more u v w a b = record { parts = b.parts ∙ a.parts; events = b.events ∙ a.events; kept = starts_more u.sights v.sights w.sights a.kept b.kept }

-- of each kind
pub met_kinds : (old new : Kind → View) → HasMetSessions (old Group) (new Group) → HasMetSessions (old Table) (new Table) → HasMetSessions (old Interval) (new Interval) →
    (k : Kind) → HasMetSessions (old k) (new k)
met_kinds old new group table interval Group = group
met_kinds old new group table interval Table = table
met_kinds old new group table interval Interval = interval

-- ---- the pass stays alone

pub lone_swept : (t : BoardId) (p : ℕ) (kind : Kind) (sessions : ℕ) (sweep : Sweep) (c d : CollectorPass) → IsLone t p c → IsPassOf t d →
    HasSwept kind sessions (pass_view c) sweep (pass_view d) → IsLone t p d
lone_swept t p kind sessions sweep c d h own s = record {
  own = own;
  only = s.parts ∙ (λ i. OfPass (number_first i) (pass (pass_view d)) ∷ others_none i);
  share = s.share ∙ h.share;
}
  where
    number_first : number (pass_view c) ≡ p
    number_first = ap part_number h.only

    others_none : others (pass_view c) ≡ []
    others_none = ap after_first h.only
