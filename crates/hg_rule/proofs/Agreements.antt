-- A view that is backed agrees with itself.
use Rattle.std.proofs.Common.{◌≡◌, ℕ, ◌≤◌, List, [], ◌∷◌, length, ap, ◌∙◌, subst}
use Rattle.std.specs.Prelude.{IfSome}
use Rattle.hg_base.specs.Lists.{Each}
use Rattle.hg_core.specs.Passes.{PassRecord, found}
use Rattle.hg_core.specs.Bounds.{Bounds}
use Rattle.hg_core.specs.Reach.{StandsIn}
use Rattle.hg_core.specs.State.{CoreState}
use Rattle.hg_core.specs.Invariant.{IsSteady}
use Rattle.hg_rule.specs.declared.view.SessionPart.{SessionPart}
use Rattle.hg_rule.specs.declared.view.Part.{Part}
use Rattle.hg_rule.specs.declared.view.Part.TheVariants.{OfSession, OfBucket, OfCommit, OfPass, Away, Lent}
use Rattle.hg_rule.specs.declared.view.Sight.{Sight}
use Rattle.hg_rule.specs.declared.view.Sight.TheVariants.{Saw, Heard, Took, Did}
use Rattle.hg_rule.specs.declared.view.Event.{Event}
use Rattle.hg_rule.specs.declared.view.Event.TheVariants.{Declare, Probe, Enter, Fix, GoLive, End, Look, Install, Undo, Stamp, Mark, Sample, SampleMask, Move, Reclaim, Take, HandOver}
use Rattle.hg_rule.specs.declared.view.Event.TheVariants.{HandBack, Publish}
use Rattle.hg_rule.specs.declared.view.View.{View}
use Rattle.hg_rule.specs.declared.view.Sizes.{Sizes}
use Rattle.hg_rule.specs.Facts.{heard, HasBegun, Shown, Known, Stands}
use Rattle.hg_rule.specs.Rules.{IsBacked}
use Rattle.hg_rule.specs.Views.{number, session, HasOnlySession}
use Rattle.hg_rule.specs.Moves.{put_in, joined}
use Rattle.hg_rule.specs.Agreed.{EventAgrees, SightAgrees, PartAgrees, AgreesWith, AgreesAt, IsMet}
use Rattle.hg_rule.proofs.Lists.{each_left, each_right, each_map}

event_agrees : (s : CoreState) (j : ℕ) (part : SessionPart) → s.log j ≡ part.log → (e : Event) → Stands s e → EventAgrees j part e
event_agrees s j part is (Sample p i register) h = λ e. subst (HasBegun register) (ap s.log e ∙ is) h
event_agrees s j part is (Declare k scope) h = tt
event_agrees s j part is (Probe k n) h = tt
event_agrees s j part is (Enter k n) h = tt
event_agrees s j part is (Fix k n) h = tt
event_agrees s j part is (GoLive k n scope) h = tt
event_agrees s j part is (End k) h = tt
event_agrees s j part is (Look k ask n) h = tt
event_agrees s j part is (Install k rid image) h = tt
event_agrees s j part is (Undo k rid) h = tt
event_agrees s j part is (Stamp k rid n) h = tt
event_agrees s j part is (Mark p n) h = tt
event_agrees s j part is (SampleMask p k mask) h = tt
event_agrees s j part is (Move p k n done) h = tt
event_agrees s j part is (Reclaim p kind rid n) h = tt
event_agrees s j part is (Take p n) h = tt
event_agrees s j part is (HandOver k n) h = tt
event_agrees s j part is (HandBack k) h = tt
event_agrees s j part is (Publish n) h = tt

sight_agrees : (s : CoreState) (j : ℕ) (part : SessionPart) → s.log j ≡ part.log → (x : Sight) → Known s x → SightAgrees j part x
sight_agrees s j part is (Saw h) k = tt
sight_agrees s j part is (Heard i log) k = tt
sight_agrees s j part is (Took n) k = tt
sight_agrees s j part is (Did e) k = event_agrees s j part is e k

part_agrees : (s : CoreState) → IsSteady s → (j : ℕ) (part : SessionPart) → Shown s (OfSession j part) → (p : Part) → Shown s p → PartAgrees j part p
part_agrees s v j part is (OfSession i t) h = tt
part_agrees s v j part is (OfBucket b t) h = tt
part_agrees s v j part is (OfCommit t) h = tt
part_agrees s v j part is (Away i t n) h = tt
part_agrees s v j part is (Lent i t) h = tt
part_agrees s v j part is (OfPass p r) h = record {
  known = subst (λ l. heard j r.seen ≤ length l) is.1.0 (subst (λ (x : PassRecord). x.known j ≤ length (s.log j)) h.0 (v.records_reach_logs.known p j));
  reaches = subst (λ l. IfSome (found j r.loaded) (λ loaded. StandsIn (heard j r.seen) loaded.register l part.phase)) is.1.0
      (subst (λ f. IfSome (found j r.loaded) (λ loaded. StandsIn (heard j r.seen) loaded.register (s.log j) f)) is.0
      (subst (λ (x : PassRecord). IfSome (found j x.loaded) (λ loaded. StandsIn (x.known j) loaded.register (s.log j) (s.phase j))) h.0 (v.records_reach_logs.stands p j)));
  bounds = subst (λ f. IfSome (found j r.loaded) (λ loaded. Bounds r.mark loaded f)) is.0
      (subst (λ (x : PassRecord). IfSome (found j x.loaded) (λ loaded. Bounds x.mark loaded (s.phase j))) h.0 (v.records_bound_sessions p j));
}

agrees_at : (z : Sizes) (n : ℕ) (v : View) (b : IsBacked z n v) (p : Part) → Shown b.state p → AgreesAt v p
agrees_at z n v b (OfSession j part) is = let s = b.state in record {
  events = each_map (Stands s) (EventAgrees j part) (event_agrees s j part is.1.0) v.events b.true_of.events;
  sights = each_map (Known s) (SightAgrees j part) (sight_agrees s j part is.1.0) v.sights b.true_of.sights;
  parts = each_map (Shown s) (PartAgrees j part) (part_agrees s b.steady j part is) v.parts b.true_of.parts;
}
agrees_at z n v b (OfBucket i c) is = tt
agrees_at z n v b (OfCommit h) is = tt
agrees_at z n v b (OfPass p r) is = tt
agrees_at z n v b (Away i t m) is = tt
agrees_at z n v b (Lent i t) is = tt

pub met : (z : Sizes) (n : ℕ) (v : View) → IsBacked z n v → IsMet z v
met z n v b = record { mark = n; backed = b; agreed = each_map (Shown b.state) (AgreesAt v) (agrees_at z n v b) v.parts b.true_of.parts }

put_in_right : (P : Part → Type 0) (ps qs : List Part) → Each P (put_in ps qs) → Each P qs
put_in_right P [] qs h = h
put_in_right P (p ∷ ps) qs h = each_left P qs ps h.1

put_in_left : (P : Part → Type 0) (ps qs : List Part) → Each P (put_in ps qs) → Each P ps
put_in_left P [] qs h = tt
put_in_left P (p ∷ ps) qs h = (h.0, each_right P qs ps h.1)

-- what a view says agrees with the one session of another that it was joined to
pub met_session : (z : Sizes) (v w : View) → IsMet z (joined v w) → HasOnlySession w → AgreesWith v (number w) (session w)
met_session z v w m only =
    let u = joined v w in
    let h = (subst (Each (AgreesAt u)) only (put_in_right (AgreesAt u) v.parts w.parts m.agreed)).0 in
    record { events = h.events; sights = each_left _ v.sights w.sights h.sights; parts = put_in_left _ v.parts w.parts h.parts }
