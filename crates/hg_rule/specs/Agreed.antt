-- What one view says of a session and what collectors' passes loaded, in whatever state it is.
use Rattle.std.specs.Prelude.{◌≡◌, ℕ, ◌≤◌, length, IfSome, ⊤}
use Rattle.hg_base.specs.Lists.{Each}
use Rattle.hg_core.specs.Passes.{found}
use Rattle.hg_core.specs.Bounds.{Bounds}
use Rattle.hg_core.specs.Reach.{StandsIn}
use Rattle.hg_rule.specs.declared.view.SessionPart.{SessionPart}
use Rattle.hg_rule.specs.declared.view.PassPart.{PassPart}
use Rattle.hg_rule.specs.declared.view.Part.{Part}
use Rattle.hg_rule.specs.declared.view.Part.TheVariants.{OfSession, OfBucket, OfCommit, OfPass, Away, Lent}
use Rattle.hg_rule.specs.declared.view.Sight.{Sight}
use Rattle.hg_rule.specs.declared.view.Sight.TheVariants.{Saw, Heard, Took, Did}
use Rattle.hg_rule.specs.declared.view.Event.{Event}
use Rattle.hg_rule.specs.declared.view.Event.TheVariants.{Sample}
use Rattle.hg_rule.specs.declared.view.View.{View}
use Rattle.hg_rule.specs.declared.view.Sizes.{Sizes}
use Rattle.hg_rule.specs.Facts.{heard, HasBegun}
use Rattle.hg_rule.specs.Rules.{IsBacked}

-- a live register that was loaded of session j has its begin in the log
abbrev pub EventAgrees : ℕ → SessionPart → Event → Type 0
EventAgrees j session (Sample p i register) = i ≡ j → HasBegun register session.log
EventAgrees j session _ = ⊤

-- a step that a view knows of agrees with session j's log; the other sights say nothing of loaded registers
abbrev pub SightAgrees : ℕ → SessionPart → Sight → Type 0
SightAgrees j session (Saw h) = ⊤
SightAgrees j session (Heard i log) = ⊤
SightAgrees j session (Took n) = ⊤
SightAgrees j session (Did e) = EventAgrees j session e

-- what the record of a collector's pass says of session j is so
pub record RecordAgrees (j : ℕ) (session : SessionPart) (record_ : PassPart) : Type 0 where
  -- the pass did not hear more of the log than there is
  pub known : heard j record_.seen ≤ length session.log
  -- what was loaded of the session is in its log, after what the pass had heard
  pub reaches : IfSome (found j record_.loaded) (λ loaded. StandsIn (heard j record_.seen) loaded.register session.log session.phase)
  -- what was loaded of the session bounds what it reads
  pub bounds : IfSome (found j record_.loaded) (λ loaded. Bounds record_.mark loaded session.phase)

-- the record of a collector's pass agrees with session j; the other parts have no record
abbrev pub PartAgrees : ℕ → SessionPart → Part → Type 0
PartAgrees j session (OfSession i s) = ⊤
PartAgrees j session (OfBucket b c) = ⊤
PartAgrees j session (OfCommit h) = ⊤
PartAgrees j session (OfPass p r) = RecordAgrees j session r
PartAgrees j session (Away i s n) = ⊤
PartAgrees j session (Lent i s) = ⊤

-- the view agrees with the log and the phase of session j
pub record AgreesWith (v : View) (j : ℕ) (session : SessionPart) : Type 0 where
  -- the steps that the view made
  pub events : Each (EventAgrees j session) v.events
  -- the steps that it knows of
  pub sights : Each (SightAgrees j session) v.sights
  -- the records that it has
  pub parts : Each (PartAgrees j session) v.parts

-- the view agrees with this part of its own, where that is a session's part
abbrev pub AgreesAt : View → Part → Type 0
AgreesAt v (OfSession j session) = AgreesWith v j session
AgreesAt v (OfBucket b c) = ⊤
AgreesAt v (OfCommit h) = ⊤
AgreesAt v (OfPass p r) = ⊤
AgreesAt v (Away i s n) = ⊤
AgreesAt v (Lent i s) = ⊤

-- A state that meets the rule backs the view, and what the view says agrees.
pub record IsMet (z : Sizes) (v : View) : Type 0 where
  pub mark : ℕ
  pub backed : IsBacked z mark v
  pub agreed : Each (AgreesAt v) v.parts
