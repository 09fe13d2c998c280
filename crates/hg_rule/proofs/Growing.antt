-- What was seen stays true, since histories and logs only grow.
use Rattle.std.proofs.Common.{inr, ℕ, ◌≤◌, List, [], ◌∷◌, ◌++◌, sym, subst, arith}
use Rattle.hg_core.specs.declared.register.Register.{Register}
use Rattle.hg_core.specs.declared.register.Register.TheVariants as registers
use Rattle.hg_core.specs.declared.log.LogEntry.{LogEntry}
use Rattle.hg_core.specs.State.{CoreState}
use Rattle.hg_rule.specs.declared.view.Sight.{Sight}
use Rattle.hg_rule.specs.declared.view.Sight.TheVariants.{Saw, Heard, Took, Did}
use Rattle.hg_rule.specs.declared.view.Event.{Event}
use Rattle.hg_rule.specs.declared.view.Event.TheVariants.{Declare, Probe, Enter, Fix, GoLive, End, Look, Install, Undo, Stamp, Mark, Sample, SampleMask, Move, Reclaim, Take, HandOver}
use Rattle.hg_rule.specs.declared.view.Event.TheVariants.{HandBack, Publish}
use Rattle.hg_rule.specs.Facts.{StartsWith, EndsWith, IsAmong, HasBegun, Stands, Known}
use Rattle.hg_rule.proofs.Lists.{starts_on, ends_on}

pub record Grows (c d : CoreState) : Type 0 where
  pub history : StartsWith d.history c.history
  pub logs : (j : ℕ) → EndsWith (d.log j) (c.log j)
  pub taken : c.taken ≤ d.taken

pub among_later : {A : Type 0} (a : A) (later xs : List A) → IsAmong a xs → IsAmong a (later ++ xs)
among_later a [] xs h = h
among_later a (x ∷ later) xs h = inr (among_later a later xs h)

pub begun_later : (log more : List LogEntry) (register : Register) → EndsWith more log → HasBegun register log → HasBegun register more
begun_later log more registers.Idle e h = tt
begun_later log more (registers.Entering f) e h = tt
begun_later log more (registers.Live n declared moved) e h = (h.0, h.1, subst (IsAmong _) (sym e.1) (among_later _ e.0 log h.2))

pub stands_on : (c d : CoreState) → Grows c d → (e : Event) → Stands c e → Stands d e
stands_on c d g (Sample p j register) h = begun_later (c.log j) (d.log j) register (g.logs j) h
stands_on c d g (Declare j scope) h = tt
stands_on c d g (Probe j n) h = tt
stands_on c d g (Enter j n) h = tt
stands_on c d g (Fix j n) h = tt
stands_on c d g (GoLive j n scope) h = tt
stands_on c d g (End j) h = tt
stands_on c d g (Look j ask n) h = tt
stands_on c d g (Install j rid image) h = tt
stands_on c d g (Undo j rid) h = tt
stands_on c d g (Stamp j rid n) h = tt
stands_on c d g (Mark p n) h = tt
stands_on c d g (SampleMask p j mask) h = tt
stands_on c d g (Move p j n done) h = tt
stands_on c d g (Reclaim p kind rid n) h = tt
stands_on c d g (Take p n) h = tt
stands_on c d g (HandOver j n) h = tt
stands_on c d g (HandBack j) h = tt
stands_on c d g (Publish n) h = tt

pub known_on : (c d : CoreState) → Grows c d → (x : Sight) → Known c x → Known d x
known_on c d g (Saw h) k = starts_on d.history c.history h.list k g.history
known_on c d g (Heard j log) k = ends_on (d.log j) (c.log j) log k (g.logs j)
known_on c d g (Took n) k = omega (arith, g.taken)
known_on c d g (Did e) k = stands_on c d g e k
