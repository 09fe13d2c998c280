-- A gather is a round, which has its record and did nothing else.
use Rattle.std.proofs.Common.{◌≡◌, ℕ, Option, Some, None, Bool, true, ◌==◌, if◌then◌else◌, List, [], ◌∷◌, ◌++◌, refl, sym, ap, ◌∙◌, append_assoc, arith}
use Rattle.hg_base.specs.Lists.{Each}
use Rattle.hg_core.specs.declared.loaded.Loaded.{Loaded}
use Rattle.std.proofs.lemmas.Bool.Decides.{nat_tests}
use Rattle.hg_core.specs.declared.register.Register.{Register}
use Rattle.hg_core.specs.Events.{masked_in}
use Rattle.hg_rule.specs.declared.view.Event.{Event}
use Rattle.hg_rule.specs.declared.view.Event.TheVariants.{Mark}
use Rattle.hg_rule.specs.declared.view.View.{View}
use Rattle.hg_rule.specs.Views.{number, pass}
use Rattle.hg_rule.specs.Rounds.{IsNoMark, IsRoundOf, loaded_after, gone_in}
use Rattle.hg_rule.proofs.Rounds.{loaded_append, gone_on}
use Rattle.hg_tracker.specs.Begun.{mask_sample, sample_of, samples_of, HasGathered}

each_append : (es more : List Event) → Each IsNoMark es → Each IsNoMark more → Each IsNoMark (es ++ more)
each_append [] more a b = b
each_append (e ∷ es) more a b = (a.0, each_append es more a.1 b)

mask_no_mark : (p j : ℕ) (mask : Option ℕ) → Each IsNoMark (mask_sample p j mask)
mask_no_mark p j None = tt
mask_no_mark p j (Some mask) = (tt, tt)

no_marks : (p : ℕ) (loaded : List (ℕ × Loaded)) → Each IsNoMark (samples_of p loaded)
no_marks p [] = tt
no_marks p (e ∷ loaded) = each_append (samples_of p loaded) (sample_of p e.0 e.1) (no_marks p loaded) (tt, mask_no_mark p e.0 e.1.mask)

-- a mask joins the register that was loaded last
pub mask_joins : (j mask : ℕ) (register : Register) (loaded : List (ℕ × Loaded)) →
    masked_in j mask ((j, record { register = register; mask = None }) ∷ loaded) ≡ (j, record { register = register; mask = Some mask }) ∷ loaded
mask_joins j mask register loaded = ap (λ (b : Bool). if b then (j, record { register = register; mask = Some mask }) ∷ loaded else
    (j, record { register = register; mask = None }) ∷ masked_in j mask loaded) here
  where
    here : (j == j) ≡ true
    here = grind (arith, nat_tests)

sample_loaded : (p j : ℕ) (register : Register) (mask : Option ℕ) (loaded : List (ℕ × Loaded)) → loaded_after loaded (sample_of p j (record { register = register; mask = mask })) ≡
    (j, record { register = register; mask = mask }) ∷ loaded
sample_loaded p j register None loaded = refl
sample_loaded p j register (Some mask) loaded = mask_joins j mask register loaded

samples_loaded : (p : ℕ) (loaded : List (ℕ × Loaded)) → loaded_after [] (samples_of p loaded) ≡ loaded
samples_loaded p [] = refl
samples_loaded p (e ∷ loaded) = loaded_append [] (samples_of p loaded) (sample_of p e.0 e.1) ∙
    (ap (λ l. loaded_after l (sample_of p e.0 e.1)) (samples_loaded p loaded) ∙ sample_loaded p e.0 e.1.register e.1.mask loaded)

sample_removes : (p j : ℕ) (register : Register) (mask : Option ℕ) → gone_in (sample_of p j (record { register = register; mask = mask })) ≡ 0
sample_removes p j register None = refl
sample_removes p j register (Some mask) = refl

samples_remove : (p : ℕ) (loaded : List (ℕ × Loaded)) → gone_in (samples_of p loaded) ≡ 0
samples_remove p [] = refl
samples_remove p (e ∷ loaded) = let o = gone_on (samples_of p loaded) (sample_of p e.0 e.1) in omega (arith, o, samples_remove p loaded, sample_removes p e.0 e.1.register e.1.mask)

-- what a gather adds to the pass's list
abbrev pub gather_events : View → View → List Event
gather_events v w = Mark (number v) (pass w).mark ∷ samples_of (number v) (pass w).loaded

pub gather_round : (v w : View) (sessions : ℕ) → HasGathered v sessions w → IsRoundOf (number v) (pass w) (gather_events v w)
gather_round v w sessions h = record { round = (refl, no_marks (number v) (pass w).loaded); mark_is = refl; loaded_is = sym (samples_loaded (number v) (pass w).loaded) }

pub gather_gains : (v w : View) (sessions : ℕ) → HasGathered v sessions w → w.events ≡ v.events ++ gather_events v w
gather_gains v w sessions h = h.events ∙ append_assoc v.events (Mark (number v) (pass w).mark ∷ []) (samples_of (number v) (pass w).loaded)

pub gather_removes_none : (v w : View) → gone_in (gather_events v w) ≡ 0
gather_removes_none v w = samples_remove (number v) (pass w).loaded
