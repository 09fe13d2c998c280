-- A gather, and the tries to move snapshots after it, are a round.
use Rattle.std.proofs.Common.{◌≡◌, ℕ, Bool, true, false, Option, Some, None, List, [], ◌∷◌, ◌++◌, length, filter, refl, sym, ap, ◌∙◌, arith, append_assoc, append-nil}
use Rattle.std.specs.Prelude.{if◌then◌else◌}
use Rattle.hg_base.specs.declared.report.Entry.{Entry}
use Rattle.hg_base.specs.Lists.{Each}
use Rattle.hg_core.specs.declared.loaded.Loaded.{Loaded}
use Rattle.hg_core.specs.declared.register.Register.{Register}
use Rattle.hg_core.specs.Events.{moved_in, masked_in}
use Rattle.hg_rule.specs.declared.view.Event.{Event}
use Rattle.hg_rule.specs.declared.view.Event.TheVariants.{Mark, Sample, SampleMask, Move, Reclaim, Take}
use Rattle.hg_rule.specs.declared.view.View.{View}
use Rattle.hg_rule.specs.Views.{number, pass, pass_there, first_in}
use Rattle.hg_rule.specs.Rounds.{IsNoMark, IsWork, moves_in, entries_of, IsRound, IsRoundOf, loaded_after, then_loaded, gone_in}
use Rattle.hg_rule.proofs.Rounds.{mark_on, loaded_append, gone_on}
use Rattle.hg_tracker.specs.Begun.{sample_of, samples_of, HasGathered}
use Rattle.hg_tracker.specs.Tries.{is_long, tries_of, moved_by, HasTried}
use Rattle.hg_rounds.specs.Moving.{sampled, tried, TriesLong}
use Rattle.hg_tracker.proofs.Rounds.{mask_joins, gather_events, gather_round, gather_gains, gather_removes_none}

tries_no_mark : (p : ℕ) (es : List Entry) (outcomes : List Bool) → Each IsNoMark (tries_of p es outcomes)
tries_no_mark p [] outcomes = tt
tries_no_mark p (e ∷ es) [] = tt
tries_no_mark p (e ∷ es) (b ∷ outcomes) = (tt, tries_no_mark p es outcomes)

tries_remove : (p : ℕ) (es : List Entry) (outcomes : List Bool) → gone_in (tries_of p es outcomes) ≡ 0
tries_remove p [] outcomes = refl
tries_remove p (e ∷ es) [] = refl
tries_remove p (e ∷ es) (b ∷ outcomes) = tries_remove p es outcomes

one_try : (p j n : ℕ) (b : Bool) (loaded : List (ℕ × Loaded)) → then_loaded (Move p j n b) loaded ≡ (if b then moved_in j loaded else loaded)
one_try p j n true loaded = refl
one_try p j n false loaded = refl

tries_loaded : (p : ℕ) (es : List Entry) (outcomes : List Bool) (loaded : List (ℕ × Loaded)) → loaded_after loaded (tries_of p es outcomes) ≡ moved_by es outcomes loaded
tries_loaded p [] outcomes loaded = refl
tries_loaded p (e ∷ es) [] loaded = refl
tries_loaded p (e ∷ es) (b ∷ outcomes) loaded = ap (λ l. loaded_after l (tries_of p es outcomes)) (one_try p e.session e.number b loaded) ∙
    tries_loaded p es outcomes (if b then moved_in e.session loaded else loaded)

no_marks : (xs ys : List Event) → Each IsNoMark xs → Each IsNoMark ys → Each IsNoMark (xs ++ ys)
no_marks [] ys a b = b
no_marks (x ∷ xs) ys a b = (a.0, no_marks xs ys a.1 b)

round_more : (p : ℕ) (es more : List Event) → IsRound p es → Each IsNoMark more → IsRound p (es ++ more)
round_more p [] more h k = absurd h
round_more p (Mark q mark ∷ es) more h k = (h.0, no_marks es more h.1 k)
round_more p (_ ∷ es) more h k = absurd h

module _ (v x y : View) (sessions count : ℕ) (es : List Entry) (g : HasGathered v sessions x) (t : HasTried x es count y) where
  abbrev pub moving_events : List Event
  moving_events = gather_events v x ++ tries_of (number x) es t.outcomes

  first : IsRoundOf (number v) (pass x) (gather_events v x)
  first = gather_round v x sessions g

  pub moving_gains : y.events ≡ v.events ++ moving_events
  moving_gains = t.events ∙ (ap (λ l. l ++ tries_of (number x) es t.outcomes) (gather_gains v x sessions g) ∙ append_assoc v.events (gather_events v x) (tries_of (number x) es t.outcomes))

  pub moving_round : IsRoundOf (number v) (pass y) moving_events
  moving_round = record {
    round = round_more (number v) (gather_events v x) (tries_of (number x) es t.outcomes) first.round (tries_no_mark (number x) es t.outcomes);
    mark_is = ap (λ ps. (pass_there (first_in ps)).mark) t.parts ∙ (first.mark_is ∙ sym (mark_on (number v) (gather_events v x) (tries_of (number x) es t.outcomes) first.round));
    loaded_is = ap (λ ps. (pass_there (first_in ps)).loaded) t.parts
        ∙ (ap (moved_by es t.outcomes) first.loaded_is
        ∙ (sym (tries_loaded (number x) es t.outcomes (loaded_after [] (gather_events v x)))
        ∙ sym (loaded_append [] (gather_events v x) (tries_of (number x) es t.outcomes))));
  }

  pub moving_removes_none : gone_in moving_events ≡ 0
  moving_removes_none = let r = gone_on (gather_events v x) (tries_of (number x) es t.outcomes) in omega (arith, r, gather_removes_none v x, tries_remove (number x) es t.outcomes)

  -- the mark is the one that was gathered
  pub moving_mark : (pass y).mark ≡ (pass x).mark
  moving_mark = ap (λ ps. (pass_there (first_in ps)).mark) t.parts

-- ---- what was tried

moves_on : (es more : List Event) → moves_in (es ++ more) ≡ moves_in es ++ moves_in more
moves_on [] more = refl
moves_on (e ∷ es) more = go e (moves_on es more)
  where
    go : (e : Event) → moves_in (es ++ more) ≡ moves_in es ++ moves_in more → moves_in (e ∷ (es ++ more)) ≡ moves_in (e ∷ es) ++ moves_in more
    go (Move p j n b) ih = ap (λ ms. (j, (n, b)) ∷ ms) ih
    go _ ih = ih

sampled_on : (loaded : List (ℕ × Loaded)) (es more : List Event) → sampled loaded (es ++ more) ≡ sampled (sampled loaded es) more
sampled_on loaded [] more = refl
sampled_on loaded (Sample p j r ∷ es) more = sampled_on ((j, record { register = r; mask = None }) ∷ loaded) es more
sampled_on loaded (SampleMask p j mask ∷ es) more = sampled_on (masked_in j mask loaded) es more
sampled_on loaded (_ ∷ es) more = sampled_on loaded es more

work_moves_none : (es : List Event) → Each IsWork es → moves_in es ≡ []
work_moves_none [] h = refl
work_moves_none (Reclaim p kind rid n ∷ es) h = work_moves_none es h.1
work_moves_none (Take p mark ∷ es) h = work_moves_none es h.1
work_moves_none (_ ∷ es) h = absurd h.0

work_samples_none : (loaded : List (ℕ × Loaded)) (es : List Event) → Each IsWork es → sampled loaded es ≡ loaded
work_samples_none loaded [] h = refl
work_samples_none loaded (Reclaim p kind rid n ∷ es) h = work_samples_none loaded es h.1
work_samples_none loaded (Take p mark ∷ es) h = work_samples_none loaded es h.1
work_samples_none loaded (_ ∷ es) h = absurd h.0

tries_moves : (p : ℕ) (es : List Entry) (outcomes : List Bool) → moves_in (tries_of p es outcomes) ≡ tried es outcomes
tries_moves p [] outcomes = refl
tries_moves p (e ∷ es) [] = refl
tries_moves p (e ∷ es) (b ∷ outcomes) = ap (λ ms. (e.session, (e.number, b)) ∷ ms) (tries_moves p es outcomes)

tries_sample_none : (loaded : List (ℕ × Loaded)) (p : ℕ) (es : List Entry) (outcomes : List Bool) → sampled loaded (tries_of p es outcomes) ≡ loaded
tries_sample_none loaded p [] outcomes = refl
tries_sample_none loaded p (e ∷ es) [] = refl
tries_sample_none loaded p (e ∷ es) (b ∷ outcomes) = tries_sample_none loaded p es outcomes

sample_moves_none : (p j : ℕ) (register : Register) (mask : Option ℕ) → moves_in (sample_of p j (record { register = register; mask = mask })) ≡ []
sample_moves_none p j register None = refl
sample_moves_none p j register (Some mask) = refl

samples_move_none : (p : ℕ) (loaded : List (ℕ × Loaded)) → moves_in (samples_of p loaded) ≡ []
samples_move_none p [] = refl
samples_move_none p (e ∷ loaded) = moves_on (samples_of p loaded) (sample_of p e.0 e.1) ∙ (λ i. samples_move_none p loaded i ++ sample_moves_none p e.0 e.1.register e.1.mask i)

sample_sampled : (p j : ℕ) (register : Register) (mask : Option ℕ) (loaded : List (ℕ × Loaded)) →
    sampled loaded (sample_of p j (record { register = register; mask = mask })) ≡ (j, record { register = register; mask = mask }) ∷ loaded
sample_sampled p j register None loaded = refl
sample_sampled p j register (Some mask) loaded = mask_joins j mask register loaded

samples_sampled : (p : ℕ) (loaded : List (ℕ × Loaded)) → sampled [] (samples_of p loaded) ≡ loaded
samples_sampled p [] = refl
samples_sampled p (e ∷ loaded) = sampled_on [] (samples_of p loaded) (sample_of p e.0 e.1) ∙
    (ap (λ l. sampled l (sample_of p e.0 e.1)) (samples_sampled p loaded) ∙ sample_sampled p e.0 e.1.register e.1.mask loaded)

-- a gather, tries of what it found long in use, and work
pub tries_long : (long p q mark : ℕ) (loaded : List (ℕ × Loaded)) (outcomes : List Bool) (work : List Event) → Each IsWork work →
    length outcomes ≡ length (filter (is_long mark long) (entries_of loaded))
    → TriesLong long (((Mark p mark ∷ samples_of p loaded) ++ tries_of q (filter (is_long mark long) (entries_of loaded)) outcomes) ++ work)
tries_long long p q mark loaded outcomes work w many =
    let es = filter (is_long mark long) (entries_of loaded) in
    let tries = tries_of q es outcomes in
    let seen : sampled [] ((samples_of p loaded ++ tries) ++ work) ≡ loaded =
    sampled_on [] (samples_of p loaded ++ tries) work
    ∙ (work_samples_none (sampled [] (samples_of p loaded ++ tries)) work w
    ∙ (sampled_on [] (samples_of p loaded) tries ∙ (tries_sample_none (sampled [] (samples_of p loaded)) q es outcomes ∙ samples_sampled p loaded))) in
    let moved : moves_in ((samples_of p loaded ++ tries) ++ work) ≡ tried es outcomes =
    moves_on (samples_of p loaded ++ tries) work
    ∙ ((λ i. moves_on (samples_of p loaded) tries i ++ work_moves_none work w i)
    ∙ (append-nil (moves_in (samples_of p loaded) ++ moves_in tries) ∙ (λ i. samples_move_none p loaded i ++ tries_moves q es outcomes i))) in
    record {
      outcomes = outcomes;
      each = many ∙ (λ i. length (filter (is_long mark long) (entries_of (sym seen i))));
      tries = moved ∙ (λ i. tried (filter (is_long mark long) (entries_of (sym seen i))) outcomes);
    }
