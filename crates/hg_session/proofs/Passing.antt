-- An engine's passes in one.
use Rattle.std.proofs.Common.{◌≡◌, ◌⊎◌, inl, inr, ℕ, Bool, true, false, List, [], ◌∷◌, ◌++◌, refl, sym, ap, ◌∙◌, subst, eqb, arith}
use Rattle.std.specs.Prelude.{if◌then◌else◌}
use Rattle.hg_rule.specs.declared.view.Part.{Part}
use Rattle.hg_rule.specs.declared.view.Part.TheVariants.{OfPass}
use Rattle.hg_rule.specs.declared.view.PassPart.{PassPart}
use Rattle.hg_rule.specs.declared.view.Sight.{Sight}
use Rattle.hg_rule.specs.declared.view.Sight.TheVariants.{Did}
use Rattle.hg_rule.specs.declared.view.Event.{Event}
use Rattle.hg_rule.specs.declared.view.View.{View}
use Rattle.hg_rule.specs.Keys.{session_key, pass_key, count, shares}
use Rattle.hg_rule.specs.Facts.{new_part, IsAmong}
use Rattle.hg_rule.specs.Views.{number, pass, pass_there, part_number, first_in}
use Rattle.hg_rule.specs.Moves.{put_in, merged, did}
use Rattle.hg_rule.specs.Reading.{chosen, seek, passes_in}
use Rattle.hg_rule.specs.Seats.{pass_view}
use Rattle.hg_rule.proofs.Growing.{among_later}
use Rattle.hg_session.specs.declared.engine.Engine.{Engine}
use Rattle.hg_session.specs.declared.engine.Passes.{Passes}
use Rattle.hg_session.specs.Ended.{visits_in, HasAllPasses}
use Rattle.hg_session.specs.OneRun.{journals_in}
use Rattle.hg_session.specs.Finished.{HasNoSession}
use Rattle.hg_session.specs.Passing.{AreAlone, journals_of, visits_of}
use Rattle.hg_rule.proofs.Lists.{among_left}

-- ---- what is known to be done

done_among : (x : Event) (events : List Event) → IsAmong x events → IsAmong (Did x) (did events)
done_among x [] h = h
done_among x (y ∷ events) (inl e) = inl (ap (λ t. Did t) e)
done_among x (y ∷ events) (inr i) = inr (done_among x events i)

-- ---- the three

abbrev pub three : PassPart → PassPart → PassPart → List Part
three group table interval = OfPass 1 table ∷ OfPass 2 interval ∷ OfPass 0 group ∷ []

module _ (e : Engine) (passes : Passes) (u w : View) (h : AreAlone e passes) (first : u ≡ merged (pass_view passes.table) (pass_view passes.group))
    (second : w ≡ merged u (pass_view passes.interval)) where
  abbrev group : PassPart
  group = pass (pass_view passes.group)

  abbrev table : PassPart
  table = pass (pass_view passes.table)

  abbrev interval : PassPart
  interval = pass (pass_view passes.interval)

  two : u.parts ≡ OfPass 1 table ∷ OfPass 0 group ∷ []
  two = ap (λ (v : View). v.parts) first ∙ (λ i. put_in (h.table.only i) (h.group.only i))

  parts : w.parts ≡ three group table interval
  parts = ap (λ (v : View). v.parts) second ∙ (λ i. put_in (two i) (h.interval.only i))

  pub all_passes : HasAllPasses w
  all_passes = let sum : shares w.parts ≡ shares (three group table interval) = ap shares parts in let a = h.group.share in let b = h.table.share in let d = h.interval.share in
      omega (arith, sum, a, b, d)

  pub three_passes : passes_in w.parts ≡ 3
  three_passes = ap passes_in parts

  pub no_session : HasNoSession w
  no_session j = ap (count (session_key j)) parts

  pub all_visits : visits_in w ≡ visits_of passes
  all_visits = λ i p. (ap (λ (ps : List Part). (pass_there (seek (pass_key p) ps)).visits) parts ∙ go p (eqb 1 p) (eqb 2 p) (eqb 0 p)) i
    where
      go : (p : ℕ) (a b c : Bool) → (pass_there (chosen a (OfPass 1 table) (chosen b (OfPass 2 interval) (chosen c (OfPass 0 group) (new_part (pass_key p)))))).visits
          ≡ (if a then table.visits else (if b then interval.visits else (if c then group.visits else [])))
      go p true b c = refl
      go p false true c = refl
      go p false false true = refl
      go p false false false = refl

  pub all_journals : journals_in w ≡ journals_of passes
  all_journals = λ i p. (ap (λ (ps : List Part). (pass_there (seek (pass_key p) ps)).journal) parts ∙ go p (eqb 1 p) (eqb 2 p) (eqb 0 p)) i
    where
      go : (p : ℕ) (a b c : Bool) → (pass_there (chosen a (OfPass 1 table) (chosen b (OfPass 2 interval) (chosen c (OfPass 0 group) (new_part (pass_key p)))))).journal
          ≡ (if a then table.journal else (if b then interval.journal else (if c then group.journal else [])))
      go p true b c = refl
      go p false true c = refl
      go p false false true = refl
      go p false false false = refl

  -- the table collector's part is the pass's own still
  pub own_stays : (number w ≡ 1) × (pass w ≡ table)
  own_stays = (ap part_number parts, ap (λ ps. pass_there (first_in ps)) parts)

  abbrev own_sights : List Sight
  own_sights = (pass_view passes.table).sights

  abbrev group_sights : List Sight
  group_sights = (pass_view passes.group).sights ++ did (pass_view passes.group).events

  abbrev interval_sights : List Sight
  interval_sights = (pass_view passes.interval).sights ++ did (pass_view passes.interval).events

  sights : w.sights ≡ (own_sights ++ group_sights) ++ interval_sights
  sights = ap (λ (v : View). v.sights) second ∙ ap (λ (l : List Sight). l ++ interval_sights) (ap (λ (v : View). v.sights) first)

  pub all_seen : (s : Sight) → IsAmong s (pass_view passes.group).sights ⊎ (IsAmong s (pass_view passes.table).sights ⊎ IsAmong s (pass_view passes.interval).sights) → IsAmong s w.sights
  all_seen s h = subst (IsAmong s) (sym sights) (go h)
    where
      go : IsAmong s (pass_view passes.group).sights ⊎ (IsAmong s (pass_view passes.table).sights ⊎ IsAmong s (pass_view passes.interval).sights) →
          IsAmong s ((own_sights ++ group_sights) ++ interval_sights)
      go (inl i) = among_left s (own_sights ++ group_sights) interval_sights (among_later s own_sights group_sights (among_left s _ _ i))
      go (inr (inl i)) = among_left s (own_sights ++ group_sights) interval_sights (among_left s own_sights group_sights i)
      go (inr (inr i)) = among_later s (own_sights ++ group_sights) interval_sights (among_left s _ _ i)

  pub all_done : (x : Event) → IsAmong x (pass_view passes.group).events ⊎ IsAmong x (pass_view passes.interval).events → IsAmong (Did x) w.sights
  all_done x h = subst (IsAmong (Did x)) (sym sights) (go h)
    where
      go : IsAmong x (pass_view passes.group).events ⊎ IsAmong x (pass_view passes.interval).events → IsAmong (Did x) ((own_sights ++ group_sights) ++ interval_sights)
      go (inl i) = among_left (Did x) (own_sights ++ group_sights) interval_sights
          (among_later (Did x) own_sights group_sights (among_later (Did x) (pass_view passes.group).sights _ (done_among x _ i)))
      go (inr i) = among_later (Did x) (own_sights ++ group_sights) interval_sights (among_later (Did x) (pass_view passes.interval).sights _ (done_among x _ i))

  pub events_stay : w.events ≡ (pass_view passes.table).events
  events_stay = ap (λ (v : View). v.events) second ∙ ap (λ (v : View). v.events) first
