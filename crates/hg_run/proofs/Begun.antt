-- Each live register that a collector's pass loaded has its begin in the logs as they are at the end.
use Rattle.std.proofs.Common.{◌≡◌, ℕ, inl, inr, List, [], ◌∷◌, refl, sym, ap, ◌∙◌, subst, map, ◌++◌}
use Rattle.hg_base.specs.declared.rid.Rid.{Rid}
use Rattle.hg_base.specs.declared.scope.Scope.{Scope}
use Rattle.hg_base.specs.Lists.{Each}
use Rattle.hg_core.specs.declared.log.LogEntry.{LogEntry}
use Rattle.hg_core.specs.declared.log.LogEntry.TheVariants.{Began, Undid, Over}
use Rattle.hg_core.specs.declared.register.Register.{Register}
use Rattle.hg_core.specs.declared.register.Register.TheVariants as registers
use Rattle.hg_core.specs.State.{CoreState}
use Rattle.hg_rule.specs.declared.view.Event.{Event}
use Rattle.hg_rule.specs.declared.view.Event.TheVariants.{Sample}
use Rattle.hg_rule.specs.declared.view.Sight.{Sight}
use Rattle.hg_rule.specs.declared.view.Sight.TheVariants.{Did}
use Rattle.hg_rule.specs.declared.view.View.{View}
use Rattle.hg_rule.specs.Facts.{StartsWith, IsAmong, HasBegun, Known, Stands}
use Rattle.hg_rule.specs.Rules.{IsTrueOf}
use Rattle.hg_rule.proofs.Lists.{each_map, among_left}
use Rattle.hg_headline.specs.Counted.{Closes}
use Rattle.hg_session.specs.Finished.{AreAmong, AreDone}
use Rattle.hg_run.specs.Closed.{HasCome}
use Rattle.hg_collectors.specs.Rounding.{BeganIn}
use Rattle.hg_collectors.proofs.Among.{of_among}

pub each_among : {A : Type 0} (P : A → Type 0) (xs : List A) → ((x : A) → IsAmong x xs → P x) → Each P xs
each_among P [] f = tt
each_among P (x ∷ xs) f = (f x (inl refl), each_among P xs (λ y i. f y (inr i)))

-- ---- the passes that came to one

done_stand : (s : CoreState) (v : View) (events : List Event) → IsTrueOf s v → AreDone events v.sights → Each (Stands s) events
done_stand s v events t d = each_among (Stands s) events (λ x i. of_among (Known s) (Did x) v.sights t.sights (d x i))

-- Two passes go to a third, and then what else knows of them comes there.
pub all_come : (group table interval u w x : View) → AreAmong group.sights u.sights × AreAmong table.sights u.sights × AreAmong interval.sights u.sights →
    AreDone group.events u.sights × AreDone interval.events u.sights → u.events ≡ table.events → StartsWith w.sights u.sights → w.events ≡ u.events → x ≡ w → HasCome group x ×
    HasCome table x × HasCome interval x
all_come group table interval u w x seen did same kept stays is = (
  record { seen = λ t i. on t (seen.0 t i); did = λ s k. done_stand s x group.events k (λ t i. on (Did t) (did.0 t i)) },
  record { seen = λ t i. on t (seen.1 t i); did = λ s k. subst (Each (Stands s)) (ap (λ (v : View). v.events) is ∙ (stays ∙ same)) k.events },
  record { seen = λ t i. on t (seen.2 t i); did = λ s k. done_stand s x interval.events k (λ t i. on (Did t) (did.1 t i)) },
)
  where
    on : (t : Sight) → IsAmong t u.sights → IsAmong t x.sights
    on t i = subst (λ (v : View). IsAmong t v.sights) (sym is) (subst (IsAmong t) (sym kept.1) (among_left t u.sights kept.0 i))

-- ---- the begins in the logs

began_one : (s : CoreState) (x : Event) → Stands s x → BeganIn s.log x
began_one s (Sample p j register) h = h
began_one s _ h = tt

pub began : (s : CoreState) (logs : ℕ → List LogEntry) (events : List Event) → s.log ≡ logs → Each (Stands s) events → Each (BeganIn logs) events
began s logs events is h = subst (λ l. Each (BeganIn l) events) is (each_map (Stands s) (BeganIn s.log) (began_one s) events h)

-- ---- and before the last rollbacks

-- they only take back and end
begin_kept : (n : ℕ) (scope : Scope) (undone : List Rid) (log : List LogEntry) → IsAmong (Began n scope) (map Undid undone ++ log) → IsAmong (Began n scope) log
begin_kept n scope [] log i = i
begin_kept n scope (r ∷ undone) log (inl e) = absurd (cc)
begin_kept n scope (r ∷ undone) log (inr i) = begin_kept n scope undone log i

begun_before : (register : Register) (log closed : List LogEntry) → Closes log closed → HasBegun register closed → HasBegun register log
begun_before registers.Idle log closed c h = tt
begun_before (registers.Entering f) log closed c h = tt
begun_before (registers.Live n declared moved) log closed (inl (none, is)) (scope, same, h) = (scope, same, subst (IsAmong (Began n scope)) is h)
begun_before (registers.Live n declared moved) log closed (inr (some, (undone, all, is))) (scope, same, h) = (scope, same, go (subst (IsAmong (Began n scope)) is h))
  where
    go : IsAmong (Began n scope) (Over ∷ (map Undid undone ++ log)) → IsAmong (Began n scope) log
    go (inl e) = absurd (cc)
    go (inr i) = begin_kept n scope undone log i

pub began_before : (logs closed : ℕ → List LogEntry) (events : List Event) → ((j : ℕ) → Closes (logs j) (closed j)) → Each (BeganIn closed) events → Each (BeganIn logs) events
began_before logs closed events c h = each_map (BeganIn closed) (BeganIn logs) one events h
  where
    one : (x : Event) → BeganIn closed x → BeganIn logs x
    one (Sample p j register) k = begun_before register (logs j) (closed j) (c j) k
    one _ k = tt
