-- What a record says of the logs stays true while they grow.
use Rattle.std.proofs.Common.{◌≡◌, ℕ, ◌≤◌, List, [], ◌∷◌, ◌++◌, length, length-append, append_assoc, Option, None, Some, ◌⊎◌, inl, inr, refl, sym, ap, ◌∙◌, arith}
use Rattle.std.specs.Prelude.{IfSome, IsTrue}
use Rattle.hg_core.specs.declared.loaded.Loaded.{Loaded}
use Rattle.hg_core.specs.declared.register.Register.{Register}
use Rattle.hg_core.specs.declared.register.Register.TheVariants as registers
use Rattle.hg_core.specs.declared.phase.Phase.{Phase}
use Rattle.hg_core.specs.declared.phase.Phase.TheVariants.{Idle, Declared, Probed, Entered, Fixed, Live}
use Rattle.hg_core.specs.declared.log.LogEntry.{LogEntry}
use Rattle.hg_core.specs.declared.log.LogEntry.TheVariants.{Began, Saw, Refused, Outside, Wrote, Undid, Published, Over}
use Rattle.hg_core.specs.Logs.{current, has_begun}
use Rattle.hg_core.specs.Phases.{snapshot_in, IsEntering}
use Rattle.hg_core.specs.Passes.{PassRecord, found}
use Rattle.hg_core.specs.Registers.{Shows}
use Rattle.hg_core.specs.Reach.{Says, StandsIn, RecordsReachLogs}
use Rattle.hg_core.proofs.Indices.{Only, at_index}

begun_left : (a b : List LogEntry) → IsTrue (has_begun a) → IsTrue (has_begun (a ++ b))
begun_left [] b e = cc
begun_left (Began at scope ∷ a) b e = e
begun_left (Saw t low high bucket rows ∷ a) b e = begun_left a b e
begun_left (Refused r answer ∷ a) b e = begun_left a b e
begun_left (Outside t ∷ a) b e = begun_left a b e
begun_left (Wrote r image ∷ a) b e = begun_left a b e
begun_left (Undid r ∷ a) b e = begun_left a b e
begun_left (Published n ∷ a) b e = begun_left a b e
begun_left (Over ∷ a) b e = begun_left a b e

begun_right : (a b : List LogEntry) → IsTrue (has_begun b) → IsTrue (has_begun (a ++ b))
begun_right [] b e = e
begun_right (Began at scope ∷ a) b e = refl
begun_right (Saw t low high bucket rows ∷ a) b e = begun_right a b e
begun_right (Refused r answer ∷ a) b e = begun_right a b e
begun_right (Outside t ∷ a) b e = begun_right a b e
begun_right (Wrote r image ∷ a) b e = begun_right a b e
begun_right (Undid r ∷ a) b e = begun_right a b e
begun_right (Published n ∷ a) b e = begun_right a b e
begun_right (Over ∷ a) b e = begun_right a b e

says_step : (register : Register) (added later then : List LogEntry) (phase next : Phase) → (IsEntering phase → IsTrue (has_begun added) ⊎ IsEntering next) →
    Says register later then phase → Says register (added ++ later) then next
says_step registers.Idle added later then phase next f s = s
says_step (registers.Live n declared moved) added later then phase next f s = s
says_step (registers.Entering k) added later then phase next f s = (
  s.0,
  elim s.1 [
    | inl a ↦ inl (begun_right added later a)
    | inr a ↦ elim (f a) [ inl b ↦ inl (begun_left added later b) | inr b ↦ inr b ]
  ],
)

stands_step : (known : ℕ) (o : Option Loaded) (added log : List LogEntry) (phase next : Phase) → (IsEntering phase → IsTrue (has_begun added) ⊎ IsEntering next) →
    IfSome o (λ loaded. StandsIn known loaded.register log phase) → IfSome o (λ loaded. StandsIn known loaded.register (added ++ log) next)
stands_step known None added log phase next f h = tt
stands_step known (Some loaded) added log phase next f h = let r = h.2 in (
  added ++ h.0,
  h.1,
  record {
    log_is = ap (λ l. added ++ l) r.log_is ∙ sym (append_assoc added h.0 h.1);
    longer = r.longer;
    says = says_step loaded.register added h.0 h.1 phase next f r.says;
  },
)

-- one log grows
pub reach_step : (phase phase' : ℕ → Phase) (log log' : ℕ → List LogEntry) (pass : ℕ → PassRecord) (j : ℕ) (p : Phase) (added : List LogEntry) → RecordsReachLogs phase log pass →
    Only phase phase' j p → Only log log' j (added ++ log j) → (IsEntering (phase j) → IsTrue (has_begun added) ⊎ IsEntering p) → RecordsReachLogs phase' log' pass
reach_step phase phase' log log' pass j p added h op ol f = record {
  known = λ q. at_index j (λ k. (pass q).known k ≤ length (log' k)) (rw ol.here (omega (arith, h.known q j, length-append added (log j)))) (λ k other. rw (ol.there k other) (h.known q k));
  stands = λ q. at_index j (λ k. IfSome (found k (pass q).loaded) (λ loaded. StandsIn ((pass q).known k) loaded.register (log' k) (phase' k)))
      (rw (ol.here, op.here) (stands_step _ (found j (pass q).loaded) added (log j) (phase j) p f (h.stands q j)))
      (λ k other. rw (ol.there k other, op.there k other) (h.stands q k));
}

-- all logs may grow where the phases stay
pub reach_grown : (phase : ℕ → Phase) (log log' added : ℕ → List LogEntry) (pass : ℕ → PassRecord) → ((k : ℕ) → log' k ≡ added k ++ log k) → RecordsReachLogs phase log pass →
    RecordsReachLogs phase log' pass
reach_grown phase log log' added pass same h = record {
  known = λ q k. rw (same k) (omega (arith, h.known q k, length-append (added k) (log k)));
  stands = λ q k. rw (same k) (stands_step _ (found k (pass q).loaded) (added k) (log k) (phase k) (phase k) (λ e. inr e) (h.stands q k));
}

-- what a register that is loaded now says
pub says_now : (register : Register) (log : List LogEntry) (phase : Phase) → Shows phase register → current log ≡ snapshot_in phase → Says register [] log phase
says_now register log Idle a e = rw a e
says_now register log (Declared scope) a e = rw a e
says_now register log (Probed scope f) a e = rw a e
says_now register log (Entered scope f) a e = rw a (e, inr tt)
says_now register log (Fixed scope f m) a e = let k = a.0 in rw k (e, inr tt)
says_now register log (Live at scope) a e = let k = a.1.value in rw k (scope, record { snapshot = e; tables = refl; moves = a.1.declared })
