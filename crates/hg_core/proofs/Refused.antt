-- Wrong steps, each at a state that a run reaches, so that it meets the invariant. In each, session 2 committed a write.
use Rattle.std.proofs.Common.{◌≡◌, ℕ, List, [], inl, inr, refl, arith}
use Rattle.hg_base.specs.declared.scope.Scope.{Scope}
use Rattle.hg_base.specs.declared.scope.Scope.TheVariants.{All, Declared}
use Rattle.hg_core.specs.declared.phase.Phase.TheVariants.{Entered}
use Rattle.hg_core.specs.Passes.{IsWhole}
use Rattle.hg_core.specs.State.{CoreState, opened}
use Rattle.hg_core.specs.Events.{GoLive, Sample, MaySample, May, happens}
use Rattle.hg_core.specs.Steps.{Step, Run, run}
use Rattle.hg_core.specs.Missed.{MissesNone}
use Rattle.hg_core.specs.Invariant.{IsSteady}
use Rattle.hg_core.specs.Worked.{slow_begin, late_entry, early_sample, low_fix, no_tables, early_live}
use Rattle.hg_core.specs.Wrong.{live_by_one_load, mark_loaded_last, mark_alone, sampled_without_entering, MayGoLiveWith, mask_stored_late, sampled_with}
use Rattle.hg_core.proofs.Runs.{steady_after}
use Rattle.hg_core.proofs.WorkedParts.{slow_whole}
use Rattle.hg_core.proofs.WorkedBegins.{slow_begin_runs, late_entry_runs, early_sample_runs, low_fix_runs}
use Rattle.hg_core.proofs.WorkedMasks.{no_tables_runs, early_live_runs}

-- the state after a run of two sessions
abbrev pub after : List Step → CoreState
after steps = run (opened 2 1 1 1 1) steps

steady : (steps : List Step) → Run (opened 2 1 1 1 1) steps → IsSteady (after steps)
steady steps runs = steady_after 2 1 1 1 1 steps runs

-- ---- one load

pub one_load_refused : ((s : CoreState) (j f : ℕ) (scope : Scope) → IsSteady s → s.phase j ≡ Entered scope f → IsSteady (live_by_one_load s j f scope)) → ⊥
one_load_refused keeps = elim ((keeps (after late_entry) 1 0 All (steady late_entry late_entry_runs) refl).records_bound_sessions 0 1) [
  | inl a ↦ omega arith
  | inr a ↦ elim a [ inl b ↦ b | inr b ↦ b ]
]

-- ---- registers before the mark

pub mark_last_refused : ((s : CoreState) (p : ℕ) → IsSteady s → IsSteady (mark_loaded_last s p)) → ⊥
mark_last_refused keeps = elim ((keeps (after early_sample) 0 (steady early_sample early_sample_runs)).records_bound_sessions 0 1) [
  | inl a ↦ omega arith
  | inr a ↦ elim a [ inl b ↦ b | inr b ↦ b ]
]

-- ---- a horizon without entering

pub left_out_refused : ((s : CoreState) (p j : ℕ) → IsSteady s → May s (Sample p j) → IsSteady (sampled_without_entering s p j)) → ⊥
left_out_refused keeps = elim ((keeps (after low_fix) 0 1 (steady low_fix low_fix_runs)
    (record { session = record { first = omega arith; last = omega arith }; fresh = refl; there = omega arith })).records_bound_sessions 0 1) [
      | inl a ↦ omega arith
      | inr a ↦ a
    ]

pub mark_alone_refused : ((s : CoreState) (p : ℕ) → IsSteady s → IsWhole s.sessions (s.pass p) → MissesNone (mark_alone (s.pass p)) (s.pass p) s.phase) → ⊥
mark_alone_refused misses = elim (misses (after slow_begin) 0 (steady slow_begin slow_begin_runs) slow_whole 1 0 (Declared 1) (record { 0 = 0 }) refl refl) [
  | inl a ↦ omega arith
  | inr a ↦ omega (arith, a.1)
]

-- ---- a mask word that isn't that of the session's tables

-- session 1 declared no table, and goes live with one
other_tables : MayGoLiveWith (after no_tables) 1 0 (Declared 1)
other_tables = record { fixed = (Declared 0, 0, refl); tables = omega arith }

pub undeclared_refused : ((s : CoreState) (j m : ℕ) (scope : Scope) → IsSteady s → MayGoLiveWith s j m scope → IsSteady (happens s (GoLive j m scope))) → ⊥
undeclared_refused keeps = let z : 0 ≡ 1 = ((keeps (after no_tables) 1 0 (Declared 1) (steady no_tables no_tables_runs) other_tables).registers_agree.masks 1).value in omega (arith, z)

-- the pass loaded the mask before it was stored, and takes the table's versions for nobody's
pub stored_late_refused : ((s : CoreState) (p j m : ℕ) (scope : Scope) → IsSteady s → MaySample s p j → MayGoLiveWith s j m scope → IsSteady (mask_stored_late s p j m scope)) → ⊥
stored_late_refused keeps = elim ((keeps (after no_tables) 0 1 0 (Declared 1) (steady no_tables no_tables_runs)
    (record { session = record { first = omega arith; last = omega arith }; fresh = refl; there = omega arith }) other_tables).records_bound_sessions 0 1) [
      | inl a ↦ omega arith
      | inr a ↦ elim a [ inl b ↦ b | inr b ↦ (let z = b.2 (record { 0 = 0 }) refl in cc) ]
    ]

-- the pass loaded the mask before session 1 began
pub loaded_first_refused : ((s : CoreState) (p j : ℕ) (steps : List Step) → IsSteady s → Run s steps → MaySample (run s steps) p j → IsSteady (sampled_with (run s steps) p j (s.mask j))) → ⊥
loaded_first_refused keeps = elim ((keeps (after []) 0 1 early_live (steady [] tt) early_live_runs
    (record { session = record { first = omega arith; last = omega arith }; fresh = refl; there = omega arith })).records_bound_sessions 0 1) [
      | inl a ↦ omega arith
      | inr a ↦ elim a [ inl b ↦ b | inr b ↦ (let z = b.2 (record { 0 = 0 }) refl in cc) ]
    ]
