-- Each register of a board has a word.
use Rattle.std.proofs.Common.{◌≡◌, ℕ, zero, suc, ◌-◌, ◌*◌, ◌/◌, ◌%◌, ◌^◌, ◌<◌, ◌≤◌, ◌==◌, ◌&&◌, Bool, true, false, Option, None, Some, refl, sym, subst, arith}
use Rattle.std.proofs.lemmas.Bool.Decides.{nat_tests}
use Rattle.std.specs.Prelude.{IfSome, IsSome}
use Rattle.std.proofs.Math.Nat.{pow-le-pow_right}
use Rattle.hg_base.specs.declared.rid.TableId.{TableId}
use Rattle.hg_base.specs.declared.scope.Scope.{Scope}
use Rattle.hg_base.specs.declared.scope.Scope.TheVariants as scopes
use Rattle.hg_base.specs.Transcript.{has}
use Rattle.hg_base.proofs.ListFacts.{false_true}
use Rattle.hg_core.specs.declared.register.Register.{Register}
use Rattle.hg_core.specs.declared.phase.Phase.{Phase}
use Rattle.hg_core.specs.declared.phase.Phase.TheVariants.{Idle, Declared, Probed, Entered, Fixed, Live}
use Rattle.hg_core.specs.Words.{IsBelow, IsRegister, mask_of}
use Rattle.hg_core.specs.Phases.{scope_in}
use Rattle.hg_core.specs.State.{CoreState}
use Rattle.hg_core.specs.Marks.{PhaseUpTo}
use Rattle.hg_core.specs.Registers.{Shows, IsMaskOf}
use Rattle.hg_core.specs.Invariant.{IsSteady}
use Rattle.hg_core.proofs.Counting.{mark_most}

shown_has_word : (mark : ℕ) (p : Phase) (register : Register) → Shows p register → PhaseUpTo mark p → mark < 2 ^ 44 → IsRegister register
shown_has_word mark Idle register a u m = subst IsRegister (sym a) (record { number = omega arith; declared = λ h. absurd (false_true h) })
shown_has_word mark (Declared scope) register a u m = subst IsRegister (sym a) (record { number = omega arith; declared = λ h. absurd (false_true h) })
shown_has_word mark (Probed scope f) register a u m = subst IsRegister (sym a) (record { number = omega arith; declared = λ h. absurd (false_true h) })
shown_has_word mark (Entered scope f) register a u m = subst IsRegister (sym a) (record { number = omega arith; declared = λ h. absurd (false_true h) })
shown_has_word mark (Fixed scope f n) register a u m = subst IsRegister (sym a.0) (record { number = omega (arith, u.0); declared = λ h. absurd (false_true h) })
shown_has_word mark (Live at scope) register a u m = subst IsRegister (sym a.1.value) (record { number = omega arith; declared = a.1.declared })

pub has_word : (s : CoreState) (j : ℕ) → IsSteady s → s.sessions * s.quota < 2 ^ 44 → IsRegister (s.register j)
has_word s j h room = shown_has_word s.mark (s.phase j) (s.register j) (h.registers_agree.shows j) (h.mark_is_length.sessions j) (omega (arith, mark_most s h))

-- a scope's mask fits a word
mask_fits : (tables : ℕ) (scope : Scope) → tables ≤ 64 → IsBelow tables scope → mask_of scope < 2 ^ 64
mask_fits tables scopes.All le b = omega arith
mask_fits tables (scopes.Declared mask) le b = let more : 2 ^ tables ≤ 2 ^ 64 = pow-le-pow_right {n = 2} (omega arith) le in omega arith

pub has_mask_word : (s : CoreState) (j : ℕ) → IsSteady s → s.tables ≤ 64 → IsSome (scope_in (s.phase j)) → s.mask j < 2 ^ 64
has_mask_word s j h le awake = go (scope_in (s.phase j)) awake (h.registers_agree.masks j)
  where
    go : (o : Option Scope) → IsSome o → IfSome o (λ scope. IsMaskOf s.tables scope (s.mask j)) → s.mask j < 2 ^ 64
    go None some is = cc
    go (Some scope) some is = omega (arith, is.value, mask_fits s.tables scope le is.within)

-- all ones have each table below 64
abbrev pub ones_below : ℕ → Bool
ones_below zero = true
ones_below (suc n) = ((2 ^ 64 - 1) / 2 ^ n % 2 == 1) && ones_below n

one_at : (n t : ℕ) → t < n → ones_below n ≡ true → ((2 ^ 64 - 1) / 2 ^ t % 2 == 1) ≡ true
one_at zero t less e = absurd (omega arith)
one_at (suc n) t less e = go (t == n) refl (λ k. one_at n t k (both_true _ _ e).1) (both_true _ _ e).0
  where
    both_true : (a b : Bool) → (a && b) ≡ true → (a ≡ true) × (b ≡ true)
    both_true true b e = (refl, e)
    both_true false b e = cc

    go : (b : Bool) → (t == n) ≡ b → (t < n → ((2 ^ 64 - 1) / 2 ^ t % 2 == 1) ≡ true) → ((2 ^ 64 - 1) / 2 ^ n % 2 == 1) ≡ true → ((2 ^ 64 - 1) / 2 ^ t % 2 == 1) ≡ true
    go true q later last = let same : n ≡ t = grind (arith, nat_tests) in subst (λ k. ((2 ^ 64 - 1) / 2 ^ k % 2 == 1) ≡ true) same last
    go false q later last = later (grind (arith, nat_tests))

pub mask_has_all : (scope : Scope) (t : TableId) → t.0 < 64 → has (scopes.Declared (mask_of scope)) t ≡ has scope t
mask_has_all scopes.All t less = one_at 64 t.0 less refl
mask_has_all (scopes.Declared mask) t less = refl
