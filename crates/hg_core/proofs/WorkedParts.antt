-- What the worked runs share: the sessions exist, a commit may be published, and a pass has loaded all registers.
use Rattle.std.proofs.Common.{◌≡◌, ℕ, zero, suc, ◌<◌, ◌≤◌, List, [], ◌∷◌, None, Some, Bool, true, false, ◌&&◌, ◌||◌, refl, sym, subst, arith}
use Rattle.std.specs.Prelude.{if◌then◌else◌, IsSome, IsTrue}
use Rattle.std.proofs.lemmas.Bool.Decides.{nat_tests}
use Rattle.hg_base.specs.declared.rid.Rid.{Rid}
use Rattle.hg_base.specs.declared.image.Image.{Image}
use Rattle.hg_base.specs.declared.scope.Scope.TheVariants.{All, Declared}
use Rattle.hg_base.specs.History.{same_rid}
use Rattle.hg_base.proofs.ListFacts.{false_true}
use Rattle.hg_core.specs.declared.log.LogEntry.{LogEntry}
use Rattle.hg_core.specs.declared.log.LogEntry.TheVariants.{Began, Wrote, Undid}
use Rattle.hg_core.specs.Logs.{current, is_plain, open_in, is_in}
use Rattle.hg_core.specs.declared.register.Register.TheVariants as registers
use Rattle.hg_core.specs.Passes.{found, HasMask, IsWhole}
use Rattle.hg_core.specs.Phases.{IsSession}
use Rattle.hg_core.specs.Contents.{is_stamped}
use Rattle.hg_core.specs.State.{opened}
use Rattle.hg_core.specs.Events.{MayPublish}
use Rattle.hg_core.specs.Steps.{run}
use Rattle.hg_core.specs.Worked.{one_rid, two_rid, row, slow_begin, two_versions, moved_snapshot, no_masks}
use Rattle.hg_core.specs.Worked.{late_snapshot}
use Rattle.hg_core.proofs.Loading.{found_each}

pub first : IsSession 2 1
first = record { first = omega arith; last = omega arith }

pub second : IsSession 2 2
second = record { first = omega arith; last = omega arith }

-- what session 2 wrote is stamped
abbrev pub wrote : Image → ℕ → List LogEntry → List LogEntry
wrote image at earlier = Wrote one_rid image ∷ Began at All ∷ earlier

stamped_all : (log : ℕ → List LogEntry) (image : Image) (at : ℕ) (earlier : List LogEntry) → log 2 ≡ wrote image at earlier → (j : ℕ) (r : Rid) → IsTrue (is_in (2 ∷ []) j) →
    IsSome (open_in r (log j)) → IsTrue (is_stamped j r ((2, one_rid) ∷ []))
stamped_all log image at earlier e j r is_of some =
    let two : 2 ≡ j = grind (arith, nat_tests) in
    subst (λ k. IsTrue (is_stamped k r ((2, one_rid) ∷ []))) two (go (same_rid one_rid r) (subst (λ l. IsSome (open_in r l)) e (subst (λ k. IsSome (open_in r (log k))) (sym two) some)))
  where
    go : (b : Bool) → IsSome (if b then Some image else None) → IsTrue ((true && b) || false)
    go true s = refl
    go false s = cc

pub publishes : (log : ℕ → List LogEntry) (image : Image) (at : ℕ) (earlier : List LogEntry) → log 2 ≡ wrote image at earlier → MayPublish log ((2, one_rid) ∷ []) (2 ∷ [])
publishes log image at earlier e = record {
  some = omega arith;
  distinct = (refl, tt);
  opened = (subst (λ l. IsSome (current l)) (sym e) refl, tt);
  plain = (subst (λ l. IsTrue (is_plain l)) (sym e) refl, tt);
  stamped = λ j. refl;
  whole = stamped_all log image at earlier e;
}

-- what session 1 wrote and took back isn't open
pub none_left : (r : Rid) → open_in r (Undid two_rid ∷ Wrote two_rid row ∷ Began 0 (Declared 1) ∷ []) ≡ None
none_left r = go (same_rid two_rid r)
  where
    go : (b : Bool) → (if b then None else (if b then Some row else None)) ≡ None
    go true = refl
    go false = refl

-- the pass of the slow begin has loaded both registers
pub slow_whole : IsWhole 2 ((run (opened 2 1 1 1 1) slow_begin).pass 0)
slow_whole = record {
  registers = λ j session. go j session.first session.last;
  masks = λ j. found_each HasMask j ((2, record { register = registers.Idle; mask = None }) ∷ (1, record { register = registers.Entering 0; mask = None }) ∷ [])
      (λ e. absurd (false_true e), (λ e. absurd (false_true e), tt));
}
  where
    go : (k : ℕ) → 0 < k → k ≤ 2 → IsSome (found k ((2, record { register = registers.Idle; mask = None }) ∷ (1, record { register = registers.Entering 0; mask = None }) ∷ []))
    go zero a b = absurd (omega arith)
    go (suc zero) a b = refl
    go (suc (suc zero)) a b = refl
    go (suc (suc (suc k))) a b = absurd (omega arith)

pub two_whole : (image : Image) → IsWhole 2 ((run (opened 2 1 1 1 2) (two_versions image)).pass 0)
two_whole image = record {
  registers = λ j session. go j session.first session.last;
  masks = λ j. found_each HasMask j ((2, record { register = registers.Idle; mask = None }) ∷ (1, record { register = registers.Live 1 true false; mask = Some 1 }) ∷ [])
      (λ e. absurd (false_true e), (λ e. refl, tt));
}
  where
    go : (k : ℕ) → 0 < k → k ≤ 2 → IsSome (found k ((2, record { register = registers.Idle; mask = None }) ∷ (1, record { register = registers.Live 1 true false; mask = Some 1 }) ∷ []))
    go zero a b = absurd (omega arith)
    go (suc zero) a b = refl
    go (suc (suc zero)) a b = refl
    go (suc (suc (suc k))) a b = absurd (omega arith)

pub moved_whole : IsWhole 2 ((run (opened 2 1 1 1 2) moved_snapshot).pass 0)
moved_whole = record {
  registers = λ j session. go j session.first session.last;
  masks = λ j. found_each HasMask j ((2, record { register = registers.Idle; mask = None }) ∷ (1, record { register = registers.Live 1 true true; mask = Some 1 }) ∷ [])
      (λ e. absurd (false_true e), (λ e. refl, tt));
}
  where
    go : (k : ℕ) → 0 < k → k ≤ 2 → IsSome (found k ((2, record { register = registers.Idle; mask = None }) ∷ (1, record { register = registers.Live 1 true true; mask = Some 1 }) ∷ []))
    go zero a b = absurd (omega arith)
    go (suc zero) a b = refl
    go (suc (suc zero)) a b = refl
    go (suc (suc (suc k))) a b = absurd (omega arith)

-- both registers are loaded, and not the mask
pub no_masks_found : (j : ℕ) → IsSession 2 j → IsSome (found j ((run (opened 2 1 1 1 2) no_masks).pass 0).loaded)
no_masks_found j session = go j session.first session.last
  where
    go : (k : ℕ) → 0 < k → k ≤ 2 → IsSome (found k ((2, record { register = registers.Idle; mask = None }) ∷ (1, record { register = registers.Live 1 true true; mask = None }) ∷ []))
    go zero a b = absurd (omega arith)
    go (suc zero) a b = refl
    go (suc (suc zero)) a b = refl
    go (suc (suc (suc k))) a b = absurd (omega arith)

pub late_whole : IsWhole 2 ((run (opened 2 1 1 1 2) late_snapshot).pass 0)
late_whole = record {
  registers = λ j session. go j session.first session.last;
  masks = λ j. found_each HasMask j ((2, record { register = registers.Idle; mask = None }) ∷ (1, record { register = registers.Live 2 false false; mask = None }) ∷ [])
      (λ e. absurd (false_true e), (λ e. absurd (false_true e), tt));
}
  where
    go : (k : ℕ) → 0 < k → k ≤ 2 → IsSome (found k ((2, record { register = registers.Idle; mask = None }) ∷ (1, record { register = registers.Live 2 false false; mask = None }) ∷ []))
    go zero a b = absurd (omega arith)
    go (suc zero) a b = refl
    go (suc (suc zero)) a b = refl
    go (suc (suc (suc k))) a b = absurd (omega arith)
