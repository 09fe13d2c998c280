-- Each transaction has at most one commit number, and each group one of a session's transactions: so the mark is bounded.
use Rattle.std.proofs.Common.{◌≡◌, ℕ, zero, suc, ◌*◌, ◌<◌, ◌≤◌, List, [], ◌∷◌, length, Bool, true, false, refl, subst, arith}
use Rattle.std.specs.Prelude.{◌==◌, ◌||◌, if◌then◌else◌, nat_le, IsSome, IsTrue}
use Rattle.std.proofs.lemmas.Bool.Decides.{nat_tests}
use Rattle.hg_base.specs.History.{History}
use Rattle.hg_base.proofs.ListFacts.{cases}
use Rattle.hg_core.specs.declared.phase.Phase.{Phase}
use Rattle.hg_core.specs.declared.phase.Phase.TheVariants.{Idle, Declared, Probed, Entered, Fixed, Live}
use Rattle.hg_core.specs.declared.log.LogEntry.{LogEntry}
use Rattle.hg_core.specs.declared.log.LogEntry.TheVariants.{Began, Saw, Refused, Outside, Wrote, Undid, Published, Over}
use Rattle.hg_core.specs.Logs.{current, begans, is_plain, has_number}
use Rattle.hg_core.specs.Phases.{MayHaveBegun}
use Rattle.hg_core.specs.State.{CoreState}
use Rattle.hg_core.specs.Judged.{Judged, IsNamed}
use Rattle.hg_core.specs.Sums.{sum_to}
use Rattle.hg_core.specs.Invariant.{IsSteady}
use Rattle.hg_core.proofs.Sums.{sum_more, sum_most}

-- ---- commit numbers of a log

-- how many of a log's commit numbers are at most n
numbers_to : ℕ → List LogEntry → ℕ
numbers_to n [] = 0
numbers_to n (Published number ∷ log) = if nat_le number n then suc (numbers_to n log) else numbers_to n log
numbers_to n (_ ∷ log) = numbers_to n log

numbers_grow : (n : ℕ) (log : List LogEntry) → numbers_to n log ≤ numbers_to (suc n) log
unfolding numbers_to
numbers_grow n [] = omega arith
numbers_grow n (Published m ∷ log) = step (nat_le m n) (nat_le m (suc n)) (λ e. grind (arith, nat_tests)) (numbers_grow n log)
  where
    step : (a b : Bool) → (a ≡ true → b ≡ true) → numbers_to n log ≤ numbers_to (suc n) log →
        (if a then suc (numbers_to n log) else numbers_to n log) ≤ (if b then suc (numbers_to (suc n) log) else numbers_to (suc n) log)
    step true true f le = omega arith
    step true false f le = absurd (let e : false ≡ true = f refl in cc)
    step false true f le = omega arith
    step false false f le = le
numbers_grow n (Began at scope ∷ log) = numbers_grow n log
numbers_grow n (Saw t low high b rows ∷ log) = numbers_grow n log
numbers_grow n (Refused r answer ∷ log) = numbers_grow n log
numbers_grow n (Outside t ∷ log) = numbers_grow n log
numbers_grow n (Wrote r image ∷ log) = numbers_grow n log
numbers_grow n (Undid r ∷ log) = numbers_grow n log
numbers_grow n (Over ∷ log) = numbers_grow n log

numbers_named : (n : ℕ) (log : List LogEntry) → IsTrue (has_number (suc n) log) → suc (numbers_to n log) ≤ numbers_to (suc n) log
unfolding numbers_to
numbers_named n [] e = absurd (let k : false ≡ true = e in cc)
numbers_named n (Published m ∷ log) e = cases (m == suc n)
    (λ q.
    let low : nat_le m n ≡ false = grind (arith, nat_tests) in
    let high : nat_le m (suc n) ≡ true = grind (arith, nat_tests) in
    rw (low, high) (omega (arith, numbers_grow n log)))
    (λ q.
    let rest : IsTrue (has_number (suc n) log) = subst (λ b. IsTrue (b || has_number (suc n) log)) q e in
    let same : nat_le m n ≡ nat_le m (suc n) = grind (arith, nat_tests) in
    step (nat_le m n) (nat_le m (suc n)) same (numbers_named n log rest))
  where
    step : (a b : Bool) → a ≡ b → suc (numbers_to n log) ≤ numbers_to (suc n) log →
        suc (if a then suc (numbers_to n log) else numbers_to n log) ≤ (if b then suc (numbers_to (suc n) log) else numbers_to (suc n) log)
    step true true f le = omega arith
    step true false f le = cc
    step false true f le = cc
    step false false f le = le
numbers_named n (Began at scope ∷ log) e = numbers_named n log e
numbers_named n (Saw t low high b rows ∷ log) e = numbers_named n log e
numbers_named n (Refused r answer ∷ log) e = numbers_named n log e
numbers_named n (Outside t ∷ log) e = numbers_named n log e
numbers_named n (Wrote r image ∷ log) e = numbers_named n log e
numbers_named n (Undid r ∷ log) e = numbers_named n log e
numbers_named n (Over ∷ log) e = numbers_named n log e

-- a log has no more commit numbers than begins, and fewer while a transaction is open that can still publish
record IsCounted (n : ℕ) (log : List LogEntry) : Type 0 where
  pub most : numbers_to n log ≤ begans log
  pub fewer : IsSome (current log) → IsTrue (is_plain log) → suc (numbers_to n log) ≤ begans log

counted : (h : History) (n : ℕ) (log : List LogEntry) → Judged h log → IsCounted n log
unfolding numbers_to
counted h n [] j = record { most = omega arith; fewer = λ some plain. cc }
counted h n (Began at scope ∷ log) j = let c = counted h n log j.1 in record { most = omega (arith, c.most); fewer = λ some plain. omega (arith, c.most) }
counted h n (Over ∷ log) j = let c = counted h n log j.1 in record { most = c.most; fewer = λ some plain. cc }
counted h n (Published m ∷ log) j = let c = counted h n log j.1 in record { most = step (nat_le m n) (c.fewer j.0.opened j.0.plain); fewer = λ some plain. cc }
  where
    step : (b : Bool) → suc (numbers_to n log) ≤ begans log → (if b then suc (numbers_to n log) else numbers_to n log) ≤ begans log
    step true le = le
    step false le = omega arith
counted h n (Undid r ∷ log) j = let c = counted h n log j.1 in record { most = c.most; fewer = λ some plain. cc }
counted h n (Saw t low high b rows ∷ log) j = let c = counted h n log j.1 in record { most = c.most; fewer = c.fewer }
counted h n (Refused r answer ∷ log) j = let c = counted h n log j.1 in record { most = c.most; fewer = c.fewer }
counted h n (Outside t ∷ log) j = let c = counted h n log j.1 in record { most = c.most; fewer = c.fewer }
counted h n (Wrote r image ∷ log) j = let c = counted h n log j.1 in record { most = c.most; fewer = c.fewer }

-- ---- the mark

groups_counted : (sessions : ℕ) (log : ℕ → List LogEntry) (n : ℕ) → ((m : ℕ) → 0 < m → m ≤ n → IsNamed sessions log m) → n ≤ sum_to sessions (λ j. numbers_to n (log j))
groups_counted sessions log zero named = omega arith
groups_counted sessions log (suc n) named =
    let one = named (suc n) (omega arith) (omega arith) in
    let less : (m : ℕ) → 0 < m → m ≤ n → IsNamed sessions log m = λ m some last. named m some (omega arith) in
    omega (
      arith,
      groups_counted sessions log n less,
      sum_more sessions (λ j. numbers_to n (log j)) (λ j. numbers_to (suc n) (log j)) one.0 one.1.first one.1.last
          (λ k. numbers_grow n (log k)) (numbers_named n (log one.0) one.2),
    )

begun_most : (quota n : ℕ) (p : Phase) → MayHaveBegun quota p n → n ≤ quota
begun_most quota n Idle e = e
begun_most quota n (Declared scope) e = omega arith
begun_most quota n (Probed scope f) e = omega arith
begun_most quota n (Entered scope f) e = omega arith
begun_most quota n (Fixed scope f m) e = omega arith
begun_most quota n (Live at scope) e = e

pub mark_most : (s : CoreState) → IsSteady s → s.mark ≤ s.sessions * s.quota
mark_most s h =
    let n = length s.history in
    let each_most : (k : ℕ) → numbers_to n (s.log k) ≤ s.quota = λ k. omega (
      arith,
      (counted s.history n (s.log k) (h.logs_answer.judged k)).most,
      begun_most s.quota
          (begans (s.log k)) (s.phase k) (h.logs_answer.room k),
    ) in
    omega (arith, h.mark_is_length.is_length, groups_counted s.sessions s.log n h.logs_answer.named, sum_most s.sessions s.quota (λ j. numbers_to n (s.log j)) each_most)
