-- No count passes how often the sessions may write, and the logs tell the mark.
use Rattle.std.proofs.Common.{◌≡◌, ℕ, zero, suc, ◌*◌, ◌<◌, ◌≤◌, List, [], ◌∷◌, length, Bool, true, false, sym, ap, subst, arith}
use Rattle.std.specs.Prelude.{◌==◌, ◌||◌, ◌&&◌, not, if◌then◌else◌, is_some, IsTrue}
use Rattle.std.proofs.lemmas.Bool.Decides.{Decides-eqb, nat_tests}
use Rattle.hg_base.specs.History.{image_in}
use Rattle.hg_base.proofs.ListFacts.{cases}
use Rattle.hg_core.specs.declared.log.LogEntry.{LogEntry}
use Rattle.hg_core.specs.declared.log.LogEntry.TheVariants.{Began, Saw, Refused, Outside, Wrote, Undid, Published, Over}
use Rattle.hg_core.specs.Logs.{wrotes, own_writes, has_number, newest_number, newest_of, UpTo}
use Rattle.hg_core.specs.Contents.{bucket_of}
use Rattle.hg_core.specs.Sums.{sum_to, sum_below}
use Rattle.hg_core.specs.Counters.{is_of, first_writes}
use Rattle.hg_core.specs.State.{CoreState}
use Rattle.hg_core.specs.Invariant.{IsSteady}
use Rattle.hg_core.proofs.Sums.{sum_most, below_same, below_plus, below_none, below_one, sums_swap}

-- ---- counts

-- the first writes of a log, bucket by bucket, are at most its writes
firsts_most : (buckets n : ℕ) (log : List LogEntry) → sum_below n (λ b. first_writes (is_of buckets b) log) ≤ wrotes log
firsts_most buckets n [] = omega (arith, below_none n)
firsts_most buckets n (Wrote r image ∷ log) =
    let x : Bool = not (is_some (image_in r (own_writes log))) in
    omega (arith, below_plus n (λ b. if (bucket_of buckets r == b) && x then 1 else 0) (λ b. first_writes (is_of buckets b) log), below_one n (bucket_of buckets r) x, firsts_most buckets n log)
firsts_most buckets n (Began at scope ∷ log) = firsts_most buckets n log
firsts_most buckets n (Saw t low high b rows ∷ log) = firsts_most buckets n log
firsts_most buckets n (Refused r answer ∷ log) = firsts_most buckets n log
firsts_most buckets n (Outside t ∷ log) = firsts_most buckets n log
firsts_most buckets n (Undid r ∷ log) = firsts_most buckets n log
firsts_most buckets n (Published m ∷ log) = firsts_most buckets n log
firsts_most buckets n (Over ∷ log) = firsts_most buckets n log

-- what was made in all buckets
pub made_most : (s : CoreState) → IsSteady s → sum_below s.buckets (λ b. (s.counters b).made) ≤ s.sessions * s.quota
made_most s h =
    let all : sum_below s.buckets (λ b. sum_to s.sessions (λ j. first_writes (is_of s.buckets b) (s.log j))) ≡ sum_below s.buckets (λ b. (s.counters b).made) = below_same s.buckets
    (λ b. (s.counters b).made) (λ b. sum_to s.sessions (λ j. first_writes (is_of s.buckets b) (s.log j))) (λ b less. sym (h.counters_balance.made b)) in
    let swapped = sums_swap s.buckets s.sessions (λ b j. first_writes (is_of s.buckets b) (s.log j)) in
    let most : (j : ℕ) → sum_below s.buckets (λ b. first_writes (is_of s.buckets b) (s.log j)) ≤ s.quota = λ j. omega (arith, firsts_most s.buckets s.buckets (s.log j), h.logs_answer.written j) in
    omega (arith, all, swapped, sum_most s.sessions s.quota (λ j. sum_below s.buckets (λ b. first_writes (is_of s.buckets b) (s.log j))) most)

-- ---- the mark

pub newest_most : (n : ℕ) (log : List LogEntry) → UpTo n log → newest_number log ≤ n
newest_most n [] u = omega arith
newest_most n (Published m ∷ log) u = omega (arith, u.0, newest_most n log u.1)
newest_most n (Began at scope ∷ log) u = newest_most n log u.1
newest_most n (Refused r answer ∷ log) u = newest_most n log u.1
newest_most n (Saw t low high b rows ∷ log) u = newest_most n log u
newest_most n (Outside t ∷ log) u = newest_most n log u
newest_most n (Wrote r image ∷ log) u = newest_most n log u
newest_most n (Undid r ∷ log) u = newest_most n log u
newest_most n (Over ∷ log) u = newest_most n log u

newest_least : (n : ℕ) (log : List LogEntry) → IsTrue (has_number n log) → n ≤ newest_number log
newest_least n [] e = absurd (let k : false ≡ true = e in cc)
newest_least n (Published m ∷ log) e = cases (m == n)
    (λ q. let same : m ≡ n = (Decides-eqb m n).0 q in omega (arith, same))
    (λ q. let rest : n ≤ newest_number log = newest_least n log (subst (λ b. (b || has_number n log) ≡ true) q e) in omega (arith, rest))
newest_least n (Began at scope ∷ log) e = newest_least n log e
newest_least n (Refused r answer ∷ log) e = newest_least n log e
newest_least n (Saw t low high b rows ∷ log) e = newest_least n log e
newest_least n (Outside t ∷ log) e = newest_least n log e
newest_least n (Wrote r image ∷ log) e = newest_least n log e
newest_least n (Undid r ∷ log) e = newest_least n log e
newest_least n (Over ∷ log) e = newest_least n log e

of_most : (n m : ℕ) (log : ℕ → List LogEntry) → ((j : ℕ) → UpTo m (log j)) → newest_of n log ≤ m
of_most zero m log u = omega arith
of_most (suc n) m log u = omega (arith, of_most n m log u, newest_most m (log (suc n)) (u (suc n)))

of_least : (n j : ℕ) (log : ℕ → List LogEntry) → 0 < j → j ≤ n → newest_number (log j) ≤ newest_of n log
of_least zero j log first last = absurd (omega arith)
of_least (suc n) j log first last = cases (j == suc n)
    (λ e. let same : j ≡ suc n = (Decides-eqb j (suc n)).0 e in let here : newest_number (log j) ≡ newest_number (log (suc n)) = ap (λ k. newest_number (log k)) same in omega (arith, here))
    (λ e. let less : j ≤ n = grind (arith, nat_tests) in omega (arith, of_least n j log first less))

pub mark_told : (s : CoreState) → IsSteady s → s.mark ≡ newest_of s.sessions s.log
mark_told s h = cases (0 == length s.history)
    (λ e. let none : length s.history ≡ 0 = grind (arith, nat_tests) in omega (arith, h.mark_is_length.is_length, of_most s.sessions (length s.history) s.log h.logs_answer.within))
    (λ e.
    let some : 0 < length s.history = grind (arith, nat_tests) in
    let one = h.logs_answer.named (length s.history) some (omega arith) in
    omega (
      arith,
      h.mark_is_length.is_length,
      of_most s.sessions (length s.history) s.log h.logs_answer.within,
      newest_least (length s.history)
          (s.log one.0) one.2,
      of_least s.sessions one.0 s.log one.1.first one.1.last,
    ))
