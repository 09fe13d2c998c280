-- The number of the last group is in some log.
use Rattle.std.proofs.Common.{◌≡◌, ℕ, zero, suc, ◌+◌, ◌<◌, ◌≤◌, List, [], ◌∷◌, ◌++◌, length, refl, ◌∙◌, arith}
use Rattle.std.specs.Prelude.{◌==◌, if◌then◌else◌}
use Rattle.std.proofs.lemmas.Bool.Decides.{Decides-eqb}
use Rattle.hg_base.specs.History.{History, Group, group_at}
use Rattle.hg_base.proofs.ListFacts.{cases}
use Rattle.hg_core.specs.declared.log.LogEntry.{LogEntry}
use Rattle.hg_core.specs.declared.log.LogEntry.TheVariants.{Began, Saw, Refused, Outside, Wrote, Undid, Published, Over}
use Rattle.hg_core.specs.Logs.{commit_in, published, UpTo}
use Rattle.hg_headline.specs.Logged.{Logged}
use Rattle.hg_headline.proofs.Commits.{first_picked, group_some}

-- a log that has commits of a number has the number
named : (m n j : ℕ) (l : List LogEntry) → UpTo n l → (published m j l ≡ [] → ⊥) → m ≤ n
named m n j [] u some = absurd (some refl)
named m n j (Began at scope ∷ l) u some = named m n j l u.1 some
named m n j (Saw t low high b rows ∷ l) u some = named m n j l u some
named m n j (Refused r a ∷ l) u some = named m n j l u.1 some
named m n j (Outside t ∷ l) u some = named m n j l u some
named m n j (Wrote r image ∷ l) u some = named m n j l u some
named m n j (Undid r ∷ l) u some = named m n j l u some
named m n j (Over ∷ l) u some = named m n j l u some
named m n j (Published k ∷ l) u some = cases (k == m)
    (λ e. let same : k ≡ m = (Decides-eqb k m).0 e in let most = u.0 in omega (arith, same, most))
    (λ e. named m n j l u.1 (λ none. some (λ i. none i ++ (if e i then commit_in j l ∷ [] else []))))

pub newest : (buckets n : ℕ) (h : History) (logs : ℕ → List LogEntry) → Logged buckets h logs → ((j : ℕ) → UpTo n (logs j)) → length h ≤ n
newest buckets n h logs g most = go (length h) refl
  where
    last : (i : ℕ) → length h ≡ suc i → suc i ≤ n
    last i e =
        let number : 1 + i ≡ suc i = omega arith in
        let group : Group = group_at h (1 + i) in
        let within : i < length h = omega (arith, e) in
        let bound : 1 + i ≤ n = first_picked group (group_some 1 h i g.history within) (1 + i ≤ n) (λ j some. named (1 + i) n j (logs j) (most j) (λ none. some (g.commits (1 + i) j ∙ none))) in
        omega (arith, bound)

    go : (m : ℕ) → length h ≡ m → length h ≤ n
    go zero e = omega (arith, e)
    go (suc i) e = let k = last i e in omega (arith, e, k)
