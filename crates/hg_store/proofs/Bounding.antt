-- Room in a bucket's counter, and what an own open write tells.
use Rattle.std.proofs.Common.{◌≡◌, inl, inr, ℕ, suc, ◌+◌, ◌*◌, ◌<◌, ◌≤◌, List, [], ◌∷◌, Bool, true, false, Option, Some, None, sym, ap, ◌∙◌, cond, subst, arith}
use Rattle.std.specs.Prelude.{◌&&◌, not, is_some, if◌then◌else◌, IfSome, option_map, nat_le}
use Rattle.std.specs.Option.{option_or}
use Rattle.std.proofs.lemmas.Bool.Decides.{nat_tests}
use Rattle.hg_base.specs.declared.rid.Rid.{Rid}
use Rattle.hg_base.specs.declared.scope.Scope.{Scope}
use Rattle.hg_base.specs.declared.image.Image.{Image}
use Rattle.hg_base.specs.declared.writer.Writer.{Writer}
use Rattle.hg_base.specs.Lists.{Each}
use Rattle.hg_base.specs.History.{image_in, writes}
use Rattle.hg_core.specs.declared.log.LogEntry.{LogEntry}
use Rattle.hg_core.specs.declared.log.LogEntry.TheVariants.{Began, Saw, Refused, Outside, Wrote, Undid, Published, Over}
use Rattle.hg_core.specs.declared.phase.Phase.TheVariants.{Live}
use Rattle.hg_core.specs.declared.version.Stamp.{Stamp}
use Rattle.hg_core.specs.declared.version.Stamp.TheVariants.{Written, Numbered, Oldest}
use Rattle.hg_core.specs.declared.version.Version.{Version}
use Rattle.hg_core.specs.Versions.{stamp_number, is_up_to, first_at, pair_of, paired, newest_at}
use Rattle.hg_core.specs.Contents.{versions}
use Rattle.hg_core.specs.Covered.{last_pair, MayCommit}
use Rattle.hg_core.specs.Logs.{wrotes, own_writes, open_in}
use Rattle.hg_core.specs.Phases.{IsSession}
use Rattle.hg_core.specs.Counters.{total, is_of, first_writes}
use Rattle.hg_core.specs.Ordered.{Falls}
use Rattle.hg_core.specs.State.{CoreState}
use Rattle.hg_core.specs.Invariant.{IsSteady}
use Rattle.hg_core.proofs.Sums.{sum_more, sum_most}
use Rattle.hg_rule.specs.Writes.{IsOwnOrSeen}

-- ---- the counter

firsts_most : (test : Rid → Bool) (log : List LogEntry) → first_writes test log ≤ wrotes log
firsts_most test [] = omega arith
firsts_most test (Wrote r image ∷ log) = go (test r && not (is_some (image_in r (own_writes log)))) (firsts_most test log)
  where
    go : (b : Bool) → first_writes test log ≤ wrotes log → (if b then 1 else 0) + first_writes test log ≤ suc (wrotes log)
    go true le = omega arith
    go false le = omega arith
firsts_most test (Began at scope ∷ log) = firsts_most test log
firsts_most test (Saw t low high b rows ∷ log) = firsts_most test log
firsts_most test (Refused r answer ∷ log) = firsts_most test log
firsts_most test (Outside t ∷ log) = firsts_most test log
firsts_most test (Undid r ∷ log) = firsts_most test log
firsts_most test (Published m ∷ log) = firsts_most test log
firsts_most test (Over ∷ log) = firsts_most test log

-- where a session may still write, a bucket may still count
pub made_below : (s : CoreState) → IsSteady s → (j b : ℕ) → IsSession s.sessions j → wrotes (s.log j) < s.quota → (s.counters b).made < s.sessions * s.quota
made_below s h j b is room =
    let all = h.counters_balance.made b in
    let most : (k : ℕ) → first_writes (is_of s.buckets b) (s.log k) ≤ s.quota = λ k. omega (arith, firsts_most (is_of s.buckets b) (s.log k), h.logs_answer.written k) in
    let more = sum_more s.sessions (λ k. first_writes (is_of s.buckets b) (s.log k)) (λ k. s.quota) j is.first is.last most (omega (arith, firsts_most (is_of s.buckets b) (s.log j), room)) in
    omega (arith, all, more, sum_most s.sessions s.quota (λ k. s.quota) (λ k. omega arith))

-- and what it holds is at most as much
pub total_most : (s : CoreState) → IsSteady s → (b : ℕ) → total (s.bucket b) ≤ s.sessions * s.quota
total_most s h b =
    let all = h.counters_balance.made b in
    let most : (k : ℕ) → first_writes (is_of s.buckets b) (s.log k) ≤ s.quota = λ k. omega (arith, firsts_most (is_of s.buckets b) (s.log k), h.logs_answer.written k) in
    omega (arith, all, h.counters_balance.balance b, sum_most s.sessions s.quota (λ k. first_writes (is_of s.buckets b) (s.log k)) most)

-- ---- an own open write

last_each : (P : ℕ × Image → Type 0) (ws : List (ℕ × Image)) → Each P ws → IfSome (last_pair ws) P
last_each P [] e = tt
last_each P (w ∷ ws) e = go (last_pair ws) (last_each P ws e.1)
  where
    go : (o : Option (ℕ × Image)) → IfSome o P → IfSome (option_or o (Some w)) P
    go None k = e.0
    go (Some x) k = k

same_number : (at : ℕ) (o p : Option (ℕ × Image)) → option_map (λ (x : ℕ × Image). x.0) o ≡ option_map (λ (x : ℕ × Image). x.0) p → IfSome p (λ x. x.0 ≤ at) → IfSome o (λ x. x.0 ≤ at)
same_number at None p e k = tt
same_number at (Some x) None e k = absurd cc
same_number at (Some x) (Some y) e k = let same : x.0 ≡ y.0 = cc in omega (arith, same, k)

-- what is published of a record that a live session has open is at or below its snapshot
pub newest_seen : (s : CoreState) → IsSteady s → (j at : ℕ) (scope : Scope) (r : Rid) (image : Image) → s.phase j ≡ Live at scope → open_in r (s.log j) ≡ Some image →
    IfSome (newest_at s.mark (versions s.buckets s.bucket r)) (λ pair. pair.0 ≤ at)
newest_seen s h j at scope r image live own = elim (h.covered r).newest [
  | inl e ↦ same_number at (newest_at s.mark (versions s.buckets s.bucket r)) (last_pair (writes s.history r)) e
      (last_each (λ x. x.0 ≤ at) (writes s.history r) (subst (MayCommit s.history r) live (h.open_writes_may_commit j r image own)).1)
  | inr none ↦ subst (λ o. IfSome o (λ (x : ℕ × Image). x.0 ≤ at)) (sym none.0) tt
]

pub own_or_seen : (w : Writer) (at n : ℕ) (x : Stamp) (image : Image) → stamp_number x ≡ Some n → n ≤ at → IsOwnOrSeen w at (record { stamp = x; image = image })
own_or_seen w at n (Written by) image e le = absurd cc
own_or_seen w at n (Numbered k by) image e le = let same : k ≡ n = cc in omega (arith, same, le)
own_or_seen w at n (Oldest k) image e le = let same : k ≡ n = cc in omega (arith, same, le)

pub falls_seen : (w : Writer) (at n : ℕ) (vs : List Version) → n ≤ suc at → Falls n vs → Each (IsOwnOrSeen w at) vs
falls_seen w at n [] le f = tt
falls_seen w at n (v ∷ vs) le f = (own_or_seen w at f.0 v.stamp v.image f.1 (omega (arith, f.2, le)), falls_seen w at f.0 vs (omega (arith, f.2, le)) f.3)

pub behind_seen : (w : Writer) (at mark : ℕ) (vs : List Version) → Falls (suc mark) vs → IfSome (newest_at mark vs) (λ pair. pair.0 ≤ at) → Each (IsOwnOrSeen w at) vs
behind_seen w at mark [] f k = tt
behind_seen w at mark (v ∷ vs) f k =
    let low : nat_le f.0 mark ≡ true = (let less = f.2 in grind (arith, nat_tests)) in
    let first : newest_at mark (v ∷ vs) ≡ Some (f.0, v.image) = ap (λ x. pair_of (cond (is_up_to mark x) (Some v) (first_at mark vs))) f.1 ∙
    ap (λ b. pair_of (cond b (Some v) (first_at mark vs))) low ∙ ap (λ x. paired x v.image) f.1 in
    let le : f.0 ≤ at = subst (λ o. IfSome o (λ (x : ℕ × Image). x.0 ≤ at)) first k in
    (own_or_seen w at f.0 v.stamp v.image f.1 le, falls_seen w at f.0 vs (omega arith) f.3)
