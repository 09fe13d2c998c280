-- Sums over the buckets: each record has one.
use Rattle.std.proofs.Common.{◌≡◌, ℕ, zero, suc, ◌+◌, ◌<◌, List, [], ◌∷◌, length, Bool, true, false, not, refl, ap, ◌∙◌, arith}
use Rattle.std.specs.Prelude.{◌==◌, ◌&&◌, cond, filter, if◌then◌else◌, is_some}
use Rattle.std.proofs.lemmas.Bool.Decides.{nat_tests}
use Rattle.hg_base.specs.declared.rid.Rid.{Rid}
use Rattle.hg_base.specs.declared.report.Kind.{Kind}
use Rattle.hg_base.specs.Lists.{Each}
use Rattle.hg_base.specs.History.{image_in}
use Rattle.hg_base.specs.Counts.{live}
use Rattle.hg_base.proofs.ListFacts.{each_keeps}
use Rattle.hg_core.specs.declared.log.LogEntry.{LogEntry}
use Rattle.hg_core.specs.declared.log.LogEntry.TheVariants.{Began, Saw, Refused, Outside, Wrote, Undid, Published, Over}
use Rattle.hg_core.specs.declared.visit.Visit.{Visit}
use Rattle.hg_core.specs.Logs.{own_writes}
use Rattle.hg_core.specs.Contents.{bucket_of}
use Rattle.hg_core.specs.Sums.{sum_to, sum_below}
use Rattle.hg_core.specs.Counters.{total, is_of, first_writes, undos, removed_by, removed_in, removed_all}
use Rattle.hg_core.specs.State.{CoreState}
use Rattle.hg_core.specs.Steps.{Always}
use Rattle.hg_core.specs.Invariant.{IsSteady}
use Rattle.hg_core.proofs.Sums.{sum_same, below_none, below_same, below_grown, below_plus as below_add, sums_swap}
use Rattle.hg_core.proofs.Runs.{steady_after}
use Rattle.hg_core.proofs.Remaining.{rows_left}
use Rattle.hg_core.proofs.Right.{places_of}
use Rattle.hg_headline.specs.Logged.{Logged}
use Rattle.hg_headline.specs.Counted.{every, made_in, undone_in}
use Rattle.hg_headline.specs.Boards.{IsSettled}

-- ---- sums

-- the one bucket of a record
pub one_bucket : (buckets at n : ℕ) → at < buckets → sum_below buckets (λ b. if at == b then n else 0) ≡ n
one_bucket buckets at n h =
    let here : (if at == at then n else 0) ≡ 0 + n = (let e : (at == at) ≡ true = grind (arith, nat_tests) in ap (λ b. if b then n else 0) e ∙ none_more n) in
    let there : (k : ℕ) → (k ≡ at → ⊥) → (if at == k then n else 0) ≡ 0 = λ k other. (let e : (at == k) ≡ false = grind (arith, nat_tests) in ap (λ b. if b then n else 0) e) in
    let z = below_grown buckets at n (λ b. 0) (λ b. if at == b then n else 0) h there here in
    let none = below_none buckets in
    omega (arith, z, none)
  where
    none_more : (n : ℕ) → n ≡ 0 + n
    none_more n = omega arith

pub swap_below : (buckets n : ℕ) (f : ℕ → ℕ → ℕ) → sum_below buckets (λ b. sum_below n (λ p. f b p)) ≡ sum_below n (λ p. sum_below buckets (λ b. f b p))
swap_below buckets zero f = below_none buckets
swap_below buckets (suc n) f = let ih = swap_below buckets n f in let add = below_add buckets (λ b. sum_below n (λ p. f b p)) (λ b. f b n) in omega (arith, ih, add)

-- ---- what logs have

pub firsts_over : (buckets : ℕ) (l : List LogEntry) → 0 < buckets → sum_below buckets (λ b. first_writes (is_of buckets b) l) ≡ first_writes every l
firsts_over buckets [] h = below_none buckets
firsts_over buckets (Wrote r image ∷ l) h =
    let n : ℕ = if not (is_some (image_in r (own_writes l))) then 1 else 0 in
    let one = one_bucket buckets (bucket_of buckets r) n (places_of buckets h r) in
    let add = below_add buckets (λ b. if (bucket_of buckets r == b) && not (is_some (image_in r (own_writes l))) then 1 else 0) (λ b. first_writes (is_of buckets b) l) in
    let same : sum_below buckets (λ b. if (bucket_of buckets r == b) && not (is_some (image_in r (own_writes l))) then 1 else 0) ≡ sum_below buckets
    (λ b. if bucket_of buckets r == b then n else 0) = below_same buckets _ _ (λ b le. both (bucket_of buckets r == b) (not (is_some (image_in r (own_writes l))))) in
    let ih = firsts_over buckets l h in
    omega (arith, one, add, same, ih)
  where
    both : (a c : Bool) → ◌≡◌ {A = ℕ} (if a && c then 1 else 0) (if a then (if c then 1 else 0) else 0)
    both true c = refl
    both false c = refl
firsts_over buckets (Began at scope ∷ l) h = firsts_over buckets l h
firsts_over buckets (Saw t low high b rows ∷ l) h = firsts_over buckets l h
firsts_over buckets (Refused r a ∷ l) h = firsts_over buckets l h
firsts_over buckets (Outside t ∷ l) h = firsts_over buckets l h
firsts_over buckets (Undid r ∷ l) h = firsts_over buckets l h
firsts_over buckets (Published n ∷ l) h = firsts_over buckets l h
firsts_over buckets (Over ∷ l) h = firsts_over buckets l h

pub undos_over : (buckets : ℕ) (l : List LogEntry) → 0 < buckets → sum_below buckets (λ b. undos (is_of buckets b) l) ≡ undos every l
undos_over buckets [] h = below_none buckets
undos_over buckets (Undid r ∷ l) h =
    let one = one_bucket buckets (bucket_of buckets r) 1 (places_of buckets h r) in
    let add = below_add buckets (λ b. if bucket_of buckets r == b then 1 else 0) (λ b. undos (is_of buckets b) l) in
    let ih = undos_over buckets l h in
    omega (arith, one, add, ih)
undos_over buckets (Began at scope ∷ l) h = undos_over buckets l h
undos_over buckets (Saw t low high b rows ∷ l) h = undos_over buckets l h
undos_over buckets (Refused r a ∷ l) h = undos_over buckets l h
undos_over buckets (Outside t ∷ l) h = undos_over buckets l h
undos_over buckets (Wrote r image ∷ l) h = undos_over buckets l h
undos_over buckets (Published n ∷ l) h = undos_over buckets l h
undos_over buckets (Over ∷ l) h = undos_over buckets l h

pub made_over : (buckets sessions : ℕ) (logs : ℕ → List LogEntry) → 0 < buckets → sum_below buckets (λ b. sum_to sessions (λ j. first_writes (is_of buckets b) (logs j))) ≡ made_in sessions logs
made_over buckets sessions logs h = sums_swap buckets sessions (λ b j. first_writes (is_of buckets b) (logs j)) ∙
    sum_same sessions (λ j. first_writes every (logs j)) (λ j. sum_below buckets (λ b. first_writes (is_of buckets b) (logs j))) (λ j le. firsts_over buckets (logs j) h)

pub undone_over : (buckets sessions : ℕ) (logs : ℕ → List LogEntry) → 0 < buckets → sum_below buckets (λ b. sum_to sessions (λ j. undos (is_of buckets b) (logs j))) ≡ undone_in sessions logs
undone_over buckets sessions logs h = sums_swap buckets sessions (λ b j. undos (is_of buckets b) (logs j)) ∙
    sum_same sessions (λ j. undos every (logs j)) (λ j. sum_below buckets (λ b. undos (is_of buckets b) (logs j))) (λ j le. undos_over buckets (logs j) h)

-- ---- what visits have

pub removed_over : (kind : Kind) (buckets : ℕ) (vs : List Visit) → Each (λ (v : Visit). v.bucket < buckets) vs → sum_below buckets (λ b. removed_in kind b vs) ≡ removed_all kind vs
removed_over kind buckets [] h = below_none buckets
removed_over kind buckets (v ∷ vs) h =
    let one = one_bucket buckets v.bucket (removed_by kind v.removed) h.0 in
    let add = below_add buckets (λ b. if v.bucket == b then removed_by kind v.removed else 0) (λ b. removed_in kind b vs) in
    let ih = removed_over kind buckets vs h.1 in
    omega (arith, one, add, ih)

pub all_removed_over : (kind : Kind) (buckets passes : ℕ) (visits : ℕ → List Visit) → ((p : ℕ) → Each (λ (v : Visit). v.bucket < buckets) (visits p)) →
    sum_below buckets (λ b. sum_below passes (λ p. removed_in kind b (visits p))) ≡ sum_below passes (λ p. removed_all kind (visits p))
all_removed_over kind buckets passes visits h = swap_below buckets passes (λ b p. removed_in kind b (visits p)) ∙
    below_same passes (λ p. removed_all kind (visits p)) (λ p. sum_below buckets (λ b. removed_in kind b (visits p))) (λ p le. removed_over kind buckets (visits p) (h p))

-- ---- live records

pub filtered_over : (buckets : ℕ) (rs : List Rid) → 0 < buckets → sum_below buckets (λ b. length (filter (is_of buckets b) rs)) ≡ length rs
filtered_over buckets [] h = below_none buckets
filtered_over buckets (r ∷ rs) h =
    let one = one_bucket buckets (bucket_of buckets r) 1 (places_of buckets h r) in
    let add = below_add buckets (λ b. if bucket_of buckets r == b then 1 else 0) (λ b. length (filter (is_of buckets b) rs)) in
    let same : sum_below buckets (λ b. length (filter (is_of buckets b) (r ∷ rs))) ≡ sum_below buckets
    (λ b. (if bucket_of buckets r == b then 1 else 0) + length (filter (is_of buckets b) rs)) = below_same buckets _ _ (λ b le. kept (bucket_of buckets r == b) (filter (is_of buckets b) rs)) in
    let ih = filtered_over buckets rs h in
    omega (arith, one, add, same, ih)
  where
    kept : (t : Bool) (xs : List Rid) → length (cond t (r ∷ xs) xs) ≡ (if t then 1 else 0) + length xs
    kept true xs = omega arith
    kept false xs = omega arith

-- ---- a state of the core

pub state_logged : (s : CoreState) → IsSteady s → 0 < s.buckets → Logged s.buckets s.history s.log
state_logged s h some = record {
  some = some;
  history = h.history;
  kept = h.no_update_is_lost;
  judged = h.logs_answer.judged;
  replied = h.replies_answer;
  within = h.logs_answer.within;
  commits = h.logs_answer.commits;
}

pub always_logged : Always (λ s. 0 < s.buckets → Logged s.buckets s.history s.log)
always_logged sessions tables buckets passes quota steps r some = state_logged _ (steady_after sessions tables buckets passes quota steps r) some

pub state_made : (s : CoreState) → IsSteady s → 0 < s.buckets → sum_below s.buckets (λ b. (s.counters b).made) ≡ made_in s.sessions s.log
state_made s h some = below_same s.buckets (λ b. sum_to s.sessions (λ j. first_writes (is_of s.buckets b) (s.log j))) (λ b. (s.counters b).made)
    (λ b le. h.counters_balance.made b) ∙ made_over s.buckets s.sessions s.log some

pub state_undone : (s : CoreState) → IsSteady s → 0 < s.buckets → sum_below s.buckets (λ b. (s.counters b).undone) ≡ undone_in s.sessions s.log
state_undone s h some = below_same s.buckets (λ b. sum_to s.sessions (λ j. undos (is_of s.buckets b) (s.log j))) (λ b. (s.counters b).undone)
    (λ b le. h.counters_balance.undone b) ∙ undone_over s.buckets s.sessions s.log some

pub state_removed : (s : CoreState) (kind : Kind) → IsSteady s → sum_below s.buckets (λ b. removed_by kind (s.counters b).removed) ≡ sum_below s.passes (λ p. removed_all kind (s.visits p))
state_removed s kind h =
    below_same s.buckets (λ b. sum_below s.passes (λ p. removed_in kind b (s.visits p))) (λ b. removed_by kind (s.counters b).removed) (λ b le. h.counters_balance.removed kind b)
    ∙ all_removed_over kind s.buckets s.passes s.visits (λ p. each_keeps _ (λ (v : Visit). v.bucket < s.buckets) (λ v k. k.bucket) (s.visits p) (h.visits_stay.each p))

pub always_made : Always (λ s. 0 < s.buckets → sum_below s.buckets (λ b. (s.counters b).made) ≡ made_in s.sessions s.log)
always_made sessions tables buckets passes quota steps r = state_made _ (steady_after sessions tables buckets passes quota steps r)

pub always_undone : Always (λ s. 0 < s.buckets → sum_below s.buckets (λ b. (s.counters b).undone) ≡ undone_in s.sessions s.log)
always_undone sessions tables buckets passes quota steps r = state_undone _ (steady_after sessions tables buckets passes quota steps r)

pub always_removed : Always (λ s. (kind : Kind) → sum_below s.buckets (λ b. removed_by kind (s.counters b).removed) ≡ sum_below s.passes (λ p. removed_all kind (s.visits p)))
always_removed sessions tables buckets passes quota steps r kind = state_removed _ kind (steady_after sessions tables buckets passes quota steps r)

pub state_left : (s : CoreState) → IsSteady s → 0 < s.buckets → ((b : ℕ) → b < s.buckets → IsSettled s b) → sum_below s.buckets (λ b. total (s.bucket b)) ≡ length (live s.history)
state_left s h some settled = below_same s.buckets (λ b. length (filter (is_of s.buckets b) (live s.history))) (λ b. total (s.bucket b)) (λ b le. rows_left s h b (settled b le)) ∙
    filtered_over s.buckets (live s.history) some

pub always_left : Always (λ s. 0 < s.buckets → ((b : ℕ) → b < s.buckets → IsSettled s b) → sum_below s.buckets (λ b. total (s.bucket b)) ≡ length (live s.history))
always_left sessions tables buckets passes quota steps r = state_left _ (steady_after sessions tables buckets passes quota steps r)
