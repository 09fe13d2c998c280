-- What a sweep of a table costs that goes down a list of its keys.
use Rattle.std.proofs.Common.{◌≡◌, ℕ, zero, suc, ◌+◌, ◌≤◌, List, [], ◌∷◌, Bool, true, false, Some, refl, sym, ap, ◌∙◌, cond, arith, length, take, slice_get}
use Rattle.std.specs.Prelude.{sum_by, unwrap_or}
use Rattle.std.specs.Map.{lookup}
use Rattle.std.proofs.lemmas.Bool.Decides.{nat_tests}
use Rattle.std.proofs.lemmas.List.Sums.{sum_by-cons}
use Rattle.std.proofs.lemmas.Option.{none-some, same_Some}
use Rattle.hg_base.specs.declared.rid.Rid.{Rid}
use Rattle.hg_base.specs.declared.rid.TableId.{TableId}
use Rattle.hg_base.specs.History.{same_rid}
use Rattle.hg_bucket.specs.BucketModel.{Kept, versions_of, record_at}
use Rattle.hg_bucket.specs.Sweeping.{sweep_steps}
use Rattle.hg_bucket.specs.Long.{NoKeyTwice}
use Rattle.hg_bucket.proofs.Costing.{cost_of, is_to_come, cost_at, cost_from, all_paid}

-- what the records of some keys cost, for so many snapshots
abbrev pub key_cost : TableId → ℕ → List (Rid × List Kept) → ℕ → ℕ
key_cost t n records k = cost_of n (versions_of records (record_at t k))

abbrev pub keys_cost : TableId → ℕ → List (Rid × List Kept) → List ℕ → ℕ
keys_cost t n records keys = sum_by (key_cost t n records) keys

once_behind : (k : ℕ) (keys : List ℕ) → NoKeyTwice (k ∷ keys) → NoKeyTwice keys
once_behind k keys once i j m here there = let same = once (suc i) (suc j) m here there in omega (arith, same)

-- one key is the record's, and no other
one_hit : (t : TableId) (n : ℕ) (e : Rid × List Kept) (records : List (Rid × List Kept)) (k : ℕ) → key_cost t n (e ∷ records) k ≤ cost_at t 0 n e + key_cost t n records k
one_hit t n e records k = go (same_rid (record_at t k) e.0) refl
  where
    go : (b : Bool) → same_rid (record_at t k) e.0 ≡ b → cost_of n (unwrap_or (cond b (Some e.1) (lookup (same_rid (record_at t k)) records)) []) ≤ cost_at t 0 n e + key_cost t n records k
    go true h =
        let come : is_to_come t 0 e.0 ≡ true = grind (arith, nat_tests, h) in
        let now : cost_at t 0 n e ≡ cost_of n e.1 = ap (λ b. cond b (cost_of n e.1) 0) come in
        omega (arith, now)
    go false h = omega arith

-- a key that isn't the record's
no_hit : (t : TableId) (n : ℕ) (e : Rid × List Kept) (records : List (Rid × List Kept)) (k : ℕ) → same_rid (record_at t k) e.0 ≡ false → key_cost t n (e ∷ records) k ≡ key_cost t n records k
no_hit t n e records k h = ap (λ b. cost_of n (unwrap_or (cond b (Some e.1) (lookup (same_rid (record_at t k)) records)) [])) h

none_hit : (t : TableId) (n : ℕ) (e : Rid × List Kept) (records : List (Rid × List Kept)) (keys : List ℕ) →
    ((at k : ℕ) → slice_get keys at ≡ Some k → same_rid (record_at t k) e.0 ≡ false) → keys_cost t n (e ∷ records) keys ≡ keys_cost t n records keys
none_hit t n e records [] h = refl
none_hit t n e records (k ∷ keys) h =
    let first = no_hit t n e records k (h 0 k refl) in
    let others = none_hit t n e records keys (λ at m there. h (suc at) m there) in
    omega (arith, first, others, sum_by-cons (key_cost t n (e ∷ records)) k keys, sum_by-cons (key_cost t n records) k keys)

hit_once : (t : TableId) (n : ℕ) (e : Rid × List Kept) (records : List (Rid × List Kept)) (keys : List ℕ) → NoKeyTwice keys →
    keys_cost t n (e ∷ records) keys ≤ cost_at t 0 n e + keys_cost t n records keys
hit_once t n e records [] once = omega arith
hit_once t n e records (k ∷ keys) once = go (same_rid (record_at t k) e.0) refl (hit_once t n e records keys (once_behind k keys once))
  where
    other : same_rid (record_at t k) e.0 ≡ true → (at m : ℕ) → slice_get keys at ≡ Some m → (b : Bool) → same_rid (record_at t m) e.0 ≡ b → b ≡ false
    other h at m there false e = refl
    other h at m there true e =
        let same : m ≡ k = grind (arith, nat_tests, h, e) in
        let twice = once (suc at) 0 m there (ap Some (sym same)) in
        absurd (omega (arith, twice))

    go : (b : Bool) → same_rid (record_at t k) e.0 ≡ b → keys_cost t n (e ∷ records) keys ≤ cost_at t 0 n e + keys_cost t n records keys →
        keys_cost t n (e ∷ records) (k ∷ keys) ≤ cost_at t 0 n e + keys_cost t n records (k ∷ keys)
    go true h rest =
        let others = none_hit t n e records keys (λ at m there. other h at m there (same_rid (record_at t m) e.0) refl) in
        omega (arith, one_hit t n e records k, others, sum_by-cons (key_cost t n (e ∷ records)) k keys, sum_by-cons (key_cost t n records) k keys)
    go false h rest =
        omega (arith, no_hit t n e records k h, rest, sum_by-cons (key_cost t n (e ∷ records)) k keys, sum_by-cons (key_cost t n records) k keys)

no_records : (t : TableId) (n : ℕ) (keys : List ℕ) → keys_cost t n [] keys ≡ 0
no_records t n [] = refl
no_records t n (k ∷ keys) = omega (arith, sum_by-cons (key_cost t n []) k keys, no_records t n keys)

from_all : (t : TableId) (n : ℕ) (records : List (Rid × List Kept)) (keys : List ℕ) → NoKeyTwice keys → keys_cost t n records keys ≤ cost_from t 0 n records
from_all t n [] keys once = omega (arith, no_records t n keys)
from_all t n (e ∷ records) keys once = omega (arith, hit_once t n e records keys once, from_all t n records keys once, sum_by-cons (cost_at t 0 n) e records)

-- the records of all of them cost what a sweep may take
pub all_keys_paid : (t : TableId) (xs : List ℕ) (records : List (Rid × List Kept)) (keys : List ℕ) → NoKeyTwice keys → keys_cost t (length xs) records keys ≤ sweep_steps t xs records
all_keys_paid t xs records keys once = omega (arith, from_all t (length xs) records keys once, all_paid t xs records)

-- the last one of the first so many is paid for
pub key_paid : (t : TableId) (n : ℕ) (records : List (Rid × List Kept)) (keys : List ℕ) (many l k : ℕ) → many ≡ l + 1 → slice_get keys l ≡ Some k →
    keys_cost t n records (take l keys) + key_cost t n records k ≡ keys_cost t n records (take many keys)
key_paid t n records [] many l k is there = absurd (none-some k there)
key_paid t n records (m ∷ keys) many zero k is there =
    let one : m ≡ k = same_Some m k there in
    ap (λ x. keys_cost t n records (take 0 (m ∷ keys)) + key_cost t n records x) (sym one) ∙ first ∙ ap (λ x. keys_cost t n records (take x (m ∷ keys))) (sym is)
  where
    first : keys_cost t n records (take 0 (m ∷ keys)) + key_cost t n records m ≡ keys_cost t n records (take 1 (m ∷ keys))
    first = omega (arith, sum_by-cons (key_cost t n records) m [])
key_paid t n records (m ∷ keys) many (suc l) k is there =
    let rest = key_paid t n records keys (l + 1) l k refl there in
    let more : keys_cost t n records (take (suc l) (m ∷ keys)) + key_cost t n records k ≡ keys_cost t n records (take (suc (l + 1)) (m ∷ keys)) = omega
    (arith, rest, sum_by-cons (key_cost t n records) m (take l keys), sum_by-cons (key_cost t n records) m (take (l + 1) keys)) in
    more ∙ ap (λ x. keys_cost t n records (take x (m ∷ keys))) (let same : suc (l + 1) ≡ many = omega (arith, is) in same)
