-- The keys that a bucket can have, and a search for those that it has.
use Rattle.std.proofs.Common.{◌≡◌, ℕ, ◌+◌, ◌%◌, ◌<◌, ◌≤◌, true, sym, ap, ◌∙◌, subst, arith}
use Rattle.std.specs.Prelude.{nat_le}
use Rattle.std.proofs.lemmas.Bool.Decides.{nat_tests}
use Rattle.hg_base.specs.declared.rid.Rid.{Rid}
use Rattle.hg_base.specs.declared.rid.TableId.{TableId}
use Rattle.hg_base.proofs.ListFacts.{cases, false_true}
use Rattle.hg_core.specs.Contents.{bucket_of, has_own}
use Rattle.hg_core.proofs.OwnKeys.{reached, reaching}
use Rattle.hg_bucket.specs.BucketModel.{record_at}
use Rattle.hg_cursor.specs.Keys.{IsOwnKey}
use Rattle.hg_cursor.proofs.Keys.{moved, home_within, not_before}

-- ---- round the buckets

pub least_own : (n b h : ℕ) (r : Rid) (a k : ℕ) → h ≡ bucket_of n r → h < n → a < n → (h + a) % n ≡ b → r.key ≤ k → IsOwnKey n b r.table k → r.key + a ≤ k
least_own n b h r a k is home within there le own = not_before n b r.table r.key a k (subst (λ x. x < n) is home) within (ap (λ x. (x + a) % n) (sym is) ∙ there) le own

-- the key that is so far ahead is the bucket's own
pub own_ahead : (n b h : ℕ) (table : TableId) (low a : ℕ) → IsOwnKey n h table low → (h + a) % n ≡ b → IsOwnKey n b table (low + a)
own_ahead n b h table low a is there = moved n table low a ∙ ap (λ x. (x + a) % n) is ∙ there

-- the bucket is reached where the key is in the range that is so far ahead
pub reached_ahead : (n b h : ℕ) (table : TableId) (low high a : ℕ) → IsOwnKey n h table low → h < n → a < n → (h + a) % n ≡ b → nat_le (low + a) high ≡ has_own n table low high b
reached_ahead n b h table low high a is home within there = cases (nat_le (low + a) high)
    (λ t.
    let most : low + a ≤ high = grind (arith, nat_tests, t) in
    let own : bucket_of n (record_at table (low + a)) ≡ b = own_ahead n b h table low a is there in
    t ∙ sym (subst (λ x. has_own n table low high x ≡ true) own (reached n table low high (low + a) (omega arith) most)))
    (λ f. cases (has_own n table low high b)
    (λ t.
    let k = reaching n table low high b t in
    let least = least_own n b h (record_at table low) a k.0 (sym is) home within there k.1 k.3 in
    let most = k.2 in
    let under : low + a ≤ high = omega (arith, least, most) in
    absurd (false_true (sym f ∙ is_most under)))
    (λ g. f ∙ sym g))
  where
    is_most : low + a ≤ high → nat_le (low + a) high ≡ true
    is_most l = grind (arith, nat_tests, l)

-- of a bucket that is reached, that key is in the range
pub ahead_within : (n b h : ℕ) (table : TableId) (low high a : ℕ) → IsOwnKey n h table low → h < n → a < n → (h + a) % n ≡ b → has_own n table low high b ≡ true → low + a ≤ high
ahead_within n b h table low high a is home within there has =
    let t : nat_le (low + a) high ≡ true = reached_ahead n b h table low high a is home within there ∙ has in
    grind (arith, nat_tests, t)

pub own_within : (n b h : ℕ) (table : TableId) (key : ℕ) → b < n → IsOwnKey n h table key → h < n
own_within n b h table key some own = subst (λ x. x < n) own (home_within n (record_at table key) (omega (arith, some)))
