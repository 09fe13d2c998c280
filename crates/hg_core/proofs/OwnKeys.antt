-- The buckets that can have a key of a range, and the looks of a scan.
use Rattle.std.proofs.Common.{◌≡◌, ℕ, zero, suc, ◌+◌, ◌-◌, ◌<◌, ◌≤◌, List, ◌∷◌, ◌++◌, Bool, true, false, refl, sym, ap, ◌∙◌, arith}
use Rattle.std.specs.Prelude.{◌==◌, ◌||◌, if◌then◌else◌}
use Rattle.std.specs.List.{list_any}
use Rattle.std.proofs.lemmas.Bool.Decides.{Decides-eqb, nat_tests}
use Rattle.hg_base.specs.declared.rid.TableId.{TableId}
use Rattle.hg_base.specs.declared.value.Value.{Value}
use Rattle.hg_base.specs.Lists.{numbers_from}
use Rattle.hg_base.proofs.ListFacts.{cases}
use Rattle.hg_core.specs.declared.log.LogEntry.{LogEntry}
use Rattle.hg_core.specs.declared.log.LogEntry.TheVariants.{Saw}
use Rattle.hg_core.specs.Contents.{bucket_of, has_own}
use Rattle.hg_core.specs.Reading.{saws}

-- ---- a test of numbers that follow one another

any_number : (p : ℕ → Bool) (low many k : ℕ) → low ≤ k → k < low + many → p k ≡ true → list_any p (numbers_from low many) ≡ true
any_number p low zero k l h e = absurd (omega (arith, l, h))
any_number p low (suc many) k l h e = cases (low == k)
    (λ same. first (p low) (list_any p (numbers_from (suc low) many)) (ap p ((Decides-eqb low k).0 same) ∙ e))
    (λ other. later (p low) (list_any p (numbers_from (suc low) many)) (any_number p (suc low) many k (past other) (omega (arith, h)) e))
  where
    first : (a b : Bool) → a ≡ true → (a || b) ≡ true
    first true b e = refl
    first false b e = absurd (let z : false ≡ true = e in cc)

    later : (a b : Bool) → b ≡ true → (a || b) ≡ true
    later true b e = refl
    later false b e = e

    past : (low == k) ≡ false → suc low ≤ k
    past other = grind (arith, nat_tests, other, l)

number_of_any : (p : ℕ → Bool) (low many : ℕ) → list_any p (numbers_from low many) ≡ true → (k : ℕ) × (low ≤ k) × (k < low + many) × (p k ≡ true)
number_of_any p low zero e = absurd (let z : false ≡ true = e in cc)
number_of_any p low (suc many) e = cases (p low)
    (λ q. (low, omega arith, omega arith, q))
    (λ q.
    let more = number_of_any p (suc low) many (sym (ap (λ b. b || list_any p (numbers_from (suc low) many)) q) ∙ e) in
    let over = more.1 in
    let under = more.2 in
    (more.0, omega (arith, over), omega (arith, under), more.3))

-- ---- the keys of a range

-- a key of the range reaches its own bucket
pub reached : (buckets : ℕ) (table : TableId) (low high k : ℕ) → low ≤ k → k ≤ high → has_own buckets table low high (bucket_of buckets (record { table = table; key = k })) ≡ true
unfolding has_own
reached buckets table low high k l h =
    let b = bucket_of buckets (record { table = table; key = k }) in
    any_number (λ n. bucket_of buckets (record { table = table; key = n }) == b) low (high + 1 - low) k l (omega (arith, l, h)) ((Decides-eqb b b).1 refl)

-- a bucket that is reached has a key of it
pub reaching : (buckets : ℕ) (table : TableId) (low high b : ℕ) → has_own buckets table low high b ≡ true → (k : ℕ) × (low ≤ k) × (k ≤ high) ×
    (bucket_of buckets (record { table = table; key = k }) ≡ b)
unfolding has_own
reaching buckets table low high b e =
    let found = number_of_any (λ n. bucket_of buckets (record { table = table; key = n }) == b) low (high + 1 - low) e in
    let over = found.1 in
    let under = found.2 in
    (found.0, over, omega (arith, over, under), (Decides-eqb (bucket_of buckets (record { table = table; key = found.0 })) b).0 found.3)

-- ---- the looks

-- what a look keeps, all of a scan keep
pub saws_keep : (P : List LogEntry → Type 0) (buckets : ℕ) (t : TableId) (low high : ℕ) (part : ℕ → List (ℕ × List Value)) (n : ℕ) (l : List LogEntry) →
    ((b : ℕ) (rows : List (ℕ × List Value)) (m : List LogEntry) → P m → P (Saw t low high b rows ∷ m)) → P l → P (saws buckets t low high part n ++ l)
saws_keep P buckets t low high part zero l keeps p = p
saws_keep P buckets t low high part (suc n) l keeps p = go (has_own buckets t low high n) (saws_keep P buckets t low high part n l keeps p)
  where
    go : (x : Bool) → P (saws buckets t low high part n ++ l) → P ((if x then Saw t low high n (part n) ∷ saws buckets t low high part n else saws buckets t low high part n) ++ l)
    go true rest = keeps n (part n) (saws buckets t low high part n ++ l) rest
    go false rest = rest
