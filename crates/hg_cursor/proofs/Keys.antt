-- The keys that a bucket can have, and a search for those that it has.
use Rattle.std.proofs.Common.{◌≡◌, ℕ, ◌+◌, ◌-◌, ◌*◌, ◌%◌, ◌<◌, ◌≤◌, ◌⊎◌, inl, inr, List, [], ◌∷◌, length, false, Option, Some, None, refl, sym, ap, ◌∙◌, subst, arith}
use Rattle.std.specs.Prelude.{◌==◌, nat_lt, IfSome}
use Rattle.std.proofs.Math.Nat.{mod-add-mod, mod-eq_of_lt, mod-eq-sub-mod}
use Rattle.std.proofs.lemmas.Bool.Decides.{Decides-eqb, nat_tests}
use Rattle.hg_base.specs.declared.rid.Rid.{Rid}
use Rattle.hg_base.specs.declared.rid.TableId.{TableId}
use Rattle.hg_base.specs.declared.writer.Writer.{Writer}
use Rattle.hg_base.specs.Lists.{Each}
use Rattle.hg_base.proofs.ListFacts.{cases, false_true}
use Rattle.hg_core.specs.declared.version.Version.{Version}
use Rattle.hg_core.specs.Contents.{Content, bucket_of, look}
use Rattle.hg_core.specs.Replies.{read_by}
use Rattle.hg_core.specs.Reading.{bucket_at}
use Rattle.hg_bucket.specs.BucketModel.{record_at}
use Rattle.hg_rule.specs.declared.view.Part.TheVariants.{OfBucket}
use Rattle.hg_rule.specs.declared.view.View.{View}
use Rattle.hg_rule.specs.declared.view.Sizes.{Sizes}
use Rattle.hg_rule.specs.Facts.{Shown}
use Rattle.hg_rule.specs.Rules.{IsBacked}
use Rattle.hg_rule.specs.Views.{first_in}
use Rattle.hg_rule.specs.Holding.{bucket, beyond}
use Rattle.hg_rule.specs.Places.{HoldsBucket}
use Rattle.hg_store.proofs.Holding.{look_none, second_shown, parts_are}
use Rattle.hg_cursor.specs.Keys.{IsOwnKey, AreOwn, HasVersion, LeadsOn, read_of}

-- ---- tests of numbers

pub differ : (a b : ℕ) → (a == b) ≡ false → a ≡ b → ⊥
differ a b e h = false_true (sym e ∙ (Decides-eqb a b).1 h)

pub is_apart : (a b : ℕ) → (a ≡ b → ⊥) → (a == b) ≡ false
is_apart a b n = cases (a == b) (λ t. absurd (n ((Decides-eqb a b).0 t))) (λ f. f)

-- ---- round the buckets

-- the bucket of a key that is d above another one
pub moved : (n : ℕ) (table : TableId) (k d : ℕ) → bucket_of n (record_at table (k + d)) ≡ (bucket_of n (record_at table k) + d) % n
unfolding bucket_of
moved n table k d =
    let c : ℕ = 31 * table.0 in
    mod-add-mod (k + d) n c
    ∙ ap (λ x. x % n) (regroup k d c)
    ∙ sym (mod-add-mod k n (c + d))
    ∙ ap (λ x. x % n) (sym (joined (k % n) c d))
    ∙ sym (mod-add-mod (k % n + c) n d)
  where
    regroup : (a b c : ℕ) → a + b + c ≡ a + (c + b)
    regroup a b c = omega arith

    joined : (a b c : ℕ) → a + b + c ≡ a + (b + c)
    joined a b c = omega arith

-- one round further than a place within the list, or still within it
turned : (n x : ℕ) → x < n + n → ((x < n) × (x % n ≡ x)) ⊎ ((n ≤ x) × (x % n + n ≡ x))
turned n x less = cases (nat_lt x n)
    (λ t. let l : x < n = grind (arith, nat_tests, t) in inl (l, mod-eq_of_lt l))
    (λ f.
    let m : n ≤ x = grind (arith, nat_tests, f) in
    let l : x - n < n = omega (arith, less, m) in
    let e : x % n ≡ x - n = mod-eq-sub-mod m ∙ mod-eq_of_lt l in
    inr (m, omega (arith, e, m)))

-- of two ways to a place, the one that is less than a round is the shorter
shortest : (n h a d : ℕ) → h < n → a < n → (h + a) % n ≡ (h + d) % n → a ≤ d
shortest n h a d home within e = cases (nat_lt d a)
    (λ t. let less : d < a = grind (arith, nat_tests, t) in absurd (go less (turned n (h + a) (omega (arith, home, within))) (turned n (h + d) (omega (arith, home, within, less)))))
    (λ f. grind (arith, nat_tests, f))
  where
    go : d < a → ((h + a < n) × ((h + a) % n ≡ h + a)) ⊎ ((n ≤ h + a) × ((h + a) % n + n ≡ h + a)) → ((h + d < n) × ((h + d) % n ≡ h + d)) ⊎ ((n ≤ h + d) × ((h + d) % n + n ≡ h + d)) → ⊥
    go less (inl x) (inl y) = let p = x.1 in let q = y.1 in omega (arith, e, less, p, q)
    go less (inl x) (inr y) = let p = x.0 in let q = y.0 in omega (arith, less, p, q)
    go less (inr x) (inl y) = let p = x.1 in let q = y.1 in omega (arith, e, less, within, p, q)
    go less (inr x) (inr y) = let p = x.1 in let q = y.1 in omega (arith, e, less, p, q)

pub home_within : (n : ℕ) (r : Rid) → 0 < n → bucket_of n r < n
unfolding bucket_of
home_within n r some = omega (arith, some)

-- no key of a bucket is passed over on the way from a record to it
pub not_before : (n b : ℕ) (table : TableId) (from a k : ℕ) → bucket_of n (record_at table from) < n → a < n → (bucket_of n (record_at table from) + a) % n ≡ b → from ≤ k →
    IsOwnKey n b table k → from + a ≤ k
not_before n b table from a k home within there le own =
    let back : from + (k - from) ≡ k = omega (arith, le) in
    let same : (bucket_of n (record_at table from) + a) % n ≡ (bucket_of n (record_at table from) + (k - from)) % n = there ∙ sym own ∙
    ap (λ x. bucket_of n (record_at table x)) (sym back) ∙ moved n table from (k - from) in
    let least = shortest n (bucket_of n (record_at table from)) a (k - from) home within same in
    omega (arith, least, le)

-- a whole round further is a key of the same bucket
pub own_next : (n b : ℕ) (table : TableId) (first : ℕ) → 0 < n → IsOwnKey n b table first → IsOwnKey n b table (first + n)
own_next n b table first some own = moved n table first n ∙ (ap (λ x. (x + n) % n) own ∙ go (turned n (b + n) (omega (arith, home))))
  where
    home : b < n
    home = subst (λ x. x < n) own (home_within n (record_at table first) some)

    go : ((b + n < n) × ((b + n) % n ≡ b + n)) ⊎ ((n ≤ b + n) × ((b + n) % n + n ≡ b + n)) → (b + n) % n ≡ b
    go (inl x) = let l = x.0 in absurd (omega (arith, l))
    go (inr x) = let e = x.1 in omega (arith, e)

-- and it is the next one
pub own_apart : (n b : ℕ) (table : TableId) (first k : ℕ) → 0 < n → IsOwnKey n b table first → IsOwnKey n b table k → first + 1 ≤ k → first + n ≤ k
own_apart n b table first k some own other over =
    let back : first + 1 + (n - 1) ≡ first + n = omega (arith, some) in
    let there : (bucket_of n (record_at table (first + 1)) + (n - 1)) % n ≡ b = sym (moved n table (first + 1) (n - 1)) ∙
    (ap (λ x. bucket_of n (record_at table x)) back ∙ own_next n b table first some own) in
    let least = not_before n b table (first + 1) (n - 1) k (home_within n (record_at table (first + 1)) some) (omega (arith, some)) there over other in
    omega (arith, least, some)

-- the buckets of the first keys are different ones
pub far_apart : (n : ℕ) (table : TableId) (low i j : ℕ) → i < n → j < n → bucket_at n table low i ≡ bucket_at n table low j → i ≡ j
far_apart n table low i j a b e =
    let some : 0 < n = omega (arith, a) in
    let home = home_within n (record_at table low) some in
    let same : (bucket_of n (record_at table low) + i) % n ≡ (bucket_of n (record_at table low) + j) % n = sym (moved n table low i) ∙ (e ∙ moved n table low j) in
    let up = shortest n (bucket_of n (record_at table low)) i j home a same in
    let down = shortest n (bucket_of n (record_at table low)) j i home b (sym same) in
    omega (arith, up, down)

-- each key is of the bucket of one of the first keys, which is not over it
pub of_first : (n : ℕ) (table : TableId) (low k : ℕ) → 0 < n → low ≤ k → (i : ℕ) × (i < n) × (low + i ≤ k) × IsOwnKey n (bucket_at n table low i) table k
of_first n table low k some l =
    let d : ℕ = k - low in
    let back : low + d ≡ k = omega (arith, l) in
    let less : d % n < n = omega (arith, some) in
    let most : d % n ≤ d = omega (arith, some) in
    (d % n, less, omega (arith, most, back), sym (ap (λ x. bucket_of n (record_at table x)) back) ∙ (moved n table low d ∙ (sym (turn d) ∙ sym (moved n table low (d % n)))))
  where
    flip : (a c : ℕ) → a + c ≡ c + a
    flip a c = omega arith

    turn : (d : ℕ) → (bucket_of n (record_at table low) + d % n) % n ≡ (bucket_of n (record_at table low) + d) % n
    turn d = ap (λ x. x % n) (flip (bucket_of n (record_at table low)) (d % n)) ∙ (mod-add-mod d n (bucket_of n (record_at table low)) ∙ ap (λ x. x % n) (flip d (bucket_of n (record_at table low))))

-- the key that is less than a round from another is the least of its bucket from there on
pub least_own : (n : ℕ) (table : TableId) (low own k : ℕ) → low ≤ own → own - low < n → low ≤ k → IsOwnKey n (bucket_of n (record_at table own)) table k → own ≤ k
least_own n table low own k over near l is =
    let some : 0 < n = omega (arith, near) in
    let back : low + (own - low) ≡ own = omega (arith, over) in
    let there : (bucket_of n (record_at table low) + (own - low)) % n ≡ bucket_of n (record_at table own) = sym (moved n table low (own - low)) ∙ ap (λ x. bucket_of n (record_at table x)) back in
    let least = not_before n (bucket_of n (record_at table own)) table low (own - low) k (home_within n (record_at table low) some) near there l is in
    omega (arith, least, back)

-- ---- searches

none_has : (content : Content) (table : TableId) (key : ℕ) → look (record_at table key) content ≡ [] → HasVersion content table key → ⊥
none_has content table key e has = let l : 0 < 0 = subst (λ (vs : List Version). 0 < length vs) e has in omega (arith, l)

-- one search, and another from where it led
pub leads_through : (P : ℕ → Type 0) (from first high : ℕ) (found : Option ℕ) → ((k : ℕ) → from ≤ k → P k → first ≤ k) → LeadsOn P first high found → LeadsOn P from high found
leads_through P from first high None a n = λ k l h q. n k (a k l q) h q
leads_through P from first high (Some next) a n = λ k l h q. n k (a k l q) h q

-- ---- a bucket has its own records alone

pub own_key : (count b : ℕ) (content : Content) (table : TableId) (key : ℕ) → AreOwn count b content → HasVersion content table key → IsOwnKey count b table key
own_key count b content table key own has = cases (bucket_of count (record_at table key) == b)
    (λ t. (Decides-eqb (bucket_of count (record_at table key)) b).0 t)
    (λ f. absurd (none_has content table key (look_none count b (record_at table key) content own (differ (bucket_of count (record_at table key)) b f)) has))

pub own_found : (count b : ℕ) (content : Content) (table : TableId) (found : Option ℕ) → AreOwn count b content → IfSome found (HasVersion content table) → IfSome found (IsOwnKey count b table)
own_found count b content table None own has = tt
own_found count b content table (Some key) own has = own_key count b content table key own has

pub held_own : (z : Sizes) (n b : ℕ) (v : View) → IsBacked z n v → HoldsBucket b v → AreOwn z.buckets b (bucket v).content
held_own z n b v k h =
    let shown = second_shown (Shown k.state) v.parts (beyond v) (first_in v.parts) (OfBucket b (bucket v)) (parts_are b v h) k.true_of.parts in
    subst (λ m. Each (λ e. bucket_of m e.0 ≡ b) (bucket v).content) k.sized.buckets (subst (λ es. Each (λ e. bucket_of k.state.buckets e.0 ≡ b) es) shown.0 (k.steady.contents_are_placed b).bucket)

-- a record that has no version shows no row
pub unread : (by : Writer) (at : ℕ) (table : TableId) (content : Content) (key : ℕ) → (HasVersion content table key → ⊥) → (read_of by at table content key).row ≡ None
unread by at table content key absent = go (look (record_at table key) content) absent
  where
    go : (vs : List Version) → (0 < length vs → ⊥) → (read_by by at vs).row ≡ None
    go [] n = refl
    go (v ∷ vs) n = absurd (n (omega arith))
