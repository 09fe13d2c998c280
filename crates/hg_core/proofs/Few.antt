-- Where each record is clean, few versions are held.
use Rattle.std.proofs.Common.{◌≡◌, ℕ, zero, suc, ◌+◌, ◌*◌, ◌≤◌, ◌==◌, List, [], ◌∷◌, length, filter, Option, None, Some, Bool, true, false, ◌&&◌, ◌||◌, refl, sym, ap, ◌∙◌, subst, arith}
use Rattle.std.specs.Prelude.{if◌then◌else◌, cond, nat_le, nat_lt, is_some, IsTrue}
use Rattle.std.proofs.Math.Nat.{suc-mul}
use Rattle.std.proofs.lemmas.Bool.Decides.{Decides-eqb, nat_tests}
use Rattle.hg_base.specs.declared.rid.Rid.{Rid}
use Rattle.hg_base.specs.declared.writer.Writer.{Writer}
use Rattle.hg_base.specs.declared.image.Image.{Image}
use Rattle.hg_base.specs.Lifetimes.{is_in_use, MayStay}
use Rattle.hg_base.specs.History.{is_among, NoneTwice}
use Rattle.hg_base.proofs.ListFacts.{cases, false_true}
use Rattle.hg_core.specs.declared.version.Stamp.{Stamp}
use Rattle.hg_core.specs.declared.version.Stamp.TheVariants.{Written, Numbered, Oldest}
use Rattle.hg_core.specs.declared.version.Version.{Version}
use Rattle.hg_core.specs.Versions.{unpublished}
use Rattle.hg_core.specs.Contents.{bucket_of, look, versions}
use Rattle.hg_core.specs.Ordered.{Falls, IsOrdered}
use Rattle.hg_core.specs.Clean.{MayAllStay, IsClean}
use Rattle.hg_core.specs.Counters.{total}
use Rattle.hg_core.specs.Sums.{sum_below}
use Rattle.hg_core.specs.State.{CoreState}
use Rattle.hg_core.specs.Invariant.{IsSteady}
use Rattle.hg_core.specs.Few.{has_open, AreAllHeld, IsCleanFor}
use Rattle.hg_core.proofs.Remaining.{sum_over, content_total, placed_other, length_none}
use Rattle.hg_core.proofs.Settling.{one_if}
use Rattle.hg_core.proofs.Sums.{below_none, below_plus, below_same}

-- ---- one record

-- how many of the snapshots are below n
below : ℕ → List ℕ → ℕ
below n [] = 0
below n (s ∷ ss) = (if nat_lt s n then 1 else 0) + below n ss

below_all : (n : ℕ) (ss : List ℕ) → below n ss ≤ length ss
unfolding below
below_all n [] = omega arith
below_all n (s ∷ ss) = go (nat_lt s n) (below_all n ss)
  where
    go : (b : Bool) → below n ss ≤ length ss → (if b then 1 else 0) + below n ss ≤ suc (length ss)
    go true le = omega arith
    go false le = omega arith

below_grows : (n up : ℕ) (ss : List ℕ) → n ≤ up → below n ss ≤ below up ss
unfolding below
below_grows n up [] le = omega arith
below_grows n up (s ∷ ss) le = go (nat_lt s n) (nat_lt s up) (λ e. grind (arith, nat_tests)) (below_grows n up ss le)
  where
    go : (a b : Bool) → (a ≡ true → b ≡ true) → below n ss ≤ below up ss → (if a then 1 else 0) + below n ss ≤ (if b then 1 else 0) + below up ss
    go true true f le = omega arith
    go true false f le = absurd (false_true (f refl))
    go false true f le = omega arith
    go false false f le = omega (arith, le)

-- a snapshot in a lifetime is below its end, and not below its start
used_counts : (n up : ℕ) (ss : List ℕ) → n ≤ up → IsTrue (is_in_use ss n up) → suc (below n ss) ≤ below up ss
unfolding below
used_counts n up [] le e = absurd (false_true e)
used_counts n up (s ∷ ss) le e = go (nat_le n s) refl (nat_lt s up) refl e (λ k. used_counts n up ss le k)
  where
    rest : (a b : Bool) → (a ≡ true → b ≡ true) → suc (below n ss) ≤ below up ss → suc ((if a then 1 else 0) + below n ss) ≤ (if b then 1 else 0) + below up ss
    rest true true f more = omega (arith, more)
    rest true false f more = absurd (false_true (f refl))
    rest false true f more = omega (arith, more)
    rest false false f more = omega (arith, more)

    go : (a : Bool) → nat_le n s ≡ a → (b : Bool) → nat_lt s up ≡ b → ((a && b) || is_in_use ss n up) ≡ true → (is_in_use ss n up ≡ true → suc (below n ss) ≤ below up ss) →
        suc ((if nat_lt s n then 1 else 0) + below n ss) ≤ (if nat_lt s up then 1 else 0) + below up ss
    go true p true q e later =
        let out : nat_lt s n ≡ false = grind (arith, nat_tests) in
        rw (out, q) (omega (arith, below_grows n up ss le))
    go true p false q e later = rest (nat_lt s n) (nat_lt s up) (λ e. grind (arith, nat_tests)) (later e)
    go false p b q e later = rest (nat_lt s n) (nat_lt s up) (λ e. grind (arith, nat_tests)) (later e)

-- each version behind one with that number needs a snapshot of its own
few_behind : (mark up : ℕ) (ss : List ℕ) (vs : List Version) → up ≤ mark → Falls up vs → MayAllStay mark ss (Some up) vs → length vs ≤ below up ss
few_behind mark up ss [] le f c = omega arith
few_behind mark up ss (v ∷ vs) le f c =
    let needs : IsTrue (is_in_use ss f.0 up) = subst (λ x. MayStay mark ss (Some up) x) f.1 c.0 le in
    let next : MayAllStay mark ss (Some f.0) vs = subst (λ x. MayAllStay mark ss x vs) f.1 c.1 in
    omega (arith, used_counts f.0 up ss (omega (arith, f.2)) needs, few_behind mark f.0 ss vs (omega (arith, f.2, le)) f.3 next)

-- behind a number of which nothing is known, one more
few_after : (mark up : ℕ) (ss : List ℕ) (successor : Option ℕ) (vs : List Version) → up ≤ suc mark → Falls up vs → MayAllStay mark ss successor vs → length vs ≤ suc (length ss)
few_after mark up ss successor [] le f c = omega arith
few_after mark up ss successor (v ∷ vs) le f c =
    let next : MayAllStay mark ss (Some f.0) vs = subst (λ x. MayAllStay mark ss x vs) f.1 c.1 in
    omega (arith, few_behind mark f.0 ss vs (omega (arith, f.2, le)) f.3 next, below_all f.0 ss)

few_of : (mark : ℕ) (ss : List ℕ) (vs : List Version) → IsOrdered mark vs → IsClean mark ss vs → length vs ≤ suc (length ss) + one_if (is_some (unpublished mark vs))
few_of mark ss [] o c = omega arith
few_of mark ss (v ∷ vs) o c = go v.stamp o c
  where
    go : (x : Stamp) → IsOrdered mark (record { stamp = x; image = v.image } ∷ vs) → IsClean mark ss (record { stamp = x; image = v.image } ∷ vs) →
        suc (length vs) ≤ suc (length ss) + one_if (is_some (unpublished mark (record { stamp = x; image = v.image } ∷ vs)))
    go (Written by) f c = omega (arith, few_after mark (suc mark) ss None vs (omega arith) f c.1)
    go (Oldest n) f c = omega (arith, few_behind mark n ss vs f.0 f.1 c.1, below_all n ss)
    go (Numbered n by) f c = by_mark (nat_le n mark) refl
      where
        by_mark : (b : Bool) → nat_le n mark ≡ b → suc (length vs) ≤ suc (length ss) + one_if (is_some (let p : Writer × Image = (by, v.image) in if b then None else Some p))
        by_mark true q = omega (arith, few_behind mark n ss vs (grind (arith, nat_tests)) f.1 c.1, below_all n ss)
        by_mark false q = omega (arith, few_after mark n ss (Some n) vs f.0 f.1 c.1)

pub few_held : (s : CoreState) (n : ℕ) (r : Rid) → IsSteady s → IsCleanFor s n r → length (versions s.buckets s.bucket r) ≤ suc n + one_if (has_open s r)
few_held s n r h c = omega (arith, c.1, few_of s.mark c.0 (versions s.buckets s.bucket r) (h.contents_are_ordered.ordered r) c.2)

-- ---- all records

over_least : (f g : Rid → ℕ) (rs : List Rid) → ((r : Rid) → f r ≤ g r) → sum_over f rs ≤ sum_over g rs
unfolding sum_over
over_least f g [] le = omega arith
over_least f g (r ∷ rs) le = omega (arith, le r, over_least f g rs le)

-- where at most one summand is there, the sum is at most that
below_at : (n at : ℕ) (f : ℕ → ℕ) → ((k : ℕ) → (k ≡ at → ⊥) → f k ≡ 0) → sum_below n f ≤ f at
below_at zero at f none = omega arith
below_at (suc n) at f none = cases (n == at)
    (λ e.
    let same : n ≡ at = grind (arith, nat_tests) in
    let before : sum_below n f ≡ sum_below n (λ k. 0) = below_same n (λ k. 0) f (λ k less. none k (λ z. omega (arith, z, same, less))) in
    let here : f n ≡ f at = ap f same in
    omega (arith, before, below_none n, here))
    (λ e. let gone = none n (λ z. absurd (let k : (n == at) ≡ true = grind (arith, nat_tests) in cc)) in omega (arith, gone, below_at n at f none))

sums_turn : (n : ℕ) (f : ℕ → Rid → ℕ) (rs : List Rid) → sum_below n (λ b. sum_over (f b) rs) ≡ sum_over (λ r. sum_below n (λ b. f b r)) rs
unfolding sum_over
sums_turn n f [] = below_none n
sums_turn n f (r ∷ rs) = below_plus n (λ b. f b r) (λ b. sum_over (f b) rs) ∙ ap (λ k. sum_below n (λ b. f b r) + k) (sums_turn n f rs)

-- all versions are those of the records that have any
held_over : (s : CoreState) (rs : List Rid) → IsSteady s → NoneTwice rs → AreAllHeld s rs → sum_below s.buckets (λ b. total (s.bucket b)) ≤ sum_over (λ r. length (versions s.buckets s.bucket r)) rs
held_over s rs h once all =
    let by_bucket = below_same s.buckets (λ b. sum_over (λ r. length (look r (s.bucket b))) rs) (λ b. total (s.bucket b))
    (λ b less. content_total rs (s.bucket b) once (h.contents_are_placed b).once (λ r out. none b r out (bucket_of s.buckets r == b) refl)) in
    let turned = sums_turn s.buckets (λ b r. length (look r (s.bucket b))) rs in
    let each = over_least (λ r. sum_below s.buckets (λ b. length (look r (s.bucket b)))) (λ r. length (versions s.buckets s.bucket r)) rs
    (λ r. below_at s.buckets (bucket_of s.buckets r) (λ b. length (look r (s.bucket b)))
    (λ b other. ap (λ (ws : List Version). length ws) (placed_other s.buckets b r (s.bucket b) (h.contents_are_placed b).bucket (λ e. other (sym e))))) in
    omega (arith, by_bucket, turned, each)
  where
    gone : (r : Rid) → is_among r rs ≡ false → (n : ℕ) → length (versions s.buckets s.bucket r) ≡ n → versions s.buckets s.bucket r ≡ []
    gone r out zero e = length_none (versions s.buckets s.bucket r) e
    gone r out (suc n) e = absurd (let k : is_among r rs ≡ true = all r (omega (arith, e)) in cc)

    none : (b : ℕ) (r : Rid) → is_among r rs ≡ false → (t : Bool) → (bucket_of s.buckets r == b) ≡ t → look r (s.bucket b) ≡ []
    none b r out true e = subst (λ k. look r (s.bucket k) ≡ []) ((Decides-eqb (bucket_of s.buckets r) b).0 e) (gone r out (length (versions s.buckets s.bucket r)) refl)
    none b r out false e = placed_other s.buckets b r (s.bucket b) (h.contents_are_placed b).bucket (λ at. let z : (bucket_of s.buckets r == b) ≡ true = (Decides-eqb (bucket_of s.buckets r) b).1 at in cc)

-- ---- the bound

few_over : (s : CoreState) (n : ℕ) (rs : List Rid) → ((r : Rid) → length (versions s.buckets s.bucket r) ≤ suc n + one_if (has_open s r)) →
    sum_over (λ r. length (versions s.buckets s.bucket r)) rs ≤ length rs * suc n + length (filter (has_open s) rs)
unfolding sum_over
few_over s n [] le = omega arith
few_over s n (r ∷ rs) le = go (has_open s r) (le r) (few_over s n rs le)
  where
    go : (b : Bool) → length (versions s.buckets s.bucket r) ≤ suc n + one_if b →
        sum_over (λ r. length (versions s.buckets s.bucket r)) rs ≤ length rs * suc n + length (filter (has_open s) rs) →
        length (versions s.buckets s.bucket r) + sum_over (λ r. length (versions s.buckets s.bucket r)) rs ≤ suc (length rs) * suc n + length
        (cond b (r ∷ filter (has_open s) rs) (filter (has_open s) rs))
    go true here later = omega (arith, here, later, suc-mul (length rs) (suc n))
    go false here later = omega (arith, here, later, suc-mul (length rs) (suc n))

pub all_few : (s : CoreState) (n : ℕ) (rs : List Rid) → IsSteady s → NoneTwice rs → AreAllHeld s rs → ((r : Rid) → IsCleanFor s n r) →
    sum_below s.buckets (λ b. total (s.bucket b)) ≤ length rs * suc n + length (filter (has_open s) rs)
all_few s n rs h once all clean = omega (arith, held_over s rs h once all, few_over s n rs (λ r. few_held s n r h (clean r)))
