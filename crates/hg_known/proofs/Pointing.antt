-- Printed snapshots, with one line more, and in either order.
use Rattle.std.proofs.Common.{◌≡◌, ℕ, List, [], ◌∷◌, Bool, true, false, Some, refl, sym, ap, ◌∙◌, cond}
use Rattle.std.specs.Prelude.{◌==◌, ◌&&◌, ◌||◌}
use Rattle.std.specs.List.{list_any}
use Rattle.std.specs.Option.{option_map_or}
use Rattle.std.specs.BTreeMap.{is_at}
use Rattle.std.specs.BTreeSet.{BTreeSet, contains}
use Rattle.std.specs.Ordering.{nat_cmp}
use Rattle.hg_base.specs.declared.report.Told.{Told}
use Rattle.hg_base.specs.Lists.{onto}
use Rattle.hg_base.specs.Transcript.{Said}
use Rattle.hg_base.specs.Freshness.{snapshot_of, is_declared, prints}
use Rattle.hg_base.proofs.RidOrder.{alike_numbers, alike_parts}
use Rattle.hg_known.specs.declared.context.Point.{Point}
use Rattle.hg_known.specs.Marked.{point, point_cmp, prints_point}

pub at_point : (a b : Point) → is_at (point_cmp a) b ≡ ((a.session == b.session) && (a.number == b.number))
at_point a b = alike_parts (nat_cmp a.session b.session) (nat_cmp a.number b.number) ∙ (λ i. alike_numbers a.session b.session i && alike_numbers a.number b.number i)

pub cond_or : (a b : Bool) → cond a true b ≡ (a || b)
cond_or true b = refl
cond_or false b = refl

abbrev pub Puts : BTreeSet Point → BTreeSet Point → Point → Type 0
Puts old new p = (q : Point) → contains point_cmp new q ≡ cond (is_at (point_cmp p) q) true (contains point_cmp old q)

pub prints_it : (now : Said) (m j n : ℕ) → snapshot_of now ≡ Some m → prints_point j n now ≡ ((now.session == j) && (m == n))
prints_it now m j n e = ap (λ o. (now.session == j) && option_map_or (λ s. s == n) o false) e

pub printed_more : (old new : BTreeSet Point) (earlier : List Said) (now : Said) (m : ℕ) → snapshot_of now ≡ Some m → Puts old new (point now.session m) →
    ((j n : ℕ) → contains point_cmp old (point j n) ≡ list_any (prints_point j n) earlier) → (j n : ℕ) → contains point_cmp new (point j n) ≡ list_any (prints_point j n) (now ∷ earlier)
printed_more old new earlier now m e put h j n =
    put (point j n) ∙ (λ i. cond (at_point (point now.session m) (point j n) i) true (h j n i)) ∙ cond_or ((now.session == j) && (m == n)) (list_any (prints_point j n) earlier)
    ∙ ap (λ b. b || list_any (prints_point j n) earlier) (sym (prints_it now m j n e))

pub and_true : (a b : Bool) → b ≡ true → a ≡ (a && b)
and_true true b e = sym e
and_true false b e = refl

pub and_false : (a b : Bool) → b ≡ false → (a && b) ≡ false
and_false true b e = e
and_false false b e = refl

abbrev pub declares : ℕ → ℕ → Said → Bool
declares j n said = prints_point j n said && is_declared said.scope

pub declared_more : (old new : BTreeSet Point) (earlier : List Said) (now : Said) (m : ℕ) → snapshot_of now ≡ Some m → is_declared now.scope ≡ true →
    Puts old new (point now.session m) → ((j n : ℕ) → contains point_cmp old (point j n) ≡ list_any (declares j n) earlier) → (j n : ℕ) →
    contains point_cmp new (point j n) ≡ list_any (declares j n) (now ∷ earlier)
declared_more old new earlier now m e d put h j n =
    put (point j n) ∙ (λ i. cond (at_point (point now.session m) (point j n) i) true (h j n i)) ∙ cond_or ((now.session == j) && (m == n)) (list_any (declares j n) earlier)
    ∙ ap (λ b. b || list_any (declares j n) earlier) (sym (prints_it now m j n e) ∙ and_true (prints_point j n now) (is_declared now.scope) d)

pub declared_same : (old : BTreeSet Point) (earlier : List Said) (now : Said) → is_declared now.scope ≡ false →
    ((j n : ℕ) → contains point_cmp old (point j n) ≡ list_any (declares j n) earlier) → (j n : ℕ) → contains point_cmp old (point j n) ≡ list_any (declares j n) (now ∷ earlier)
declared_same old earlier now d h j n = h j n ∙ sym (ap (λ b. b || list_any (declares j n) earlier) (and_false (prints_point j n now) (is_declared now.scope) d))

-- ---- in either order

pub any_onto : {X : Type 0} (p : X → Bool) (xs es : List X) → list_any p (onto xs es) ≡ (list_any p xs || list_any p es)
any_onto p [] es = refl
any_onto p (x ∷ xs) es = any_onto p xs (x ∷ es) ∙ or_over (list_any p xs) (p x) (list_any p es)
  where
    or_over : (a b c : Bool) → (a || (b || c)) ≡ ((b || a) || c)
    or_over true true c = refl
    or_over true false c = refl
    or_over false true c = refl
    or_over false false c = refl

pub any_all : {X : Type 0} (p : X → Bool) (xs : List X) → list_any p (onto xs []) ≡ list_any p xs
any_all p xs = any_onto p xs [] ∙ or_false (list_any p xs)
  where
    or_false : (b : Bool) → (b || false) ≡ b
    or_false true = refl
    or_false false = refl

pub printed_all : (all : List Said) (told : Told) → list_any (prints_point told.session told.number) (onto all []) ≡ list_any (prints told) all
printed_all all told = any_all (prints_point told.session told.number) all

pub declared_all : (all : List Said) (told : Told) → list_any (declares told.session told.number) (onto all []) ≡ list_any (λ said. prints told said && is_declared said.scope) all
declared_all all told = any_all (declares told.session told.number) all
