-- The bounds of a gather: the least of a list, and what a table is served.
use Rattle.std.proofs.Common.{◌≡◌, ◌⊎◌, inl, inr, ℕ, zero, suc, ◌+◌, ◌<◌, ◌≤◌, Bool, true, false, List, [], ◌∷◌, length, map, filter, get_or, min, ◌==◌}
use Rattle.std.proofs.Common.{if◌then◌else◌, refl, sym, ap, ◌∙◌, subst, arith, Vec}
use Rattle.std.specs.declared.alloc.Global.{Global}
use Rattle.std.specs.Prelude.{IsPermutation}
use Rattle.std.specs.List.Sorted.{IsNonDecreasing, IsNonDecreasingBy}
use native.Mathlib.Decide.{dec_le}
use Rattle.std.proofs.lemmas.Bool.Decides.{nat_tests}
use Rattle.std.proofs.lemmas.List.Kept.{IsNonDecreasingBy-filter}
use Rattle.hg_base.specs.declared.scope.Scope.TheVariants.{All as All_tables}
use Rattle.hg_base.specs.declared.rid.TableId.{TableId}
use Rattle.hg_base.specs.declared.report.Entry.{Entry}
use Rattle.hg_core.specs.Passes.{least, recorded, all_recorded, table_bound, group_bound}
use Rattle.hg_rule.specs.declared.view.PassPart.{PassPart}
use Rattle.hg_rule.specs.Facts.{record_of}
use Rattle.hg_tracker.specs.declared.gathered.Gathered.{Gathered}
use Rattle.hg_rule.specs.Rounds.{entries_of}
use Rattle.hg_tracker.specs.Entries.{counts_for, times, numbers_for, served, lowest}
use Rattle.hg_tracker.specs.Gathers.{IsGatherOf}
use Rattle.hg_tracker.proofs.TableLists.{list_at}
use Rattle.hg_tracker.proofs.Counts.{recorded_times, all_times}

least_most : (n : ℕ) (xs : List ℕ) → least n xs ≤ n
least_most n [] = omega arith
least_most n (x ∷ xs) = omega (arith, least_most n xs)

least_below : (n m : ℕ) (xs : List ℕ) → 0 < times m xs → least n xs ≤ m
least_below n m [] l = absurd (omega arith)
least_below n m (x ∷ xs) l = go (x == m) refl l (least_below n m xs)
  where
    go : (b : Bool) → (x == m) ≡ b → 0 < (if b then suc (times m xs) else times m xs) → (0 < times m xs → least n xs ≤ m) → min x (least n xs) ≤ m
    go true e l f = let same : x ≡ m = grind (arith, nat_tests) in omega arith
    go false e l f = let k = f l in omega arith

times_self : (x : ℕ) (xs : List ℕ) → 0 < times x (x ∷ xs)
times_self x xs = let e : (x == x) ≡ true = grind (arith, nat_tests) in subst (λ b. 0 < (if b then suc (times x xs) else times x xs)) (sym e) (omega arith)

times_more : (n x : ℕ) (xs : List ℕ) → 0 < times n xs → 0 < times n (x ∷ xs)
times_more n x xs l = go (x == n)
  where
    go : (b : Bool) → 0 < (if b then suc (times n xs) else times n xs)
    go true = omega arith
    go false = l

least_is : (n : ℕ) (xs : List ℕ) → (least n xs ≡ n) ⊎ (0 < times (least n xs) xs)
least_is n [] = inl refl
least_is n (x ∷ xs) = go (dec_le x (least n xs)) (least_is n xs)
  where
    go : Dec (x ≤ least n xs) → (least n xs ≡ n) ⊎ (0 < times (least n xs) xs) → (min x (least n xs) ≡ n) ⊎ (0 < times (min x (least n xs)) (x ∷ xs))
    go (yes l) h = let e : min x (least n xs) ≡ x = omega arith in inr (subst (λ k. 0 < times k (x ∷ xs)) (sym e) (times_self x xs))
    go (no l) (inl e) = inl (omega arith)
    go (no l) (inr h) = let e : min x (least n xs) ≡ least n xs = omega arith in inr (subst (λ k. 0 < times k (x ∷ xs)) (sym e) (times_more (least n xs) x xs h))

least_over : (n : ℕ) (xs ys : List ℕ) → ((k : ℕ) → times k xs ≡ times k ys) → least n xs ≤ least n ys
least_over n xs ys same = go (least_is n ys)
  where
    go : (least n ys ≡ n) ⊎ (0 < times (least n ys) ys) → least n xs ≤ least n ys
    go (inl e) = omega (arith, least_most n xs)
    go (inr h) = least_below n (least n ys) xs (subst (λ k. 0 < k) (sym (same (least n ys))) h)

pub least_same : (n : ℕ) (xs ys : List ℕ) → ((k : ℕ) → times k xs ≡ times k ys) → least n xs ≡ least n ys
least_same n xs ys same = omega (arith, least_over n xs ys same, least_over n ys xs (λ k. sym (same k)))

above : (n m : ℕ) (xs : List ℕ) → ((k d : ℕ) → k < length xs → m ≤ get_or xs k d) → min n m ≤ least n xs
above n m [] f = omega arith
above n m (x ∷ xs) f = omega (arith, f 0 0 (omega arith), above n m xs (λ k d l. f (suc k) d (omega arith)))

-- the first of an ascending list is its least
pub lowest_least : (n : ℕ) (xs : List ℕ) → IsNonDecreasing xs → lowest n xs ≡ least n xs
lowest_least n [] h = refl
lowest_least n (x ∷ xs) h = omega (arith, least_most n xs, above n x xs (λ k d l. h 0 (suc k) d (omega arith) (omega arith)))

-- ---- a gather of a record

mapped_at : (es : List Entry) (k d : ℕ) (x : Entry) → k < length es → get_or (map (λ (e : Entry). e.number) es) k d ≡ (get_or es k x).number
mapped_at [] k d x l = absurd (omega arith)
mapped_at (e ∷ es) zero d x l = refl
mapped_at (e ∷ es) (suc k) d x l = mapped_at es k d x (omega arith)

mapped_length : (es : List Entry) → length (map (λ (e : Entry). e.number) es) ≡ length es
mapped_length [] = refl
mapped_length (e ∷ es) = ap suc (mapped_length es)

some_entry : Entry
some_entry = record { session = 0; number = 0; scope = All_tables; moved = false }

mapped_rises : (es : List Entry) → IsNonDecreasingBy (λ (e : Entry). e.number) es → IsNonDecreasing (map (λ (e : Entry). e.number) es)
mapped_rises es h i j d le l =
    let below : j < length es = omega (arith, mapped_length es) in
    let a : ℕ = (get_or es i some_entry).number in
    let b : ℕ = (get_or es j some_entry).number in
    let c : a ≤ b = h i j some_entry le below in
    omega (arith, mapped_at es i d some_entry (omega arith), mapped_at es j d some_entry below)

shuffled_of : (sessions : ℕ) (part : PassPart) (g : Gathered) → IsGatherOf sessions part g → IsPermutation (entries_of part.loaded) g.ranked.items
shuffled_of sessions part g h = subst (λ es. IsPermutation es g.ranked.items) h.noted.2 h.shuffled

-- what a table is served
abbrev pub at_table : Gathered → ℕ → Vec ℕ Global → List ℕ
at_table g t d = served g.common.items (get_or g.lists.items t d).items

pub list_numbers : (sessions : ℕ) (part : PassPart) (g : Gathered) (t : TableId) (d : Vec ℕ Global) → IsGatherOf sessions part g → t.0 < length g.lists.items → (n : ℕ) →
    times n (at_table g t.0 d) ≡ times n (recorded t (record_of part))
list_numbers sessions part g t d h l n = ap (times n) (list_at 0 g.common.items g.ranked.items g.lists.items t.0 d l h.lists ∙
    ap (λ k. numbers_for k g.ranked.items) (none_less t.0)) ∙ recorded_times n t part.loaded g.ranked.items h.loaded.1 (shuffled_of sessions part g h)
  where
    none_less : (n : ℕ) → 0 + n ≡ n
    none_less n = omega arith

pub list_rises : (sessions : ℕ) (part : PassPart) (g : Gathered) (t : TableId) (d : Vec ℕ Global) → IsGatherOf sessions part g → t.0 < length g.lists.items → IsNonDecreasing (at_table g t.0 d)
list_rises sessions part g t d h l = subst IsNonDecreasing (sym (list_at 0 g.common.items g.ranked.items g.lists.items t.0 d l h.lists))
    (mapped_rises (filter (counts_for (0 + t.0)) g.ranked.items) (IsNonDecreasingBy-filter (λ (e : Entry). e.number) (counts_for (0 + t.0)) g.ranked.items h.rises))

pub bound_is : (sessions : ℕ) (part : PassPart) (g : Gathered) (t : TableId) (d : Vec ℕ Global) → IsGatherOf sessions part g → t.0 < length g.lists.items →
    lowest g.horizon (at_table g t.0 d) ≡ table_bound t (record_of part)
bound_is sessions part g t d h l =
    let xs = at_table g t.0 d in
    lowest_least g.horizon xs (list_rises sessions part g t d h l) ∙ (least_same g.horizon xs (recorded t (record_of part)) (list_numbers sessions part g t d h l) ∙
    ap (λ n. least n (recorded t (record_of part))) h.noted.1)

pub least_is_bound : (sessions : ℕ) (part : PassPart) (g : Gathered) → IsGatherOf sessions part g → lowest g.horizon (map (λ (e : Entry). e.number) g.ranked.items) ≡ group_bound (record_of part)
least_is_bound sessions part g h =
    let xs = map (λ (e : Entry). e.number) g.ranked.items in
    lowest_least g.horizon xs (mapped_rises g.ranked.items h.rises) ∙
    (least_same g.horizon xs (all_recorded (record_of part)) (λ n. all_times n part.loaded g.ranked.items (shuffled_of sessions part g h)) ∙
    ap (λ n. least n (all_recorded (record_of part))) h.noted.1)
