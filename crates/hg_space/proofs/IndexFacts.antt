-- What look-ups find after an insertion and a removal, and from a key on.
use Rattle.std.proofs.Common.{◌≡◌, ℕ, ◌≤◌, ◌<◌, List, [], ◌∷◌, Bool, true, false, Option, Some, None, refl, sym, ap, ◌∙◌, cond, subst, arith}
use Rattle.std.specs.Prelude.{IsTrue, IsSome, is_some}
use Rattle.std.specs.Map.{lookup, keys_of, remove_entry}
use Rattle.std.specs.List.Sorted.{IsStrictlySortedBy}
use Rattle.std.specs.BTreeMap.{BTreeMap, is_at}
use Rattle.std.specs.BTreeMap.Range.{IsRangeOf, IsLeBy}
use Rattle.std.specs.declared.ops.Bound.TheVariants.{Included, Unbounded}
use Rattle.std.proofs.lemmas.Option.{none-some, same_Some}
use Rattle.hg_base.specs.declared.rid.Rid.{Rid}
use Rattle.hg_base.specs.declared.rid.TableId.{TableId}
use Rattle.hg_base.specs.History.{same_rid}
use Rattle.hg_base.specs.RidOrder.{rid_cmp}
use Rattle.hg_space.specs.Index.{place_of, HasPlace, AreDistinct, record_at, IsThere, IsNextKey}
use Rattle.hg_base.proofs.RidOrder.{at_rid, rids_equiv, le_keys, le_tables, le_in_table}

pub looked_up : (es : List (Rid × ℕ)) (r : Rid) → lookup (is_at (rid_cmp r)) es ≡ place_of es r
looked_up es r = ap (λ (test : Rid → Bool). lookup test es) (λ i k. at_rid r k i)

-- one record has another place, or none, and each other record has its own still
abbrev pub Changed : List (Rid × ℕ) → List (Rid × ℕ) → Rid → Option ℕ → Type 0
Changed es fs r w = (q : Rid) → place_of fs q ≡ cond (same_rid r q) w (place_of es q)

pub changed : (es fs : List (Rid × ℕ)) (r : Rid) (w : Option ℕ) → ((q : Rid) → lookup (is_at (rid_cmp q)) fs ≡ cond (is_at (rid_cmp r) q) w (lookup (is_at (rid_cmp q)) es)) → Changed es fs r w
changed es fs r w h q = sym (looked_up fs q) ∙ h q ∙ (λ i. cond (at_rid r q i) w (looked_up es q i))

pub other_stays : (es fs : List (Rid × ℕ)) (r : Rid) (w : Option ℕ) → Changed es fs r w → (q : Rid) → same_rid r q ≡ false → place_of fs q ≡ place_of es q
other_stays es fs r w h q apart = h q ∙ ap (λ b. cond b w (place_of es q)) apart

-- places stay distinct
pub removed_distinct : (es fs : List (Rid × ℕ)) (r : Rid) → Changed es fs r None → AreDistinct es → AreDistinct fs
removed_distinct es fs r h distinct q s p there here = distinct q s p (was q there) (was s here)
  where
    was : (t : Rid) → HasPlace fs t p → HasPlace es t p
    was t k = go (same_rid r t) (sym (h t) ∙ k)
      where
        go : (b : Bool) → cond b None (place_of es t) ≡ Some p → place_of es t ≡ Some p
        go true e = absurd (none-some p e)
        go false e = e

pub inserted_distinct : (es fs : List (Rid × ℕ)) (r : Rid) (n : ℕ) → Changed es fs r (Some n) → ((q : Rid) → HasPlace es q n → ⊥) → AreDistinct es → AreDistinct fs
inserted_distinct es fs r n h new distinct q s p there here = go (same_rid r q) (same_rid r s) refl refl (sym (h q) ∙ there) (sym (h s) ∙ here)
  where
    go : (a b : Bool) → same_rid r q ≡ a → same_rid r s ≡ b → cond a (Some n) (place_of es q) ≡ Some p → cond b (Some n) (place_of es s) ≡ Some p → IsTrue (same_rid q s)
    go true true a b j k = sym (rids_equiv.congr r q s a) ∙ b
    go true false a b j k = absurd (new s (k ∙ sym j))
    go false true a b j k = absurd (new q (j ∙ sym k))
    go false false a b j k = distinct q s p j k

-- ---- from a key on

abbrev pub Rest : BTreeMap Rid ℕ → TableId → ℕ → List (Rid × ℕ) → Type 0
Rest m t from rs = IsRangeOf rid_cmp (Included (record_at t from)) Unbounded m rs

pub none_there : (o : Option ℕ) → o ≡ None → IsSome o → ⊥
none_there o e h = let k = subst IsSome e h in absurd cc

pub next_none : (m : BTreeMap Rid ℕ) (t : TableId) (from : ℕ) (rs : List (Rid × ℕ)) → Rest m t from rs → rs ≡ [] → IsNextKey m.entries t from None
next_none m t from rs h e =
    λ k le there.
    let none = h.5 e (record_at t k) (le_keys (record_at t from) (record_at t k) refl le, tt) in
    none_there (place_of m.entries (record_at t k)) (sym (looked_up m.entries (record_at t k)) ∙ none) there

-- the first entry is in the map, and at or below each record of the table from the key on
pub record First (m : BTreeMap Rid ℕ) (t : TableId) (from : ℕ) (r : Rid) (p : ℕ) : Type 0 where
  pub above : IsLeBy rid_cmp (record_at t from) r
  pub found : place_of m.entries r ≡ Some p
  pub least : (k : ℕ) → from ≤ k → IsThere m.entries t k → IsLeBy rid_cmp r (record_at t k)

pub first_entry : (m : BTreeMap Rid ℕ) (t : TableId) (from : ℕ) (rs : List (Rid × ℕ)) (r : Rid) (p : ℕ) (more : List (Rid × ℕ)) → Rest m t from rs → rs ≡ (r, p) ∷ more → First m t from r p
first_entry m t from rs r p more h e =
    let k : Rest m t from ((r, p) ∷ more) = subst (Rest m t from) e h in
    record {
      above = k.1.0.0;
      found = sym (looked_up m.entries r) ∙ k.1.1;
      least = λ n le there. k.2 (record_at t n) (le_keys (record_at t from) (record_at t n) refl le, tt) (subst IsSome (sym (looked_up m.entries (record_at t n))) there);
    }

pub next_other : (m : BTreeMap Rid ℕ) (t : TableId) (from : ℕ) (r : Rid) (p : ℕ) → First m t from r p → (r.table.0 ≡ t.0 → ⊥) → IsNextKey m.entries t from None
next_other m t from r p first apart =
    λ k le there.
    let low : t.0 ≤ r.table.0 = le_tables (record_at t from) r first.above in
    let high : r.table.0 ≤ t.0 = le_tables r (record_at t k) (first.least k le there) in
    apart (omega (arith, low, high))

pub next_found : (m : BTreeMap Rid ℕ) (t : TableId) (from : ℕ) (r : Rid) (p : ℕ) → First m t from r p → r.table.0 ≡ t.0 → IsNextKey m.entries t from (Some r.key)
next_found m t from r p first same =
    let here : r ≡ record_at t r.key = (λ i. record { table = record { 0 = same i }; key = r.key }) in (
      le_in_table (record_at t from) r first.above (sym same),
      ap is_some (ap (place_of m.entries) (sym here) ∙ first.found),
      λ k le there. le_in_table r (record_at t k) (first.least k le there) same,
    )

-- ---- as lists

pub ascends : (es fs : List (Rid × ℕ)) → es ≡ fs → IsStrictlySortedBy rid_cmp (keys_of es) → IsStrictlySortedBy rid_cmp (keys_of fs)
ascends es fs e = subst (λ xs. IsStrictlySortedBy rid_cmp (keys_of xs)) e

pub taken_out : (es : List (Rid × ℕ)) (r : Rid) → remove_entry (is_at (rid_cmp r)) es ≡ remove_entry (same_rid r) es
taken_out es r = ap (λ (test : Rid → Bool). remove_entry test es) (λ i k. at_rid r k i)

-- ---- no place over a number

pub same_place : (es : List (Rid × ℕ)) (r q : Rid) → same_rid r q ≡ true → place_of es q ≡ place_of es r
same_place es r q h = ap (λ (test : Rid → Bool). lookup test es) (λ i k. sym (rids_equiv.congr r q k h) i)

pub inserted_below : (es fs : List (Rid × ℕ)) (r : Rid) (n : ℕ) → ((q : Rid) (p : ℕ) → HasPlace es q p → p < n) → HasPlace fs r n →
    ((q : Rid) → same_rid r q ≡ false → place_of fs q ≡ place_of es q) → (q : Rid) (p : ℕ) → HasPlace fs q p → p ≤ n
inserted_below es fs r n below here others q p h = go (same_rid r q) refl
  where
    go : (b : Bool) → same_rid r q ≡ b → p ≤ n
    go true e = let same : p ≡ n = same_Some p n (sym h ∙ same_place fs r q e ∙ here) in omega (arith, same)
    go false e = let less = below q p (sym (others q e) ∙ h) in omega (arith, less)
