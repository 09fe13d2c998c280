-- The order of slots, by record and then by number.
use Rattle.std.proofs.Common.{◌≡◌, ℕ, ◌≤◌, ◌<◌, List, [], ◌∷◌, ◌++◌, Bool, true, false, Option, Some, None, refl, sym, ap, ◌∙◌, cond, subst, arith}
use Rattle.std.specs.Prelude.{◌&&◌, ◌==◌, IsSome, is_some, is_none, not}
use Rattle.std.specs.declared.cmp.Ordering.{Ordering}
use Rattle.std.specs.declared.cmp.Ordering.TheVariants.{Less, Equal, Greater}
use Rattle.std.specs.Ordering.{nat_cmp, ordering_then, is_eq, is_gt, is_lt}
use Rattle.std.specs.Map.{lookup}
use Rattle.std.specs.BTreeMap.{BTreeMap, is_at}
use Rattle.std.specs.BTreeMap.Range.{IsRangeOf, IsLeBy}
use Rattle.std.specs.declared.ops.Bound.TheVariants.{Included, Excluded, Unbounded}
use Rattle.std.proofs.lemmas.Bool.Decides.{nat_tests}
use Rattle.hg_base.specs.declared.rid.Rid.{Rid}
use Rattle.hg_base.specs.declared.rid.TableId.{TableId}
use Rattle.hg_base.specs.declared.image.Image.{Image}
use Rattle.hg_base.specs.declared.value.Value.{Value}
use Rattle.hg_base.specs.History.{History, same_rid, visible}
use Rattle.hg_base.specs.RidOrder.{rid_cmp}
use Rattle.hg_base.proofs.ListFacts.{false_true}
use Rattle.hg_known.proofs.Groups.{none_visible, last_visible}
use Rattle.hg_base.proofs.RidOrder.{at_rid, alike_numbers, alike_parts}
use Rattle.hg_known.specs.declared.writes.Slot.{Slot}
use Rattle.hg_known.specs.Written.{same_slot, slot, slot_cmp, image_at, record_at, IsLastAt, IsLastShown, IsNextRid, IsOfHistory}

pub at_slot : (a b : Slot) → is_at (slot_cmp a) b ≡ same_slot a b
at_slot a b = alike_parts (rid_cmp a.rid b.rid) (nat_cmp a.number b.number) ∙ (λ i. at_rid a.rid b.rid i && alike_numbers a.number b.number i)

pub looked_up : (es : List (Slot × Image)) (a : Slot) → lookup (is_at (slot_cmp a)) es ≡ lookup (same_slot a) es
looked_up es a = ap (λ (test : Slot → Bool). lookup test es) (λ i k. at_slot a k i)

pub put : (es fs : List (Slot × Image)) (r : Rid) (n : ℕ) (w : Option Image) → ((q : Slot) → lookup (is_at (slot_cmp q)) fs ≡ cond (is_at (slot_cmp (slot r n)) q) w (lookup (is_at (slot_cmp q)) es)) →
    (q : Rid) (m : ℕ) → image_at fs q m ≡ cond (same_rid r q && (n == m)) w (image_at es q m)
put es fs r n w h q m = sym (looked_up fs (slot q m)) ∙ h (slot q m) ∙ (λ i. cond (at_slot (slot r n) (slot q m) i) w (looked_up es (slot q m) i))

-- ---- the last entry up to a slot

abbrev pub UpTo : BTreeMap Slot Image → Rid → ℕ → List (Slot × Image) → Type 0
UpTo m r s es = IsRangeOf slot_cmp Unbounded (Included (slot r s)) m es

pub le_slots : (r : Rid) (n s : ℕ) → n ≤ s → IsLeBy slot_cmp (slot r n) (slot r s)
le_slots r n s k = grind (arith, nat_tests, k)

pub none_up_to : (m : BTreeMap Slot Image) (r : Rid) (s : ℕ) (es : List (Slot × Image)) → UpTo m r s es → es ≡ [] → IsLastAt m.entries r s None
none_up_to m r s es h e n k = sym (looked_up m.entries (slot r n)) ∙ h.5 e (slot r n) (tt, le_slots r n s k)

pub numbers_in_order : (r : Rid) (a b : ℕ) → IsLeBy slot_cmp (slot r a) (slot r b) → a ≤ b
numbers_in_order r a b h = grind (arith, nat_tests, h)

pub number_below : (r : Rid) (a b : ℕ) → a < b → is_lt (slot_cmp (slot r a) (slot r b)) ≡ true
number_below r a b h = grind (arith, nat_tests, h)

pub none_if : (o : Option Image) → (IsSome o → ⊥) → o ≡ None
none_if None f = refl
none_if (Some image) f = absurd (f refl)

-- neither below nor above, of another record
pub between : (o p q : Ordering) → is_eq o ≡ false → is_lt (ordering_then o p) ≡ false → is_gt (ordering_then o q) ≡ false → ⊥
between Less p q e l g = cc
between Equal p q e l g = cc
between Greater p q e l g = cc

-- the last entry up to a slot
pub record Last (m : BTreeMap Slot Image) (r : Rid) (s : ℕ) (e : Slot) (image : Image) : Type 0 where
  pub within : IsLeBy slot_cmp e (slot r s)
  pub found : lookup (same_slot e) m.entries ≡ Some image
  pub last : (n : ℕ) → n ≤ s → IsSome (image_at m.entries r n) → is_lt (slot_cmp e (slot r n)) ≡ false

pub last_entry : (m : BTreeMap Slot Image) (r : Rid) (s : ℕ) (es : List (Slot × Image)) (e : Slot) (image : Image) (t : List (Slot × Image)) → UpTo m r s es →
    es ≡ t ++ (e, image) ∷ [] → Last m r s e image
last_entry m r s es e image t h is =
    let at = h.3 (e, image) t is in
    record {
      within = at.0.1;
      found = sym (looked_up m.entries e) ∙ at.1;
      last = λ n k there. h.4 (e, image) t is (slot r n) (tt, le_slots r n s k) (subst IsSome (sym (looked_up m.entries (slot r n))) there);
    }

pub last_other : (m : BTreeMap Slot Image) (r : Rid) (s : ℕ) (e : Slot) (image : Image) → Last m r s e image → same_rid e.rid r ≡ false → IsLastAt m.entries r s None
last_other m r s e image last other =
    λ n k. none_if (image_at m.entries r n) (λ there.
    between (rid_cmp e.rid r) (nat_cmp e.number n) (nat_cmp e.number s) (at_rid e.rid r ∙ other) (last.last n k there) last.within)

pub last_here : (m : BTreeMap Slot Image) (r : Rid) (s : ℕ) (e : Slot) (image : Image) → Last m r s e image → e.rid ≡ r → IsLastAt m.entries r s (Some (e.number, image))
last_here m r s e image last same =
    let is : e ≡ slot r e.number = (λ i. record { rid = same i; number = e.number }) in (
      numbers_in_order r e.number s (subst (λ x. IsLeBy slot_cmp x (slot r s)) is last.within),
      ap (λ x. lookup (same_slot x) m.entries) (sym is) ∙ last.found,
      λ n over k. none_if (image_at m.entries r n) (λ there. let below = last.last n k there in let above = ap (λ x. is_lt (slot_cmp x (slot r n))) is ∙ number_below r e.number n over in absurd (cc)),
    )

pub is_none_of : (o : Option Image) (b : Bool) → is_some o ≡ not b → b ≡ is_none o
is_none_of None true e = refl
is_none_of None false e = cc
is_none_of (Some image) true e = cc
is_none_of (Some image) false e = refl

pub not_true : (b : Bool) → not b ≡ true → b ≡ false
not_true true e = cc
not_true false e = refl

pub not_false : (b : Bool) → not b ≡ false → b ≡ true
not_false true e = refl
not_false false e = cc

-- ---- the last key

pub keys_in_order : (t : TableId) (a b n s : ℕ) → a ≤ b → n ≤ s → IsLeBy slot_cmp (slot (record_at t a) n) (slot (record_at t b) s)
keys_in_order t a b n s h k = grind (arith, nat_tests, h, k)

pub table_at_most : (t : TableId) (e : Slot) (k n : ℕ) → IsLeBy slot_cmp e (slot (record_at t k) n) → e.rid.table.0 ≤ t.0
table_at_most t e k n h = grind (arith, nat_tests, h)

pub key_at_most : (t : TableId) (e : Slot) (k n : ℕ) → IsLeBy slot_cmp e (slot (record_at t k) n) → e.rid.table.0 ≡ t.0 → e.rid.key ≤ k
key_at_most t e k n h s = grind (arith, nat_tests, h, s)

pub table_below : (t : TableId) (e : Slot) (k n : ℕ) → e.rid.table.0 < t.0 → is_lt (slot_cmp e (slot (record_at t k) n)) ≡ true
table_below t e k n h = grind (arith, nat_tests, h)

pub key_below : (t : TableId) (e : Slot) (k n : ℕ) → e.rid.table.0 ≡ t.0 → e.rid.key < k → is_lt (slot_cmp e (slot (record_at t k) n)) ≡ true
key_below t e k n s h = grind (arith, nat_tests, s, h)

-- the last entry of a table up to a key and a number
pub record LastKey (m : BTreeMap Slot Image) (t : TableId) (key s : ℕ) (e : Slot) (image : Image) : Type 0 where
  pub within : IsLeBy slot_cmp e (slot (record_at t key) s)
  pub found : lookup (same_slot e) m.entries ≡ Some image
  pub last : (k n : ℕ) → k ≤ key → n ≤ s → IsSome (image_at m.entries (record_at t k) n) → is_lt (slot_cmp e (slot (record_at t k) n)) ≡ false

pub last_key : (m : BTreeMap Slot Image) (t : TableId) (key s : ℕ) (es : List (Slot × Image)) (e : Slot) (image : Image) (front : List (Slot × Image)) →
    UpTo m (record_at t key) s es → es ≡ front ++ (e, image) ∷ [] → LastKey m t key s e image
last_key m t key s es e image front h is =
    let at = h.3 (e, image) front is in
    record {
      within = at.0.1;
      found = sym (looked_up m.entries e) ∙ at.1;
      last = λ k n below small there. h.4 (e, image) front is (slot (record_at t k) n) (tt, keys_in_order t k key n s below small)
          (subst IsSome (sym (looked_up m.entries (slot (record_at t k) n))) there);
    }

-- no group up to a snapshot writes the key, so no row of it is visible
pub unseen : (h : History) (es : List (Slot × Image)) (t : TableId) (k at : ℕ) → IsOfHistory h es → ((n : ℕ) → n ≤ at → image_at es (record_at t k) n ≡ None) →
    (visible h (record_at t k) at).row ≡ None
unseen h es t k at shows none = ap (λ (i : Image). i.row) (none_visible h (record_at t k) at (λ n small. sym (shows (record_at t k) n) ∙ none n small))

pub no_key : (m : BTreeMap Slot Image) (t : TableId) (key s at : ℕ) (es : List (Slot × Image)) → at ≤ s → UpTo m (record_at t key) s es → es ≡ [] → (h : History) →
    IsOfHistory h m.entries → IsLastShown h t key at None
no_key m t key s at es small range e h shows k below =
    unseen h m.entries t k at shows (λ n fits. sym (looked_up m.entries (slot (record_at t k) n)) ∙
    range.5 e (slot (record_at t k) n) (tt, keys_in_order t k key n s below (omega (arith, fits, small))))

pub other_table : (m : BTreeMap Slot Image) (t : TableId) (key s at : ℕ) (e : Slot) (image : Image) → at ≤ s → LastKey m t key s e image → (e.rid.table.0 ≡ t.0 → ⊥) →
    (h : History) → IsOfHistory h m.entries → IsLastShown h t key at None
other_table m t key s at e image small last apart h shows k below =
    let most = table_at_most t e key s last.within in
    let under : e.rid.table.0 < t.0 = le_not_same most apart in
    unseen h m.entries t k at shows (λ n fits. none_if (image_at m.entries (record_at t k) n) (λ there. false_true (sym (last.last k n below (omega (arith, fits, small)) there) ∙
    table_below t e k n under)))
  where
    le_not_same : {a b : ℕ} → a ≤ b → (a ≡ b → ⊥) → a < b
    le_not_same l f = omega (arith, l, f)

pub this_key : (m : BTreeMap Slot Image) (t : TableId) (key s at : ℕ) (e : Slot) (image : Image) (row : Option (List Value)) → at ≤ s → LastKey m t key s e image → e.rid.table.0 ≡ t.0 →
    (h : History) → IsOfHistory h m.entries → row ≡ (visible h e.rid at).row → IsLastShown h t key at (Some (e.rid.key, row))
this_key m t key s at e image row small last same h shows is = (
  key_at_most t e key s last.within same,
  is ∙ (λ i. (visible h (record { table = record { 0 = same i }; key = e.rid.key }) at).row),
  λ k over below. unseen h m.entries t k at shows (λ n fits. none_if (image_at m.entries (record_at t k) n)
      (λ there. false_true (sym (last.last k n below (omega (arith, fits, small)) there) ∙ key_below t e k n same over))),
)

pub newest : (m : BTreeMap Slot Image) (t : TableId) (key s at : ℕ) (e : Slot) (image : Image) → at ≤ s → LastKey m t key s e image → e.rid.table.0 ≡ t.0 → e.number ≤ at →
    (h : History) → IsOfHistory h m.entries → image.row ≡ (visible h e.rid at).row
newest m t key s at e image small last same fits h shows =
    sym (ap (λ (i : Image). i.row) (last_visible h e.rid at e.number image fits (sym (shows e.rid e.number) ∙ last.found)
    (λ n over within. sym (shows e.rid n) ∙ none_if (image_at m.entries e.rid n) (λ there.
    false_true (sym (last.last e.rid.key n (key_at_most t e key s last.within same) (omega (arith, within, small)) (subst (λ r. IsSome (image_at m.entries r n)) its there)) ∙
    sym (ap (λ r. is_lt (slot_cmp e (slot r n))) its) ∙ number_below e.rid e.number n over)))))
  where
    its : e.rid ≡ record_at t e.rid.key
    its = λ i. record { table = record { 0 = same i }; key = e.rid.key }

-- ---- the next record

abbrev pub Over : BTreeMap Slot Image → Rid → ℕ → List (Slot × Image) → Type 0
Over m r n rs = IsRangeOf slot_cmp (Excluded (slot r n)) Unbounded m rs

pub over_none : (m : BTreeMap Slot Image) (r : Rid) (n : ℕ) (rs : List (Slot × Image)) → Over m r n rs → rs ≡ [] → IsNextRid m.entries r n None
over_none m r n rs h e q k over = sym (looked_up m.entries (slot q k)) ∙ h.5 e (slot q k) (over, tt)

pub over_found : (m : BTreeMap Slot Image) (r : Rid) (n : ℕ) (rs : List (Slot × Image)) (e : Slot) (image : Image) (more : List (Slot × Image)) → Over m r n rs →
    rs ≡ (e, image) ∷ more → IsNextRid m.entries r n (Some e.rid)
over_found m r n rs e image more h is =
    let k : Over m r n ((e, image) ∷ more) = subst (Over m r n) is h in
    let found : lookup (same_slot e) m.entries ≡ Some image = sym (looked_up m.entries e) ∙ k.1.1 in (
      e.number,
      k.1.0.0,
      subst IsSome (sym found) refl,
      λ q j over there. k.2 (slot q j) (over, tt) (subst IsSome (sym (looked_up m.entries (slot q j))) there),
    )
