-- A transaction's records, joined one after the other to the writes of a group.
use Rattle.std.proofs.Common.{◌≡◌, ℕ, suc, ◌+◌, ◌*◌, ◌-◌, ◌<◌, ◌≤◌, List, Bool, true, false, Option, Some, None, refl, sym, ap, ◌∙◌, cond, subst, arith}
use Rattle.std.specs.Prelude.{◌&&◌, ◌==◌, IsSome, is_none, IfSome, nat_lt}
use Rattle.std.proofs.lemmas.Bool.{ltb-true, ltb-false}
use Rattle.std.specs.Option.{option_or}
use Rattle.std.specs.declared.cmp.Ordering.{Ordering}
use Rattle.std.specs.declared.cmp.Ordering.TheVariants.{Less, Equal, Greater}
use Rattle.std.specs.Ordering.{ordering_reverse, is_eq, is_gt, is_lt}
use Rattle.std.proofs.lemmas.Bool.Decides.{nat_tests}
use Rattle.std.proofs.lemmas.Cmp.{tied_itself}
use Rattle.hg_base.specs.declared.rid.Rid.{Rid}
use Rattle.hg_base.specs.declared.image.Image.{Image}
use Rattle.hg_base.specs.History.{same_rid}
use Rattle.hg_base.specs.RidOrder.{rid_cmp}
use Rattle.hg_base.proofs.RidOrder.{at_rid, rids_total, le_tables}
use Rattle.hg_base.proofs.HistoryFacts.{same_rid_equal}
use Rattle.hg_base.proofs.ListFacts.{false_true, cases}
use Rattle.hg_known.specs.declared.own.Spot.{Spot}
use Rattle.hg_known.specs.declared.writes.Slot.{Slot}
use Rattle.hg_known.specs.Written.{image_at}
use Rattle.hg_known.specs.Owned.{own_at, IsNextOwn, IsNextAfter}
use Rattle.hg_known.specs.Joined.{IsJoined, Clashes}
use Rattle.hg_known.proofs.SlotOrder.{none_if}

-- whether a record comes before the one that is next
abbrev pub before : Option Rid → Rid → Bool
before None q = true
before (Some r) q = is_lt (rid_cmp q r)

-- what was joined so far, where `found` is next
pub record Joining (own : List (Spot × Image)) (j : ℕ) (x : ℕ) (c : ℕ) (old : List (Slot × Image)) (new : List (Slot × Image)) (found : Option Rid) : Type 0 where
  pub joined : (q : Rid) (n : ℕ) → image_at new q n ≡ cond ((c == n) && before found q) (option_or (own_at own j x q) (image_at old q n)) (image_at old q n)
  pub fresh : (q : Rid) → before found q ≡ true → IsSome (own_at own j x q) → image_at old q c ≡ None
  pub here : IfSome found (λ r. IsSome (own_at own j x r))

pub some_or : (o p : Option Image) → IsSome o → option_or o p ≡ o
some_or None p s = absurd (false_true s)
some_or (Some i) p s = refl

-- ---- the order

pub not_before : (o : Ordering) → is_lt o ≡ true → is_gt (ordering_reverse o) ≡ false → ⊥
not_before Less l g = cc
not_before Equal l g = cc
not_before Greater l g = cc

pub reversed_less : (o : Ordering) → is_lt o ≡ true → ordering_reverse o ≡ Less → ⊥
reversed_less Less l g = cc
reversed_less Equal l g = cc
reversed_less Greater l g = cc

pub from_least : (q : Rid) → is_gt (rid_cmp (record { table = record { 0 = 0 }; key = 0 }) q) ≡ false
from_least q = grind (arith, nat_tests)

-- ---- the first record

pub first_joining : (own : List (Spot × Image)) (j x c : ℕ) (old : List (Slot × Image)) (found : Option Rid) →
    IsNextOwn own j x (record { table = record { 0 = 0 }; key = 0 }) found → Joining own j x c old old found
first_joining own j x c old found next = record {
  joined = λ q n. go q n (c == n) (before found q) refl;
  fresh = λ q e s. absurd (is_not_none (own_at own j x q) (none q e) s);
  here = here found next;
}
  where
    is_not_none : (o : Option Image) → o ≡ None → IsSome o → ⊥
    is_not_none None e s = false_true s
    is_not_none (Some i) e s = cc

    here : (found : Option Rid) → IsNextOwn own j x (record { table = record { 0 = 0 }; key = 0 }) found → IfSome found (λ r. IsSome (own_at own j x r))
    here None next = tt
    here (Some r) next = next.1

    none_of : (found : Option Rid) → IsNextOwn own j x (record { table = record { 0 = 0 }; key = 0 }) found → (q : Rid) → before found q ≡ true → own_at own j x q ≡ None
    none_of None next q e = next q (from_least q)
    none_of (Some r) next q e = none_if (own_at own j x q) (λ s. not_before (rid_cmp q r) e (ap is_gt (sym (rids_total.antisymm r q)) ∙ next.2 q (from_least q) s))

    none : (q : Rid) → before found q ≡ true → own_at own j x q ≡ None
    none = none_of found next

    go : (q : Rid) (n : ℕ) (a b : Bool) → before found q ≡ b → image_at old q n ≡ cond (a && b) (option_or (own_at own j x q) (image_at old q n)) (image_at old q n)
    go q n true true e = ap (λ o. option_or o (image_at old q n)) (sym (none q e))
    go q n true false e = refl
    go q n false b e = refl

-- ---- one record more

-- where a record stands with that which was next
pub before_next : (own : List (Spot × Image)) (j x : ℕ) (r : Rid) (found : Option Rid) → IsNextAfter own j x r found → (q : Rid) → (rid_cmp r q ≡ Less → ⊥) → before found q ≡ true
before_next own j x r None next q f = refl
before_next own j x r (Some s) next q f = go (rid_cmp r q) refl f
  where
    go : (o : Ordering) → rid_cmp r q ≡ o → (o ≡ Less → ⊥) → is_lt (rid_cmp q s) ≡ true
    go Less e f = absurd (f refl)
    go Equal e f = ap is_lt (sym (rids_total.congr r q s e) ∙ next.0)
    go Greater e f = ap is_lt (rids_total.trans q r s (rids_total.antisymm q r ∙ ap ordering_reverse e) next.0)

pub none_between : (own : List (Spot × Image)) (j x : ℕ) (r : Rid) (found : Option Rid) → IsNextAfter own j x r found → (q : Rid) → rid_cmp r q ≡ Less → before found q ≡ true → own_at own j x q ≡ None
none_between own j x r None next q over e = next q over
none_between own j x r (Some s) next q over e = none_if (own_at own j x q) (λ some. not_before (rid_cmp q s) e (ap is_gt (sym (rids_total.antisymm s q)) ∙ next.2 q over some))

pub one_more : (own : List (Spot × Image)) (j x c : ℕ) (old writes new : List (Slot × Image)) (r : Rid) (image : Image) (found : Option Rid) →
    Joining own j x c old writes (Some r) → own_at own j x r ≡ Some image → image_at writes r c ≡ None →
    ((q : Rid) (n : ℕ) → image_at new q n ≡ cond (same_rid r q && (c == n)) (Some image) (image_at writes q n)) → IsNextAfter own j x r found → Joining own j x c old new found
one_more own j x c old writes new r image found h its none put next = record {
  joined = λ q n. put q n ∙ case q n (c == n) (rid_cmp r q) refl refl;
  fresh = λ q e s. fresh q (rid_cmp r q) refl e s;
  here = here found next;
}
  where
    here : (found : Option Rid) → IsNextAfter own j x r found → IfSome found (λ s. IsSome (own_at own j x s))
    here None next = tt
    here (Some s) next = next.1

    is_not_none : (o : Option Image) → o ≡ None → IsSome o → ⊥
    is_not_none None e s = false_true s
    is_not_none (Some i) e s = cc

    -- the three places, by how the record compares to the one that was next
    same_as : (q : Rid) (o : Ordering) → rid_cmp r q ≡ o → same_rid r q ≡ is_eq o
    same_as q o e = sym (at_rid r q) ∙ ap is_eq e

    was_before : (q : Rid) (o : Ordering) → rid_cmp r q ≡ o → is_lt (rid_cmp q r) ≡ is_lt (ordering_reverse o)
    was_before q o e = ap is_lt (rids_total.antisymm q r ∙ ap ordering_reverse e)

    this : (q : Rid) → rid_cmp r q ≡ Equal → r ≡ q
    this q e = same_rid_equal r q (same_as q Equal e)

    was : (n : ℕ) → (c == n) ≡ true → image_at old r n ≡ image_at writes r n
    was n e = sym (h.joined r n ∙ (λ i. cond (e i && is_lt (tied_itself rids_total r i)) (option_or (own_at own j x r) (image_at old r n)) (image_at old r n)))

    case : (q : Rid) (n : ℕ) (a : Bool) (o : Ordering) → (c == n) ≡ a → rid_cmp r q ≡ o →
        cond (same_rid r q && (c == n)) (Some image) (image_at writes q n) ≡ cond ((c == n) && before found q) (option_or (own_at own j x q) (image_at old q n)) (image_at old q n)
    case q n false o e f =
        (λ i. cond (same_rid r q && e i) (Some image) (image_at writes q n)) ∙ drop (same_rid r q) ∙ h.joined q n ∙
        (λ i. cond (e i && is_lt (rid_cmp q r)) (option_or (own_at own j x q) (image_at old q n)) (image_at old q n))
        ∙ sym (λ i. cond (e i && before found q) (option_or (own_at own j x q) (image_at old q n)) (image_at old q n))
      where
        drop : (b : Bool) → cond (b && false) (Some image) (image_at writes q n) ≡ image_at writes q n
        drop true = refl
        drop false = refl
    case q n true Less e f =
        (λ i. cond (same_as q Less f i && (c == n)) (Some image) (image_at writes q n)) ∙ h.joined q n
        ∙ (λ i. cond (e i && was_before q Less f i) (option_or (own_at own j x q) (image_at old q n)) (image_at old q n))
        ∙ after (before found q) refl
        ∙ sym (λ i. cond (e i && before found q) (option_or (own_at own j x q) (image_at old q n)) (image_at old q n))
      where
        after : (b : Bool) → before found q ≡ b → image_at old q n ≡ cond b (option_or (own_at own j x q) (image_at old q n)) (image_at old q n)
        after true k = ap (λ o. option_or o (image_at old q n)) (sym (none_between own j x r found next q f k))
        after false k = refl
    case q n true Equal e f =
        (λ i. cond (same_as q Equal f i && e i) (Some image) (image_at writes q n))
        ∙ sym (some_or (Some image) (image_at old q n) refl)
        ∙ ap (λ o. option_or o (image_at old q n)) (sym its ∙ ap (own_at own j x) (this q f))
        ∙ sym (λ i. cond (e i && before_next own j x r found next q (λ less. equal_less f less) i) (option_or (own_at own j x q) (image_at old q n)) (image_at old q n))
      where
        equal_less : rid_cmp r q ≡ Equal → rid_cmp r q ≡ Less → ⊥
        equal_less a b = cc
    case q n true Greater e f =
        (λ i. cond (same_as q Greater f i && (c == n)) (Some image) (image_at writes q n)) ∙ h.joined q n
        ∙ (λ i. cond (e i && was_before q Greater f i) (option_or (own_at own j x q) (image_at old q n)) (image_at old q n))
        ∙ sym (λ i. cond (e i && before_next own j x r found next q (λ less. greater_less f less) i) (option_or (own_at own j x q) (image_at old q n)) (image_at old q n))
      where
        greater_less : rid_cmp r q ≡ Greater → rid_cmp r q ≡ Less → ⊥
        greater_less a b = cc

    fresh : (q : Rid) (o : Ordering) → rid_cmp r q ≡ o → before found q ≡ true → IsSome (own_at own j x q) → image_at old q c ≡ None
    fresh q Less f e s = absurd (is_not_none (own_at own j x q) (none_between own j x r found next q f e) s)
    fresh q Equal f e s = ap (λ p. image_at old p c) (sym (this q f)) ∙ was c (same_number c) ∙ none
      where
        same_number : (n : ℕ) → (n == n) ≡ true
        same_number n = grind (arith, nat_tests)
    fresh q Greater f e s = h.fresh q (was_before q Greater f) s

pub all_joined : (own : List (Spot × Image)) (j x c : ℕ) (old new : List (Slot × Image)) → Joining own j x c old new None → IsJoined own j x c old new
all_joined own j x c old new h = record {
  fresh = λ r s. h.fresh r refl s;
  joined = λ r n. h.joined r n ∙ go r n (c == n);
}
  where
    go : (r : Rid) (n : ℕ) (b : Bool) → cond (b && true) (option_or (own_at own j x r) (image_at old r n)) (image_at old r n) ≡ cond b
        (option_or (own_at own j x r) (image_at old r n)) (image_at old r n)
    go r n true = refl
    go r n false = refl

pub clash_there : (own : List (Spot × Image)) (j x c : ℕ) (old writes : List (Slot × Image)) (r : Rid) → Joining own j x c old writes (Some r) → IsSome (image_at writes r c) → Clashes own j x c old
clash_there own j x c old writes r h s = (r, h.here, subst IsSome (h.joined r c ∙ go (c == c)) s)
  where
    go : (b : Bool) → cond (b && is_lt (rid_cmp r r)) (option_or (own_at own j x r) (image_at old r c)) (image_at old r c) ≡ image_at old r c
    go true = (λ i. cond (is_lt (tied_itself rids_total r i)) (option_or (own_at own j x r) (image_at old r c)) (image_at old r c))
    go false = refl

-- ---- it ends

-- where a record stands among all
abbrev pub place : Rid → ℕ
place r = r.table.0 * 18446744073709551616 + r.key

abbrev pub left_over : Option Rid → ℕ
left_over None = 0
left_over (Some r) = suc (4722366482869645213696 - place r)

pub keys_rise : (a b : Rid) → rid_cmp a b ≡ Less → a.table.0 ≡ b.table.0 → a.key < b.key
keys_rise a b h t = grind (arith, nat_tests, h, t)

pub tables_rise : (a b : Rid) → rid_cmp a b ≡ Less → a.table.0 ≤ b.table.0
tables_rise a b h = le_tables a b (ap is_gt h)

pub place_rises : (a b : Rid) → rid_cmp a b ≡ Less → a.key < 18446744073709551616 → place a < place b
place_rises a b less k = cases (nat_lt a.table.0 b.table.0)
    (λ e. let t : a.table.0 < b.table.0 = ltb-true a.table.0 b.table.0 e in omega (arith, t, k))
    (λ e. let over : b.table.0 ≤ a.table.0 = ltb-false a.table.0 b.table.0 e in
    let t : a.table.0 ≡ b.table.0 = omega (arith, over, tables_rise a b less) in
    let keys : a.key < b.key = keys_rise a b less t in omega (arith, t, keys))

abbrev pub IsSmall : Rid → Type 0
IsSmall r = (r.table.0 < 256) × (r.key < 18446744073709551616)

pub place_small : (r : Rid) → IsSmall r → place r < 4722366482869645213696
place_small r (t, k) = omega (arith, t, k)

pub ends : (own : List (Spot × Image)) (j x : ℕ) (r : Rid) (found : Option Rid) → IsNextAfter own j x r found → IsSmall r → IfSome found IsSmall → left_over found < left_over (Some r)
ends own j x r None next small k = omega arith
ends own j x r (Some s) next small k =
    let up = place_rises r s next.0 small.1 in
    let top = place_small s k in
    omega (arith, up, top)

pub none_is : (o : Option Image) (b : Bool) → b ≡ is_none o → b ≡ true → o ≡ None
none_is None b e f = refl
none_is (Some i) b e f = cc
