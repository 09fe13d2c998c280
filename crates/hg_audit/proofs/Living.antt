-- The records that are rows at the end, counted one after the other.
use Rattle.std.proofs.Common.{◌≡◌, ℕ, ◌+◌, ◌<◌, ◌≤◌, List, [], length, Bool, true, false, Option, Some, None, refl, sym, ap, ◌∙◌, subst, arith, cond}
use Rattle.std.specs.Prelude.{◌&&◌, filter, is_some, IsSome, IfSome, nat_lt}
use Rattle.std.specs.List.{flat_map}
use Rattle.std.specs.declared.cmp.Ordering.{Ordering}
use Rattle.std.specs.declared.cmp.Ordering.TheVariants.{Less, Equal, Greater}
use Rattle.std.specs.Ordering.{nat_cmp, ordering_then, ordering_reverse, is_eq, is_gt, is_lt}
use Rattle.std.proofs.lemmas.Bool.{ltb-true, ltb-false}
use Rattle.std.proofs.lemmas.Bool.Decides.{nat_tests}
use Rattle.std.proofs.lemmas.Cmp.{tied_itself}
use Rattle.hg_base.specs.declared.rid.Rid.{Rid}
use Rattle.hg_base.specs.declared.image.Image.{Image}
use Rattle.hg_base.specs.RidOrder.{rid_cmp}
use Rattle.hg_base.specs.History.{History, same_rid, is_among, group_rids, group_image, group_at, visible}
use Rattle.hg_base.specs.Counts.{once, live}
use Rattle.hg_base.proofs.RidOrder.{at_rid, rids_total}
use Rattle.hg_base.proofs.ListFacts.{false_true}
use Rattle.hg_known.specs.declared.writes.Slot.{Slot}
use Rattle.hg_known.specs.Written.{slot, image_at, IsOver, IsNextRid, IsOfHistory}
use Rattle.hg_known.proofs.SlotOrder.{none_if}
use Rattle.hg_known.proofs.Groups.{below_first, none_visible}
use Rattle.hg_known.proofs.Joining.{before, not_before, from_least, left_over, place_rises, place_small, IsSmall}
use Rattle.hg_audit.proofs.Distinct.{once_twice, among_once, in_history, over_all, filter_no, filter_same, one_counted, fewer}

-- ---- by order

pub gt_then : (o p : Ordering) → is_gt (ordering_then o p) ≡ false → is_gt o ≡ false
gt_then Less p e = refl
gt_then Equal p e = refl
gt_then Greater p e = e

pub then_less : (o p : Ordering) → ordering_then o p ≡ Less → (p ≡ Less → ⊥) → o ≡ Less
then_less Less p e f = refl
then_less Equal p e f = absurd (f e)
then_less Greater p e f = e

pub less_then : (o p : Ordering) → is_gt o ≡ false → p ≡ Less → ordering_then o p ≡ Less
less_then Less p e f = refl
less_then Equal p e f = f
less_then Greater p e f = absurd (false_true (sym e))

pub and_no : (a b : Bool) → b ≡ false → (a && b) ≡ false
and_no true b e = e
and_no false b e = refl

pub no_and : (a b : Bool) → a ≡ false → (a && b) ≡ false
no_and true b e = absurd (false_true (sym e))
no_and false b e = refl

pub and_yes : (a b : Bool) → b ≡ true → (a && b) ≡ a
and_yes true b e = e
and_yes false b e = refl

abbrev pub least_rid : Rid
least_rid = record { table = record { 0 = 0 }; key = 0 }

pub number_over : (m : ℕ) → 1 ≤ m → nat_cmp 0 m ≡ Less
number_over m k = grind (arith, nat_tests, k)

pub number_under : (n m : ℕ) → m ≤ n → nat_cmp n m ≡ Less → ⊥
number_under n m k e = grind (arith, nat_tests, k, e)

pub over_least : (q : Rid) (m : ℕ) → 1 ≤ m → IsOver (slot least_rid 0) (slot q m)
over_least q m k = less_then (rid_cmp least_rid q) (nat_cmp 0 m) (from_least q) (number_over m k)

pub over_rid : (r q : Rid) (n m : ℕ) → rid_cmp r q ≡ Less → IsOver (slot r n) (slot q m)
over_rid r q n m e = ap (λ o. ordering_then o (nat_cmp n m)) e

-- what comes before the next is not written
pub none_before : (writes : List (Slot × Image)) (r : Rid) (n : ℕ) (found : Option Rid) → IsNextRid writes r n found → (q : Rid) (m : ℕ) → before found q ≡ true →
    IsOver (slot r n) (slot q m) → image_at writes q m ≡ None
none_before writes r n None next q m e over = next q m over
none_before writes r n (Some s) next q m e over =
    none_if (image_at writes q m) (λ there. not_before (rid_cmp q s) e (ap is_gt (sym (rids_total.antisymm s q)) ∙ gt_then (rid_cmp s q) (nat_cmp next.0 m) (next.3 q m over there)))

abbrev pub IsWritten : List (Slot × Image) → Rid → Type 0
IsWritten writes r = (m : ℕ) × IsSome (image_at writes r m)

pub written_next : (writes : List (Slot × Image)) (r : Rid) (n : ℕ) (found : Option Rid) → IsNextRid writes r n found → IfSome found (IsWritten writes)
written_next writes r n None next = tt
written_next writes r n (Some s) next = (next.0, next.2)

-- ---- the rows at the end

abbrev pub is_row : History → Rid → Bool
is_row h r = is_some (visible h r (length h)).row

abbrev pub rids : History → List Rid
rids h = once (flat_map group_rids h)

abbrev pub count : Bool → ℕ
count b = cond b 1 0

abbrev pub one_if : History → Rid → ℕ
one_if h r = count (is_row h r)

-- how many records were met before the one that is next
abbrev pub met : History → Option Rid → ℕ
met h found = length (filter (λ r. is_row h r && before found r) (rids h))

module _ (h : History) (writes : List (Slot × Image)) (shows : IsOfHistory h writes) where
  pub within : (q : Rid) (m : ℕ) → IsSome (image_at writes q m) → (1 ≤ m) × (m ≤ length h)
  within q m s = (low (nat_lt 0 m) refl, high (nat_lt (length h) m) refl)
    where
      out : group_at h m ≡ [] → ⊥
      out e = false_true (subst IsSome (shows q m ∙ ap (group_image q) e) s)

      low : (b : Bool) → nat_lt 0 m ≡ b → 1 ≤ m
      low true e = let k = ltb-true 0 m e in omega (arith, k)
      low false e = let k = ltb-false 0 m e in absurd (out (below_first 1 h m (omega (arith, k))))

      high : (b : Bool) → nat_lt (length h) m ≡ b → m ≤ length h
      high true e = let k = ltb-true (length h) m e in absurd (out (over_all 1 h m (omega (arith, k))))
      high false e = ltb-false (length h) m e

  pub not_row : (q : Rid) → ((m : ℕ) → image_at writes q m ≡ None) → is_row h q ≡ false
  not_row q f = ap (λ (i : Image). is_some i.row) (none_visible h q (length h) (λ m _. sym (shows q m) ∙ f m))

  pub among_rids : (r : Rid) → IsWritten writes r → is_among r (rids h) ≡ true
  among_rids r (m, s) = among_once r (flat_map group_rids h) (in_history 1 h r m (subst IsSome (shows r m) s))

  pub first_met : (found : Option Rid) → IsNextRid writes least_rid 0 found → met h found ≡ 0
  first_met found next = ap length (filter_no (λ r. is_row h r && before found r) (λ q. go q (before found q) refl) (rids h))
    where
      go : (q : Rid) (b : Bool) → before found q ≡ b → (is_row h q && before found q) ≡ false
      go q false e = and_no (is_row h q) (before found q) e
      go q true e = no_and (is_row h q) (before found q) (not_row q
          (λ m. none_if (image_at writes q m) (λ s. false_true (subst IsSome (none_before writes least_rid 0 found next q m e (over_least q m (within q m s).0)) s))))

  pub rid_rises : (r s : Rid) → IsNextRid writes r (length h) (Some s) → rid_cmp r s ≡ Less
  rid_rises r s next = then_less (rid_cmp r s) (nat_cmp (length h) next.0) next.1 (number_under (length h) next.0 (within s next.0 next.2).1)

  pub before_that : (r : Rid) (found : Option Rid) → IsNextRid writes r (length h) found → (q : Rid) → (rid_cmp r q ≡ Less → ⊥) → before found q ≡ true
  before_that r None next q f = refl
  before_that r (Some s) next q f = go (rid_cmp r q) refl f
    where
      go : (o : Ordering) → rid_cmp r q ≡ o → (o ≡ Less → ⊥) → is_lt (rid_cmp q s) ≡ true
      go Less e f = absurd (f refl)
      go Equal e f = ap is_lt (sym (rids_total.congr r q s e) ∙ rid_rises r s next)
      go Greater e f = ap is_lt (rids_total.trans q r s (rids_total.antisymm q r ∙ ap ordering_reverse e) (rid_rises r s next))

  pub next_met : (r : Rid) (found : Option Rid) → IsWritten writes r → IsNextRid writes r (length h) found → met h found ≡ met h (Some r) + cond (is_row h r) 1 0
  next_met r found there next =
      one_counted (λ q. is_row h q && before (Some r) q) (λ q. is_row h q && before found q) r (λ q other. same q (rid_cmp r q) refl other) old (rids h)
      (once_twice (flat_map group_rids h)) (among_rids r there)
      ∙ ap (λ b. met h (Some r) + cond b 1 0) (and_yes (is_row h r) (before found r) (before_that r found next r not_itself))
    where
      not_itself : rid_cmp r r ≡ Less → ⊥
      not_itself e = equal_less (tied_itself rids_total r) e
        where
          equal_less : rid_cmp r r ≡ Equal → rid_cmp r r ≡ Less → ⊥
          equal_less a b = cc

      old : (is_row h r && before (Some r) r) ≡ false
      old = and_no (is_row h r) (is_lt (rid_cmp r r)) (ap is_lt (tied_itself rids_total r))

      back : (q : Rid) (o : Ordering) → rid_cmp r q ≡ o → before (Some r) q ≡ is_lt (ordering_reverse o)
      back q o e = ap is_lt (rids_total.antisymm q r ∙ ap ordering_reverse e)

      unseen : (q : Rid) (b : Bool) → before found q ≡ b → rid_cmp r q ≡ Less → (is_row h q && before found q) ≡ false
      unseen q false e f = and_no (is_row h q) (before found q) e
      unseen q true e f = no_and (is_row h q) (before found q) (not_row q (λ m. none_before writes r (length h) found next q m e (over_rid r q (length h) m f)))

      same : (q : Rid) (o : Ordering) → rid_cmp r q ≡ o → same_rid r q ≡ false → (is_row h q && before found q) ≡ (is_row h q && before (Some r) q)
      same q Less e other = unseen q (before found q) refl e ∙ sym (and_no (is_row h q) (before (Some r) q) (back q Less e))
      same q Equal e other = absurd (false_true (sym other ∙ sym (at_rid r q) ∙ ap is_eq e))
      same q Greater e other = ap (λ b. is_row h q && b) (before_that r found next q (greater_less e) ∙ sym (back q Greater e))
        where
          greater_less : rid_cmp r q ≡ Greater → rid_cmp r q ≡ Less → ⊥
          greater_less a b = cc

  pub all_met : met h None ≡ length (live h)
  all_met = ap length (filter_same (λ r. is_row h r && true) (is_row h) (λ r. and_yes (is_row h r) true refl) (rids h))

  pub some_met : (found : Option Rid) → met h found ≤ length (live h)
  some_met found = fewer (is_row h) (before found) (rids h)

  pub walk_ends : (r : Rid) (found : Option Rid) → IsNextRid writes r (length h) found → IsSmall r → IfSome found IsSmall → left_over found < left_over (Some r)
  walk_ends r None next small k = omega arith
  walk_ends r (Some s) next small k =
      let up = place_rises r s (rid_rises r s next) small.1 in
      let top = place_small s k in
      omega (arith, up, top)
