-- The order of spots, by transaction and then by record; and what lines store.
use Rattle.std.proofs.Common.{◌≡◌, ℕ, List, [], ◌∷◌, Bool, true, false, Option, Some, None, refl, sym, ap, ◌∙◌, cond, subst}
use Rattle.std.specs.Prelude.{◌&&◌, ◌==◌, IsSome, is_some, is_none, filter, filter_map}
use Rattle.std.specs.List.{cons_option}
use Rattle.std.specs.Option.{option_map_or}
use Rattle.std.specs.declared.cmp.Ordering.{Ordering}
use Rattle.std.specs.declared.cmp.Ordering.TheVariants.{Less, Equal, Greater}
use Rattle.std.specs.Ordering.{nat_cmp, ordering_then, is_eq, is_gt}
use Rattle.std.specs.Map.{lookup}
use Rattle.std.specs.BTreeMap.{BTreeMap, is_at}
use Rattle.std.specs.BTreeMap.Range.{IsRangeOf, IsLeBy}
use Rattle.std.specs.declared.ops.Bound.TheVariants.{Included, Excluded, Unbounded}
use Rattle.std.specs.Ordering.{ordering_reverse}
use Rattle.std.specs.Cmp.{IsTotalOrder}
use Rattle.std.proofs.lemmas.Cmp.{on_total, then_total, nat_cmp_total, tied_itself}
use Rattle.std.proofs.lemmas.Bool.Decides.{Decides-eqb}
use Rattle.hg_base.specs.declared.rid.Rid.{Rid}
use Rattle.hg_base.specs.declared.image.Image.{Image}
use Rattle.hg_base.specs.History.{Write, same_rid, image_in}
use Rattle.hg_base.specs.RidOrder.{rid_cmp}
use Rattle.hg_base.specs.Transcript.{Said, is_of, stored, stored_in}
use Rattle.hg_base.specs.Counts.{first_write}
use Rattle.hg_base.proofs.RidOrder.{at_rid, alike_numbers, alike_parts}
use Rattle.hg_base.proofs.HistoryFacts.{and_parts}
use Rattle.hg_known.specs.declared.own.Spot.{Spot}
use Rattle.hg_known.specs.declared.own.Tx.{Tx}
use Rattle.hg_known.specs.Owned.{same_spot, spot, own_at, IsOwn, IsNextOwn, IsNextAfter}
use Rattle.hg_known.proofs.SlotOrder.{none_if}

abbrev pub spot_cmp : Spot → Spot → Ordering
spot_cmp a b = ordering_then (ordering_then (nat_cmp a.tx.session b.tx.session) (nat_cmp a.tx.number b.tx.number)) (rid_cmp a.rid b.rid)

pub at_spot : (a b : Spot) → is_at (spot_cmp a) b ≡ same_spot a b
at_spot a b =
    alike_parts (ordering_then (nat_cmp a.tx.session b.tx.session) (nat_cmp a.tx.number b.tx.number)) (rid_cmp a.rid b.rid)
    ∙ (λ i. (alike_parts (nat_cmp a.tx.session b.tx.session) (nat_cmp a.tx.number b.tx.number) ∙
    (λ j. alike_numbers a.tx.session b.tx.session j && alike_numbers a.tx.number b.tx.number j)) i && at_rid a.rid b.rid i)

pub looked_up : (es : List (Spot × Image)) (a : Spot) → lookup (is_at (spot_cmp a)) es ≡ lookup (same_spot a) es
looked_up es a = ap (λ (test : Spot → Bool). lookup test es) (λ i k. at_spot a k i)

abbrev pub Puts : List (Spot × Image) → List (Spot × Image) → Spot → Image → Type 0
Puts es fs s w = (q : Spot) → lookup (is_at (spot_cmp q)) fs ≡ cond (is_at (spot_cmp s) q) (Some w) (lookup (is_at (spot_cmp q)) es)

pub put : (es fs : List (Spot × Image)) (s : Spot) (w : Image) → Puts es fs s w → (q : Spot) → lookup (same_spot q) fs ≡ cond (same_spot s q) (Some w) (lookup (same_spot q) es)
put es fs s w h q = sym (looked_up fs q) ∙ h q ∙ (λ i. cond (at_spot s q i) (Some w) (looked_up es q i))

abbrev pub Drops : List (Spot × Image) → List (Spot × Image) → Spot → Type 0
Drops es fs s = (q : Spot) → lookup (is_at (spot_cmp q)) fs ≡ cond (is_at (spot_cmp s) q) None (lookup (is_at (spot_cmp q)) es)

pub dropped : (es fs : List (Spot × Image)) (s : Spot) → Drops es fs s → (q : Spot) → lookup (same_spot q) fs ≡ cond (same_spot s q) None (lookup (same_spot q) es)
dropped es fs s h q = sym (looked_up fs q) ∙ h q ∙ (λ i. cond (at_spot s q i) None (looked_up es q i))

-- ---- a line more

pub own_none : (es : List (Spot × Image)) (earlier : List Said) (now : Said) → stored now ≡ None → (j x : ℕ) (r : Rid) → IsOwn es earlier j x r → IsOwn es (now ∷ earlier) j x r
own_none es earlier now e j x r h = h ∙ go (is_of j x now)
  where
    go : (b : Bool) → image_in r (stored_in j x earlier) ≡ image_in r (filter_map stored (cond b (now ∷ filter (is_of j x) earlier) (filter (is_of j x) earlier)))
    go true = ap (λ o. image_in r (cons_option o (stored_in j x earlier))) (sym e)
    go false = refl

pub own_more : (es fs : List (Spot × Image)) (earlier : List Said) (now : Said) (w : Write) → stored now ≡ Some w → Puts es fs (spot now.session now.transaction w.rid) w.image →
    (j x : ℕ) (r : Rid) → IsOwn es earlier j x r → IsOwn fs (now ∷ earlier) j x r
own_more es fs earlier now w e h j x r own =
    put es fs (spot now.session now.transaction w.rid) w.image h (spot j x r)
    ∙ ap (cond (same_spot (spot now.session now.transaction w.rid) (spot j x r)) (Some w.image)) own
    ∙ go (is_of j x now)
  where
    go : (b : Bool) → cond (b && same_rid w.rid r) (Some w.image) (image_in r (stored_in j x earlier)) ≡ image_in r
        (filter_map stored (cond b (now ∷ filter (is_of j x) earlier) (filter (is_of j x) earlier)))
    go true = ap (λ o. image_in r (cons_option o (stored_in j x earlier))) (sym e)
    go false = refl

-- whether it is the first write of its record in its transaction
pub first_none : (earlier : List Said) (now : Said) → stored now ≡ None → is_some (first_write earlier now) ≡ false
first_none earlier now e = ap (λ o. is_some (cond (option_map_or (λ (w : Write). is_none (image_in w.rid (stored_in now.session now.transaction earlier))) o false) (Some now) None)) e

pub first_some : (earlier : List Said) (now : Said) (w : Write) (o : Option Image) → stored now ≡ Some w → o ≡ image_in w.rid (stored_in now.session now.transaction earlier) →
    is_some (first_write earlier now) ≡ is_none o
first_some earlier now w o e is =
    ap (λ o. is_some (cond (option_map_or (λ (w : Write). is_none (image_in w.rid (stored_in now.session now.transaction earlier))) o false) (Some now) None)) e
    ∙ ap (λ o. is_some (cond (is_none o) (Some now) None)) (sym is)
    ∙ go o
  where
    go : (o : Option Image) → is_some (cond (is_none o) (Some now) None) ≡ is_none o
    go None = refl
    go (Some i) = refl

-- ---- from a spot on

abbrev pub Rest : BTreeMap Spot Image → Spot → List (Spot × Image) → Type 0
Rest m s rs = IsRangeOf spot_cmp (Included s) Unbounded m rs

abbrev pub tx_cmp : Tx → Tx → Ordering
tx_cmp a b = ordering_then (nat_cmp a.session b.session) (nat_cmp a.number b.number)

pub txs_total : IsTotalOrder tx_cmp
txs_total = then_total (on_total (λ (a : Tx). a.session) nat_cmp_total) (on_total (λ (a : Tx). a.number) nat_cmp_total)

-- within a transaction by record
pub spot_within : (t : Tx) (a b : Rid) → spot_cmp (record { tx = t; rid = a }) (record { tx = t; rid = b }) ≡ rid_cmp a b
spot_within t a b = ap (λ o. ordering_then o (rid_cmp a b)) (tied_itself txs_total t)

pub next_none : (m : BTreeMap Spot Image) (t : Tx) (from : Rid) (rs : List (Spot × Image)) → Rest m (record { tx = t; rid = from }) rs → rs ≡ [] → IsNextOwn m.entries t.session t.number from None
next_none m t from rs h e r k = sym (looked_up m.entries (record { tx = t; rid = r })) ∙ h.5 e (record { tx = t; rid = r }) (ap is_gt (spot_within t from r) ∙ k, tt)

-- the first entry from a spot on
pub record First (m : BTreeMap Spot Image) (s e : Spot) (image : Image) : Type 0 where
  pub above : IsLeBy spot_cmp s e
  pub found : lookup (same_spot e) m.entries ≡ Some image
  pub least : (q : Spot) → IsLeBy spot_cmp s q → IsSome (lookup (same_spot q) m.entries) → IsLeBy spot_cmp e q

pub first_entry : (m : BTreeMap Spot Image) (s : Spot) (rs : List (Spot × Image)) (e : Spot) (image : Image) (more : List (Spot × Image)) → Rest m s rs → rs ≡ (e, image) ∷ more → First m s e image
first_entry m s rs e image more h is =
    let k : Rest m s ((e, image) ∷ more) = subst (Rest m s) is h in
    record {
      above = k.1.0.0;
      found = sym (looked_up m.entries e) ∙ k.1.1;
      least = λ q le there. k.2 q (le, tt) (subst IsSome (sym (looked_up m.entries q)) there);
    }

-- neither above nor below, of another transaction
pub apart : (o p q r : Ordering) → p ≡ ordering_reverse o → is_eq o ≡ false → is_gt (ordering_then o q) ≡ false → is_gt (ordering_then p r) ≡ false → ⊥
apart Less Less q r is e l g = cc
apart Less Equal q r is e l g = cc
apart Less Greater q r is e l g = cc
apart Equal p q r is e l g = cc
apart Greater p q r is e l g = cc

pub at_tx : (a b : Tx) → is_eq (tx_cmp a b) ≡ ((a.session == b.session) && (a.number == b.number))
at_tx a b = alike_parts (nat_cmp a.session b.session) (nat_cmp a.number b.number) ∙ (λ j. alike_numbers a.session b.session j && alike_numbers a.number b.number j)

pub next_other : (m : BTreeMap Spot Image) (t : Tx) (from : Rid) (e : Spot) (image : Image) → First m (record { tx = t; rid = from }) e image →
    ((e.tx.session == t.session) && (e.tx.number == t.number)) ≡ false → IsNextOwn m.entries t.session t.number from None
next_other m t from e image first other =
    λ r k. none_if (own_at m.entries t.session t.number r) (λ there.
    let s : Spot = record { tx = t; rid = r } in
    let least = first.least s (ap is_gt (spot_within t from r) ∙ k) there in
    apart (tx_cmp e.tx t) (tx_cmp t e.tx) (rid_cmp e.rid r) (rid_cmp from e.rid) (txs_total.antisymm t e.tx) (at_tx e.tx t ∙ other) least first.above)

pub next_found : (m : BTreeMap Spot Image) (t : Tx) (from : Rid) (e : Spot) (image : Image) → First m (record { tx = t; rid = from }) e image → e.tx ≡ t →
    IsNextOwn m.entries t.session t.number from (Some e.rid)
next_found m t from e image first same =
    let is : e ≡ record { tx = t; rid = e.rid } = (λ i. record { tx = same i; rid = e.rid }) in
    let s : Rid → Spot = λ r. record { tx = t; rid = r } in (
      ap is_gt (sym (spot_within t from e.rid)) ∙ subst (λ x. IsLeBy spot_cmp (s from) x) is first.above,
      subst IsSome (sym first.found ∙ ap (λ x. lookup (same_spot x) m.entries) is) refl,
      λ r k there.
          let low = first.least (s r) (ap is_gt (spot_within t from r) ∙ k) there in
          ap is_gt (sym (spot_within t e.rid r)) ∙ subst (λ x. IsLeBy spot_cmp x (s r)) is low,
    )

-- what agrees on session and number is one transaction
pub same_tx : (a b : Tx) → ((a.session == b.session) && (a.number == b.number)) ≡ true → a ≡ b
same_tx a b e =
    let parts = and_parts (a.session == b.session) (a.number == b.number) e in
    let s : a.session ≡ b.session = (Decides-eqb a.session b.session).0 parts.0 in
    let n : a.number ≡ b.number = (Decides-eqb a.number b.number).0 parts.1 in
    λ i. record { session = s i; number = n i }

-- ---- over a spot

abbrev pub Over : BTreeMap Spot Image → Spot → List (Spot × Image) → Type 0
Over m s rs = IsRangeOf spot_cmp (Excluded s) Unbounded m rs

pub record FirstOver (m : BTreeMap Spot Image) (s e : Spot) (image : Image) : Type 0 where
  pub above : spot_cmp s e ≡ Less
  pub found : lookup (same_spot e) m.entries ≡ Some image
  pub least : (q : Spot) → spot_cmp s q ≡ Less → IsSome (lookup (same_spot q) m.entries) → IsLeBy spot_cmp e q

pub over_none : (m : BTreeMap Spot Image) (t : Tx) (from : Rid) (rs : List (Spot × Image)) → Over m (record { tx = t; rid = from }) rs → rs ≡ [] → IsNextAfter m.entries t.session t.number from None
over_none m t from rs h e r k = sym (looked_up m.entries (record { tx = t; rid = r })) ∙ h.5 e (record { tx = t; rid = r }) (spot_within t from r ∙ k, tt)

pub over_entry : (m : BTreeMap Spot Image) (s : Spot) (rs : List (Spot × Image)) (e : Spot) (image : Image) (more : List (Spot × Image)) → Over m s rs → rs ≡ (e, image) ∷ more → FirstOver m s e image
over_entry m s rs e image more h is =
    let k : Over m s ((e, image) ∷ more) = subst (Over m s) is h in
    record {
      above = k.1.0.0;
      found = sym (looked_up m.entries e) ∙ k.1.1;
      least = λ q le there. k.2 q (le, tt) (subst IsSome (sym (looked_up m.entries q)) there);
    }

pub not_greater : (o : Ordering) → o ≡ Less → is_gt o ≡ false
not_greater o e = ap is_gt e

pub over_other : (m : BTreeMap Spot Image) (t : Tx) (from : Rid) (e : Spot) (image : Image) → FirstOver m (record { tx = t; rid = from }) e image →
    ((e.tx.session == t.session) && (e.tx.number == t.number)) ≡ false → IsNextAfter m.entries t.session t.number from None
over_other m t from e image first other =
    λ r k. none_if (own_at m.entries t.session t.number r) (λ there.
    let s : Spot = record { tx = t; rid = r } in
    let least = first.least s (spot_within t from r ∙ k) there in
    apart (tx_cmp e.tx t) (tx_cmp t e.tx) (rid_cmp e.rid r) (rid_cmp from e.rid) (txs_total.antisymm t e.tx) (at_tx e.tx t ∙ other) least
    (not_greater (spot_cmp (record { tx = t; rid = from }) e) first.above))

pub over_found : (m : BTreeMap Spot Image) (t : Tx) (from : Rid) (e : Spot) (image : Image) → FirstOver m (record { tx = t; rid = from }) e image → e.tx ≡ t →
    IsNextAfter m.entries t.session t.number from (Some e.rid)
over_found m t from e image first same =
    let is : e ≡ record { tx = t; rid = e.rid } = (λ i. record { tx = same i; rid = e.rid }) in
    let s : Rid → Spot = λ r. record { tx = t; rid = r } in (
      sym (spot_within t from e.rid) ∙ subst (λ x. spot_cmp (s from) x ≡ Less) is first.above,
      subst IsSome (sym first.found ∙ ap (λ x. lookup (same_spot x) m.entries) is) refl,
      λ r k there.
          let low = first.least (s r) (spot_within t from r ∙ k) there in
          ap is_gt (sym (spot_within t e.rid r)) ∙ subst (λ x. IsLeBy spot_cmp x (s r)) is low,
    )
