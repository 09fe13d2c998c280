-- Keys that nobody wrote are not seen.
use Rattle.std.proofs.Common.{◌≡◌, ℕ, ◌+◌, ◌<◌, ◌≤◌, List, Option, Some, None, refl, sym, ap, ◌∙◌, subst, arith, cond}
use Rattle.std.specs.Prelude.{unwrap_or, IsSome, is_some, nat_lt, Bool, true, false, Decides, [], ◌∷◌}
use Rattle.std.specs.Bool.{MatchBool}
use Rattle.hg_base.specs.History.{Write}
use Rattle.hg_base.specs.Transcript.{stored_in}
use Rattle.hg_base.specs.Replies.{is_written}
use Rattle.hg_base.proofs.ListFacts.{false_true}
use Rattle.hg_known.proofs.Joining.{from_least}
use Rattle.hg_known.proofs.Showing.{wrote_none}
use Rattle.std.proofs.lemmas.Bool.{ltb-true, ltb-false}
use Rattle.hg_base.proofs.ListFacts.{cases}
use Rattle.hg_base.specs.declared.rid.Rid.{Rid}
use Rattle.hg_base.specs.declared.rid.TableId.{TableId}
use Rattle.hg_base.specs.declared.image.Image.{Image}
use Rattle.hg_base.specs.History.{History, nothing, visible, image_in}
use Rattle.hg_base.specs.Transcript.{Said}
use Rattle.hg_base.proofs.RidOrder.{le_keys, le_tables, le_in_table}
use Rattle.hg_known.specs.declared.own.Spot.{Spot}
use Rattle.hg_known.specs.Written.{record_at}
use Rattle.hg_known.specs.Owned.{own_at, IsOwn, HasOwn, IsNextOwn}
use Rattle.hg_audit.specs.Seen.{look, own_look, other_look, NoneSeen, IsNextStored}
use Rattle.hg_known.proofs.SlotOrder.{none_if}

pub isnt_some : {X : Type 0} (o : Option X) (b : Bool) → b ≡ is_some o → b ≡ false → o ≡ None
isnt_some None b e f = refl
isnt_some (Some x) b e f = absurd (false_true (sym (sym e ∙ f)))

pub isnt_none : {X : Type 0} (o : Option X) (b : Bool) → b ≡ is_some o → b ≡ true → o ≡ None → ⊥
isnt_none None b e f g = false_true (sym e ∙ f)
isnt_none (Some x) b e f g = cc

-- ---- what the transaction stored, and what else is visible

pub unstored : (own : List (Spot × Image)) (j x : ℕ) (table : TableId) (key : ℕ) → own_at own j x (record_at table key) ≡ None → (own_look own j x table key).row ≡ None
unstored own j x table key e = ap (λ o. (unwrap_or o nothing).row) e

pub other_row : (o : Option Image) (v : Image) → (cond (is_some o) nothing v).row ≡ cond (is_some o) None v.row
other_row None v = refl
other_row (Some i) v = refl

pub other_none : (o : Option Image) (v : Image) → v.row ≡ None → (cond (is_some o) nothing v).row ≡ None
other_none None v e = e
other_none (Some i) v e = refl

module _ (h : History) (earlier : List Said) (now : Said) (own : List (Spot × Image)) (is : HasOwn own earlier now) (table : TableId) where
  abbrev pub mine : ℕ → Image
  mine = own_look own now.session now.transaction table

  abbrev pub others : ℕ → Image
  others = other_look h own now.session now.transaction now.at table

  pub both_unseen : (from to : ℕ) → NoneSeen mine from to → NoneSeen others from to → NoneSeen (look h earlier now table) from to
  both_unseen from to a b key low high =
      ap (λ o. (unwrap_or o (visible h (record_at table key) now.at)).row) (sym (is (record_at table key)))
      ∙ go (own_at own now.session now.transaction (record_at table key)) (a key low high) (b key low high)
    where
      go : (o : Option Image) → (unwrap_or o nothing).row ≡ None → (cond (is_some o) nothing (visible h (record_at table key) now.at)).row ≡ None →
          (unwrap_or o (visible h (record_at table key) now.at)).row ≡ None
      go None e f = f
      go (Some i) e f = e

  pub mine_unseen : (from to : ℕ) → NoneSeen (look h earlier now table) from to → NoneSeen mine from to
  mine_unseen from to a key low high =
      go (own_at own now.session now.transaction (record_at table key)) (ap (λ o. (unwrap_or o (visible h (record_at table key) now.at)).row) (is (record_at table key)) ∙ a key low high)
    where
      go : (o : Option Image) → (unwrap_or o (visible h (record_at table key) now.at)).row ≡ None → (unwrap_or o nothing).row ≡ None
      go None e = refl
      go (Some i) e = e

  pub others_unseen : (from to : ℕ) → NoneSeen (look h earlier now table) from to → NoneSeen others from to
  others_unseen from to a key low high =
      go (own_at own now.session now.transaction (record_at table key)) (ap (λ o. (unwrap_or o (visible h (record_at table key) now.at)).row) (is (record_at table key)) ∙ a key low high)
    where
      go : (o : Option Image) → (unwrap_or o (visible h (record_at table key) now.at)).row ≡ None → (cond (is_some o) nothing (visible h (record_at table key) now.at)).row ≡ None
      go None e = e
      go (Some i) e = refl

-- ---- the next key that was stored

pub stored_none : (own : List (Spot × Image)) (j x : ℕ) (t : TableId) (from : ℕ) → IsNextOwn own j x (record_at t from) None → IsNextStored own j x t from None
stored_none own j x t from next key low = next (record_at t key) (le_keys (record_at t from) (record_at t key) refl low)

pub stored_other : (own : List (Spot × Image)) (j x : ℕ) (t : TableId) (from : ℕ) (r : Rid) → IsNextOwn own j x (record_at t from) (Some r) → (r.table.0 ≡ t.0 → ⊥) → IsNextStored own j x t from None
stored_other own j x t from r next apart =
    λ key low. none_if (own_at own j x (record_at t key)) (λ some.
    let a = le_tables (record_at t from) r next.0 in
    let b = le_tables r (record_at t key) (next.2 (record_at t key) (le_keys (record_at t from) (record_at t key) refl low) some) in
    apart (omega (arith, a, b)))

pub stored_found : (own : List (Spot × Image)) (j x : ℕ) (t : TableId) (from : ℕ) (r : Rid) → IsNextOwn own j x (record_at t from) (Some r) → r.table.0 ≡ t.0 → IsNextStored own j x t from (Some r.key)
stored_found own j x t from r next same = (
  le_in_table (record_at t from) r next.0 (sym same),
  λ key low less. none_if (own_at own j x (record_at t key)) (λ some.
      let b = le_in_table r (record_at t key) (next.2 (record_at t key) (le_keys (record_at t from) (record_at t key) refl low) some) same in
      absurd (omega (arith, b, less))),
)

-- ---- the range so far

-- no key from `first` up to `from` is seen as a row
abbrev pub Passed : (ℕ → Image) → ℕ → ℕ → Type 0
Passed look first from = (key : ℕ) → first ≤ key → key < from → (look key).row ≡ None

pub passed_more : (look : ℕ → Image) (first from key : ℕ) → Passed look first from → ((k : ℕ) → from ≤ k → k < key → (look k).row ≡ None) → (look key).row ≡ None → Passed look first (key + 1)
passed_more look first from key passed between here k low less =
    cases (nat_lt k from)
    (λ e. passed k low (ltb-true k from e))
    (λ e. cases (nat_lt k key)
    (λ f. between k (ltb-false k from e) (ltb-true k key f))
    (λ f. let over : key ≤ k = ltb-false k key f in let same : key ≡ k = omega (arith, over, less) in subst (λ n. (look n).row ≡ None) same here))

pub passed_all : (look : ℕ → Image) (first from to : ℕ) → Passed look first from → ((k : ℕ) → from ≤ k → k ≤ to → (look k).row ≡ None) → NoneSeen look first to
passed_all look first from to passed rest k low high = cases (nat_lt k from) (λ e. passed k low (ltb-true k from e)) (λ e. rest k (ltb-false k from e) high)

-- no key over `to` up to `last` is seen as a row
abbrev pub PassedDown : (ℕ → Image) → ℕ → ℕ → Type 0
PassedDown look to last = (key : ℕ) → to < key → key ≤ last → (look key).row ≡ None

pub down_more : (look : ℕ → Image) (to last key low : ℕ) → PassedDown look to last → ((k : ℕ) → key < k → k ≤ to → (look k).row ≡ None) → (look key).row ≡ None → key ≤ low + 1 →
    PassedDown look low last
down_more look to last key low passed between here less k over within =
    cases (nat_lt to k)
    (λ e. passed k (ltb-true to k e) within)
    (λ e. cases (nat_lt key k)
    (λ f. between k (ltb-true key k f) (ltb-false to k e))
    (λ f. let most : k ≤ key = ltb-false key k f in let same : key ≡ k = omega (arith, over, less, most) in subst (λ n. (look n).row ≡ None) same here))

pub from_here : (look : ℕ → Image) (key to : ℕ) → ((k : ℕ) → key < k → k ≤ to → (look k).row ≡ None) → (look key).row ≡ None → (k : ℕ) → key ≤ k → k ≤ to → (look k).row ≡ None
from_here look key to over here k low high =
    cases (nat_lt key k) (λ e. over k (ltb-true key k e) high) (λ e. let most : k ≤ key = ltb-false key k e in let same : key ≡ k = omega (arith, low, most) in
    subst (λ n. (look n).row ≡ None) same here)

pub down_all : (look : ℕ → Image) (from to last : ℕ) → PassedDown look to last → ((k : ℕ) → from ≤ k → k ≤ to → (look k).row ≡ None) → NoneSeen look from last
down_all look from to last passed rest k low high = cases (nat_lt to k) (λ e. passed k (ltb-true to k e) high) (λ e. rest k low (ltb-false to k e))

-- ---- whether something was stored

pub wrote_is : (own : List (Spot × Image)) (j x : ℕ) (earlier : List Said) (found : Option Rid) → IsNextOwn own j x (record { table = record { 0 = 0 }; key = 0 }) found →
    ((r : Rid) → IsOwn own earlier j x r) → is_some found ≡ is_written (stored_in j x earlier)
wrote_is own j x earlier None next is = sym (none (stored_in j x earlier) (λ r. sym (is r) ∙ next r (from_least r)))
  where
    none : (ws : List Write) → ((r : Rid) → image_in r ws ≡ None) → is_written ws ≡ false
    none [] f = refl
    none (w ∷ ws) f = absurd (wrote_none (w ∷ ws) f (omega arith))
wrote_is own j x earlier (Some r) next is = sym (some (stored_in j x earlier) (subst IsSome (is r) next.1))
  where
    some : (ws : List Write) → IsSome (image_in r ws) → is_written ws ≡ true
    some [] s = absurd (false_true s)
    some (w ∷ ws) s = refl

pub decided_within : (b r : Bool) (P U : Type 0) → b ≡ true → Decides r P → Decides r (MatchBool b P U)
decided_within true r P U e d = d
decided_within false r P U e d = absurd (false_true e)

pub decided_without : (b r : Bool) (P U : Type 0) → b ≡ false → Decides r U → Decides r (MatchBool b P U)
decided_without true r P U e d = absurd (false_true (sym e))
decided_without false r P U e d = d
