-- What the records of some keys cost, as it is said of a content.
use Rattle.std.proofs.Common.{◌≡◌, ℕ, suc, ◌+◌, ◌≤◌, List, [], ◌∷◌, Bool, true, false, Some, refl, ap, ◌∙◌, subst, cond, map, length, slice_get, arith}
use Rattle.std.specs.Prelude.{sum_by, ◌||◌, IsTrue}
use Rattle.std.proofs.lemmas.Bool.Decides.{nat_tests}
use Rattle.std.proofs.lemmas.List.Sums.{sum_by-cons}
use Rattle.hg_base.specs.declared.rid.Rid.{Rid}
use Rattle.hg_base.specs.declared.rid.TableId.{TableId}
use Rattle.hg_base.specs.Lists.{Each}
use Rattle.hg_base.specs.History.{same_rid, is_among, NoneTwice}
use Rattle.hg_core.specs.declared.version.Version.{Version}
use Rattle.hg_bucket.specs.BucketModel.{Kept, versions_of, record_at}
use Rattle.hg_bucket.specs.Long.{NoKeyTwice, AreLong}
use Rattle.hg_bucket.specs.Sweeping.{is_long}
use Rattle.hg_bucket.proofs.Costing.{cost_of}
use Rattle.hg_bucket.proofs.Paying.{key_cost, keys_cost}
use Rattle.hg_rule.specs.declared.view.View.{View}
use Rattle.hg_rule.specs.Holding.{held}
use Rattle.hg_store.specs.declared.held.Held.{Held}
use Rattle.hg_store.specs.Kept.{kept}
use Rattle.hg_store.specs.Stores.{held_records, Holds}
use Rattle.hg_store.specs.Clearing.{IsLongOf, Spends}

records_at : TableId → List ℕ → List Rid
records_at t [] = []
records_at t (k ∷ keys) = record_at t k ∷ records_at t keys

not_among : (t : TableId) (k : ℕ) (keys : List ℕ) → ((at : ℕ) → slice_get keys at ≡ Some k → ⊥) → is_among (record_at t k) (records_at t keys) ≡ false
unfolding records_at
not_among t k [] none = refl
not_among t k (m ∷ keys) none = go (same_rid (record_at t k) (record_at t m)) refl (not_among t k keys (λ at there. none (suc at) there))
  where
    go : (b : Bool) → same_rid (record_at t k) (record_at t m) ≡ b → is_among (record_at t k) (records_at t keys) ≡ false → (b || is_among (record_at t k) (records_at t keys)) ≡ false
    go true e rest = let same : m ≡ k = grind (arith, nat_tests, e) in absurd (none 0 (ap Some same))
    go false e rest = rest

none_twice : (t : TableId) (keys : List ℕ) → NoKeyTwice keys → NoneTwice (records_at t keys)
unfolding records_at
none_twice t [] once = tt
none_twice t (k ∷ keys) once = (
  not_among t k keys (λ at there. let same = once 0 (suc at) k refl there in omega (arith, same)),
  none_twice t keys (λ i j m here there. let same = once (suc i) (suc j) m here there in omega (arith, same)),
)

each_long : (t : TableId) (v : View) (keys : List ℕ) → ((at k : ℕ) → slice_get keys at ≡ Some k → IsTrue (is_long (map kept (held v (record_at t k))))) → Each (IsLongOf t v) (records_at t keys)
unfolding records_at
each_long t v [] long = tt
each_long t v (k ∷ keys) long = ((refl, long 0 k refl), each_long t v keys (λ at m there. long (suc at) m there))

cost_most : (n : ℕ) (vs : List Kept) → cost_of n vs ≤ length vs + n
cost_most n vs = go (is_long vs)
  where
    go : (b : Bool) → cond b (length vs + n) 0 ≤ length vs + n
    go true = omega arith
    go false = omega arith

length_kept : (vs : List Version) → length (map kept vs) ≡ length vs
length_kept [] = refl
length_kept (v ∷ vs) = ap suc (length_kept vs)

cost_sum : (t : TableId) (n : ℕ) (records : List (Rid × List Kept)) (v : View) (keys : List ℕ) → ((r : Rid) → versions_of records r ≡ map kept (held v r)) →
    keys_cost t n records keys ≤ sum_by (λ r. length (held v r) + n) (records_at t keys)
unfolding records_at
cost_sum t n records v [] keep = omega arith
cost_sum t n records v (k ∷ keys) keep =
    let r = record_at t k in
    let most = cost_most n (versions_of records r) in
    let same : length (versions_of records r) ≡ length (held v r) = ap length (keep r) ∙ length_kept (held v r) in
    omega (arith, most, same, cost_sum t n records v keys keep, sum_by-cons (key_cost t n records) k keys, sum_by-cons (λ r. length (held v r) + n) r (records_at t keys))

pub spends_keys : (t : TableId) (n before after : ℕ) (v : View) (h : Held) (keys : List ℕ) → Holds v h → AreLong keys t (held_records h).records →
    after ≤ before + keys_cost t n (held_records h).records keys → Spends v t n before after
spends_keys t n before after v h keys hold long few = record {
  looked = records_at t keys;
  once = none_twice t keys long.once;
  are_long = each_long t v keys (λ at k there. subst (λ vs. IsTrue (is_long vs)) (hold.keeps.versions (record_at t k)) (long.long at k there));
  few = omega (arith, few, cost_sum t n (held_records h).records v keys hold.keeps.versions);
}

-- a record that has the same versions in another view is as long there
pub long_still : (t : TableId) (v w : View) (r : Rid) → held w r ≡ held v r → IsLongOf t w r → IsLongOf r.table v r
long_still t v w r same h = (refl, subst (λ vs. IsTrue (is_long (map kept vs))) same h.1)
