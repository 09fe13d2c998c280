-- A walk down a list of a table's keys, from its end, that changes each record in one way.
use Rattle.std.proofs.Common.{◌≡◌, ℕ, zero, suc, ◌+◌, ◌≤◌, ◌<◌, List, [], ◌∷◌, Bool, true, false, Some, refl, sym, ap, ◌∙◌, subst, arith, length, take, slice_get}
use Rattle.std.specs.Prelude.{◌==◌}
use Rattle.std.proofs.lemmas.Bool.Decides.{nat_tests}
use Rattle.std.proofs.lemmas.List.{length-take, take-take}
use Rattle.std.proofs.lemmas.Option.{same_Some, slice_get_within}
use Rattle.hg_base.specs.declared.rid.Rid.{Rid}
use Rattle.hg_base.specs.declared.rid.TableId.{TableId}
use Rattle.hg_bucket.specs.BucketModel.{Kept, versions_of, record_at, left, OthersStay}
use Rattle.hg_bucket.specs.Long.{NoKeyTwice, AreLong}
use Rattle.hg_bucket.proofs.Walking.{KeepsShort, keys_apart, tables_apart}

-- a key is none of the first so many
abbrev pub IsPast : List ℕ → ℕ → ℕ → Type 0
IsPast keys many k = (at : ℕ) → at < many → slice_get keys at ≡ Some k → ⊥

-- The first so many keys are still to come, and the records of all others of the table are done. Done says what becomes of a
-- record's versions.
pub record Rounds (Done : List Kept → List Kept → Type 0) (t : TableId) (keys : List ℕ) (old now : List (Rid × List Kept)) (many gone : ℕ) : Type 0 where
  pub done : (k : ℕ) → IsPast keys many k → Done (versions_of old (record_at t k)) (versions_of now (record_at t k))
  pub rest : (at k : ℕ) → at < many → slice_get keys at ≡ Some k → versions_of now (record_at t k) ≡ versions_of old (record_at t k)
  pub others : (q : Rid) → (q.table ≡ t → ⊥) → versions_of now q ≡ versions_of old q
  pub left : left now + gone ≡ left old

pub round_begins : (Done : List Kept → List Kept → Type 0) (t : TableId) (keys : List ℕ) (old : List (Rid × List Kept)) → KeepsShort Done → AreLong keys t old →
    Rounds Done t keys old old (length keys) 0
round_begins Done t keys old keeps h = record {
  done = λ k past. keeps (versions_of old (record_at t k)) (h.rest k (λ at there. past at (slice_get_within keys at k there) there));
  rest = λ at k within there. refl;
  others = λ q apart. refl;
  left = omega arith;
}

-- the key at l, which is the last of those to come, is done
pub round_goes : (Done : List Kept → List Kept → Type 0) (t : TableId) (keys : List ℕ) (old now new : List (Rid × List Kept)) (many l k gone more : ℕ) → many ≡ l + 1 →
    NoKeyTwice keys → slice_get keys l ≡ Some k → Rounds Done t keys old now many gone
    → Done (versions_of now (record_at t k)) (versions_of new (record_at t k)) → OthersStay now new (record_at t k) → left new + more ≡ left now → Rounds Done t keys old new l (gone + more)
round_goes Done t keys old now new many l k gone more is once there h here others count = record {
  done = λ m past. done m past (k == m) refl;
  rest = λ at m less where_m. others (record_at t m) (keys_apart t k m (λ same. let both = once l at k there (where_m ∙ ap Some (sym same)) in omega (arith, less, both))) ∙
      h.rest at m (omega (arith, is, less)) where_m;
  others = λ q apart. others q (tables_apart t k q apart) ∙ h.others q apart;
  left = omega (arith, count, h.left);
}
  where
    still : (m : ℕ) → IsPast keys l m → (k ≡ m → ⊥) → IsPast keys many m
    still m past other at less where_m = go (at == l) refl
      where
        go : (b : Bool) → (at == l) ≡ b → ⊥
        go true e = let same : at ≡ l = grind (arith, nat_tests, e) in other (same_Some k m (sym there ∙ ap (slice_get keys) (sym same) ∙ where_m))
        go false e = let apart : at ≡ l → ⊥ = λ same. grind (arith, nat_tests, e, same) in past at (omega (arith, less, is, apart)) where_m

    done : (m : ℕ) → IsPast keys l m → (b : Bool) → (k == m) ≡ b → Done (versions_of old (record_at t m)) (versions_of new (record_at t m))
    done m past true e =
        let same : k ≡ m = grind (arith, nat_tests, e) in
        subst (λ x. Done (versions_of old (record_at t x)) (versions_of new (record_at t x))) same (subst (λ vs. Done vs (versions_of new (record_at t k))) (h.rest l k (omega (arith, is)) there) here)
    done m past false e =
        let apart : k ≡ m → ⊥ = λ same. grind (arith, nat_tests, e, same) in
        subst (Done (versions_of old (record_at t m))) (sym (others (record_at t m) (keys_apart t k m apart))) (h.done m (still m past apart))

pub round_ends : (Done : List Kept → List Kept → Type 0) (t : TableId) (keys : List ℕ) (old now : List (Rid × List Kept)) (gone : ℕ) → Rounds Done t keys old now 0 gone → (k : ℕ) →
    Done (versions_of old (record_at t k)) (versions_of now (record_at t k))
round_ends Done t keys old now gone h k = h.done k (λ at less there. absurd (omega (arith, less)))

-- ---- the list itself, from which each record that isn't long any more has left

-- its first so many keys are those of the list that the walk began with
pub record Leads (many : ℕ) (longs keys : List ℕ) : Type 0 where
  pub within : many ≤ length keys
  pub front : take many longs ≡ take many keys

get_take : {X : Type 0} (n : ℕ) (xs : List X) (j : ℕ) → j < n → slice_get (take n xs) j ≡ slice_get xs j
get_take zero xs j h = absurd (omega (arith, h))
get_take (suc n) [] j h = refl
get_take (suc n) (x ∷ xs) zero h = refl
get_take (suc n) (x ∷ xs) (suc j) h = get_take n xs j (omega (arith, h))

pub leads_first : (keys : List ℕ) → Leads (length keys) keys keys
leads_first keys = record { within = omega arith; front = refl }

-- one stands there
pub leads_within : (many l : ℕ) (longs keys : List ℕ) → Leads many longs keys → l < many → l < length longs
leads_within many l longs keys h less = omega (arith, length-take many longs, length-take many keys, ap length h.front, h.within, less)

-- which is that of the first list
pub leads_key : (many l k : ℕ) (longs keys : List ℕ) → Leads many longs keys → l < many → slice_get longs l ≡ Some k → slice_get keys l ≡ Some k
leads_key many l k longs keys h less there = sym (get_take many keys l less) ∙ ap (λ xs. slice_get xs l) (sym h.front) ∙ get_take many longs l less ∙ there

pub leads_on : (many l : ℕ) (longs nexts keys : List ℕ) → Leads many longs keys → l ≤ many → take l nexts ≡ take l longs → Leads l nexts keys
leads_on many l longs nexts keys h less same = record {
  within = omega (arith, h.within, less);
  front = same ∙ sym (take-take l many longs less) ∙ ap (take l) h.front ∙ take-take l many keys less;
}
