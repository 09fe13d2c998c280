-- A pass goes down a list of a table's keys, from its end.
use Rattle.std.proofs.Common.{◌≡◌, ℕ, ◌+◌, ◌<◌, List, [], ◌∷◌, ◌++◌, Bool, true, false, Some, refl, sym, ap, ◌∙◌, subst, map, arith, length, slice_get}
use Rattle.std.specs.Prelude.{◌==◌}
use Rattle.std.proofs.lemmas.Bool.Decides.{nat_tests}
use Rattle.std.proofs.lemmas.Option.{same_Some, slice_get_within}
use Rattle.hg_base.specs.declared.rid.Rid.{Rid}
use Rattle.hg_base.specs.declared.rid.TableId.{TableId}
use Rattle.hg_base.specs.declared.report.Kind.{Kind}
use Rattle.hg_base.specs.Lists.{Each}
use Rattle.hg_base.specs.History.{same_rid, NoneTwice}
use Rattle.hg_core.specs.Contents.{bucket_of}
use Rattle.hg_core.specs.Removal.{reclaimed}
use Rattle.hg_bucket.specs.BucketModel.{Kept, versions_of, record_at}
use Rattle.hg_bucket.specs.Sweeping.{is_long}
use Rattle.hg_bucket.specs.Long.{IsShort, AreLong}
use Rattle.hg_bucket.proofs.Walking.{keys_apart, tables_apart}
use Rattle.hg_bucket.proofs.Rounds.{IsPast}
use Rattle.hg_rule.specs.declared.view.View.{View}
use Rattle.hg_rule.specs.declared.view.Sizes.{Sizes}
use Rattle.hg_rule.specs.Facts.{record_of}
use Rattle.hg_rule.specs.Rules.{IsBacked}
use Rattle.hg_rule.specs.Views.{pass}
use Rattle.hg_rule.specs.Holding.{held}
use Rattle.hg_rule.specs.Removes.{Reclaims, left_of, removed_of}
use Rattle.hg_store.specs.declared.held.Held.{Held}
use Rattle.hg_store.specs.Kept.{kept}
use Rattle.hg_store.specs.Stores.{held_number, held_records, Holds}
use Rattle.hg_store.specs.Clearing.{IsLongOf, Clears, Counts}
use Rattle.hg_store.proofs.Holding.{placed_at}
use Rattle.hg_store.proofs.Doing.{Does, short_left}
use Rattle.hg_store.proofs.Clearing.{reclaims_more, each_more, among_more, counts_none, counts_more, same_record, held_here, held_apart, long_there}

each_weaker : {A : Type 0} (P Q : A → Type 0) (xs : List A) → ((x : A) → P x → Q x) → Each P xs → Each Q xs
each_weaker P Q [] f h = tt
each_weaker P Q (x ∷ xs) f h = (f x h.0, each_weaker P Q xs f h.1)

once_last : (table : TableId) (k : ℕ) (rids : List Rid) → NoneTwice rids → Each (λ (q : Rid). k ≡ q.key → ⊥) rids → NoneTwice (rids ++ record_at table k ∷ [])
once_last table k [] once h = (refl, tt)
once_last table k (q ∷ rids) once h = (among_more q (record_at table k) rids once.0 (apart (same_rid q (record_at table k)) refl), once_last table k rids once.1 h.1)
  where
    apart : (b : Bool) → same_rid q (record_at table k) ≡ b → same_rid q (record_at table k) ≡ false
    apart false e = e
    apart true e = let same : k ≡ q.key = grind (arith, nat_tests, e) in absurd (h.0 same)

-- The first so many keys are still to come. The records that were visited are none of them, and each record of the table whose
-- key is none of them is as its kind of collector leaves it.
pub record Rounds (kind : Kind) (table : TableId) (keys : List ℕ) (v w : View) (many gone : ℕ) : Type 0 where
  pub clears : Clears v table kind w
  pub behind : Each (λ (q : Rid). IsPast keys many q.key) clears.visited
  pub done : (k : ℕ) → IsPast keys many k → held w (record_at table k) ≡ left_of v (record_at table k) kind
  pub rest : (at k : ℕ) → at < many → slice_get keys at ≡ Some k → held w (record_at table k) ≡ held v (record_at table k)
  pub others : (r : Rid) → (r.table ≡ table → ⊥) → held w r ≡ held v r
  pub counts : Counts v kind gone w

pub round_begins : (kind : Kind) (does : List Kept → List Kept) (table : TableId) (keys : List ℕ) (v : View) (h : Held) → Holds v h → Does kind table (record_of (pass v)) does →
    AreLong keys table (held_records h).records → Rounds kind table keys v v (length keys) 0
round_begins kind does table keys v h hold d long = record {
  clears = record { visited = []; once = tt; are_long = tt; steps = refl };
  behind = tt;
  done = λ k past.
      let order = hold.ordered (record_at table k) in
      let short = long.rest k (λ at there. past at (slice_get_within keys at k there) there) in
      short_left kind table (record_of (pass v)) does order.0 (held v (record_at table k)) d order.1 (subst IsShort (hold.keeps.versions (record_at table k)) short);
  rest = λ at k less there. refl;
  others = λ r apart. refl;
  counts = counts_none v kind;
}

-- what is long in the bucket is long in the view
long_seen : (table : TableId) (keys : List ℕ) (v : View) (h : Held) (at k : ℕ) → Holds v h → AreLong keys table (held_records h).records → slice_get keys at ≡ Some k →
    is_long (map kept (held v (record_at table k))) ≡ true
long_seen table keys v h at k hold long there = ap is_long (sym (hold.keeps.versions (record_at table k))) ∙ long.long at k there

-- a key of the list is that of a record of the bucket
pub key_here : (z : Sizes) (n : ℕ) (table : TableId) (keys : List ℕ) (v : View) (h : Held) (at k : ℕ) → IsBacked z n v → Holds v h → AreLong keys table (held_records h).records →
    slice_get keys at ≡ Some k → bucket_of z.buckets (record_at table k) ≡ held_number h
key_here z n table keys v h at k backed hold long there = long_there z n (held_number h) v (record_at table k) (placed_at z n (held_number h) v backed hold.has)
    (long_seen table keys v h at k hold long there)

-- the record of the key at l, which is the last of those to come, is reclaimed
pub round_goes : (kind : Kind) (table : TableId) (keys : List ℕ) (v w x : View) (h : Held) (many l k gone : ℕ) → many ≡ l + 1 → Holds v h →
    AreLong keys table (held_records h).records → slice_get keys l ≡ Some k
    → Rounds kind table keys v w many gone → Reclaims w (record_at table k) kind x → Rounds kind table keys v x l (gone + removed_of w (record_at table k) kind)
round_goes kind table keys v w x h many l k gone is hold long there round step = record {
  clears = record {
    visited = round.clears.visited ++ r ∷ [];
    once = once_last table k round.clears.visited round.clears.once (each_weaker (λ (q : Rid). IsPast keys many q.key) (λ (q : Rid). k ≡ q.key → ⊥) round.clears.visited
        (λ q past same. past l (omega (arith, is)) (there ∙ ap Some same)) round.behind);
    are_long = each_more (IsLongOf table v) round.clears.visited r round.clears.are_long (refl, long_seen table keys v h l k hold long there);
    steps = reclaims_more v w x round.clears.visited r kind round.clears.steps step;
  };
  behind = each_more (λ (q : Rid). IsPast keys l q.key) round.clears.visited r
      (each_weaker (λ (q : Rid). IsPast keys many q.key) (λ (q : Rid). IsPast keys l q.key) round.clears.visited (λ q past at less. past at (omega (arith, is, less))) round.behind)
      (λ at less again. let same = long.once at l k again there in absurd (omega (arith, less, same)));
  done = λ m past. done m past (k == m) refl;
  rest = λ at m less stands. held_apart w x r kind step (record_at table m) (keys_apart table k m (λ same. let both = long.once l at k there (stands ∙ ap Some (sym same)) in
      omega (arith, less, both))) ∙ round.rest at m (omega (arith, is, less)) stands;
  others = λ q apart. held_apart w x r kind step q (tables_apart table k q apart) ∙ round.others q apart;
  counts = counts_more v w x kind gone r round.counts step;
}
  where
    r : Rid
    r = record_at table k

    here : left_of w r kind ≡ left_of v r kind
    here = λ i. reclaimed kind table (same_record v w kind gone round.counts i) (round.rest l k (omega (arith, is)) there i)

    still : (m : ℕ) → IsPast keys l m → (k ≡ m → ⊥) → IsPast keys many m
    still m past other at less stands = go (at == l) refl
      where
        go : (b : Bool) → (at == l) ≡ b → ⊥
        go true e = let same : at ≡ l = grind (arith, nat_tests, e) in other (same_Some k m (sym there ∙ ap (slice_get keys) (sym same) ∙ stands))
        go false e = let apart : at ≡ l → ⊥ = λ same. grind (arith, nat_tests, e, same) in past at (omega (arith, less, is, apart)) stands

    done : (m : ℕ) → IsPast keys l m → (b : Bool) → (k == m) ≡ b → held x (record_at table m) ≡ left_of v (record_at table m) kind
    done m past true e =
        let same : k ≡ m = grind (arith, nat_tests, e) in
        subst (λ m. held x (record_at table m) ≡ left_of v (record_at table m) kind) same (held_here w x r kind step ∙ here)
    done m past false e =
        let apart : k ≡ m → ⊥ = λ same. grind (arith, nat_tests, e, same) in
        held_apart w x r kind step (record_at table m) (keys_apart table k m apart) ∙ round.done m (still m past apart)

pub round_ends : (kind : Kind) (table : TableId) (keys : List ℕ) (v w : View) (many gone : ℕ) → many ≡ 0 → Rounds kind table keys v w many gone → (k : ℕ) →
    held w (record_at table k) ≡ left_of v (record_at table k) kind
round_ends kind table keys v w many gone is round k = round.done k (λ at less stands. absurd (omega (arith, is, less)))

-- what a bucket keeps of a record that is still to come
pub kept_at : (kind : Kind) (table : TableId) (keys : List ℕ) (v w : View) (h h' : Held) (many l k gone : ℕ) → Holds v h → Holds w h' → Rounds kind table keys v w many gone →
    l < many → slice_get keys l ≡ Some k → versions_of (held_records h').records (record_at table k) ≡ versions_of (held_records h).records (record_at table k)
kept_at kind table keys v w h h' many l k gone hold now round less there = now.keeps.versions (record_at table k) ∙ ap (map kept) (round.rest l k less there) ∙
    sym (hold.keeps.versions (record_at table k))
