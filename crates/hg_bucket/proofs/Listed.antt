-- What callers see of the lists of records that have a chain.
use Rattle.std.proofs.Common.{zero, ◌≡◌, ℕ, suc, ◌<◌, List, [], ◌∷◌, length, take, map, slice_get, Bool, true, false, Option, Some, None, refl, sym, ap, ◌∙◌}
use Rattle.std.proofs.Common.{subst, arith}
use Rattle.std.specs.Prelude.{◌==◌, option_map}
use Rattle.std.specs.Bool.{OnTrue, OnFalse}
use Rattle.std.proofs.lemmas.Option.{none-some, same_Some, slice_get_within}
use Rattle.hg_base.specs.declared.rid.Rid.{Rid}
use Rattle.hg_base.specs.declared.rid.TableId.{TableId}
use Rattle.hg_chains.specs.declared.version.Version.{Version}
use Rattle.hg_chains.specs.Places.{Places, list_at}
use Rattle.hg_space.specs.Index.{place_of}
use Rattle.hg_space.specs.Places.{Seat}
use Rattle.hg_space.specs.declared.roster.Listed.{Listed}
use Rattle.hg_space.specs.Rosters.{list_of, keys_of, StandOnce}
use Rattle.hg_space.proofs.RosterFacts.{trimmed_list, trimmed_same}
use Rattle.hg_bucket.specs.BucketModel.{Kept, versions_of, record_at, keys_in}
use Rattle.hg_bucket.specs.Long.{AreLong, IsShort}
use Rattle.hg_bucket.specs.Parts.{Recorded, records_of, listed, longs_of, AreListed, AreWhole, Leaves}
use Rattle.hg_bucket.proofs.Settling.{bare_short, absent_short, chained_long}
use Rattle.hg_bucket.proofs.Listing.{of_list}

pub take_keys : (n : ℕ) (xs : List Listed) → take n (keys_of xs) ≡ keys_of (take n xs)
take_keys zero xs = refl
take_keys (suc n) [] = refl
take_keys (suc n) (x ∷ xs) = ap (λ ks. x.key ∷ ks) (take_keys n xs)

pub key_of : (xs : List Listed) (at k : ℕ) → slice_get (keys_of xs) at ≡ Some k → (e : Listed) × ((slice_get xs at ≡ Some e) × (e.key ≡ k))
key_of [] at k h = absurd (none-some k h)
key_of (x ∷ xs) zero k h = (x, (refl, same_Some x.key k h))
key_of (x ∷ xs) (suc at) k h = key_of xs at k h

pub has_key : (xs : List Listed) (at : ℕ) (e : Listed) → slice_get xs at ≡ Some e → slice_get (keys_of xs) at ≡ Some e.key
has_key [] at e h = absurd (none-some e h)
has_key (x ∷ xs) zero e h = ap (λ (o : Option Listed). option_map (λ (e : Listed). e.key) o) h
has_key (x ∷ xs) (suc at) e h = has_key xs at e h

keys_mapped : (ls : List (List Listed)) (t : ℕ) → list_of (map keys_of ls) t ≡ keys_of (list_of ls t)
keys_mapped [] t = refl
keys_mapped (l ∷ ls) zero = refl
keys_mapped (l ∷ ls) (suc t) = keys_mapped ls t

pub keys_seen : (ls : List (List Listed)) (t : TableId) → keys_in (longs_of ls) t ≡ keys_of (list_of ls t.0)
keys_seen ls t = trimmed_list (map keys_of ls) t.0 ∙ keys_mapped ls t.0

pub recorded : {xs ys : List (Rid × List Kept)} {ls ms : List (List ℕ)} → xs ≡ ys → ls ≡ ms → Path Recorded (record { records = xs; long = ls }) (record { records = ys; long = ms })
recorded same too = λ i. record { records = same i; long = too i }

-- lists that are the same in each table
pub seen_alike : (ls ms : List (List Listed)) → ((t : ℕ) → list_of ms t ≡ list_of ls t) → longs_of ms ≡ longs_of ls
seen_alike ls ms same = trimmed_same (map keys_of ms) (map keys_of ls) (λ t. keys_mapped ms t ∙ ap keys_of (same t) ∙ sym (keys_mapped ls t))

-- the keys of a table's list are those of its records that have a chain
pub all_long : (es : List (Rid × ℕ)) (cs : Places) (places : List Seat) (ls : List (List Listed)) (t : TableId) → AreWhole es cs places → AreListed es cs ls → StandOnce ls →
    AreLong (keys_in (longs_of ls) t) t (records_of es cs places)
all_long es cs places ls t whole h once = subst (λ ks. AreLong ks t (records_of es cs places)) (sym (keys_seen ls t)) (record {
  once = λ i j k here there. both i j k (key_of (list_of ls t.0) i k here) (key_of (list_of ls t.0) j k there);
  long = λ at k there. let e = key_of (list_of ls t.0) at k there in let is = at_key e.0 k at e.1.0 e.1.1 in chained_long es cs places (record_at t k) e.0.place is.0 is.1;
  rest = λ k none. short k none (place_of es (record_at t k)) refl;
})
  where
    at_key : (e : Listed) (k at : ℕ) → slice_get (list_of ls t.0) at ≡ Some e → e.key ≡ k → (place_of es (record_at t k) ≡ Some e.place) × (0 < length (list_at cs e.place))
    at_key e k at there key = let is = of_list es cs ls t e h (at, there) in (ap (λ x. place_of es (record_at t x)) (sym key) ∙ is.0, is.1)

    both : (i j k : ℕ) → (e : Listed) × ((slice_get (list_of ls t.0) i ≡ Some e) × (e.key ≡ k)) → (f : Listed) × ((slice_get (list_of ls t.0) j ≡ Some f) × (f.key ≡ k)) → i ≡ j
    both i j k e f =
        let a = (at_key e.0 k i e.1.0 e.1.1).0 in
        let b = (at_key f.0 k j f.1.0 f.1.1).0 in
        (once t.0 t.0 i j e.0 f.0 e.1.0 f.1.0 (same_Some e.0.place f.0.place (sym a ∙ b))).1

    short : (k : ℕ) → ((at : ℕ) → slice_get (keys_of (list_of ls t.0)) at ≡ Some k → ⊥) → (o : Option ℕ) → place_of es (record_at t k) ≡ o →
        IsShort (versions_of (records_of es cs places) (record_at t k))
    short k none None e = absent_short es cs places (record_at t k) e
    short k none (Some p) e = bare_short es cs places (record_at t k) p whole e (bare (list_at cs p) refl)
      where
        bare : (vs : List Version) → list_at cs p ≡ vs → vs ≡ []
        bare [] f = refl
        bare (v ∷ vs) f =
            let has = (h (record_at t k) p).1 (e, subst (λ us. 0 < length us) (sym f) (omega arith)) in
            absurd (none has.0 (has_key (list_of ls t.0) has.0 (listed (record_at t k) p) has.1))

-- where a record leaves its list, those in front of it stay
pub front_keys : (es : List (Rid × ℕ)) (cs ds : Places) (ls ms : List (List Listed)) (r : Rid) (p : ℕ) → AreListed es cs ls → place_of es r ≡ Some p →
    OnTrue (length (list_at ds p) == 0) (Leaves ls ms r p) → OnFalse (length (list_at ds p) == 0) (ms ≡ ls) → (at : ℕ) → slice_get (keys_in (longs_of ls) r.table) at ≡ Some r.key →
    take at (keys_in (longs_of ms) r.table) ≡ take at (keys_in (longs_of ls) r.table)
front_keys es cs ds ls ms r p old has leaves listed at there = go (length (list_at ds p) == 0) leaves listed
  where
    e : (e : Listed) × ((slice_get (list_of ls r.table.0) at ≡ Some e) × (e.key ≡ r.key))
    e = key_of (list_of ls r.table.0) at r.key (ap (λ ks. slice_get ks at) (sym (keys_seen ls r.table)) ∙ there)

    is : e.0.place ≡ p
    is = same_Some e.0.place p (sym (of_list es cs ls r.table e.0 old (at, e.1.0)).0 ∙ ap (λ k. place_of es (record_at r.table k)) e.1.1 ∙ has)

    go : (b : Bool) → OnTrue b (Leaves ls ms r p) → OnFalse b (ms ≡ ls) → take at (keys_in (longs_of ms) r.table) ≡ take at (keys_in (longs_of ls) r.table)
    go true h k = ap (take at) (keys_seen ms r.table) ∙ take_keys at (list_of ms r.table.0) ∙ ap keys_of (h.front at e.0 e.1.0 is) ∙ sym (take_keys at (list_of ls r.table.0)) ∙
        ap (take at) (sym (keys_seen ls r.table))
    go false h k = ap (λ xs. take at (keys_in (longs_of xs) r.table)) k

-- a record that a list has is found without the index: its place, and that it has a chain
pub listed_at : (es : List (Rid × ℕ)) (cs : Places) (ls : List (List Listed)) (r : Rid) (p at : ℕ) → AreListed es cs ls → slice_get (keys_in (longs_of ls) r.table) at ≡ Some r.key
    → option_map (λ e. e.place) (slice_get (list_of ls r.table.0) at) ≡ Some p → (place_of es r ≡ Some p) × (0 < length (list_at cs p))
listed_at es cs ls r p at h key place =
    let e = key_of (list_of ls r.table.0) at r.key (ap (λ ks. slice_get ks at) (sym (keys_seen ls r.table)) ∙ key) in
    let is : e.0.place ≡ p = same_Some e.0.place p (ap (λ (o : Option Listed). option_map (λ (e : Listed). e.place) o) (sym e.1.0) ∙ place) in
    let has = of_list es cs ls r.table e.0 h (at, e.1.0) in
    (ap (λ k. place_of es (record_at r.table k)) (sym e.1.1) ∙ has.0 ∙ ap Some is, subst (λ n. 0 < length (list_at cs n)) is has.1)

pub listed_within : (ls : List (List Listed)) (r : Rid) (at : ℕ) → slice_get (keys_in (longs_of ls) r.table) at ≡ Some r.key → at < length (list_of ls r.table.0)
listed_within ls r at key = let e = key_of (list_of ls r.table.0) at r.key (ap (λ ks. slice_get ks at) (sym (keys_seen ls r.table)) ∙ key) in slice_get_within (list_of ls r.table.0) at e.0 e.1.0
