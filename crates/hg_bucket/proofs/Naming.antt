-- A record comes: it gets a place, and a chain.
use Rattle.std.proofs.Common.{◌≡◌, ℕ, ◌+◌, ◌<◌, List, [], ◌∷◌, length, Bool, true, false, Option, Some, None, refl, sym, ap, ◌∙◌, subst, drop, arith}
use Rattle.std.specs.Prelude.{◌≢◌, IsFalse, is_some, unwrap_or, option_map, ◌^◌}
use Rattle.std.specs.BTreeMap.{insert_entry}
use Rattle.std.proofs.lemmas.Option.{none-some, same_Some}
use Rattle.hg_base.specs.declared.rid.Rid.{Rid}
use Rattle.hg_base.specs.History.{same_rid}
use Rattle.hg_base.specs.Lists.{Each}
use Rattle.hg_base.specs.RidOrder.{rid_cmp}
use Rattle.hg_chains.specs.declared.version.Stamp.{Stamp}
use Rattle.hg_chains.specs.declared.version.Stamp.TheVariants.{Written, Numbered}
use Rattle.hg_chains.specs.declared.version.Version.{Version}
use Rattle.hg_chains.specs.Places.{Places, list_at, OthersStay as ListsStay}
use Rattle.hg_space.specs.Index.{place_of, IsIndex}
use Rattle.hg_space.specs.Places.{Seat, free, image_at, IsTaken}
use Rattle.hg_bucket.specs.BucketModel.{versions_of, left, OthersStay}
use Rattle.hg_bucket.specs.Parts.{kept, whole, versions_at, records_of, seat_at, AreAlike, ListsAlike, IsGiven, Falls, AreWhole, IsOver}
use Rattle.hg_bucket.proofs.Reading.{found, alike, versions_there}
use Rattle.hg_bucket.proofs.Seating.{each_place, same_image, not_taken, given_taken}
use Rattle.hg_bucket.proofs.Turning.{versions_stay, taken_again, taken_before, falls_again, held_again}
use Rattle.hg_bucket.proofs.Entries.{distinct, each_entry, one_added, sums_alike, left_is, how_many}

pub over_none : (s : Stamp) → IsOver s None
over_none (Written w) = tt
over_none (Numbered n w) = tt

pub all_over_none : (vs : List Version) → Each (λ v. IsOver v.stamp None) vs
all_over_none [] = tt
all_over_none (v ∷ vs) = (over_none v.stamp, all_over_none vs)

-- ---- places without a record

-- a place that is not taken has no chain
pub bare_free : (es : List (Rid × ℕ)) (cs : Places) (places : List Seat) (p : ℕ) → AreWhole es cs places → seat_at places p ≡ free → list_at cs p ≡ []
bare_free es cs places p old e = go (list_at cs p) refl
  where
    go : (vs : List Version) → list_at cs p ≡ vs → vs ≡ []
    go [] k = refl
    go (v ∷ vs) k = absurd (not_taken places p e (old.chained p (subst (λ us. 0 < length us) (sym k) (omega arith))))

-- and is no record's
pub unnamed : (es : List (Rid × ℕ)) (cs : Places) (places : List Seat) (q : Rid) (n p : ℕ) → AreWhole es cs places → seat_at places p ≡ free → place_of es q ≡ Some n → n ≢ p
unnamed es cs places q n p old e k same = not_taken places p e (old.taken q p (k ∙ ap Some same))

-- the record r comes to the place p, with one version
pub record Comes (es fs : List (Rid × ℕ)) (cs ds : Places) (places seats : List Seat) (r : Rid) (p : ℕ) (w : Version) : Type 0 where
  pub index : IsIndex es
  pub old : AreWhole es cs places
  pub new : place_of es r ≡ None
  pub list : fs ≡ insert_entry rid_cmp es r p
  pub here : place_of fs r ≡ Some p
  pub others : (q : Rid) → IsFalse (same_rid r q) → place_of fs q ≡ place_of es q
  pub given : IsGiven places seats p
  pub fits : p < 2 ^ 32
  pub chain : list_at ds p ≡ w ∷ []
  pub lists : ListsStay p cs ds

come_at : (es fs : List (Rid × ℕ)) (cs ds : Places) (places seats : List Seat) (r : Rid) (p : ℕ) (w : Version) → Comes es fs cs ds places seats r p w → versions_at ds seats p ≡ kept w ∷ []
come_at es fs cs ds places seats r p w h = λ i. whole (h.chain i) (ap (λ seat. image_at (seat ∷ []) 0) h.given.now i)

come_apart : (es fs : List (Rid × ℕ)) (cs ds : Places) (places seats : List Seat) (r : Rid) (p : ℕ) (w : Version) → Comes es fs cs ds places seats r p w → (q : Rid) (n : ℕ) →
    place_of es q ≡ Some n → versions_at ds seats n ≡ versions_at cs places n
come_apart es fs cs ds places seats r p w h q n k = versions_stay cs ds places seats p n h.lists h.given.others (unnamed es cs places q n p h.old h.given.was k)

pub come_here : (es fs : List (Rid × ℕ)) (cs ds : Places) (places seats : List Seat) (r : Rid) (p : ℕ) (w : Version) → Comes es fs cs ds places seats r p w →
    versions_of (records_of fs ds seats) r ≡ kept w ∷ []
come_here es fs cs ds places seats r p w h = versions_there fs ds seats r p h.here ∙ come_at es fs cs ds places seats r p w h

pub come_others : (es fs : List (Rid × ℕ)) (cs ds : Places) (places seats : List Seat) (r : Rid) (p : ℕ) (w : Version) → Comes es fs cs ds places seats r p w →
    OthersStay (records_of es cs places) (records_of fs ds seats) r
come_others es fs cs ds places seats r p w h q apart = ap (λ o. unwrap_or o []) (found fs ds seats q ∙ ap (option_map (versions_at ds seats)) (h.others q apart) ∙
    go (place_of es q) refl ∙ sym (found es cs places q))
  where
    go : (o : Option ℕ) → place_of es q ≡ o → option_map (versions_at ds seats) o ≡ option_map (versions_at cs places) o
    go None k = refl
    go (Some n) k = ap Some (come_apart es fs cs ds places seats r p w h q n k)

pub come_left : (es fs : List (Rid × ℕ)) (cs ds : Places) (places seats : List Seat) (r : Rid) (p : ℕ) (w : Version) → Comes es fs cs ds places seats r p w →
    left (records_of fs ds seats) ≡ left (records_of es cs places) + 1
come_left es fs cs ds places seats r p w h =
    let come = one_added (how_many ds seats) es r p h.new in
    let stay = sums_alike (how_many ds seats) (how_many cs places) es (each_entry (λ e. how_many ds seats e ≡ how_many cs places e) es (distinct es h.index)
    (λ q n k. ap (λ vs. length vs) (come_apart es fs cs ds places seats r p w h q n k))) in
    let here : how_many ds seats (r, p) ≡ 1 = ap (λ vs. length vs) (come_at es fs cs ds places seats r p w h) in
    ap (λ gs. left (records_of gs ds seats)) h.list ∙ omega (arith, left_is (insert_entry rid_cmp es r p) ds seats, left_is es cs places, come, stay, here)

pub come_whole : (es fs : List (Rid × ℕ)) (cs ds : Places) (places seats : List Seat) (r : Rid) (p : ℕ) (w : Version) → Comes es fs cs ds places seats r p w → AreWhole fs ds seats
come_whole es fs cs ds places seats r p w h =
    record {
      taken = λ q n k. taken q n k (same_rid r q) refl;
      named = λ n t. each_place (λ m. IsTaken seats m → (q : Rid) × (place_of fs q ≡ Some m)) p n (λ now. (r, h.here)) (λ apart now. owner n apart now) t;
      chained = λ n long. each_place (IsTaken seats) p n (given_taken places seats p h.given)
          (λ apart. taken_again places seats p h.given.others n apart (old.chained n (subst (λ vs. 0 < length vs) (h.lists n apart) long)));
      held = λ n all t. each_place (λ m. 0 < length (versions_at ds seats m)) p n long_here
          (λ apart. held_again cs ds places seats p h.lists h.given.others n apart (old.held n tt (before n apart t)));
      falls = λ n t. each_place (λ m. Falls (list_at ds m) (image_at seats m)) p n falls_here
          (λ apart. falls_again cs ds places seats p h.lists h.given.others n apart (old.falls n (before n apart t)));
      fits = λ n t. each_place (λ m. m < 2 ^ 32) p n h.fits (λ apart. old.fits n (before n apart t));
    }
  where
    old : AreWhole es cs places
    old = h.old

    before : (n : ℕ) → n ≢ p → IsTaken seats n → IsTaken places n
    before n apart t = taken_before places seats p h.given.others n apart t

    taken : (q : Rid) (n : ℕ) → place_of fs q ≡ Some n → (b : Bool) → same_rid r q ≡ b → IsTaken seats n
    taken q n k true same = subst (IsTaken seats) (same_Some p n (sym h.here ∙ sym (alike fs r q same) ∙ k)) (given_taken places seats p h.given)
    taken q n k false apart = let had = sym (h.others q apart) ∙ k in taken_again places seats p h.given.others n (unnamed es cs places q n p old h.given.was had) (old.taken q n had)

    apart_from : (q : Rid) (n : ℕ) → place_of es q ≡ Some n → same_rid r q ≡ false
    apart_from q n k = go (same_rid r q) refl
      where
        go : (b : Bool) → same_rid r q ≡ b → b ≡ false
        go false e = refl
        go true e = absurd (none-some n (sym h.new ∙ sym (alike es r q e) ∙ k))

    owner : (n : ℕ) → n ≢ p → IsTaken seats n → (q : Rid) × (place_of fs q ≡ Some n)
    owner n apart t = let q = old.named n (before n apart t) in (q.0, h.others q.0 (apart_from q.0 n q.1) ∙ q.1)

    long_here : 0 < length (versions_at ds seats p)
    long_here = subst (λ vs. 0 < length vs) (sym (come_at es fs cs ds places seats r p w h)) (omega arith)

    falls_here : Falls (list_at ds p) (image_at seats p)
    falls_here = subst (Falls (list_at ds p)) (sym (ap (λ seat. image_at (seat ∷ []) 0) h.given.now)) (record { over = all_over_none (list_at ds p); row = tt })

-- ---- each place has what it had

versions_alike : (cs ds : Places) (places seats : List Seat) → ListsAlike cs ds → AreAlike places seats → (n : ℕ) → versions_at ds seats n ≡ versions_at cs places n
versions_alike cs ds places seats lists stay n = λ i. whole (lists n i) (same_image places seats n (stay n) i)

pub records_stay : (es : List (Rid × ℕ)) (cs ds : Places) (places seats : List Seat) → ListsAlike cs ds → AreAlike places seats → records_of es ds seats ≡ records_of es cs places
records_stay [] cs ds places seats lists stay = refl
records_stay (e ∷ es) cs ds places seats lists stay = λ i. (e.0, versions_alike cs ds places seats lists stay e.1 i) ∷ records_stay es cs ds places seats lists stay i

pub stays_whole : (es : List (Rid × ℕ)) (cs ds : Places) (places seats : List Seat) → AreWhole es cs places → ListsAlike cs ds → AreAlike places seats → AreWhole es ds seats
stays_whole es cs ds places seats old lists stay =
    record {
      taken = λ q n k. again n (old.taken q n k);
      named = λ n t. old.named n (before n t);
      chained = λ n long. again n (old.chained n (subst (λ vs. 0 < length vs) (lists n) long));
      held = λ n all t. subst (λ vs. 0 < length vs) (sym (versions_alike cs ds places seats lists stay n)) (old.held n tt (before n t));
      falls = λ n t. subst (λ vs. Falls vs (image_at seats n)) (sym (lists n)) (subst (Falls (list_at cs n)) (sym (same_image places seats n (stay n))) (old.falls n (before n t)));
      fits = λ n t. old.fits n (before n t);
    }
  where
    again : (n : ℕ) → IsTaken places n → IsTaken seats n
    again n t = subst (λ seat. is_some seat ≡ true) (sym (stay n)) t

    before : (n : ℕ) → IsTaken seats n → IsTaken places n
    before n t = subst (λ seat. is_some seat ≡ true) (stay n) t

-- a version that was added, and taken back
pub taken_back : (cs ds bs : Places) (p : ℕ) (w : Version) → list_at cs p ≡ [] → list_at ds p ≡ w ∷ [] → ListsStay p cs ds → list_at bs p ≡ drop 1 (list_at ds p) → ListsStay p ds bs → ListsAlike cs bs
taken_back cs ds bs p w bare added before here after q = each_place (λ n. list_at bs n ≡ list_at cs n) p q (here ∙ ap (drop 1) added ∙ sym bare) (λ apart. after q apart ∙ before q apart)
