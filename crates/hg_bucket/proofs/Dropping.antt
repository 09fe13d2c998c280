-- A record that has lost its last version: it leaves the index, and its place is free.
use Rattle.std.proofs.Common.{◌≡◌, ℕ, ◌<◌, List, [], length, Bool, true, false, Option, Some, None, refl, sym, ap, ◌∙◌, subst, arith}
use Rattle.std.specs.Prelude.{◌≢◌, IsFalse, unwrap_or, option_map}
use Rattle.std.specs.Map.{remove_entry}
use Rattle.std.proofs.lemmas.Option.{none-some, same_Some}
use Rattle.hg_base.specs.declared.rid.Rid.{Rid}
use Rattle.hg_base.specs.History.{same_rid}
use Rattle.hg_chains.specs.Places.{Places, list_at}
use Rattle.hg_space.specs.Index.{place_of, IsIndex}
use Rattle.hg_space.specs.Places.{Seat, free, image_at, IsTaken}
use Rattle.hg_bucket.specs.BucketModel.{versions_of, left, OthersStay}
use Rattle.hg_bucket.specs.Parts.{whole, versions_at, records_of, seat_at, SeatsStay, AreWhole, MayBeBare}
use Rattle.hg_bucket.proofs.Reading.{found, alike, versions_there, no_versions}
use Rattle.hg_bucket.proofs.Seating.{not_taken}
use Rattle.hg_bucket.proofs.Turning.{place_apart, versions_stay, taken_again, taken_before, falls_again, held_again}
use Rattle.hg_bucket.proofs.Entries.{distinct, each_entry, each_removed, one_removed, sums_alike, left_is, how_many}

-- the record r has no version, and leaves the index and its place p
pub record Goes (r : Rid) (es fs : List (Rid × ℕ)) (cs : Places) (places seats : List Seat) (p : ℕ) : Type 0 where
  pub index : IsIndex es
  pub has : place_of es r ≡ Some p
  pub gone : place_of fs r ≡ None
  pub others : (q : Rid) → IsFalse (same_rid r q) → place_of fs q ≡ place_of es q
  pub list : fs ≡ remove_entry (same_rid r) es
  pub freed : seat_at seats p ≡ free
  pub stay : SeatsStay p places seats
  pub chain : list_at cs p ≡ []
  pub image : image_at places p ≡ None

apart_of : (r : Rid) (es fs : List (Rid × ℕ)) (cs : Places) (places seats : List Seat) (p : ℕ) → Goes r es fs cs places seats p → (q : Rid) (n : ℕ) → place_of fs q ≡ Some n → same_rid r q ≡ false
apart_of r es fs cs places seats p h q n k = go (same_rid r q) refl
  where
    go : (b : Bool) → same_rid r q ≡ b → b ≡ false
    go true same = absurd (none-some n (sym h.gone ∙ sym (alike fs r q same) ∙ k))
    go false apart = refl

-- the places of those that are left are other places
seat_apart_of : (r : Rid) (es fs : List (Rid × ℕ)) (cs : Places) (places seats : List Seat) (p : ℕ) → Goes r es fs cs places seats p → (q : Rid) (n : ℕ) → place_of es q ≡ Some n →
    same_rid r q ≡ false → n ≢ p
seat_apart_of r es fs cs places seats p h q n k apart = place_apart es r q p n h.index h.has k apart

pub gone_whole : (r : Rid) (es fs : List (Rid × ℕ)) (cs : Places) (places seats : List Seat) (p : ℕ) → MayBeBare p es cs places → Goes r es fs cs places seats p → AreWhole fs cs seats
gone_whole r es fs cs places seats p old h =
    record {
      taken = λ q n k. taken_again places seats p h.stay n (seat_apart_of r es fs cs places seats p h q n (was q n k) (apart_of r es fs cs places seats p h q n k)) (old.taken q n (was q n k));
      named = λ n t. let owner = old.named n (before n t) in (owner.0, h.others owner.0 (another owner.0 n t owner.1) ∙ owner.1);
      chained = λ n long. taken_again places seats p h.stay n (filled_apart n long) (old.chained n long);
      held = λ n all t. held_again cs cs places seats p (λ q apart. refl) h.stay n (other n t) (old.held n (other n t) (before n t));
      falls = λ n t. falls_again cs cs places seats p (λ q apart. refl) h.stay n (other n t) (old.falls n (before n t));
      fits = λ n t. old.fits n (before n t);
    }
  where
    was : (q : Rid) (n : ℕ) → place_of fs q ≡ Some n → place_of es q ≡ Some n
    was q n k = sym (h.others q (apart_of r es fs cs places seats p h q n k)) ∙ k

    other : (n : ℕ) → IsTaken seats n → n ≢ p
    other n t e = not_taken seats p h.freed (subst (IsTaken seats) e t)

    before : (n : ℕ) → IsTaken seats n → IsTaken places n
    before n t = taken_before places seats p h.stay n (other n t) t

    filled_apart : (n : ℕ) → 0 < length (list_at cs n) → n ≢ p
    filled_apart n long e = let none = ap (λ vs. length vs) (ap (list_at cs) e ∙ h.chain) in absurd (omega (arith, long, none))

    another : (q : Rid) (n : ℕ) → IsTaken seats n → place_of es q ≡ Some n → same_rid r q ≡ false
    another q n t k = go (same_rid r q) refl
      where
        go : (b : Bool) → same_rid r q ≡ b → b ≡ false
        go false e = refl
        go true e = absurd (other n t (same_Some n p (sym k ∙ alike es r q e ∙ h.has)))

pub gone_here : (r : Rid) (es fs : List (Rid × ℕ)) (cs : Places) (places seats : List Seat) (p : ℕ) → Goes r es fs cs places seats p →
    versions_of (records_of fs cs seats) r ≡ versions_of (records_of es cs places) r
gone_here r es fs cs places seats p h =
    no_versions fs cs seats r h.gone
    ∙ (λ i. whole (sym h.chain i) (sym h.image i))
    ∙ sym (versions_there es cs places r p h.has)

pub gone_others : (r : Rid) (es fs : List (Rid × ℕ)) (cs : Places) (places seats : List Seat) (p : ℕ) → Goes r es fs cs places seats p → OthersStay (records_of es cs places) (records_of fs cs seats) r
gone_others r es fs cs places seats p h q apart = ap (λ o. unwrap_or o []) (found fs cs seats q ∙ ap (option_map (versions_at cs seats)) (h.others q apart) ∙
    go (place_of es q) refl ∙ sym (found es cs places q))
  where
    go : (o : Option ℕ) → place_of es q ≡ o → option_map (versions_at cs seats) o ≡ option_map (versions_at cs places) o
    go None k = refl
    go (Some n) k = ap Some (versions_stay cs cs places seats p n (λ m other. refl) h.stay (seat_apart_of r es fs cs places seats p h q n k apart))

-- it leaves as many as there were
pub gone_left : (r : Rid) (es fs : List (Rid × ℕ)) (cs : Places) (places seats : List Seat) (p : ℕ) → Goes r es fs cs places seats p → left (records_of fs cs seats) ≡ left (records_of es cs places)
gone_left r es fs cs places seats p h =
    let d = distinct es h.index in
    let rest = remove_entry (same_rid r) es in
    let gone = one_removed (how_many cs places) es r p h.has in
    let stay = sums_alike (how_many cs seats) (how_many cs places) rest
    (each_removed r (λ e. how_many cs seats e ≡ how_many cs places e) es d (each_entry (λ e. same_rid r e.0 ≡ false → how_many cs seats e ≡ how_many cs places e) es d stays)) in
    let none : length (versions_at cs places p) ≡ 0 = (λ i. length (whole (h.chain i) (h.image i))) in
    ap (λ gs. left (records_of gs cs seats)) h.list ∙ omega (arith, left_is rest cs seats, left_is es cs places, gone, stay, none)
  where
    stays : (q : Rid) (n : ℕ) → place_of es q ≡ Some n → same_rid r q ≡ false → how_many cs seats (q, n) ≡ how_many cs places (q, n)
    stays q n k apart = ap (λ vs. length vs) (versions_stay cs cs places seats p n (λ m other. refl) h.stay (seat_apart_of r es fs cs places seats p h q n k apart))
