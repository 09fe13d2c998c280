-- One record's chain and oldest image change, and its place stays.
use Rattle.std.proofs.Common.{◌≡◌, ℕ, ◌+◌, ◌<◌, List, [], ◌∷◌, length, true, false, Option, Some, None, refl, sym, ap, ◌∙◌, subst, arith}
use Rattle.std.specs.Prelude.{◌≢◌, IsSome, is_some, unwrap_or, option_map}
use Rattle.hg_base.specs.declared.rid.Rid.{Rid}
use Rattle.hg_base.specs.History.{same_rid}
use Rattle.hg_chains.specs.declared.version.Version.{Version}
use Rattle.hg_chains.specs.Places.{Places, list_at, OthersStay as ListsStay}
use Rattle.hg_space.specs.Index.{place_of, IsIndex}
use Rattle.hg_space.specs.Places.{Seat, Oldest, taken, image_at, IsTaken}
use Rattle.hg_bucket.specs.BucketModel.{versions_of, left, OthersStay}
use Rattle.hg_bucket.specs.Parts.{whole, versions_at, records_of, seat_at, SeatsStay, Falls, AreWhole, MayBeBare}
use Rattle.hg_bucket.proofs.Reading.{found, versions_there}
use Rattle.hg_bucket.proofs.Seating.{each_place, same_image}
use Rattle.hg_bucket.proofs.Entries.{distinct, each_entry, one_changed, left_is, how_many}

-- the record r has the place p, where now the chain ws and the oldest image im stand
pub record Turns (es : List (Rid × ℕ)) (cs ds : Places) (places seats : List Seat) (r : Rid) (p : ℕ) (ws : List Version) (im : Oldest) : Type 0 where
  pub index : IsIndex es
  pub has : place_of es r ≡ Some p
  pub chain : list_at ds p ≡ ws
  pub lists : ListsStay p cs ds
  pub seat : seat_at seats p ≡ taken im
  pub stay : SeatsStay p places seats

-- another record has another place
pub place_apart : (es : List (Rid × ℕ)) (r q : Rid) (p n : ℕ) → IsIndex es → place_of es r ≡ Some p → place_of es q ≡ Some n → same_rid r q ≡ false → n ≢ p
place_apart es r q p n index has k apart e =
    let same : same_rid r q ≡ true = index.distinct r q p has (k ∙ ap Some e) in
    let both : true ≡ false = sym same ∙ apart in
    absurd cc

-- the versions at each place but one stay
pub versions_stay : (cs ds : Places) (places seats : List Seat) (p n : ℕ) → ListsStay p cs ds → SeatsStay p places seats → n ≢ p → versions_at ds seats n ≡ versions_at cs places n
versions_stay cs ds places seats p n lists stay apart = λ i. whole (lists n apart i) (same_image places seats n (stay n apart) i)

pub turned_at : (es : List (Rid × ℕ)) (cs ds : Places) (places seats : List Seat) (r : Rid) (p : ℕ) (ws : List Version) (im : Oldest) → Turns es cs ds places seats r p ws im →
    versions_at ds seats p ≡ whole ws im
turned_at es cs ds places seats r p ws im h = λ i. whole (h.chain i) (image i)
  where
    image : image_at seats p ≡ im
    image = ap (λ seat. image_at (seat ∷ []) 0) h.seat

pub turned_here : (es : List (Rid × ℕ)) (cs ds : Places) (places seats : List Seat) (r : Rid) (p : ℕ) (ws : List Version) (im : Oldest) → Turns es cs ds places seats r p ws im →
    versions_of (records_of es ds seats) r ≡ whole ws im
turned_here es cs ds places seats r p ws im h = versions_there es ds seats r p h.has ∙ turned_at es cs ds places seats r p ws im h

pub turned_others : (es : List (Rid × ℕ)) (cs ds : Places) (places seats : List Seat) (r : Rid) (p : ℕ) (ws : List Version) (im : Oldest) → Turns es cs ds places seats r p ws im →
    OthersStay (records_of es cs places) (records_of es ds seats) r
turned_others es cs ds places seats r p ws im h q apart = ap (λ o. unwrap_or o []) (found es ds seats q ∙ go (place_of es q) refl ∙ sym (found es cs places q))
  where
    go : (o : Option ℕ) → place_of es q ≡ o → option_map (versions_at ds seats) o ≡ option_map (versions_at cs places) o
    go None k = refl
    go (Some n) k = ap Some (versions_stay cs ds places seats p n h.lists h.stay (place_apart es r q p n h.index h.has k apart))

pub turned_left : (es : List (Rid × ℕ)) (cs ds : Places) (places seats : List Seat) (r : Rid) (p : ℕ) (ws : List Version) (im : Oldest) → Turns es cs ds places seats r p ws im →
    left (records_of es ds seats) + length (versions_at cs places p) ≡ left (records_of es cs places) + length (whole ws im)
turned_left es cs ds places seats r p ws im h =
    let d = distinct es h.index in
    let same = one_changed (how_many ds seats) (how_many cs places) es r p d h.has (each_entry (λ e. same_rid r e.0 ≡ false → how_many ds seats e ≡ how_many cs places e) es d stays) in
    let now : how_many ds seats (r, p) ≡ length (whole ws im) = ap (λ vs. length vs) (turned_at es cs ds places seats r p ws im h) in
    omega (arith, left_is es ds seats, left_is es cs places, same, now)
  where
    stays : (q : Rid) (n : ℕ) → place_of es q ≡ Some n → same_rid r q ≡ false → how_many ds seats (q, n) ≡ how_many cs places (q, n)
    stays q n k apart = ap (λ vs. length vs) (versions_stay cs ds places seats p n h.lists h.stay (place_apart es r q p n h.index h.has k apart))

-- ---- what is always so, where the record may have no version left

-- what is so at each place but one is so still
pub taken_again : (places seats : List Seat) (p : ℕ) → SeatsStay p places seats → (n : ℕ) → n ≢ p → IsTaken places n → IsTaken seats n
taken_again places seats p stay n apart t = subst IsSome (sym (stay n apart)) t

pub taken_before : (places seats : List Seat) (p : ℕ) → SeatsStay p places seats → (n : ℕ) → n ≢ p → IsTaken seats n → IsTaken places n
taken_before places seats p stay n apart t = subst IsSome (stay n apart) t

pub falls_again : (cs ds : Places) (places seats : List Seat) (p : ℕ) → ListsStay p cs ds → SeatsStay p places seats → (n : ℕ) → n ≢ p → Falls (list_at cs n) (image_at places n) →
    Falls (list_at ds n) (image_at seats n)
falls_again cs ds places seats p lists stay n apart f = subst (λ vs. Falls vs (image_at seats n)) (sym (lists n apart))
    (subst (Falls (list_at cs n)) (sym (same_image places seats n (stay n apart))) f)

pub held_again : (cs ds : Places) (places seats : List Seat) (p : ℕ) → ListsStay p cs ds → SeatsStay p places seats → (n : ℕ) → n ≢ p → 0 < length (versions_at cs places n) →
    0 < length (versions_at ds seats n)
held_again cs ds places seats p lists stay n apart long = subst (λ vs. 0 < length vs) (sym (versions_stay cs ds places seats p n lists stay apart)) long

pub turned : (es : List (Rid × ℕ)) (cs ds : Places) (places seats : List Seat) (r : Rid) (p : ℕ) (ws : List Version) (im : Oldest) → AreWhole es cs places →
    Turns es cs ds places seats r p ws im → Falls ws im → MayBeBare p es ds seats
turned es cs ds places seats r p ws im old h falls =
    record {
      taken = λ q n k. each_place (IsTaken seats) p n here (λ apart. taken_again places seats p h.stay n apart (old.taken q n k));
      named = λ n t. old.named n (was n t);
      chained = λ n long. each_place (IsTaken seats) p n here (λ apart. taken_again places seats p h.stay n apart (old.chained n (subst (λ vs. 0 < length vs) (h.lists n apart) long)));
      held = λ n apart t. held_again cs ds places seats p h.lists h.stay n apart (old.held n tt (was n t));
      falls = λ n t. each_place (λ m. Falls (list_at ds m) (image_at seats m)) p n falls_here (λ apart. falls_again cs ds places seats p h.lists h.stay n apart (old.falls n (was n t)));
      fits = λ n t. old.fits n (was n t);
    }
  where
    here : IsTaken seats p
    here = ap is_some h.seat

    was : (n : ℕ) → IsTaken seats n → IsTaken places n
    was n t = each_place (IsTaken places) p n (old.taken r p h.has) (λ apart. taken_before places seats p h.stay n apart t)

    falls_here : Falls (list_at ds p) (image_at seats p)
    falls_here = subst (λ vs. Falls vs (image_at seats p)) (sym h.chain) (subst (Falls ws) (sym (ap (λ seat. image_at (seat ∷ []) 0) h.seat)) falls)

-- there is one
pub filled : (p : ℕ) (es : List (Rid × ℕ)) (cs : Places) (places : List Seat) → MayBeBare p es cs places → 0 < length (versions_at cs places p) → AreWhole es cs places
filled p es cs places h some = record {
  taken = h.taken;
  named = h.named;
  chained = h.chained;
  held = λ n all t. each_place (λ m. 0 < length (versions_at cs places m)) p n some
      (λ apart. h.held n apart t);
  falls = h.falls;
  fits = h.fits;
}

pub turned_whole : (es : List (Rid × ℕ)) (cs ds : Places) (places seats : List Seat) (r : Rid) (p : ℕ) (ws : List Version) (im : Oldest) → AreWhole es cs places →
    Turns es cs ds places seats r p ws im → Falls ws im → 0 < length (whole ws im) → AreWhole es ds seats
turned_whole es cs ds places seats r p ws im old h falls some = filled p es ds seats (turned es cs ds places seats r p ws im old h falls)
    (subst (λ vs. 0 < length vs) (sym (turned_at es cs ds places seats r p ws im h)) some)

-- the chain is now ws, and the place has what it had
pub kept_turns : (es : List (Rid × ℕ)) (cs ds : Places) (places : List Seat) (r : Rid) (p : ℕ) (ws : List Version) → IsIndex es → AreWhole es cs places → place_of es r ≡ Some p →
    list_at ds p ≡ ws → ListsStay p cs ds → Turns es cs ds places places r p ws (image_at places p)
kept_turns es cs ds places r p ws index old has is lists = record { index = index; has = has; chain = is; lists = lists; seat = same (seat_at places p) (old.taken r p has); stay = λ q apart. refl }
  where
    same : (seat : Seat) → IsSome seat → seat ≡ taken (image_at (seat ∷ []) 0)
    same None t = absurd (let k = t in cc)
    same (Some im) t = refl
