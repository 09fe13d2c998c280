-- What a cut makes of a record, in the parts.
use Rattle.std.proofs.Common.{◌≡◌, ℕ, ◌+◌, ◌<◌, ◌≤◌, List, [], ◌∷◌, length, Bool, true, false, Some, None, sym, ap, ◌∙◌, cond, subst, set, arith}
use Rattle.std.specs.Prelude.{is_some, unwrap_or}
use Rattle.std.specs.Map.{lookup}
use Rattle.std.proofs.lemmas.List.Sums.{sum_by-cons}
use Rattle.hg_base.specs.declared.rid.Rid.{Rid}
use Rattle.hg_base.specs.declared.image.Image.{Image}
use Rattle.hg_base.specs.History.{same_rid}
use Rattle.hg_chains.specs.declared.version.Version.{Version}
use Rattle.hg_chains.specs.Versions as chain
use Rattle.hg_chains.specs.Places.{Places, list_at, OthersStay as ListsStay}
use Rattle.hg_space.specs.Index.{place_of, IsIndex}
use Rattle.hg_space.specs.Places.{Seat, Oldest, taken, image_at}
use Rattle.hg_bucket.specs.BucketModel.{Kept, versions_of, left, cut_at, OthersStay}
use Rattle.hg_bucket.specs.Parts.{whole, settled, records_of, seat_at, AreWhole, MayBeBare, Falls}
use Rattle.hg_bucket.proofs.Reading.{versions_there}
use Rattle.hg_bucket.proofs.Seating.{seat_apart, seat_here}
use Rattle.hg_bucket.proofs.Turning.{Turns, turned_at, turned_here, turned_others, turned_left, turned, filled, kept_turns}
use Rattle.hg_bucket.proofs.Cutting.{none_at, cut_is, cut_over, cut_row, cut_gone}

-- no record has more versions than are held
pub held_at_most : (records : List (Rid × List Kept)) (r : Rid) → length (versions_of records r) ≤ left records
held_at_most [] r = omega arith
held_at_most (e ∷ records) r = go (same_rid r e.0) (held_at_most records r)
  where
    go : (b : Bool) → length (versions_of records r) ≤ left records → length (unwrap_or (cond b (Some e.1) (lookup (same_rid r) records)) []) ≤ left (e ∷ records)
    go true h = omega (arith, sum_by-cons (λ (x : Rid × List Kept). length x.1) e records)
    go false h = omega (arith, h, sum_by-cons (λ (x : Rid × List Kept). length x.1) e records)

-- ---- the chain is now ws, and the place has im

pub set_turns : (es : List (Rid × ℕ)) (cs ds : Places) (places seats : List Seat) (r : Rid) (p : ℕ) (ws : List Version) (im : Oldest) → IsIndex es → AreWhole es cs places →
    place_of es r ≡ Some p → list_at ds p ≡ ws → ListsStay p cs ds → seats ≡ set places p (taken im) → Turns es cs ds places seats r p ws im
set_turns es cs ds places seats r p ws im index old has is lists seated =
    record {
      index = index;
      has = has;
      chain = is;
      lists = lists;
      seat = ap (λ ps. seat_at ps p) seated ∙ seat_here places p (taken im) (old.taken r p has);
      stay = λ q apart. ap (λ ps. seat_at ps q) seated ∙ seat_apart places p q (taken im) apart;
    }

-- ---- a cut

pub record Cuts (bound : ℕ) (es : List (Rid × ℕ)) (cs ds : Places) (places seats : List Seat) (r : Rid) (p : ℕ) : Type 0 where
  pub bare : MayBeBare p es ds seats
  pub here : versions_of (records_of es ds seats) r ≡ cut_at bound (versions_of (records_of es cs places) r)
  pub others : OthersStay (records_of es cs places) (records_of es ds seats) r
  pub left : left (records_of es ds seats) + length (versions_of (records_of es cs places) r) ≡ left (records_of es cs places) + length (versions_of (records_of es ds seats) r)

pub cuts : (bound : ℕ) (es : List (Rid × ℕ)) (cs ds : Places) (places seats : List Seat) (r : Rid) (p : ℕ) (newest : Oldest) → AreWhole es cs places →
    newest ≡ chain.oldest_at bound (list_at cs p) → Turns es cs ds places seats r p (chain.left_by bound (list_at cs p)) (settled newest (image_at places p)) → Cuts bound es cs ds places seats r p
cuts bound es cs ds places seats r p newest old at turns =
    let vs = list_at cs p in
    let ws = chain.left_by bound vs in
    let im = image_at places p in
    let falls = old.falls p (old.taken r p turns.has) in
    let there = versions_there es cs places r p turns.has in
    let here = turned_here es cs ds places seats r p ws (settled newest im) turns in
    record {
      bare = turned es cs ds places seats r p ws (settled newest im) old turns
          (subst (λ o. Falls ws (settled o im)) (sym at) (record { over = cut_over bound vs im falls.over; row = cut_row bound vs im falls.row }));
      here = here ∙ ap (λ o. whole ws (settled o im)) at ∙ sym (cut_is bound vs im falls.over falls.row) ∙ ap (cut_at bound) (sym there);
      others = turned_others es cs ds places seats r p ws (settled newest im) turns;
      left = (λ i. left (records_of es ds seats) + length (there i)) ∙ turned_left es cs ds places seats r p ws (settled newest im) turns ∙ (λ i. left (records_of es cs places) + length (sym here i));
    }

-- where the chain has no version at the bound, nothing goes
pub record Stays (bound : ℕ) (es : List (Rid × ℕ)) (cs ds : Places) (places : List Seat) (r : Rid) : Type 0 where
  pub whole : AreWhole es ds places
  pub here : versions_of (records_of es ds places) r ≡ cut_at bound (versions_of (records_of es cs places) r)
  pub others : OthersStay (records_of es cs places) (records_of es ds places) r
  pub same : versions_of (records_of es ds places) r ≡ versions_of (records_of es cs places) r
  pub left : left (records_of es ds places) ≡ left (records_of es cs places)

pub stays : (bound : ℕ) (es : List (Rid × ℕ)) (cs ds : Places) (places : List Seat) (r : Rid) (p : ℕ) → IsIndex es → AreWhole es cs places → place_of es r ≡ Some p →
    None ≡ chain.oldest_at bound (list_at cs p) → list_at ds p ≡ chain.left_by bound (list_at cs p) → ListsStay p cs ds → Stays bound es cs ds places r
stays bound es cs ds places r p index old has at is lists =
    let vs = list_at cs p in
    let ws = chain.left_by bound vs in
    let im = image_at places p in
    let turns = kept_turns es cs ds places r p ws index old has is lists in
    let done = cuts bound es cs ds places places r p None old at turns in
    let none : ws ≡ vs = none_at bound vs (sym at) in
    let same : versions_of (records_of es ds places) r ≡ versions_of (records_of es cs places) r = turned_here es cs ds places places r p ws im turns ∙
    ap (λ us. whole us im) none ∙ sym (versions_there es cs places r p has) in
    let long = ap (λ us. length us) same in
    record {
      whole = filled p es ds places done.bare (subst (λ us. 0 < length us) (ap (λ us. whole us im) (sym none) ∙ sym (turned_at es cs ds places places r p ws im turns))
          (old.held p tt (old.taken r p has)));
      here = done.here;
      others = done.others;
      same = same;
      left = omega (arith, long, done.left);
    }

pub cuts_gone : (bound : ℕ) (es : List (Rid × ℕ)) (cs ds : Places) (places seats : List Seat) (r : Rid) (p : ℕ) (newest : ℕ × Image) (gone more : ℕ) →
    Turns es cs ds places seats r p (chain.left_by bound (list_at cs p)) (settled (Some newest) (image_at places p)) →
    Path Oldest (Some newest) (chain.oldest_at bound (list_at cs p)) → gone ≡ chain.others_at bound (list_at cs p) →
    more ≡ cond {A = ℕ} (is_some (image_at places p)) 1 0 + cond {A = ℕ} (is_some newest.1.row) 0 1 →
    length (versions_of (records_of es ds seats) r) + (gone + more) ≡ length (versions_of (records_of es cs places) r)
cuts_gone bound es cs ds places seats r p newest gone more turns at g m =
    let vs = list_at cs p in
    let im = image_at places p in
    let now = ap (λ (us : List Kept). length us) (turned_here es cs ds places seats r p (chain.left_by bound vs) (settled (Some newest) im) turns) in
    let was = ap (λ (us : List Kept). length us) (versions_there es cs places r p turns.has) in
    omega (arith, now, was, cut_gone bound vs im newest gone more (sym at) g m)
