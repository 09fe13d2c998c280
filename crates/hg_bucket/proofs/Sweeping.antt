-- What a sweep makes of a record, in the parts.
use Rattle.std.proofs.Common.{◌≡◌, ℕ, ◌+◌, ◌<◌, ◌≤◌, List, length, Bool, true, false, Option, Some, None, sym, ap, ◌∙◌, cond, subst, set, not, arith}
use Rattle.std.specs.Bool.{OnFalse}
use Rattle.hg_base.specs.declared.rid.Rid.{Rid}
use Rattle.hg_chains.specs.declared.version.Version.{Version}
use Rattle.hg_chains.specs.Places.{Places, list_at, OthersStay as ListsStay}
use Rattle.hg_chains.specs.Sweeps as chain
use Rattle.hg_chains.specs.Sweeps.{last_number, swept_away}
use Rattle.hg_base.specs.Lifetimes.{goes, MayStay}
use Rattle.hg_space.specs.Index.{place_of, IsIndex}
use Rattle.hg_space.specs.Places.{Seat, Oldest, taken, image_at}
use Rattle.hg_bucket.specs.BucketModel.{versions_of, left, OthersStay}
use Rattle.hg_bucket.specs.Sweeping.{swept, IsClean}
use Rattle.hg_bucket.specs.Parts.{whole, records_of, AreWhole, IsRow, Falls}
use Rattle.hg_bucket.proofs.Reading.{versions_there}
use Rattle.hg_bucket.proofs.Turning.{Turns, turned_here, turned_others, turned_left, turned_whole, kept_turns}
use Rattle.hg_bucket.proofs.Bare.{not_true, not_false}
use Rattle.hg_bucket.proofs.Shortening.{set_turns}
use Rattle.hg_bucket.proofs.Sweeps.{base_of, less_base, whole_swept, whole_clean, swept_gone, swept_over, some_left}

-- what chain and place say of a sweep: b tells whether the oldest image goes, and gone how many versions of the chain
pub record IsSweep (horizon : ℕ) (xs : List ℕ) (vs : List Version) (im : Oldest) (b : Bool) (gone : ℕ) : Type 0 where
  pub base : b ≡ goes horizon xs (last_number vs) (base_of im)
  pub many : gone ≡ swept_away horizon xs vs
  pub clean : chain.IsClean horizon xs (chain.swept horizon xs vs)
  pub base_clean : OnFalse b (MayStay horizon xs (last_number (chain.swept horizon xs vs)) (base_of im))

pub record Sweeps (horizon : ℕ) (xs : List ℕ) (es : List (Rid × ℕ)) (cs ds : Places) (places seats : List Seat) (r : Rid) (gone : ℕ) : Type 0 where
  pub whole : AreWhole es ds seats
  pub here : versions_of (records_of es ds seats) r ≡ swept horizon xs (versions_of (records_of es cs places) r)
  pub clean : IsClean horizon xs (versions_of (records_of es ds seats) r)
  pub others : OthersStay (records_of es cs places) (records_of es ds seats) r
  pub few : gone ≤ left (records_of es cs places)
  pub lost : length (versions_of (records_of es ds seats) r) + gone ≡ length (versions_of (records_of es cs places) r)
  pub left : left (records_of es ds seats) + gone ≡ left (records_of es cs places)

row_left : (im : Oldest) (b : Bool) → IsRow im → IsRow (less_base b im)
row_left im true row = tt
row_left im false row = row

pub sweeps : (horizon : ℕ) (xs : List ℕ) (es : List (Rid × ℕ)) (cs ds : Places) (places seats : List Seat) (r : Rid) (p : ℕ) (b : Bool) (gone : ℕ) → AreWhole es cs places →
    IsSweep horizon xs (list_at cs p) (image_at places p) b gone → Turns es cs ds places seats r p (chain.swept horizon xs (list_at cs p)) (less_base b (image_at places p)) →
    Sweeps horizon xs es cs ds places seats r (gone + cond {A = ℕ} b 1 0)
sweeps horizon xs es cs ds places seats r p b gone old s turns =
    record {
      whole = turned_whole es cs ds places seats r p ws to old turns (record { over = swept_over horizon xs vs im b falls.over; row = row_left im b falls.row })
          (subst (λ us. 0 < length us) (sym here ∙ now) some);
      here = here;
      clean = subst (IsClean horizon xs) (sym now) (whole_clean horizon xs ws im b s.clean s.base_clean);
      others = turned_others es cs ds places seats r p ws to turns;
      left = omega (arith, turned_left es cs ds places seats r p ws to turns, many);
      few = omega (arith, turned_left es cs ds places seats r p ws to turns, many);
      lost = (λ i. length (now i) + (gone + cond {A = ℕ} b 1 0)) ∙ many ∙ (λ i. length (sym there i));
    }
  where
    vs : List Version
    vs = list_at cs p

    ws : List Version
    ws = chain.swept horizon xs vs

    im : Oldest
    im = image_at places p

    falls : Falls vs im
    falls = old.falls p (old.taken r p turns.has)

    to : Oldest
    to = less_base b im

    there : versions_of (records_of es cs places) r ≡ whole vs im
    there = versions_there es cs places r p turns.has

    now : versions_of (records_of es ds seats) r ≡ whole ws to
    now = turned_here es cs ds places seats r p ws to turns

    here : versions_of (records_of es ds seats) r ≡ swept horizon xs (versions_of (records_of es cs places) r)
    here = now ∙ ap (λ c. whole ws (less_base c im)) s.base ∙ sym (whole_swept horizon xs vs im) ∙ ap (swept horizon xs) (sym there)

    some : 0 < length (swept horizon xs (versions_of (records_of es cs places) r))
    some = some_left horizon xs (versions_of (records_of es cs places) r) (subst (λ us. 0 < length us) (sym there) (old.held p tt (old.taken r p turns.has)))

    many : length (whole ws to) + (gone + cond {A = ℕ} b 1 0) ≡ length (whole vs im)
    many = ap (λ g. length (whole ws to) + (g + cond {A = ℕ} b 1 0)) s.many ∙ swept_gone horizon xs vs im b s.base

-- the oldest image stays
pub keeps : (horizon : ℕ) (xs : List ℕ) (es : List (Rid × ℕ)) (cs ds : Places) (places : List Seat) (r : Rid) (p : ℕ) (b : Bool) (gone : ℕ) → IsIndex es → AreWhole es cs places →
    place_of es r ≡ Some p → list_at ds p ≡ chain.swept horizon xs (list_at cs p) → ListsStay p cs ds → IsSweep horizon xs (list_at cs p) (image_at places p) b gone →
    not b ≡ true → Sweeps horizon xs es cs ds places places r gone
keeps horizon xs es cs ds places r p b gone index old has is lists s k =
    let e = not_true b k in
    let ws = chain.swept horizon xs (list_at cs p) in
    let im = image_at places p in
    let turns = subst (λ c. Turns es cs ds places places r p ws (less_base c im)) (sym e) (kept_turns es cs ds places r p ws index old has is lists) in
    let many : gone + cond {A = ℕ} b 1 0 ≡ gone = ap (λ c. gone + cond {A = ℕ} c 1 0) e ∙ omega arith in
    subst (Sweeps horizon xs es cs ds places places r) many (sweeps horizon xs es cs ds places places r p b gone old s turns)

-- it goes too
pub drops : (horizon : ℕ) (xs : List ℕ) (es : List (Rid × ℕ)) (cs ds : Places) (places seats : List Seat) (r : Rid) (p : ℕ) (b : Bool) (gone : ℕ) → IsIndex es →
    AreWhole es cs places → place_of es r ≡ Some p → list_at ds p ≡ chain.swept horizon xs (list_at cs p) → ListsStay p cs ds →
    IsSweep horizon xs (list_at cs p) (image_at places p) b gone → not b ≡ false → seats ≡ set places p (taken None) → Sweeps horizon xs es cs ds places seats r (gone + 1)
drops horizon xs es cs ds places seats r p b gone index old has is lists s k seated =
    let e = not_false b k in
    let ws = chain.swept horizon xs (list_at cs p) in
    let im = image_at places p in
    let turns = subst (λ c. Turns es cs ds places seats r p ws (less_base c im)) (sym e) (set_turns es cs ds places seats r p ws None index old has is lists seated) in
    let many : gone + cond {A = ℕ} b 1 0 ≡ gone + 1 = ap (λ c. gone + cond {A = ℕ} c 1 0) e in
    subst (Sweeps horizon xs es cs ds places seats r) many (sweeps horizon xs es cs ds places seats r p b gone old s turns)

-- by what the chain's sweep says of the oldest image's number
pub says : (horizon : ℕ) (xs : List ℕ) (vs : List Version) (im : Oldest) (base : Option ℕ) (b : Bool) (gone : ℕ) → base ≡ base_of im → b ≡ goes horizon xs (last_number vs) base →
    gone ≡ swept_away horizon xs vs → chain.IsClean horizon xs (chain.swept horizon xs vs) → OnFalse b (MayStay horizon xs (last_number (chain.swept horizon xs vs)) base) →
    IsSweep horizon xs vs im b gone
says horizon xs vs im base b gone number goes_too many clean base_clean =
    record {
      base = goes_too ∙ ap (goes horizon xs (last_number vs)) number;
      many = many;
      clean = clean;
      base_clean = subst (λ n. OnFalse b (MayStay horizon xs (last_number (chain.swept horizon xs vs)) n)) number base_clean;
    }
