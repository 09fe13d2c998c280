-- What a sweep makes of a record whose place its table's list has at an index, as callers see it, and what it costs.
use Rattle.std.proofs.Common.{◌≡◌, ℕ, ◌+◌, ◌<◌, ◌≤◌, List, length, slice_get, Bool, true, false, Option, Some, None, set, not, sym, ap, ◌∙◌, subst}
use Rattle.std.specs.Prelude.{option_map, option_to_list}
use Rattle.std.specs.Bool.{OnFalse}
use Rattle.hg_base.specs.declared.rid.Rid.{Rid}
use Rattle.hg_base.specs.Lifetimes.{goes, MayStay}
use Rattle.hg_chains.specs.Places.{Places, list_at, OthersStay as ListsStay}
use Rattle.hg_chains.specs.Sweeps as chain
use Rattle.hg_chains.specs.Sweeps.{last_number, swept_away}
use Rattle.hg_space.specs.Index.{place_of, IsIndex}
use Rattle.hg_space.specs.Places.{Seat, taken, image_at}
use Rattle.hg_space.specs.declared.roster.Listed.{Listed}
use Rattle.hg_space.specs.Rosters.{list_of}
use Rattle.hg_bucket.specs.BucketModel.{Kept, keys_in, versions_of, left, OthersStay}
use Rattle.hg_bucket.specs.Sweeping.{swept, IsClean}
use Rattle.hg_bucket.specs.Parts.{Recorded, records_of, longs_of, AreKept, AreListed}
use Rattle.hg_bucket.proofs.Reading.{versions_there}
use Rattle.hg_bucket.proofs.Listing.{chain_stays, swept_some}
use Rattle.hg_bucket.proofs.Listed.{listed_at}
use Rattle.hg_bucket.proofs.Sweeps.{base_of}
use Rattle.hg_bucket.proofs.Sweeping.{Sweeps, IsSweep, keeps, drops, says}
use Rattle.hg_bucket.proofs.Costing.{cost_of, record_paid}

-- the record r is in its table's list at an index: at which place, with a chain
abbrev pub IsFound : List (Rid × ℕ) → Places → Rid → ℕ → Type 0
IsFound es cs r p = (place_of es r ≡ Some p) × (0 < length (list_at cs p))

pub found_at : (h : Recorded) (es : List (Rid × ℕ)) (cs : Places) (places : List Seat) (ls : List (List Listed)) (r : Rid) (p at : ℕ) → AreListed es cs ls →
    Path Recorded (record { records = records_of es cs places; long = longs_of ls }) h → slice_get (keys_in h.long r.table) at ≡ Some r.key →
    option_map (λ e. e.place) (slice_get (list_of ls r.table.0) at) ≡ Some p → IsFound es cs r p
found_at h es cs places ls r p at listed seen stands place = listed_at es cs ls r p at listed (ap (λ (x : Recorded). slice_get (keys_in x.long r.table) at) seen ∙ stands) place

-- what a chain's sweep says of its list of versions, where `base` is the number of the place's oldest image, and `many` went
pub record ChainSwept (horizon : ℕ) (xs : List ℕ) (cs ds : Places) (p : ℕ) (base : Option ℕ) (b : Bool) (many : ℕ) : Type 0 where
  pub left : list_at ds p ≡ chain.swept horizon xs (list_at cs p)
  pub others : ListsStay p cs ds
  pub base_gone : b ≡ goes horizon xs (last_number (list_at cs p)) base
  pub gone : many ≡ swept_away horizon xs (list_at cs p)
  pub clean : chain.IsClean horizon xs (list_at ds p)
  pub base_clean : OnFalse b (MayStay horizon xs (last_number (list_at ds p)) base)

-- what callers see: `old` are the records before, and `gone` versions went
pub record LongSwept (horizon : ℕ) (xs : List ℕ) (old : List (Rid × List Kept)) (es : List (Rid × ℕ)) (ds : Places) (seats : List Seat) (ls : List (List Listed)) (r : Rid) (gone : ℕ) : Type 0 where
  pub kept : AreKept es ds seats ls
  pub here : versions_of (records_of es ds seats) r ≡ swept horizon xs (versions_of old r)
  pub clean : IsClean horizon xs (versions_of (records_of es ds seats) r)
  pub others : OthersStay old (records_of es ds seats) r
  pub few : gone ≤ left old
  pub lost : length (versions_of (records_of es ds seats) r) + gone ≡ length (versions_of old r)
  pub left : left (records_of es ds seats) + gone ≡ left old

kept_sees : (horizon : ℕ) (xs : List ℕ) (old : List (Rid × List Kept)) (es : List (Rid × ℕ)) (cs ds : Places) (places seats : List Seat) (ls : List (List Listed)) (r : Rid) (p gone : ℕ) →
    AreListed es cs ls → records_of es cs places ≡ old → 0 < length (list_at cs p) → list_at ds p ≡ chain.swept horizon xs (list_at cs p) → ListsStay p cs ds →
    Sweeps horizon xs es cs ds places seats r gone → LongSwept horizon xs old es ds seats ls r gone
kept_sees horizon xs old es cs ds places seats ls r p gone listed seen some is stay s = record {
  kept = record { whole = s.whole; listed = chain_stays es cs ds ls p listed stay some (subst (λ vs. 0 < length vs) (sym is) (swept_some horizon xs (list_at cs p) some)) };
  here = s.here ∙ ap (λ h. swept horizon xs (versions_of h r)) seen;
  clean = s.clean;
  others = subst (λ h. OthersStay h (records_of es ds seats) r) seen s.others;
  few = subst (λ h. gone ≤ left h) seen s.few;
  lost = s.lost ∙ ap (λ h. length (versions_of h r)) seen;
  left = s.left ∙ ap left seen;
}

said_of : (horizon : ℕ) (xs : List ℕ) (cs ds : Places) (places : List Seat) (p : ℕ) (base : Option ℕ) (b : Bool) (gone : ℕ) → base ≡ base_of (image_at places p) →
    ChainSwept horizon xs cs ds p base b gone → IsSweep horizon xs (list_at cs p) (image_at places p) b gone
said_of horizon xs cs ds places p base b gone number s =
    says horizon xs (list_at cs p) (image_at places p) base b gone number s.base_gone s.gone (subst (chain.IsClean horizon xs) s.left s.clean)
    (subst (λ us. OnFalse b (MayStay horizon xs (last_number us) base)) s.left s.base_clean)

-- the oldest image stays
pub long_keeps : (horizon : ℕ) (xs : List ℕ) (h : Recorded) (es : List (Rid × ℕ)) (cs ds : Places) (places : List Seat) (ls : List (List Listed)) (r : Rid) (p : ℕ) (base : Option ℕ)
    (b : Bool) (gone : ℕ) → IsIndex es → AreKept es cs places ls → Path Recorded (record { records = records_of es cs places; long = longs_of ls }) h → IsFound es cs r p →
    base ≡ base_of (image_at places p) → ChainSwept horizon xs cs ds p base b gone → not b ≡ true → LongSwept horizon xs h.records es ds places ls r gone
long_keeps horizon xs h es cs ds places ls r p base b gone index kept seen found number s stays =
    kept_sees horizon xs h.records es cs ds places places ls r p gone kept.listed (ap (λ (x : Recorded). x.records) seen) found.1 s.left s.others
    (keeps horizon xs es cs ds places r p b gone index kept.whole found.0 s.left s.others (said_of horizon xs cs ds places p base b gone number s) stays)

-- it goes too
pub long_drops : (horizon : ℕ) (xs : List ℕ) (h : Recorded) (es : List (Rid × ℕ)) (cs ds : Places) (places seats : List Seat) (ls : List (List Listed)) (r : Rid) (p : ℕ)
    (base : Option ℕ) (b : Bool) (gone : ℕ) → IsIndex es → AreKept es cs places ls → Path Recorded (record { records = records_of es cs places; long = longs_of ls }) h → IsFound es cs r p →
    base ≡ base_of (image_at places p) → ChainSwept horizon xs cs ds p base b gone → not b ≡ false → seats ≡ set places p (taken None) →
    LongSwept horizon xs h.records es ds seats ls r (gone + 1)
long_drops horizon xs h es cs ds places seats ls r p base b gone index kept seen found number s goes_too seated =
    kept_sees horizon xs h.records es cs ds places seats ls r p (gone + 1) kept.listed (ap (λ (x : Recorded). x.records) seen) found.1 s.left s.others
    (drops horizon xs es cs ds places seats r p b gone index kept.whole found.0 s.left s.others (said_of horizon xs cs ds places p base b gone number s) goes_too seated)

-- and what it costs, where a sweep of the chain costs its versions, the oldest image and the snapshots
pub long_paid : (n before after : ℕ) (h : Recorded) (es : List (Rid × ℕ)) (cs : Places) (places : List Seat) (ls : List (List Listed)) (r : Rid) (p : ℕ) (base : Option ℕ) →
    Path Recorded (record { records = records_of es cs places; long = longs_of ls }) h → IsFound es cs r p → base ≡ base_of (image_at places p) →
    after ≤ before + length (list_at cs p) + length (option_to_list base) + n → after ≤ before + cost_of n (versions_of h.records r)
long_paid n before after h es cs places ls r p base seen found number cost =
    let there = sym (versions_there es cs places r p found.0) ∙ ap (λ (x : Recorded). versions_of x.records r) seen in
    subst (λ vs. after ≤ before + cost_of n vs) there
    (record_paid n before after (list_at cs p) (image_at places p) found.1 (subst (λ (o : Option ℕ). after ≤ before + length (list_at cs p) + length (option_to_list o) + n) number cost))
