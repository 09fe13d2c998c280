-- A write: when it is refused, and what it makes of a record.
use Rattle.std.proofs.Common.{◌≡◌, ℕ, ◌+◌, List, [], ◌∷◌, length, Bool, true, false, Option, Some, None, refl, sym, ap, ◌∙◌, cond, drop, not, arith}
use Rattle.std.specs.Prelude.{IsTrue, IsSome, is_some, option_map, option_and_then, nat_lt, ◌||◌}
use Rattle.std.specs.Option.{option_or}
use Rattle.std.proofs.lemmas.Option.{none-some, same_Some}
use Rattle.hg_base.specs.declared.rid.Rid.{Rid}
use Rattle.hg_base.specs.declared.image.Image.{Image}
use Rattle.hg_base.specs.declared.writer.Writer.{Writer}
use Rattle.hg_base.specs.Lists.{Each}
use Rattle.hg_chains.specs.declared.version.Stamp.{Stamp}
use Rattle.hg_chains.specs.declared.version.Stamp.TheVariants.{Written, Numbered}
use Rattle.hg_chains.specs.declared.version.Version.{Version}
use Rattle.hg_chains.specs.Versions as chain
use Rattle.hg_chains.specs.Places.{Places, list_at, OthersStay as ListsStay}
use Rattle.hg_space.specs.Index.{place_of, IsIndex}
use Rattle.hg_space.specs.Places.{Seat, Oldest, image_at}
use Rattle.hg_bucket.specs.declared.refusal.WriteRefusal.{WriteRefusal}
use Rattle.hg_bucket.specs.declared.refusal.WriteRefusal.TheVariants.{Newer}
use Rattle.hg_base.specs.History.{same_writer}
use Rattle.hg_bucket.specs.BucketModel.{Kept, versions_of, left, begins_open, is_open_by, installed, OthersStay}
use Rattle.hg_bucket.specs.Conflicts.{conflict, open_by, NoOther, is_unpublished}
use Rattle.hg_bucket.specs.Parts.{kept, kept_as, oldest, whole, records_of, AreWhole, IsOver}
use Rattle.hg_bucket.proofs.Reading.{versions_there, open_kept}
use Rattle.hg_bucket.proofs.Changing.{open_chain}
use Rattle.hg_bucket.proofs.Turning.{turned_here, turned_others, turned_left, turned_whole, kept_turns}
use Rattle.hg_bucket.proofs.Bare.{whole_sum}

-- ---- conflicts

pub conflict_of_chain : (by : Writer) (snapshot mark : ℕ) (x : Option WriteRefusal) (vs : List Version) (im : Oldest) (stamp : Stamp) → Some stamp ≡ chain.newest vs →
    ((image : Image) → x ≡ conflict by snapshot mark (kept_as stamp image ∷ [])) → x ≡ conflict by snapshot mark (whole vs im)
conflict_of_chain by snapshot mark x [] im stamp e h = absurd (none-some stamp (sym e))
conflict_of_chain by snapshot mark x (v ∷ vs) im stamp e h = h v.image ∙ ap (λ s. conflict by snapshot mark (kept_as s v.image ∷ [])) (same_Some stamp v.stamp e)

abbrev pub newer_oldest : ℕ → Oldest → Option WriteRefusal
newer_oldest snapshot im = option_and_then (λ p. cond (nat_lt snapshot p.0) (Some (Newer p.0)) None) im

pub conflict_of_oldest : (by : Writer) (snapshot mark : ℕ) (vs : List Version) (im : Oldest) → None ≡ chain.newest vs → newer_oldest snapshot im ≡ conflict by snapshot mark (whole vs im)
conflict_of_oldest by snapshot mark (v ∷ vs) im e = absurd (none-some v.stamp e)
conflict_of_oldest by snapshot mark [] None e = refl
conflict_of_oldest by snapshot mark [] (Some p) e = go (is_unpublished by mark (oldest p)) (nat_lt snapshot p.0)
  where
    go : (a b : Bool) → cond b (Some (Newer p.0)) None ≡ option_or (option_map open_by (cond a None None)) (option_map Newer (cond b (Some p.0) None))
    go true true = refl
    go true false = refl
    go false true = refl
    go false false = refl

-- where nothing is in conflict, no version is an open write of another
pub head_free : (by : Writer) (snapshot mark : ℕ) (s : Stamp) (image : Image) (more : List Kept) → conflict by snapshot mark (kept_as s image ∷ more) ≡ None →
    IsTrue (is_some (kept_as s image).number || is_open_by by (kept_as s image))
head_free by snapshot mark (Numbered n w) image more h = refl
head_free by snapshot mark (Written w) image more h = go (same_writer w by) h
  where
    go : (b : Bool) → option_or (option_map open_by (cond (not b || false) (Some w) None)) None ≡ None → b ≡ true
    go true k = refl
    go false k = absurd (none-some (open_by w) (sym k))

pub oldest_free : (by : Writer) (im : Oldest) → NoOther by (whole [] im)
oldest_free by None = tt
oldest_free by (Some p) = (refl, tt)

pub rest_free : (by : Writer) (vs : List Version) (im : Oldest) → Each (λ v. IsSome (chain.number_in v.stamp)) vs → NoOther by (whole vs im)
rest_free by [] im h = oldest_free by im
rest_free by (v ∷ vs) im h = (one v.stamp v.image h.0, rest_free by vs im h.1)
  where
    one : (s : Stamp) (image : Image) → IsSome (chain.number_in s) → IsTrue (is_some (kept_as s image).number || is_open_by by (kept_as s image))
    one (Numbered n w) image k = refl
    one (Written w) image k = absurd (let j = k in cc)

pub all_free : (by : Writer) (snapshot mark : ℕ) (vs : List Version) (im : Oldest) → Each (λ v. IsSome (chain.number_in v.stamp)) (drop 1 vs) →
    conflict by snapshot mark (whole vs im) ≡ None → NoOther by (whole vs im)
all_free by snapshot mark [] im rest h = oldest_free by im
all_free by snapshot mark (v ∷ vs) im rest h = (head_free by snapshot mark v.stamp v.image (whole vs im) h, rest_free by vs im rest)

pub free_chain : (by : Writer) (vs : List Version) (im : Oldest) → NoOther by (whole vs im) → chain.NoOther by vs
free_chain by [] im h = tt
free_chain by (v ∷ vs) im h = (one v.stamp v.image h.0, free_chain by vs im h.1)
  where
    one : (s : Stamp) (image : Image) → IsTrue (is_some (kept_as s image).number || is_open_by by (kept_as s image)) → chain.HasNoOther by s
    one (Numbered n w) image k = tt
    one (Written w) image k = k

pub none_free : (by : Writer) (vs : List Version) → None ≡ chain.newest vs → chain.NoOther by vs
none_free by [] e = tt
none_free by (v ∷ vs) e = absurd (none-some v.stamp e)

-- ---- an open write

pub whole_installed : (by : Writer) (image : Image) (vs : List Version) (im : Oldest) → installed by image (whole vs im) ≡ whole (chain.installed by image vs) im
whole_installed by image [] None = refl
whole_installed by image [] (Some p) = refl
whole_installed by image (v ∷ vs) im = go (is_open_by by (kept v)) (chain.is_written_by by v) (open_kept by v.stamp v.image)
  where
    go : (a b : Bool) → a ≡ b → record { number = None; by = Some by; image = image } ∷ cond a (whole vs im) (whole (v ∷ vs) im) ≡ whole (chain.open_write by image ∷ cond b vs (v ∷ vs)) im
    go true true e = refl
    go false false e = refl
    go true false e = absurd cc
    go false true e = absurd cc

pub installed_length : (by : Writer) (image : Image) (vs : List Version) → length (chain.installed by image vs) ≡ length vs + cond (not (chain.is_open_by by vs)) 1 0
installed_length by image [] = refl
installed_length by image (v ∷ vs) = go (chain.is_written_by by v)
  where
    go : (b : Bool) → length (chain.open_write by image ∷ cond b vs (v ∷ vs)) ≡ length (v ∷ vs) + cond (not b) 1 0
    go true = omega arith
    go false = omega arith

pub installed_over : (by : Writer) (image : Image) (vs : List Version) (im : Oldest) → Each (λ v. IsOver v.stamp im) vs → Each (λ v. IsOver v.stamp im) (chain.installed by image vs)
installed_over by image [] im h = (tt, tt)
installed_over by image (v ∷ vs) im h = go (chain.is_written_by by v)
  where
    go : (b : Bool) → Each (λ v. IsOver v.stamp im) (chain.open_write by image ∷ cond b vs (v ∷ vs))
    go true = (tt, h.1)
    go false = (tt, (h.0, h.1))

pub record Installs (es fs : List (Rid × ℕ)) (cs ds : Places) (places seats : List Seat) (r : Rid) (by : Writer) (image : Image) : Type 0 where
  pub whole : AreWhole fs ds seats
  pub here : versions_of (records_of fs ds seats) r ≡ installed by image (versions_of (records_of es cs places) r)
  pub others : OthersStay (records_of es cs places) (records_of fs ds seats) r
  pub left : left (records_of fs ds seats) ≡ left (records_of es cs places) + cond (not (begins_open by (versions_of (records_of es cs places) r))) 1 0

-- where the record has a place, index and places stay
pub extends : (es : List (Rid × ℕ)) (cs ds : Places) (places : List Seat) (r : Rid) (p : ℕ) (by : Writer) (image : Image) → IsIndex es → AreWhole es cs places →
    place_of es r ≡ Some p → list_at ds p ≡ chain.installed by image (list_at cs p) → ListsStay p cs ds → Installs es es cs ds places places r by image
extends es cs ds places r p by image index old has is lists =
    let vs = list_at cs p in
    let ws = chain.installed by image vs in
    let im = image_at places p in
    let there = versions_there es cs places r p has in
    let turns = kept_turns es cs ds places r p ws index old has is lists in
    let falls = old.falls p (old.taken r p has) in
    let long = whole_sum ws im in
    let begins : begins_open by (versions_of (records_of es cs places) r) ≡ chain.is_open_by by vs = ap (begins_open by) there ∙ open_chain by vs im in
    let more : length ws ≡ length vs + cond (not (begins_open by (versions_of (records_of es cs places) r))) 1 0 = installed_length by image vs ∙ (λ i. length vs + cond (not (sym begins i)) 1 0) in
    record {
      whole = turned_whole es cs ds places places r p ws im old turns (record { over = installed_over by image vs im falls.over; row = falls.row }) (omega (arith, long));
      here = turned_here es cs ds places places r p ws im turns ∙ sym (whole_installed by image vs im) ∙ ap (installed by image) (sym there);
      others = turned_others es cs ds places places r p ws im turns;
      left = omega (arith, turned_left es cs ds places places r p ws im turns, long, whole_sum vs im, more);
    }
