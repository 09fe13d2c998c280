-- A commit gives an open write its number, and a rollback removes it.
use Rattle.std.proofs.Common.{◌≡◌, ℕ, ◌+◌, List, [], ◌∷◌, length, Some, None, refl, sym, ap, ◌∙◌, subst, drop, arith}
use Rattle.std.specs.Prelude.{IsTrue}
use Rattle.hg_base.specs.declared.rid.Rid.{Rid}
use Rattle.hg_base.specs.declared.writer.Writer.{Writer}
use Rattle.hg_base.specs.Lists.{Each}
use Rattle.hg_chains.specs.declared.version.Version.{Version}
use Rattle.hg_chains.specs.Versions as chain
use Rattle.hg_chains.specs.Places.{Places, list_at, OthersStay as ListsStay}
use Rattle.hg_space.specs.Index.{place_of, IsIndex}
use Rattle.hg_space.specs.Places.{Seat, Oldest, image_at}
use Rattle.hg_bucket.specs.BucketModel.{Kept, versions_of, left, begins_open, stamped, IsBelow, OthersStay}
use Rattle.hg_bucket.specs.Parts.{whole, versions_at, records_of, AreWhole, IsOver, MayBeBare}
use Rattle.hg_bucket.proofs.Reading.{versions_there, no_versions}
use Rattle.hg_bucket.proofs.Changing.{open_chain, below_behind, whole_stamped, stamped_length, stamped_over}
use Rattle.hg_bucket.proofs.Turning.{turned_here, turned_others, turned_left, turned, turned_whole, kept_turns}
use Rattle.hg_bucket.proofs.Bare.{whole_sum}

-- a record with an open write has a place, where the chain begins with it
pub record OpenAt (by : Writer) (es : List (Rid × ℕ)) (cs : Places) (places : List Seat) (r : Rid) (p : ℕ) : Type 0 where
  pub begins : IsTrue (chain.is_open_by by (list_at cs p))
  pub there : versions_of (records_of es cs places) r ≡ versions_at cs places p

pub open_at : (by : Writer) (es : List (Rid × ℕ)) (cs : Places) (places : List Seat) (r : Rid) (p : ℕ) → place_of es r ≡ Some p →
    IsTrue (begins_open by (versions_of (records_of es cs places) r)) → OpenAt by es cs places r p
open_at by es cs places r p has asked =
    let there = versions_there es cs places r p has in
    record {
      begins = sym (open_chain by (list_at cs p) (image_at places p)) ∙ subst (λ vs. IsTrue (begins_open by vs)) there asked;
      there = there;
    }

pub open_placed : (by : Writer) (es : List (Rid × ℕ)) (cs : Places) (places : List Seat) (r : Rid) → place_of es r ≡ None → IsTrue (begins_open by (versions_of (records_of es cs places) r)) → ⊥
open_placed by es cs places r none asked = let k = subst (λ vs. IsTrue (begins_open by vs)) (no_versions es cs places r none) asked in absurd cc

pub record Stamps (es : List (Rid × ℕ)) (cs ds : Places) (places : List Seat) (r : Rid) (by : Writer) (n : ℕ) : Type 0 where
  pub whole : AreWhole es ds places
  pub here : versions_of (records_of es ds places) r ≡ stamped by n (versions_of (records_of es cs places) r)
  pub others : OthersStay (records_of es cs places) (records_of es ds places) r
  pub left : left (records_of es ds places) ≡ left (records_of es cs places)

pub stamps : (es : List (Rid × ℕ)) (cs ds : Places) (places : List Seat) (r : Rid) (p : ℕ) (by : Writer) (n : ℕ) → IsIndex es → AreWhole es cs places → place_of es r ≡ Some p →
    IsTrue (begins_open by (versions_of (records_of es cs places) r)) → Each (IsBelow n) (drop 1 (versions_of (records_of es cs places) r)) →
    list_at ds p ≡ chain.stamped by n (list_at cs p) → ListsStay p cs ds → Stamps es cs ds places r by n
stamps es cs ds places r p by n index old has open_write over is lists =
    let at = open_at by es cs places r p has open_write in
    let vs = list_at cs p in
    let ws = chain.stamped by n vs in
    let im = image_at places p in
    let turns = kept_turns es cs ds places r p ws index old has is lists in
    let below = below_behind by n vs im at.begins (subst (λ us. Each (IsBelow n) (drop 1 us)) at.there over) in
    let falls = old.falls p (old.taken r p has) in
    let long = old.held p tt (old.taken r p has) in
    let same : length (whole ws im) ≡ length (whole vs im) = omega (arith, whole_sum vs im, whole_sum ws im, stamped_length by n vs) in
    record {
      whole = turned_whole es cs ds places places r p ws im old turns (record { over = stamped_over by n vs im below.1 falls.over; row = falls.row }) (omega (arith, long, same));
      here = turned_here es cs ds places places r p ws im turns ∙ sym (whole_stamped by n vs im at.begins) ∙ ap (stamped by n) (sym at.there);
      others = turned_others es cs ds places places r p ws im turns;
      left = omega (arith, turned_left es cs ds places places r p ws im turns, same);
    }

-- ---- a rollback

pub whole_dropped : (by : Writer) (vs : List Version) (im : Oldest) → IsTrue (chain.is_open_by by vs) → drop 1 (whole vs im) ≡ whole (drop 1 vs) im
whole_dropped by [] im h = absurd (let j = h in cc)
whole_dropped by (v ∷ vs) im h = refl

pub dropped_over : (vs : List Version) (im : Oldest) → Each (λ v. IsOver v.stamp im) vs → Each (λ v. IsOver v.stamp im) (drop 1 vs)
dropped_over [] im h = tt
dropped_over (v ∷ vs) im h = h.1

pub dropped_length : (by : Writer) (vs : List Version) → IsTrue (chain.is_open_by by vs) → length (drop 1 vs) + 1 ≡ length vs
dropped_length by [] h = absurd (let j = h in cc)
dropped_length by (v ∷ vs) h = omega arith

pub record Undoes (es : List (Rid × ℕ)) (cs ds : Places) (places : List Seat) (r : Rid) (p : ℕ) : Type 0 where
  pub bare : MayBeBare p es ds places
  pub here : versions_of (records_of es ds places) r ≡ drop 1 (versions_of (records_of es cs places) r)
  pub others : OthersStay (records_of es cs places) (records_of es ds places) r
  pub left : left (records_of es ds places) + 1 ≡ left (records_of es cs places)

pub undoes : (es : List (Rid × ℕ)) (cs ds : Places) (places : List Seat) (r : Rid) (p : ℕ) (by : Writer) → IsIndex es → AreWhole es cs places → place_of es r ≡ Some p →
    IsTrue (begins_open by (versions_of (records_of es cs places) r)) → list_at ds p ≡ drop 1 (list_at cs p) → ListsStay p cs ds → Undoes es cs ds places r p
undoes es cs ds places r p by index old has open_write is lists =
    let at = open_at by es cs places r p has open_write in
    let vs = list_at cs p in
    let ws = drop 1 vs in
    let im = image_at places p in
    let turns = kept_turns es cs ds places r p ws index old has is lists in
    let falls = old.falls p (old.taken r p has) in
    record {
      bare = turned es cs ds places places r p ws im old turns (record { over = dropped_over vs im falls.over; row = falls.row });
      here = turned_here es cs ds places places r p ws im turns ∙ sym (whole_dropped by vs im at.begins) ∙ ap (drop 1) (sym at.there);
      others = turned_others es cs ds places places r p ws im turns;
      left = omega (arith, turned_left es cs ds places places r p ws im turns, whole_sum vs im, whole_sum ws im, dropped_length by vs at.begins);
    }

pub others_then : (old mid new : List (Rid × List Kept)) (r : Rid) → OthersStay old mid r → OthersStay mid new r → OthersStay old new r
others_then old mid new r h k q apart = k q apart ∙ h q apart
