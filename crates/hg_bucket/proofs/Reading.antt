-- What is found in a bucket's parts.
use Rattle.std.proofs.Common.{◌≡◌, ℕ, List, [], ◌∷◌, Bool, true, false, Option, Some, None, refl, sym, ap, ◌∙◌, cond}
use Rattle.std.specs.Prelude.{is_some, unwrap_or, option_map, find, option_to_list, nat_le}
use Rattle.std.specs.Option.{option_or}
use Rattle.std.specs.Map.{lookup}
use Rattle.hg_base.specs.declared.rid.Rid.{Rid}
use Rattle.hg_base.specs.declared.rid.TableId.{TableId}
use Rattle.hg_base.specs.declared.image.Image.{Image}
use Rattle.hg_base.specs.declared.writer.Writer.{Writer}
use Rattle.hg_base.specs.History.{same_rid}
use Rattle.hg_chains.specs.declared.version.Stamp.{Stamp}
use Rattle.hg_chains.specs.declared.version.Stamp.TheVariants.{Written, Numbered}
use Rattle.hg_chains.specs.declared.version.Version.{Version}
use Rattle.hg_chains.specs.Versions as chain
use Rattle.hg_chains.specs.Places.{Places, list_at}
use Rattle.hg_space.specs.Index as index
use Rattle.hg_space.specs.Index.{place_of}
use Rattle.hg_space.specs.Places.{Seat, Oldest, image_at}
use Rattle.hg_base.proofs.RidOrder.{rids_equiv}
use Rattle.hg_bucket.specs.BucketModel.{Kept, versions_of, read_at, is_at_most, is_open_by, IsNextKey}
use Rattle.hg_bucket.specs.Parts.{kept, kept_as, oldest, whole, versions_at, records_of, oldest_by}

-- a record that a test tells apart, for its look-ups: those of the same record are alike
pub alike : {X : Type 0} (es : List (Rid × X)) (r q : Rid) → same_rid r q ≡ true → lookup (same_rid q) es ≡ lookup (same_rid r) es
alike es r q h = ap (λ (test : Rid → Bool). lookup test es) (λ i k. sym (rids_equiv.congr r q k h) i)

-- the versions of a record of the index
pub found : (es : List (Rid × ℕ)) (cs : Places) (places : List Seat) (r : Rid) → lookup (same_rid r) (records_of es cs places) ≡ option_map (versions_at cs places) (place_of es r)
found [] cs places r = refl
found (e ∷ es) cs places r = go (same_rid r e.0) (found es cs places r)
  where
    go : (b : Bool) → lookup (same_rid r) (records_of es cs places) ≡ option_map (versions_at cs places) (place_of es r) →
        cond b (Some (versions_at cs places e.1)) (lookup (same_rid r) (records_of es cs places)) ≡ option_map (versions_at cs places) (cond b (Some e.1) (place_of es r))
    go true rest = refl
    go false rest = rest

-- at the place that the record has, and of a record that has none
pub versions_there : (es : List (Rid × ℕ)) (cs : Places) (places : List Seat) (r : Rid) (p : ℕ) → place_of es r ≡ Some p → versions_of (records_of es cs places) r ≡ versions_at cs places p
versions_there es cs places r p h = ap (λ o. unwrap_or o []) (found es cs places r ∙ ap (option_map (versions_at cs places)) h)

pub no_versions : (es : List (Rid × ℕ)) (cs : Places) (places : List Seat) (r : Rid) → place_of es r ≡ None → versions_of (records_of es cs places) r ≡ []
no_versions es cs places r h = ap (λ o. unwrap_or o []) (found es cs places r ∙ ap (option_map (versions_at cs places)) h)

pub there : (es : List (Rid × ℕ)) (cs : Places) (places : List Seat) (r : Rid) → is_some (lookup (same_rid r) (records_of es cs places)) ≡ is_some (place_of es r)
there es cs places r = ap is_some (found es cs places r) ∙ mapped (place_of es r)
  where
    mapped : (o : Option ℕ) → is_some (option_map (versions_at cs places) o) ≡ is_some o
    mapped None = refl
    mapped (Some p) = refl

pub next_of_records : (es : List (Rid × ℕ)) (cs : Places) (places : List Seat) (t : TableId) (from : ℕ) (o : Option ℕ) → index.IsNextKey es t from o → IsNextKey (records_of es cs places) t from o
next_of_records es cs places t from None h = λ k le is. h k le (sym (there es cs places (index.record_at t k)) ∙ is)
next_of_records es cs places t from (Some n) h = (h.0, there es cs places (index.record_at t n) ∙ h.1, λ k le is. h.2 k le (sym (there es cs places (index.record_at t k)) ∙ is))

-- ---- reading a record

pub open_kept : (by : Writer) (s : Stamp) (image : Image) → is_open_by by (kept_as s image) ≡ chain.has_writer by s
open_kept by (Written w) image = refl
open_kept by (Numbered n w) image = refl

pub at_most_kept : (bound : ℕ) (s : Stamp) (image : Image) → is_at_most bound (kept_as s image) ≡ chain.has_at_most bound s
at_most_kept bound (Written w) image = refl
at_most_kept bound (Numbered n w) image = refl

abbrev pub shown : Option Kept → Option Image
shown o = option_map (λ v. v.image) o

-- the first of a chain with an oldest image behind it that passes a test
pub find_whole : (p : Kept → Bool) (q : Version → Bool) → ((v : Version) → p (kept v) ≡ q v) → (vs : List Version) (im : Oldest) →
    shown (find p (whole vs im)) ≡ option_or (option_map (λ v. v.image) (find q vs)) (shown (find p (option_to_list (option_map oldest im))))
find_whole p q same [] im = refl
find_whole p q same (v ∷ vs) im = go (p (kept v)) (q v) (same v) (find_whole p q same vs im)
  where
    go : (a b : Bool) → a ≡ b → shown (find p (whole vs im)) ≡ option_or (option_map (λ v. v.image) (find q vs)) (shown (find p (option_to_list (option_map oldest im)))) →
        shown (cond a (Some (kept v)) (find p (whole vs im))) ≡ option_or (option_map (λ v. v.image) (cond b (Some v) (find q vs))) (shown (find p (option_to_list (option_map oldest im))))
    go true true e rest = shows v.stamp v.image
      where
        shows : (s : Stamp) (image : Image) → shown (Some (kept_as s image)) ≡ Some image
        shows (Written w) image = refl
        shows (Numbered n w) image = refl
    go false false e rest = rest
    go true false e rest = absurd cc
    go false true e rest = absurd cc

pub oldest_not_open : (own : Writer) (im : Oldest) → shown (find (is_open_by own) (option_to_list (option_map oldest im))) ≡ None
oldest_not_open own None = refl
oldest_not_open own (Some p) = refl

pub oldest_seen : (at : ℕ) (im : Oldest) → shown (find (is_at_most at) (option_to_list (option_map oldest im))) ≡ oldest_by at im
oldest_seen at None = refl
oldest_seen at (Some p) = go (nat_le p.0 at)
  where
    go : (b : Bool) → shown (cond b (Some (oldest p)) None) ≡ cond b (Some p.1) None
    go true = refl
    go false = refl

pub shown_or : (a b : Option Kept) → shown (option_or a b) ≡ option_or (shown a) (shown b)
shown_or None b = refl
shown_or (Some a) b = refl

pub or_none : {X : Type 0} (a : Option X) → option_or a None ≡ a
or_none None = refl
or_none (Some a) = refl

pub or_assoc : {X : Type 0} (a b c : Option X) → option_or a (option_or b c) ≡ option_or (option_or a b) c
or_assoc None b c = refl
or_assoc (Some a) b c = refl

pub read_whole : (own : Writer) (at : ℕ) (vs : List Version) (im : Oldest) → read_at own at (whole vs im) ≡ option_or (option_or (chain.image_by own vs) (chain.image_at at vs)) (oldest_by at im)
read_whole own at vs im =
    shown_or (find (is_open_by own) (whole vs im)) (find (is_at_most at) (whole vs im))
    ∙ (λ i. option_or
    ((find_whole (is_open_by own) (chain.is_written_by own) (λ v. open_kept own v.stamp v.image) vs im ∙ ap (option_or (chain.image_by own vs)) (oldest_not_open own im) ∙
    or_none (chain.image_by own vs)) i)
    ((find_whole (is_at_most at) (chain.is_at_most at) (λ v. at_most_kept at v.stamp v.image) vs im ∙ ap (option_or (chain.image_at at vs)) (oldest_seen at im)) i))
    ∙ or_assoc (chain.image_by own vs) (chain.image_at at vs) (oldest_by at im)

-- of a record that has a place, and of one that has none
pub read_there : (es : List (Rid × ℕ)) (cs : Places) (places : List Seat) (r : Rid) (p : ℕ) (own : Writer) (at : ℕ) → place_of es r ≡ Some p →
    read_at own at (versions_of (records_of es cs places) r) ≡ option_or (option_or (chain.image_by own (list_at cs p)) (chain.image_at at (list_at cs p))) (oldest_by at (image_at places p))
read_there es cs places r p own at h =
    ap (read_at own at) (versions_there es cs places r p h) ∙ read_whole own at (list_at cs p) (image_at places p)

pub read_absent : (es : List (Rid × ℕ)) (cs : Places) (places : List Seat) (r : Rid) (own : Writer) (at : ℕ) → place_of es r ≡ None → read_at own at (versions_of (records_of es cs places) r) ≡ None
read_absent es cs places r own at h = ap (read_at own at) (no_versions es cs places r h)
