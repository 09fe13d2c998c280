-- Records that can't be shortened, and those that have a chain.
use Rattle.std.proofs.Common.{◌≡◌, ℕ, List, [], ◌∷◌, ◌++◌, Bool, true, false, Option, Some, None, refl, sym, ap, ◌∙◌, cond, subst, not, ◌<◌, ◌≤◌, length, arith}
use Rattle.std.specs.Prelude.{is_some, IsSome, IfSome, option_to_list}
use Rattle.hg_base.specs.declared.rid.Rid.{Rid}
use Rattle.hg_base.specs.declared.rid.TableId.{TableId}
use Rattle.hg_chains.specs.declared.version.Version.{Version}
use Rattle.hg_chains.specs.Places.{Places, list_at}
use Rattle.hg_space.specs.Index.{place_of}
use Rattle.hg_space.specs.Places.{Seat, Oldest, image_at}
use Rattle.hg_bucket.specs.BucketModel.{Kept, versions_of, record_at, cut_at, is_at_most, survivor, IsNextKey}
use Rattle.hg_bucket.specs.Parts.{whole, records_of, AreWhole, IsRow}
use Rattle.hg_bucket.specs.Sweeping.{is_long}
use Rattle.hg_bucket.specs.Long.{IsShort}
use Rattle.hg_bucket.proofs.Reading.{there, versions_there, no_versions}
use Rattle.hg_bucket.proofs.Costing.{whole_long}
use Rattle.hg_bucket.proofs.Bare.{whole_sum, no_image}
use Rattle.hg_bucket.proofs.Sweeps.{IsSettled, settled_swept, settled_clean}

pub oldest_settled : (im : Oldest) → IsRow im → IsSettled (whole [] im)
oldest_settled None row = tt
oldest_settled (Some p) row = (refl, refl, row)

pub settled_cut : (bound : ℕ) (vs : List Kept) → IsSettled vs → cut_at bound vs ≡ vs
settled_cut bound [] h = refl
settled_cut bound (v ∷ w ∷ vs) h = absurd h
settled_cut bound (v ∷ []) h = go (is_at_most bound v)
  where
    lives : survivor (Some v) ≡ v ∷ []
    lives = ap (λ b. cond b (record { number = v.number; by = None; image = v.image } ∷ []) []) h.2 ∙ ap (λ w. record { number = v.number; by = w; image = v.image } ∷ []) (sym h.0)

    go : (b : Bool) → cond (not b) (v ∷ []) [] ++ survivor (cond b (Some v) None) ≡ v ∷ []
    go true = lives
    go false = refl

pub settled_short : {vs : List Kept} → IsSettled vs → IsShort vs
settled_short {vs} h = record { one = one vs h; cut = λ bound. settled_cut bound vs h; swept = λ horizon xs. sym (settled_swept horizon xs vs h); clean = λ horizon xs. settled_clean horizon xs vs h }
  where
    one : (vs : List Kept) → IsSettled vs → is_long vs ≡ false
    one [] h = refl
    one (v ∷ []) h = ap is_some h.0
    one (v ∷ w ∷ vs) h = absurd h

-- a record that has no chain is short, and one that has one is long
pub bare_short : (es : List (Rid × ℕ)) (cs : Places) (places : List Seat) (r : Rid) (p : ℕ) → AreWhole es cs places → place_of es r ≡ Some p → list_at cs p ≡ [] →
    IsShort (versions_of (records_of es cs places) r)
bare_short es cs places r p h has bare = settled_short (subst IsSettled (sym (versions_there es cs places r p has ∙ ap (λ vs. whole vs (image_at places p)) bare))
    (oldest_settled (image_at places p) (h.falls p (h.taken r p has)).row))

pub absent_short : (es : List (Rid × ℕ)) (cs : Places) (places : List Seat) (r : Rid) → place_of es r ≡ None → IsShort (versions_of (records_of es cs places) r)
absent_short es cs places r none = settled_short (subst IsSettled (sym (no_versions es cs places r none)) tt)

pub chained_long : (es : List (Rid × ℕ)) (cs : Places) (places : List Seat) (r : Rid) (p : ℕ) → place_of es r ≡ Some p → 0 < length (list_at cs p) →
    is_long (versions_of (records_of es cs places) r) ≡ true
chained_long es cs places r p has some = ap is_long (versions_there es cs places r p has) ∙ long (list_at cs p) (image_at places p) some
  where
    long : (vs : List Version) (im : Oldest) → 0 < length vs → is_long (whole vs im) ≡ true
    long [] im less = absurd (omega (arith, less))
    long (v ∷ vs) im less = whole_long v vs im

-- a record whose chain has one version, and that has no oldest image
pub lone : (es : List (Rid × ℕ)) (cs : Places) (places : List Seat) (r : Rid) (p : ℕ) → place_of es r ≡ Some p → length (list_at cs p) ≡ 1 → is_some (image_at places p) ≡ false →
    length (versions_of (records_of es cs places) r) ≤ 1
lone es cs places r p has one none = omega (
  arith,
  one,
  ap (λ vs. length vs) (versions_there es cs places r p has),
  whole_sum (list_at cs p) (image_at places p),
  ap
      (λ im. length (option_to_list im)) (no_image (image_at places p) none),
)

-- ---- a record of the index has a version

pub some_at : (es : List (Rid × ℕ)) (cs : Places) (places : List Seat) (t : TableId) (from : ℕ) (found : Option ℕ) → AreWhole es cs places →
    IsNextKey (records_of es cs places) t from found → IfSome found (λ k. 0 < length (versions_of (records_of es cs places) (record_at t k)))
some_at es cs places t from None h next = tt
some_at es cs places t from (Some k) h next = go (place_of es (record_at t k)) refl (sym (there es cs places (record_at t k)) ∙ next.1)
  where
    go : (o : Option ℕ) → place_of es (record_at t k) ≡ o → IsSome o → 0 < length (versions_of (records_of es cs places) (record_at t k))
    go None e some = absurd cc
    go (Some p) e some = subst (λ vs. 0 < length vs) (sym (versions_there es cs places (record_at t k) p e)) (h.held p tt (h.taken (record_at t k) p e))
