-- What a bucket does to a record's versions is what each kind of collector takes.
use Rattle.std.proofs.Common.{◌≡◌, ℕ, zero, suc, List, [], ◌∷◌, Bool, true, false, Option, Some, None, refl, sym, ap, ◌∙◌, map, arith}
use Rattle.std.specs.Prelude.{Contains, ◌&&◌, ◌||◌, not, nat_le, if◌then◌else◌}
use Rattle.std.specs.List.{list_any}
use Rattle.hg_base.specs.declared.rid.TableId.{TableId}
use Rattle.hg_base.specs.declared.image.Image.{Image}
use Rattle.hg_base.specs.declared.writer.Writer.{Writer}
use Rattle.hg_base.specs.declared.report.Kind.{Kind}
use Rattle.hg_base.specs.declared.report.Kind.TheVariants.{Group, Table, Interval}
use Rattle.hg_core.specs.declared.version.Stamp.{Stamp}
use Rattle.hg_core.specs.declared.version.Stamp.TheVariants.{Written, Numbered, Oldest}
use Rattle.hg_core.specs.declared.version.Version.{Version}
use Rattle.hg_core.specs.Versions.{stamp_number}
use Rattle.hg_core.specs.Passes.{PassRecord, horizon, recorded, group_bound, table_bound}
use Rattle.hg_core.specs.Removal as core
use Rattle.hg_core.specs.Removal.{reclaimed}
use Rattle.hg_base.specs.Lifetimes.{is_within, goes}
use Rattle.hg_core.specs.Ordered.{IsOrdered}
use Rattle.hg_bucket.specs.BucketModel.{Kept, cut_at}
use Rattle.hg_bucket.specs.Sweeping.{swept}
use Rattle.hg_bucket.specs.Long.{IsShort}
use Rattle.hg_bucket.proofs.Sweeps.{swept_from, first_goes, first_stays}
use Rattle.hg_store.specs.Kept.{kept_as, kept}
use Rattle.hg_store.specs.Clearing.{HaveSame}
use Rattle.hg_store.proofs.Changing.{cut_kept}

-- ---- a version as a bucket keeps it tells the version

abbrev stamp_of : Option ℕ → Option Writer → Stamp
stamp_of None None = Oldest 0
stamp_of None (Some by) = Written by
stamp_of (Some n) None = Oldest n
stamp_of (Some n) (Some by) = Numbered n by

abbrev version_of : Kept → Version
version_of k = record { stamp = stamp_of k.number k.by; image = k.image }

stamp_back : (x : Stamp) (image : Image) → stamp_of (kept_as x image).number (kept_as x image).by ≡ x
stamp_back (Written by) image = refl
stamp_back (Numbered n by) image = refl
stamp_back (Oldest n) image = refl

image_back : (x : Stamp) (image : Image) → (kept_as x image).image ≡ image
image_back (Written by) image = refl
image_back (Numbered n by) image = refl
image_back (Oldest n) image = refl

version_back : (v : Version) → version_of (kept v) ≡ v
version_back v = λ i. record { stamp = stamp_back v.stamp v.image i; image = image_back v.stamp v.image i }

versions_back : (vs : List Version) → map version_of (map kept vs) ≡ vs
versions_back [] = refl
versions_back (v ∷ vs) = λ i. version_back v i ∷ versions_back vs i

pub same_versions : (vs ws : List Version) → map kept vs ≡ map kept ws → vs ≡ ws
same_versions vs ws e = sym (versions_back vs) ∙ ap (map version_of) e ∙ versions_back ws

-- ---- a sweep, by lists that have the same numbers

any_of : (p : ℕ → Bool) (xs : List ℕ) (x : ℕ) → Contains xs x → p x ≡ true → list_any p xs ≡ true
any_of p [] x (k, within, e) t = absurd (omega (arith, within))
any_of p (y ∷ xs) x (zero, within, e) t = ap (λ b. b || list_any p xs) (ap p e ∙ t)
any_of p (y ∷ xs) x (suc k, within, e) t = go (p y) (any_of p xs x (k, omega (arith, within), e) t)
  where
    go : (b : Bool) → list_any p xs ≡ true → (b || list_any p xs) ≡ true
    go true rest = refl
    go false rest = rest

found_any : (p : ℕ → Bool) (xs : List ℕ) → list_any p xs ≡ true → (x : ℕ) × (Contains xs x × (p x ≡ true))
found_any p [] e = absurd cc
found_any p (y ∷ xs) e = go (p y) refl e (found_any p xs)
  where
    go : (b : Bool) → p y ≡ b → (b || list_any p xs) ≡ true → (list_any p xs ≡ true → (x : ℕ) × (Contains xs x × (p x ≡ true))) → (x : ℕ) × (Contains (y ∷ xs) x × (p x ≡ true))
    go true t e rest = (y, ((zero, omega arith, refl), t))
    go false t e rest = let f = rest e in (f.0, ((suc f.1.0.0, omega (arith, f.1.0.1), f.1.0.2), f.1.1))

any_same : (p : ℕ → Bool) (xs ys : List ℕ) → HaveSame xs ys → list_any p xs ≡ list_any p ys
any_same p xs ys same = go (list_any p xs) (list_any p ys) refl refl
  where
    go : (a b : Bool) → list_any p xs ≡ a → list_any p ys ≡ b → a ≡ b
    go true true e f = refl
    go false false e f = refl
    go true false e f = let x = found_any p xs e in sym (any_of p ys x.0 ((same x.0).0 x.1.0) x.1.1) ∙ f
    go false true e f = let x = found_any p ys f in sym e ∙ any_of p xs x.0 ((same x.0).1 x.1.0) x.1.1

goes_same : (h : ℕ) (xs ys : List ℕ) → HaveSame xs ys → (up number : Option ℕ) → goes h xs up number ≡ goes h ys up number
goes_same h xs ys same None None = refl
goes_same h xs ys same None (Some n) = refl
goes_same h xs ys same (Some u) None = refl
goes_same h xs ys same (Some u) (Some n) = ap (λ b. nat_le u h && not b) (any_same (is_within n u) xs ys same)

number_kept : (x : Stamp) (image : Image) → (kept_as x image).number ≡ stamp_number x
number_kept (Written by) image = refl
number_kept (Numbered n by) image = refl
number_kept (Oldest n) image = refl

swept_behind : (h : ℕ) (xs ys : List ℕ) → HaveSame xs ys → (up : Option ℕ) (vs : List Version) → swept_from h xs up (map kept vs) ≡ map kept (core.swept h ys up vs)
swept_behind h xs ys same up [] = refl
swept_behind h xs ys same up (v ∷ vs) = go (goes h ys up n) refl (ap (λ m. swept_from h xs m (map kept vs)) number ∙ swept_behind h xs ys same (stamp_number v.stamp) vs)
  where
    n : Option ℕ
    n = stamp_number v.stamp

    number : (kept v).number ≡ n
    number = number_kept v.stamp v.image

    test : goes h xs up (kept v).number ≡ goes h ys up n
    test = ap (goes h xs up) number ∙ goes_same h xs ys same up n

    go : (b : Bool) → goes h ys up n ≡ b → swept_from h xs (kept v).number (map kept vs) ≡ map kept (core.swept h ys n vs) →
        swept_from h xs up (kept v ∷ map kept vs) ≡ map kept (if b then core.swept h ys n vs else v ∷ core.swept h ys n vs)
    go true e rest = first_goes h xs up (kept v) (map kept vs) (test ∙ e) ∙ rest
    go false e rest = first_stays h xs up (kept v) (map kept vs) (test ∙ e) ∙ ap (λ ks. kept v ∷ ks) rest

pub swept_kept : (h : ℕ) (xs ys : List ℕ) (vs : List Version) → HaveSame xs ys → swept h xs (map kept vs) ≡ map kept (core.swept h ys None vs)
swept_kept h xs ys vs same = swept_behind h xs ys same None vs

-- ---- what each kind takes

-- what is done to the versions that a bucket keeps is what the kind of collector takes by that record; and what is short stays
pub record Does (kind : Kind) (table : TableId) (p : PassRecord) (does : List Kept → List Kept) : Type 0 where
  pub alike : (mark : ℕ) (vs : List Version) → IsOrdered mark vs → does (map kept vs) ≡ map kept (reclaimed kind table p vs)
  pub short : (ks : List Kept) → IsShort ks → does ks ≡ ks

pub does_group : (table : TableId) (p : PassRecord) (bound : ℕ) → bound ≡ group_bound p → Does Group table p (cut_at bound)
does_group table p bound is = record { alike = λ mark vs o. cut_kept mark bound vs o ∙ ap (λ b. map kept (core.cut b vs)) is; short = λ ks s. s.cut bound }

pub does_table : (table : TableId) (p : PassRecord) (bound : ℕ) → bound ≡ table_bound table p → Does Table table p (cut_at bound)
does_table table p bound is = record { alike = λ mark vs o. cut_kept mark bound vs o ∙ ap (λ b. map kept (core.cut b vs)) is; short = λ ks s. s.cut bound }

pub does_interval : (table : TableId) (p : PassRecord) (h : ℕ) (xs : List ℕ) → h ≡ horizon p → HaveSame xs (recorded table p) → Does Interval table p (swept h xs)
does_interval table p h xs is same = record {
  alike = λ mark vs o. swept_kept h xs (recorded table p) vs same ∙ ap (λ b. map kept (core.swept b (recorded table p) None vs)) is;
  short = λ ks s. s.swept h xs;
}

-- what is short is as the kind leaves it
pub short_left : (kind : Kind) (table : TableId) (p : PassRecord) (does : List Kept → List Kept) (mark : ℕ) (vs : List Version) → Does kind table p does → IsOrdered mark vs →
    IsShort (map kept vs) → vs ≡ reclaimed kind table p vs
short_left kind table p does mark vs d o s = same_versions vs (reclaimed kind table p vs) (sym (d.short (map kept vs) s) ∙ d.alike mark vs o)
