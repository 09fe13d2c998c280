-- What tests write.
use Rattle.std.proofs.Common.{◌≡◌, subst, sym, ℕ, ◌+◌, ◌<◌, List, [], ◌∷◌, drop, Bool, true, false, not, Option, None, cond, arith}
use Rattle.std.specs.Prelude.{if◌then◌else◌, map, filter}
use Rattle.hg_base.specs.declared.writer.Writer.{Writer}
use Rattle.hg_base.specs.declared.image.Image.{Image}
use Rattle.hg_base.specs.Lists.{Each}
use Rattle.hg_base.proofs.ListFacts.{each_keeps}
use Rattle.hg_chains.specs.declared.version.Stamp.{Stamp}
use Rattle.hg_chains.specs.declared.version.Stamp.TheVariants.{Written, Numbered}
use Rattle.hg_chains.specs.declared.version.Version.{Version}
use Rattle.hg_chains.specs.Versions.{HasBelow, HasNoOther, IsBelow, NoOther, is_open_by, installed, left_by, number_in, stamped}
use Rattle.hg_chains.specs.Places.{Places, OthersStay, list_at}
use Rattle.hg_chains.specs.Sweeps.{goes_after, swept, with_successors}

lower : (number n : ℕ) (s : Stamp) → number < n → HasBelow number s → HasBelow n s
lower number n (Written w) less h = h
lower number n (Numbered k by) less h = omega (arith, less, h)

all_lower : (number n : ℕ) (vs : List Version) → number < n → Each (IsBelow number) vs → Each (IsBelow n) vs
all_lower number n vs less h = each_keeps (IsBelow number) (IsBelow n) (λ v. lower number n v.stamp less) vs h

each_behind : {X : Type 0} (P : X → Type 0) (xs : List X) → Each P xs → Each P (drop 1 xs)
each_behind P [] h = tt
each_behind P (x ∷ xs) h = h.1

-- a write that is committed with a number over all others
pub below_after : (by : Writer) (image : Image) (number n : ℕ) (vs : List Version) → number < n → Each (IsBelow number) vs → Each (IsBelow n) (stamped by number (installed by image vs))
below_after by image number n vs less h = (less, go (is_open_by by vs))
  where
    go : (b : Bool) → Each (IsBelow n) (if b then drop 1 vs else vs)
    go true = each_behind (IsBelow n) vs (all_lower number n vs less h)
    go false = all_lower number n vs less h

-- ---- calls that follow one another: the call of a number finds lower numbers alone, and leaves none over its own

pub below_next : (number : ℕ) (vs : List Version) → Each (IsBelow number) vs → Each (IsBelow (number + 1)) vs
below_next number vs h = all_lower number (number + 1) vs (omega arith) h

pub below_free : (by : Writer) (number : ℕ) (vs : List Version) → Each (IsBelow number) vs → NoOther by vs
below_free by number vs h = each_keeps (IsBelow number) (λ v. HasNoOther by v.stamp) (λ v. free v.stamp) vs h
  where
    free : (s : Stamp) → HasBelow number s → HasNoOther by s
    free (Written w) k = absurd k
    free (Numbered n other) k = tt

pub below_put : (by : Writer) (image : Image) (number : ℕ) (vs : List Version) → Each (IsBelow number) vs → Each (IsBelow (number + 1)) (stamped by number (installed by image vs))
below_put by image number vs h = below_after by image number (number + 1) vs (omega arith) h

pub below_undone : (by : Writer) (image : Image) (number : ℕ) (vs : List Version) → Each (IsBelow number) vs → Each (IsBelow (number + 1)) (drop 1 (installed by image vs))
below_undone by image number vs h = go (is_open_by by vs)
  where
    go : (b : Bool) → Each (IsBelow (number + 1)) (if b then drop 1 vs else vs)
    go true = each_behind (IsBelow (number + 1)) vs (below_next number vs h)
    go false = below_next number vs h

each_filtered : {X : Type 0} (P : X → Type 0) (p : X → Bool) (xs : List X) → Each P xs → Each P (filter p xs)
each_filtered P p [] h = tt
each_filtered P p (x ∷ xs) h = go (p x) (each_filtered P p xs h.1)
  where
    go : (b : Bool) → Each P (filter p xs) → Each P (cond b (x ∷ filter p xs) (filter p xs))
    go true rest = (h.0, rest)
    go false rest = rest

pub below_cut : (bound number : ℕ) (vs : List Version) → Each (IsBelow number) vs → Each (IsBelow (number + 1)) (left_by bound vs)
below_cut bound number vs h = each_filtered (IsBelow (number + 1)) _ vs (below_next number vs h)

swept_below : (horizon : ℕ) (xs : List ℕ) (n : ℕ) (up : Option ℕ) (vs : List Version) → Each (IsBelow n) vs →
    Each (IsBelow n) (map (λ p. p.1) (filter (λ p. not (goes_after horizon xs p)) (with_successors up vs)))
swept_below horizon xs n up [] h = tt
swept_below horizon xs n up (v ∷ vs) h = go (not (goes_after horizon xs (up, v))) (swept_below horizon xs n (number_in v.stamp) vs h.1)
  where
    rest : List (Option ℕ × Version)
    rest = filter (λ p. not (goes_after horizon xs p)) (with_successors (number_in v.stamp) vs)

    go : (b : Bool) → Each (IsBelow n) (map (λ p. p.1) rest) → Each (IsBelow n) (map (λ p. p.1) (cond b ((up, v) ∷ rest) rest))
    go true all = (h.0, all)
    go false all = all

pub below_swept : (horizon : ℕ) (xs : List ℕ) (number : ℕ) (vs : List Version) → Each (IsBelow number) vs → Each (IsBelow (number + 1)) (swept horizon xs vs)
below_swept horizon xs number vs h = swept_below horizon xs (number + 1) None vs (below_next number vs h)

-- a call at another place
pub below_still : (place q number : ℕ) (old new : Places) → (q ≡ place → ⊥) → OthersStay place old new → Each (IsBelow number) (list_at old q) → Each (IsBelow (number + 1)) (list_at new q)
below_still place q number old new apart stay h = subst (Each (IsBelow (number + 1))) (sym (stay q apart)) (below_next number (list_at old q) h)
