-- What a sweep leaves, version by version.
use Rattle.std.proofs.Common.{◌≡◌, ℕ, ◌+◌, List, [], ◌∷◌, length, Bool, true, false, not, Option, Some, None, refl, ap, sym, subst, arith}
use Rattle.std.specs.Prelude.{map, filter, count_by, cond, IsSome, ⊤}
use Rattle.std.proofs.lemmas.List.Sums.{length-filter}
use Rattle.std.proofs.lemmas.List.{length-map}
use Rattle.hg_base.specs.Lists.{Each}
use Rattle.hg_base.proofs.ListFacts.{cases}
use Rattle.hg_chains.specs.declared.version.Stamp.{Stamp}
use Rattle.hg_chains.specs.declared.version.Stamp.TheVariants.{Written, Numbered}
use Rattle.hg_chains.specs.declared.version.Version.{Version}
use Rattle.hg_chains.specs.Versions.{number_in, HasBelow, IsBelow, FallsTo, IsChain}
use Rattle.hg_chains.specs.Sweeps.{goes_after, with_successors, last_number}
use Rattle.hg_base.specs.Lifetimes.{goes}
use Rattle.hg_chains.specs.Merging.{Follows}

-- ---- a sweep of the rest of a chain, where up is the successor's number of its first version

abbrev pub swept_from : ℕ → List ℕ → Option ℕ → List Version → List Version
swept_from horizon snapshots up vs = map (λ p. p.1) (filter (λ p. not (goes_after horizon snapshots p)) (with_successors up vs))

abbrev pub swept_away_from : ℕ → List ℕ → Option ℕ → List Version → ℕ
swept_away_from horizon snapshots up vs = count_by (goes_after horizon snapshots) (with_successors up vs)

abbrev pub last_after : Option ℕ → List Version → Option ℕ
last_after up [] = up
last_after up (v ∷ vs) = last_after (number_in v.stamp) vs

last_is : (up : Option ℕ) (v : Version) (vs : List Version) → last_after up (v ∷ vs) ≡ last_number (v ∷ vs)
last_is up v [] = refl
last_is up v (w ∷ vs) = last_is (number_in v.stamp) w vs

pub last_of_all : (vs : List Version) → last_after None vs ≡ last_number vs
last_of_all [] = refl
last_of_all (v ∷ vs) = last_is None v vs

-- all are below the number, if that is one
abbrev pub Under : Option ℕ → List Version → Type 0
Under None vs = ⊤
Under (Some up) vs = Each (IsBelow up) vs

pub under_next : (s : Stamp) (vs : List Version) → FallsTo s vs → Under (number_in s) vs
under_next (Written w) vs h = tt
under_next (Numbered n by) vs h = h

follows_stamp : (up : ℕ) (s : Stamp) → HasBelow up s → Follows (Some up) (number_in s)
follows_stamp up (Written w) h = absurd h
follows_stamp up (Numbered n by) h = h

pub under_follows : (up : Option ℕ) (v : Version) (vs : List Version) → Under up (v ∷ vs) → Follows up (number_in v.stamp)
under_follows None v vs h = tt
under_follows (Some up) v vs h = follows_stamp up v.stamp h.0

-- ---- one version

pub swept_goes : (horizon : ℕ) (snapshots : List ℕ) (up : Option ℕ) (v : Version) (vs : List Version) → goes horizon snapshots up (number_in v.stamp) ≡ true →
    swept_from horizon snapshots up (v ∷ vs) ≡ swept_from horizon snapshots (number_in v.stamp) vs
swept_goes horizon snapshots up v vs e = ap (λ b. map (λ p. p.1)
    (cond (not b) ((up, v) ∷ filter (λ p. not (goes_after horizon snapshots p)) (with_successors (number_in v.stamp) vs))
    (filter (λ p. not (goes_after horizon snapshots p)) (with_successors (number_in v.stamp) vs)))) e

pub swept_stays : (horizon : ℕ) (snapshots : List ℕ) (up : Option ℕ) (v : Version) (vs : List Version) → goes horizon snapshots up (number_in v.stamp) ≡ false →
    swept_from horizon snapshots up (v ∷ vs) ≡ v ∷ swept_from horizon snapshots (number_in v.stamp) vs
swept_stays horizon snapshots up v vs e = ap (λ b. map (λ p. p.1)
    (cond (not b) ((up, v) ∷ filter (λ p. not (goes_after horizon snapshots p)) (with_successors (number_in v.stamp) vs))
    (filter (λ p. not (goes_after horizon snapshots p)) (with_successors (number_in v.stamp) vs)))) e

-- what is left and what goes are all
parted : {X : Type 0} (p : X → Bool) (xs : List X) → length (filter (λ x. not (p x)) xs) + length (filter p xs) ≡ length xs
parted p [] = refl
parted p (x ∷ xs) = go (p x) (parted p xs)
  where
    go : (b : Bool) → length (filter (λ x. not (p x)) xs) + length (filter p xs) ≡ length xs →
        length (cond (not b) (x ∷ filter (λ x. not (p x)) xs) (filter (λ x. not (p x)) xs)) + length (cond b (x ∷ filter p xs) (filter p xs)) ≡ length (x ∷ xs)
    go true e = omega (arith, e)
    go false e = omega (arith, e)

each_once : (up : Option ℕ) (vs : List Version) → length (with_successors up vs) ≡ length vs
each_once up [] = refl
each_once up (v ∷ vs) = let e = each_once (number_in v.stamp) vs in omega (arith, e)

pub swept_sum : (horizon : ℕ) (snapshots : List ℕ) (up : Option ℕ) (vs : List Version) → length (swept_from horizon snapshots up vs) + swept_away_from horizon snapshots up vs ≡ length vs
swept_sum horizon snapshots up vs =
    let ps = with_successors up vs in
    let p = goes_after horizon snapshots in
    let a = parted p ps in
    let b = length-filter p ps in
    let c = each_once up vs in
    let d : length (swept_from horizon snapshots up vs) ≡ length (filter (λ x. not (p x)) ps) = length-map (filter (λ x. not (p x)) ps) (λ q. q.1) in
    omega (arith, a, b, c, d)

-- ---- a sweep leaves a chain

each_swept : (P : Version → Type 0) (horizon : ℕ) (xs : List ℕ) (up : Option ℕ) (vs : List Version) → Each P vs → Each P (swept_from horizon xs up vs)
each_swept P horizon xs up [] h = tt
each_swept P horizon xs up (v ∷ vs) h =
    let more = each_swept P horizon xs (number_in v.stamp) vs h.1 in
    cases (goes horizon xs up (number_in v.stamp))
    (λ e. subst (Each P) (sym (swept_goes horizon xs up v vs e)) more)
    (λ e. subst (Each P) (sym (swept_stays horizon xs up v vs e)) (h.0, more))

falls_swept : (s : Stamp) (horizon : ℕ) (xs : List ℕ) (up : Option ℕ) (vs : List Version) → FallsTo s vs → FallsTo s (swept_from horizon xs up vs)
falls_swept (Written w) horizon xs up vs h = each_swept (λ v. IsSome (number_in v.stamp)) horizon xs up vs h
falls_swept (Numbered n by) horizon xs up vs h = each_swept (IsBelow n) horizon xs up vs h

pub swept_is_chain : (horizon : ℕ) (xs : List ℕ) (up : Option ℕ) (vs : List Version) → IsChain vs → IsChain (swept_from horizon xs up vs)
swept_is_chain horizon xs up [] h = tt
swept_is_chain horizon xs up (v ∷ vs) h =
    let more = swept_is_chain horizon xs (number_in v.stamp) vs h.1 in
    cases (goes horizon xs up (number_in v.stamp))
    (λ e. subst IsChain (sym (swept_goes horizon xs up v vs e)) more)
    (λ e. subst IsChain (sym (swept_stays horizon xs up v vs e)) (falls_swept v.stamp horizon xs (number_in v.stamp) vs h.0, more))
