-- What a sweep makes of a record's versions.
use Rattle.std.proofs.Common.{◌≡◌, ℕ, inl, inr, ◌+◌, ◌<◌, ◌≤◌, List, [], ◌∷◌, length, Bool, true, false, not, Option, Some, None, refl, ap, sym, ◌∙◌, cond, subst, map, arith}
use Rattle.std.specs.Prelude.{IsSome, IsTrue, is_some, filter, find, option_map, option_to_list, nat_le, ⊤}
use Rattle.std.specs.Option.{option_or}
use Rattle.std.specs.Bool.{OnFalse}
use Rattle.std.proofs.lemmas.Bool.Decides.{nat_tests}
use Rattle.hg_base.specs.declared.image.Image.{Image}
use Rattle.hg_base.specs.declared.writer.Writer.{Writer}
use Rattle.hg_base.specs.Lists.{Each}
use Rattle.hg_base.proofs.ListFacts.{cases}
use Rattle.hg_chains.specs.declared.version.Stamp.{Stamp}
use Rattle.hg_chains.specs.declared.version.Stamp.TheVariants.{Written, Numbered}
use Rattle.hg_chains.specs.declared.version.Version.{Version}
use Rattle.hg_chains.specs.Versions.{number_in}
use Rattle.hg_chains.specs.Sweeps as chain
use Rattle.hg_chains.specs.Sweeps.{last_number, swept_away}
use Rattle.hg_base.specs.Lifetimes.{goes, MayStay, IsGuarded}
use Rattle.hg_chains.proofs.Sweeps as runs
use Rattle.hg_chains.proofs.Sweeps.{last_after, last_of_all, swept_sum}
use Rattle.hg_chains.proofs.Readers.{lies, over_horizon, in_use_stays}
use Rattle.hg_space.specs.Places.{Oldest}
use Rattle.hg_bucket.specs.BucketModel.{Kept, is_at_most, is_open_by, read_at}
use Rattle.hg_bucket.specs.Sweeping.{with_successors, goes_after, swept, IsClean}
use Rattle.hg_bucket.specs.Parts.{kept, kept_as, oldest, whole, IsOver}
use Rattle.hg_bucket.proofs.Bare.{whole_sum}
use Rattle.hg_bucket.proofs.Naming.{all_over_none}

-- a sweep of the rest of a record, where up is the successor's number of its first version
abbrev pub swept_from : ℕ → List ℕ → Option ℕ → List Kept → List Kept
swept_from horizon xs up vs = map (λ p. p.1) (filter (λ p. not (goes_after horizon xs p)) (with_successors up vs))

pub first_goes : (horizon : ℕ) (xs : List ℕ) (up : Option ℕ) (v : Kept) (vs : List Kept) → goes horizon xs up v.number ≡ true → swept_from horizon xs up (v ∷ vs) ≡ swept_from horizon xs v.number vs
first_goes horizon xs up v vs e = ap (λ b. map (λ p. p.1) (cond (not b) ((up, v) ∷ filter (λ p. not (goes_after horizon xs p)) (with_successors v.number vs))
    (filter (λ p. not (goes_after horizon xs p)) (with_successors v.number vs)))) e

pub first_stays : (horizon : ℕ) (xs : List ℕ) (up : Option ℕ) (v : Kept) (vs : List Kept) → goes horizon xs up v.number ≡ false →
    swept_from horizon xs up (v ∷ vs) ≡ v ∷ swept_from horizon xs v.number vs
first_stays horizon xs up v vs e = ap (λ b. map (λ p. p.1) (cond (not b) ((up, v) ∷ filter (λ p. not (goes_after horizon xs p)) (with_successors v.number vs))
    (filter (λ p. not (goes_after horizon xs p)) (with_successors v.number vs)))) e

open_stays : (horizon : ℕ) (xs : List ℕ) (up : Option ℕ) → goes horizon xs up None ≡ false
open_stays horizon xs None = refl
open_stays horizon xs (Some up) = refl

-- ---- of a chain and the oldest image behind it

abbrev pub base_of : Oldest → Option ℕ
base_of im = option_map (λ p. p.0) im

abbrev pub less_base : Bool → Oldest → Oldest
less_base b im = cond b None im

number_kept : (s : Stamp) (image : Image) → (kept_as s image).number ≡ number_in s
number_kept (Written w) image = refl
number_kept (Numbered n w) image = refl

base_from : (horizon : ℕ) (xs : List ℕ) (up : Option ℕ) (im : Oldest) → swept_from horizon xs up (whole [] im) ≡ whole [] (less_base (goes horizon xs up (base_of im)) im)
base_from horizon xs up None = go (goes horizon xs up None)
  where
    go : (b : Bool) → [] ≡ whole [] (less_base b None)
    go true = refl
    go false = refl
base_from horizon xs up (Some p) = go (goes horizon xs up (Some p.0))
  where
    go : (b : Bool) → map (λ (q : Option ℕ × Kept). q.1) (cond (not b) ((up, oldest p) ∷ []) []) ≡ whole [] (less_base b (Some p))
    go true = refl
    go false = refl

whole_from : (horizon : ℕ) (xs : List ℕ) (up : Option ℕ) (vs : List Version) (im : Oldest) → swept_from horizon xs up (whole vs im) ≡ whole (runs.swept_from horizon xs up vs)
    (less_base (goes horizon xs (last_after up vs) (base_of im)) im)
whole_from horizon xs up [] im = base_from horizon xs up im
whole_from horizon xs up (v ∷ vs) im =
    let n = number_kept v.stamp v.image in
    let base = less_base (goes horizon xs (last_after (number_in v.stamp) vs) (base_of im)) im in
    let rest : swept_from horizon xs (kept v).number (whole vs im) ≡ whole (runs.swept_from horizon xs (number_in v.stamp) vs) base = ap
    (λ m. swept_from horizon xs m (whole vs im)) n ∙ whole_from horizon xs (number_in v.stamp) vs im in
    cases (goes horizon xs up (number_in v.stamp))
    (λ e. first_goes horizon xs up (kept v) (whole vs im) (ap (goes horizon xs up) n ∙ e) ∙ rest ∙ ap (λ ws. whole ws base) (sym (runs.swept_goes horizon xs up v vs e)))
    (λ e. first_stays horizon xs up (kept v) (whole vs im) (ap (goes horizon xs up) n ∙ e) ∙ ap (λ ws. kept v ∷ ws) rest ∙ ap (λ ws. whole ws base) (sym (runs.swept_stays horizon xs up v vs e)))

-- what a sweep leaves of it
pub whole_swept : (horizon : ℕ) (xs : List ℕ) (vs : List Version) (im : Oldest) →
    swept horizon xs (whole vs im) ≡ whole (chain.swept horizon xs vs) (less_base (goes horizon xs (last_number vs) (base_of im)) im)
whole_swept horizon xs vs im = whole_from horizon xs None vs im ∙ ap (λ n. whole (chain.swept horizon xs vs) (less_base (goes horizon xs n (base_of im)) im)) (last_of_all vs)

-- how many go
pub base_sum : (horizon : ℕ) (xs : List ℕ) (up : Option ℕ) (im : Oldest) (b : Bool) → b ≡ goes horizon xs up (base_of im) →
    length (option_to_list (less_base b im)) + cond {A = ℕ} b 1 0 ≡ length (option_to_list im)
base_sum horizon xs up None true e = let k = e ∙ open_stays horizon xs up in absurd cc
base_sum horizon xs up None false e = refl
base_sum horizon xs up (Some p) true e = refl
base_sum horizon xs up (Some p) false e = refl

pub swept_gone : (horizon : ℕ) (xs : List ℕ) (vs : List Version) (im : Oldest) (b : Bool) → b ≡ goes horizon xs (last_number vs) (base_of im) →
    length (whole (chain.swept horizon xs vs) (less_base b im)) + (swept_away horizon xs vs + cond {A = ℕ} b 1 0) ≡ length (whole vs im)
swept_gone horizon xs vs im b e = omega (arith, whole_sum (chain.swept horizon xs vs) (less_base b im), whole_sum vs im, swept_sum horizon xs None vs, base_sum horizon xs (last_number vs) im b e)

pub some_left : (horizon : ℕ) (xs : List ℕ) (vs : List Kept) → 0 < length vs → 0 < length (swept horizon xs vs)
some_left horizon xs [] h = h
some_left horizon xs (v ∷ vs) h = omega arith

-- what is left is over the oldest image that is left
each_from : (P : Version → Type 0) (horizon : ℕ) (xs : List ℕ) (up : Option ℕ) (vs : List Version) → Each P vs → Each P (runs.swept_from horizon xs up vs)
each_from P horizon xs up [] h = tt
each_from P horizon xs up (v ∷ vs) h =
    let more = each_from P horizon xs (number_in v.stamp) vs h.1 in
    cases (goes horizon xs up (number_in v.stamp))
    (λ e. subst (Each P) (sym (runs.swept_goes horizon xs up v vs e)) more)
    (λ e. subst (Each P) (sym (runs.swept_stays horizon xs up v vs e)) (h.0, more))

pub swept_over : (horizon : ℕ) (xs : List ℕ) (vs : List Version) (im : Oldest) (b : Bool) → Each (λ v. IsOver v.stamp im) vs → Each (λ v. IsOver v.stamp (less_base b im)) (chain.swept horizon xs vs)
swept_over horizon xs vs im true h = all_over_none (chain.swept horizon xs vs)
swept_over horizon xs vs im false h = each_from (λ v. IsOver v.stamp im) horizon xs None vs h

-- ---- a record that is left is clean

clean_from : (horizon : ℕ) (xs : List ℕ) (up : Option ℕ) (vs : List Version) (im : Oldest) → Each (λ p. MayStay horizon xs p.0 (number_in p.1.stamp)) (chain.with_successors up vs)
    → MayStay horizon xs (last_after up vs) (base_of im) → Each (λ p. MayStay horizon xs p.0 p.1.number) (with_successors up (whole vs im))
clean_from horizon xs up [] None h base = tt
clean_from horizon xs up [] (Some p) h base = (base, tt)
clean_from horizon xs up (v ∷ vs) im h base =
    let n = number_kept v.stamp v.image in (
      subst (MayStay horizon xs up) (sym n) h.0,
      subst (λ m. Each (λ p. MayStay horizon xs p.0 p.1.number) (with_successors m (whole vs im))) (sym n) (clean_from horizon xs (number_in v.stamp) vs im h.1 base),
    )

no_base : (horizon : ℕ) (xs : List ℕ) (up : Option ℕ) → MayStay horizon xs up None
no_base horizon xs None = tt
no_base horizon xs (Some up) = tt

pub whole_clean : (horizon : ℕ) (xs : List ℕ) (ws : List Version) (im : Oldest) (b : Bool) → chain.IsClean horizon xs ws →
    OnFalse b (MayStay horizon xs (last_number ws) (base_of im)) → IsClean horizon xs (whole ws (less_base b im))
whole_clean horizon xs ws im true h base = clean_from horizon xs None ws None h (no_base horizon xs (last_after None ws))
whole_clean horizon xs ws im false h base = clean_from horizon xs None ws im h (subst (λ n. MayStay horizon xs n (base_of im)) (sym (last_of_all ws)) base)

-- ---- a record that can't be shortened

-- nothing can be shortened: there is an oldest image alone, which is a row, or nothing
abbrev pub IsSettled : List Kept → Type 0
IsSettled [] = ⊤
IsSettled (v ∷ []) = (v.by ≡ None) × IsSome v.number × IsTrue (is_some v.image.row)
IsSettled (v ∷ w ∷ vs) = ⊥

pub settled_swept : (horizon : ℕ) (xs : List ℕ) (vs : List Kept) → IsSettled vs → vs ≡ swept horizon xs vs
settled_swept horizon xs [] h = refl
settled_swept horizon xs (v ∷ []) h = refl
settled_swept horizon xs (v ∷ w ∷ vs) h = absurd h

pub settled_clean : (horizon : ℕ) (xs : List ℕ) (vs : List Kept) → IsSettled vs → IsClean horizon xs vs
settled_clean horizon xs [] h = tt
settled_clean horizon xs (v ∷ []) h = (tt, tt)
settled_clean horizon xs (v ∷ w ∷ vs) h = absurd h

-- where there is one version or none: the newest stays
pub lone_swept : (horizon : ℕ) (xs : List ℕ) (vs : List Kept) → length vs ≤ 1 → vs ≡ swept horizon xs vs
lone_swept horizon xs [] h = refl
lone_swept horizon xs (v ∷ []) h = refl
lone_swept horizon xs (v ∷ w ∷ vs) h = absurd (omega (arith, h))

pub lone_clean : (horizon : ℕ) (xs : List ℕ) (vs : List Kept) → length vs ≤ 1 → IsClean horizon xs vs
lone_clean horizon xs [] h = tt
lone_clean horizon xs (v ∷ []) h = (tt, tt)
lone_clean horizon xs (v ∷ w ∷ vs) h = absurd (omega (arith, h))

-- ---- what a protected reader sees stays

abbrev IsBefore : ℕ → Option ℕ → Type 0
IsBefore s None = ⊤
IsBefore s (Some up) = s < up

seen_stays : (horizon s : ℕ) (xs : List ℕ) (up n : Option ℕ) (v : Kept) → IsGuarded horizon xs s → IsBefore s up → v.number ≡ n → is_at_most s v ≡ true → goes horizon xs up n ≡ false
seen_stays horizon s xs None n v g b k e = refl
seen_stays horizon s xs (Some up) None v g b k e = refl
seen_stays horizon s xs (Some up) (Some n) v (inl g) b k e = over_horizon horizon up n s xs g b
seen_stays horizon s xs (Some up) (Some n) v (inr g) b k e = in_use_stays horizon up n xs (lies n up s xs (at_most k e) b g)
  where
    at_most : v.number ≡ Some n → is_at_most s v ≡ true → n ≤ s
    at_most k e = let f : nat_le n s ≡ true = ap at_number (sym k) ∙ e in grind (arith, nat_tests, f)
      where
        at_number : Option ℕ → Bool
        at_number o = is_at_most s (record { number = o; by = None; image = v.image })

before_next : (s : ℕ) (v : Kept) (n : Option ℕ) → v.number ≡ n → is_at_most s v ≡ false → IsBefore s n
before_next s v None k e = tt
before_next s v (Some n) k e = let f : nat_le n s ≡ false = ap (λ o. is_at_most s (record { number = o; by = None; image = v.image })) (sym k) ∙ e in grind (arith, nat_tests, f)

found_from : (horizon s : ℕ) (xs : List ℕ) (up : Option ℕ) (vs : List Kept) → IsGuarded horizon xs s → IsBefore s up → find (is_at_most s) (swept_from horizon xs up vs) ≡ find (is_at_most s) vs
found_from horizon s xs up [] g b = refl
found_from horizon s xs up (v ∷ vs) g b =
    cases (is_at_most s v)
    (λ e.
    ap (find (is_at_most s)) (first_stays horizon xs up v vs (seen_stays horizon s xs up v.number v g b refl e))
    ∙ (λ i. cond (e i) (Some v) (find (is_at_most s) (swept_from horizon xs v.number vs)))
    ∙ sym (ap (λ t. cond t (Some v) (find (is_at_most s) vs)) e))
    (λ e.
    let later = found_from horizon s xs v.number vs g (before_next s v v.number refl e) in
    let unseen : find (is_at_most s) (v ∷ vs) ≡ find (is_at_most s) vs = ap (λ t. cond t (Some v) (find (is_at_most s) vs)) e in
    cases (goes horizon xs up v.number)
    (λ f. ap (find (is_at_most s)) (first_goes horizon xs up v vs f) ∙ later ∙ sym unseen)
    (λ f.
    ap (find (is_at_most s)) (first_stays horizon xs up v vs f)
    ∙ ap (λ t. cond t (Some v) (find (is_at_most s) (swept_from horizon xs v.number vs))) e
    ∙ later ∙ sym unseen))

-- an open write has no number
no_number : (own : Writer) (v : Kept) (n : Option ℕ) → v.number ≡ n → is_open_by own v ≡ true → n ≡ None
no_number own v None k e = refl
no_number own v (Some n) k e = let f : false ≡ true = ap (λ o. is_open_by own (record { number = o; by = v.by; image = v.image })) (sym k) ∙ e in absurd cc

own_from : (own : Writer) (horizon : ℕ) (xs : List ℕ) (up : Option ℕ) (vs : List Kept) → find (is_open_by own) (swept_from horizon xs up vs) ≡ find (is_open_by own) vs
own_from own horizon xs up [] = refl
own_from own horizon xs up (v ∷ vs) =
    let later = own_from own horizon xs v.number vs in
    cases (is_open_by own v)
    (λ e.
    ap (find (is_open_by own)) (first_stays horizon xs up v vs (ap (goes horizon xs up) (no_number own v v.number refl e) ∙ open_stays horizon xs up))
    ∙ (λ i. cond (e i) (Some v) (find (is_open_by own) (swept_from horizon xs v.number vs)))
    ∙ sym (ap (λ t. cond t (Some v) (find (is_open_by own) vs)) e))
    (λ e.
    let unseen : find (is_open_by own) (v ∷ vs) ≡ find (is_open_by own) vs = ap (λ t. cond t (Some v) (find (is_open_by own) vs)) e in
    cases (goes horizon xs up v.number)
    (λ f. ap (find (is_open_by own)) (first_goes horizon xs up v vs f) ∙ later ∙ sym unseen)
    (λ f.
    ap (find (is_open_by own)) (first_stays horizon xs up v vs f)
    ∙ ap (λ t. cond t (Some v) (find (is_open_by own) (swept_from horizon xs v.number vs))) e
    ∙ later ∙ sym unseen))

pub read_same : (own : Writer) (horizon s : ℕ) (xs : List ℕ) (vs : List Kept) → IsGuarded horizon xs s → read_at own s (swept horizon xs vs) ≡ read_at own s vs
read_same own horizon s xs vs g = λ i. option_map (λ v. v.image) (option_or (own_from own horizon xs None vs i) (found_from horizon s xs None vs g tt i))
