-- A sweep of the versions behind the newest: it does to them what a sweep of all does, and the newest stays.
use Rattle.std.proofs.Common.{◌≡◌, ℕ, ◌≤◌, List, ◌∷◌, ◌++◌, length, Option, Some, None, refl, sym, ap, subst, arith}
use Rattle.std.proofs.lemmas.List.{length-append}
use Rattle.hg_base.specs.declared.writer.Writer.{Writer}
use Rattle.hg_base.specs.declared.image.Image.{Image}
use Rattle.hg_base.specs.Lists.{Each}
use Rattle.hg_chains.specs.declared.version.Version.{Version}
use Rattle.hg_chains.specs.declared.version.Stamp.TheVariants.{Numbered}
use Rattle.hg_chains.specs.declared.head.State.{State}
use Rattle.hg_chains.specs.declared.head.State.TheVariants.{Empty, Open, Stamped}
use Rattle.hg_chains.specs.declared.head.Head.{Head}
use Rattle.hg_chains.specs.Versions.{IsChain, open_write}
use Rattle.hg_chains.specs.Sweeps.{swept, swept_away, last_number}
use Rattle.hg_chains.specs.Merging.{HasPassed}
use Rattle.hg_chains.specs.Strands.{first_writer, front_by, front_of, number_by, first_number}
use Rattle.hg_chains.proofs.Merges.{none_behind}
use Rattle.hg_chains.proofs.Sweeps.{Under, swept_from, swept_away_from, last_after, last_of_all, swept_stays, swept_sum}

under_by : (s : State) (by : Writer) (number : ℕ) (image : Image) (vs : List Version) → IsChain (front_by s by number image ++ vs) → Under (number_by s number) vs
under_by Empty by number image vs h = tt
under_by Open by number image vs h = tt
under_by Stamped by number image vs h = h.0

pub under_first : (h : Head) (vs : List Version) → IsChain (front_of h ++ vs) → Under (first_number h) vs
under_first h vs chain = under_by h.state (first_writer h) h.number h.image vs chain

swept_by : (horizon : ℕ) (xs : List ℕ) (s : State) (by : Writer) (number : ℕ) (image : Image) (vs : List Version) →
    swept horizon xs (front_by s by number image ++ vs) ≡ front_by s by number image ++ swept_from horizon xs (number_by s number) vs
swept_by horizon xs Empty by number image vs = refl
swept_by horizon xs Open by number image vs = swept_stays horizon xs None (open_write by image) vs refl
swept_by horizon xs Stamped by number image vs = swept_stays horizon xs None (record { stamp = Numbered number by; image = image }) vs refl

pub swept_first : (horizon : ℕ) (xs : List ℕ) (h : Head) (vs : List Version) → swept horizon xs (front_of h ++ vs) ≡ front_of h ++ swept_from horizon xs (first_number h) vs
swept_first horizon xs h vs = swept_by horizon xs h.state (first_writer h) h.number h.image vs

last_by : (s : State) (by : Writer) (number : ℕ) (image : Image) (vs : List Version) → last_after (number_by s number) vs ≡ last_number (front_by s by number image ++ vs)
last_by Empty by number image vs = last_of_all vs
last_by Open by number image vs = last_of_all (open_write by image ∷ vs)
last_by Stamped by number image vs = last_of_all (record { stamp = Numbered number by; image = image } ∷ vs)

pub last_first : (h : Head) (vs : List Version) → last_after (first_number h) vs ≡ last_number (front_of h ++ vs)
last_first h vs = last_by h.state (first_writer h) h.number h.image vs

pub away_first : (horizon : ℕ) (xs : List ℕ) (h : Head) (vs : List Version) → swept_away horizon xs (front_of h ++ vs) ≡ swept_away_from horizon xs (first_number h) vs
away_first horizon xs h vs =
    let a = swept_sum horizon xs None (front_of h ++ vs) in
    let b = swept_sum horizon xs (first_number h) vs in
    let l = ap length (swept_first horizon xs h vs) in
    let m = length-append (front_of h) vs in
    let n = length-append (front_of h) (swept_from horizon xs (first_number h) vs) in
    omega (arith, a, b, l, m, n)

-- at first no snapshot is passed
pub passed_none : (top : Option ℕ) (xs : List ℕ) → HasPassed top (length xs) xs
passed_none None xs = none_behind xs
passed_none (Some up) xs = subst (Each (λ s. up ≤ s)) (sym (none_behind xs)) tt
