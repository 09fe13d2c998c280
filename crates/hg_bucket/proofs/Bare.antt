-- Whether there is a version left.
use Rattle.std.proofs.Common.{◌≡◌, ◌+◌, ◌<◌, List, [], ◌∷◌, length, Bool, true, false, not, Option, Some, None, refl, ap, ◌∙◌, map, arith, length-append}
use Rattle.std.specs.Prelude.{is_some, option_map, option_to_list, ◌==◌}
use Rattle.std.proofs.lemmas.List.{length-map}
use Rattle.std.proofs.lemmas.Bool.Decides.{nat_tests}
use Rattle.hg_chains.specs.declared.version.Version.{Version}
use Rattle.hg_space.specs.Places.{Oldest}
use Rattle.hg_bucket.specs.Parts.{kept, oldest, whole}

pub whole_sum : (vs : List Version) (im : Oldest) → length (whole vs im) ≡ length vs + length (option_to_list im)
whole_sum vs None = length-append (map kept vs) [] ∙ ap (λ n. n + 0) (length-map vs kept)
whole_sum vs (Some p) = length-append (map kept vs) (oldest p ∷ []) ∙ ap (λ n. n + 1) (length-map vs kept)

-- the place has an image
pub with_image : (vs : List Version) (im : Oldest) → is_some im ≡ true → 0 < length (whole vs im)
with_image vs None k = absurd cc
with_image vs (Some p) k = omega (arith, whole_sum vs (Some p))

pub no_image : (im : Oldest) → is_some im ≡ false → im ≡ None
no_image None k = refl
no_image (Some p) k = absurd cc

pub mapped_some : {X Y : Type 0} (f : X → Y) (o : Option X) → is_some (option_map f o) ≡ is_some o
mapped_some f None = refl
mapped_some f (Some x) = refl

-- ---- whether a chain has one

pub no_chain : (vs : List Version) → (length vs == 0) ≡ true → vs ≡ []
no_chain [] e = refl
no_chain (v ∷ vs) e = let none : length (v ∷ vs) ≡ 0 = grind (arith, nat_tests, e) in absurd (omega (arith, none))

pub some_chain : (vs : List Version) → (length vs == 0) ≡ false → 0 < length vs
some_chain vs e = grind (arith, nat_tests, e)

pub long_chain : (vs : List Version) (im : Oldest) → 0 < length vs → 0 < length (whole vs im)
long_chain vs im h = omega (arith, h, whole_sum vs im)

pub not_true : (b : Bool) → not b ≡ true → b ≡ false
not_true true e = absurd cc
not_true false e = refl

pub not_false : (b : Bool) → not b ≡ false → b ≡ true
not_false true e = refl
not_false false e = absurd cc
