-- Numbers that do not fall.
use Rattle.std.proofs.Common.{◌≡◌, ℕ, ◌≤◌, ◌+◌, List, [], ◌∷◌, ◌++◌, take, Option, Some, None, sym, ap, ◌∙◌, subst, arith}
use Rattle.std.specs.Prelude.{nat_le, max, unwrap_or, filter_map, Decides}
use Rattle.std.specs.List.{cons_option}
use Rattle.std.proofs.lemmas.List.Elements.{filter_map-append}
use Rattle.hg_base.specs.Transcript.{Said, committed, greatest_commit}
use Rattle.hg_base.proofs.ListFacts.{append_nil}
use Rattle.hg_known.proofs.Showing.{greatest_push}
use Rattle.hg_known.proofs.Walking.{AtLine}
use Rattle.std.proofs.lemmas.Bool.{leb-true, le-leb}
use Rattle.hg_base.specs.Lists.{Each, greatest}

pub each_within : (s : ℕ) (ns : List ℕ) → greatest ns ≤ s → Each (λ n. n ≤ s) ns
each_within s [] h = tt
each_within s (n ∷ ns) h = (omega (arith, h), each_within s ns (omega (arith, h)))

pub within_each : (s : ℕ) (ns : List ℕ) → Each (λ n. n ≤ s) ns → greatest ns ≤ s
within_each s [] h = omega arith
within_each s (n ∷ ns) h = let a : n ≤ s = h.0 in let b = within_each s ns h.1 in omega (arith, a, b)

pub decides_within : (most s : ℕ) (ns : List ℕ) → most ≡ greatest ns → Decides (nat_le most s) (Each (λ n. n ≤ s) ns)
decides_within most s ns e = (
  λ t. each_within s ns (subst (λ m. m ≤ s) e (leb-true most s t)),
  λ h. le-leb most s (subst (λ m. m ≤ s) (sym e) (within_each s ns h)),
)

pub greatest_option : (ns : List ℕ) (o : Option ℕ) → greatest (ns ++ cons_option o []) ≡ max (unwrap_or o 0) (greatest ns)
greatest_option ns None = ap greatest (append_nil ns) ∙ zero_most (greatest ns)
  where
    zero_most : (n : ℕ) → n ≡ max 0 n
    zero_most n = omega arith
greatest_option ns (Some m) = greatest_push ns m ∙ flip (greatest ns) m
  where
    flip : (a b : ℕ) → max a b ≡ max b a
    flip a b = omega arith

pub greatest_next : (xs : List Said) (k : ℕ) (now : Said) → AtLine xs k now → greatest_commit (take (k + 1) xs) ≡ max (unwrap_or (committed now) 0) (greatest_commit (take k xs))
greatest_next xs k now at = ap greatest_commit at.up_to ∙ ap greatest (filter_map-append committed (take k xs) (now ∷ [])) ∙ greatest_option (filter_map committed (take k xs)) (committed now)
