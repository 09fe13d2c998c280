use Rattle.std.proofs.Common.{◌≡◌, ◌⊎◌, inl, inr, ℕ, ◌<◌, ◌≤◌, Option, Some, None, refl, sym, ap, ◌∙◌, subst, arith}
use Rattle.std.specs.Prelude.{option_map, IsSome}
use Rattle.std.proofs.lemmas.Option.{same_Some}
use Rattle.hg_base.specs.declared.image.Image.{Image}
use Rattle.hg_base.specs.History.{nothing}
use Rattle.hg_core.specs.Covered.{Reads, image_of}
use Rattle.hg_core.proofs.Runs.{steady_after}
use Rattle.hg_core.proofs.theorems.no_conflict_is_lost.Goals as goal

-- the last write stands there, or is at or below each number that is read
last_held : (held last : Option (ℕ × Image)) (n at : ℕ) (image : Image) (Low : ℕ → Type 0) → Low at → last ≡ Some (n, image) → at < n
    → (option_map (λ pair. pair.0) held ≡ option_map (λ pair. pair.0) last) ⊎ ((held ≡ None) × ((d : ℕ) × (last ≡ Some (d, nothing)) × ((k : ℕ) → Low k → d ≤ k)))
    → option_map (λ pair. pair.0) held ≡ Some n
last_held held last n at image Low low is over (inl same) = same ∙ ap (option_map (λ pair. pair.0)) is
last_held held last n at image Low low is over (inr h) =
    let number : h.1.0 ≡ n = ap (λ (p : ℕ × Image). p.0) (same_Some (h.1.0, nothing) (n, image) (sym h.1.1 ∙ is)) in
    absurd (omega (arith, number, over, h.1.2 at low))

row_held : (held : Option (ℕ × Image)) (image : Image) → image_of held ≡ image → IsSome image.row → IsSome held
row_held None image same some = let none : IsSome nothing.row = subst (λ (m : Image). IsSome m.row) (sym same) some in absurd cc
row_held (Some pair) image same some = refl

pub returns-clause-newer : goal.returns-clause-newer
returns-clause-newer c sessions tables buckets passes quota steps r j at n scope rid image live with_table last over =
    last_held _ _ n at image _ (inr (j, subst (λ p. Reads rid.table p at) (sym live) (refl, with_table))) last over ((steady_after sessions tables buckets passes quota steps r).covered rid).newest

pub returns-clause-read : goal.returns-clause-read
returns-clause-read c sessions tables buckets passes quota steps r j at scope rid live with_table some =
    row_held _ _ (((steady_after sessions tables buckets passes quota steps r).covered rid).same at (inr (j, subst (λ p. Reads rid.table p at) (sym live) (refl, with_table)))) some
