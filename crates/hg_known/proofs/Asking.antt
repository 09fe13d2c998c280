-- Whether some line passes a test.
use Rattle.std.proofs.Common.{◌≡◌, ℕ, ◌+◌, List, [], ◌∷◌, take, drop, Bool, true, false, None, refl, sym, ap, ◌∙◌}
use Rattle.std.specs.Prelude.{◌||◌}
use Rattle.std.specs.List.{list_any}
use Rattle.hg_base.specs.declared.line.Answer.TheVariants.{Undone}
use Rattle.hg_base.specs.declared.scope.Scope.TheVariants.{All}
use Rattle.hg_base.specs.declared.statement.Statement.TheVariants.{Rollback}
use Rattle.hg_base.specs.Transcript.{Said}
use Rattle.hg_known.proofs.Pairs.{any_append}
use Rattle.hg_known.proofs.Walking.{AtLine}

-- what stands for a line where there is none
pub no_line : Said
no_line = record { session = 0; place = 0; transaction = 0; at = 0; scope = All; alone = false; statement = Rollback; reply = record { at = None; answer = Undone; number = None } }

module _ {X : Type 0} (test : X → Bool) (xs : List X) where
  pub any_here : (k : ℕ) (now : X) → AtLine xs k now → test now ≡ true → list_any test xs ≡ true
  any_here k now at e = ap (list_any test) at.all ∙ any_append test (take k xs) (now ∷ drop (k + 1) xs) ∙
      ap (λ b. list_any test (take k xs) || (b || list_any test (drop (k + 1) xs))) e ∙ some (list_any test (take k xs))
    where
      some : (b : Bool) → (b || true) ≡ true
      some true = refl
      some false = refl

  pub any_next : (k : ℕ) (now : X) → AtLine xs k now → (before here : Bool) → before ≡ list_any test (take k xs) → here ≡ test now → (before || here) ≡ list_any test (take (k + 1) xs)
  any_next k now at before here e f =
      (λ i. e i || f i) ∙ sym (ap (list_any test) at.up_to ∙ any_append test (take k xs) (now ∷ []) ∙ ap (λ b. list_any test (take k xs) || b) (no_more (test now)))
    where
      no_more : (b : Bool) → (b || false) ≡ b
      no_more true = refl
      no_more false = refl
