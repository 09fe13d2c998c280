-- Lists that grow, a fact of each element, and one of the elements.
use Rattle.std.proofs.Common.{inl, inr, List, [], ◌∷◌, ◌++◌, refl, sym, ap, ◌∙◌, append_assoc, append-nil}
use Rattle.hg_base.specs.Lists.{Each}
use Rattle.hg_rule.specs.Facts.{StartsWith, EndsWith, IsAmong}

module _ {A : Type 0} where
  pub starts_same : (xs : List A) → StartsWith xs xs
  starts_same xs = ([], sym (append-nil xs))

  pub starts_on : (xs ys start : List A) → StartsWith ys start → StartsWith xs ys → StartsWith xs start
  starts_on xs ys start a b = (a.0 ++ b.0, b.1 ∙ (ap (λ l. l ++ b.0) a.1 ∙ append_assoc start a.0 b.0))

  pub ends_same : (xs : List A) → EndsWith xs xs
  ends_same xs = ([], refl)

  pub ends_on : (xs ys end : List A) → EndsWith ys end → EndsWith xs ys → EndsWith xs end
  ends_on xs ys end a b = (b.0 ++ a.0, b.1 ∙ (ap (λ l. b.0 ++ l) a.1 ∙ sym (append_assoc b.0 a.0 end)))

  pub each_append : (P : A → Type 0) (xs ys : List A) → Each P xs → Each P ys → Each P (xs ++ ys)
  each_append P [] ys a b = b
  each_append P (x ∷ xs) ys a b = (a.0, each_append P xs ys a.1 b)

  pub each_left : (P : A → Type 0) (xs ys : List A) → Each P (xs ++ ys) → Each P xs
  each_left P [] ys h = tt
  each_left P (x ∷ xs) ys h = (h.0, each_left P xs ys h.1)

  pub each_right : (P : A → Type 0) (xs ys : List A) → Each P (xs ++ ys) → Each P ys
  each_right P [] ys h = h
  each_right P (x ∷ xs) ys h = each_right P xs ys h.1

  pub each_map : (P Q : A → Type 0) → ((x : A) → P x → Q x) → (xs : List A) → Each P xs → Each Q xs
  each_map P Q f [] h = tt
  each_map P Q f (x ∷ xs) h = (f x h.0, each_map P Q f xs h.1)

  pub among_left : (a : A) (xs ys : List A) → IsAmong a xs → IsAmong a (xs ++ ys)
  among_left a [] ys i = absurd i
  among_left a (x ∷ xs) ys (inl e) = inl e
  among_left a (x ∷ xs) ys (inr i) = inr (among_left a xs ys i)
