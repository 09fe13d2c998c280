-- One of a list, one of the three kinds, and what follows of a result.
use Rattle.std.proofs.Common.{inl, inr, List, [], ◌∷◌, subst}
use Rattle.std.specs.Prelude.{Result, Ok, Err, IfOk}
use Rattle.hg_base.specs.declared.report.Kind.{Kind}
use Rattle.hg_base.specs.declared.report.Kind.TheVariants.{Group, Table, Interval}
use Rattle.hg_base.specs.Lists.{Each}
use Rattle.hg_rule.specs.Facts.{IsAmong}

pub of_among : {A : Type 0} (P : A → Type 0) (a : A) (xs : List A) → Each P xs → IsAmong a xs → P a
of_among P a [] h i = absurd i
of_among P a (x ∷ xs) h (inl e) = subst P e h.0
of_among P a (x ∷ xs) h (inr i) = of_among P a xs h.1 i

-- what holds of each kind holds of all
pub by_kind : (P : Kind → Type 0) → P Group → P Table → P Interval → (kind : Kind) → P kind
by_kind P a b c Group = a
by_kind P a b c Table = b
by_kind P a b c Interval = c

pub if_ok : {A E : Type 0} (P Q : A → Type 0) (result : Result A E) → ((a : A) → P a → Q a) → IfOk result P → IfOk result Q
if_ok P Q (Ok a) f h = f a h
if_ok P Q (Err e) f h = tt
