-- What a refusal tells.
use Rattle.std.proofs.Common.{◌≡◌, ℕ, List, Bool, true, false, Option, Some, None, refl, sym, ap, ◌∙◌, cond, subst, not, [], ◌∷◌}
use Rattle.std.specs.Prelude.{IsTrue, IsFalse, IfSome, option_map, Result, Ok, Err, IsOk, unwrap_or, ◌||◌}
use Rattle.std.specs.Option.{option_or}
use Rattle.std.proofs.lemmas.Option.{none-some, same_Some}
use Rattle.hg_base.specs.declared.image.Image.{Image}
use Rattle.hg_base.specs.declared.writer.Writer.{Writer}
use Rattle.hg_bucket.specs.declared.refusal.WriteRefusal.{WriteRefusal}
use Rattle.hg_bucket.specs.declared.refusal.WriteRefusal.TheVariants.{Open, Newer, NoMemory}
use Rattle.hg_base.specs.History.{same_writer}
use Rattle.hg_bucket.specs.BucketModel.{Kept, begins_open, is_open_by}
use Rattle.hg_bucket.specs.Conflicts.{holder, newer, conflict, open_by, IsCause}

pub cause_of : (by : Writer) (snapshot mark : ℕ) (vs : List Kept) (e : WriteRefusal) → conflict by snapshot mark vs ≡ Some e → IsCause by snapshot mark vs e
cause_of by snapshot mark vs e h = go (holder by mark vs) (newer snapshot vs) refl refl h
  where
    go : (w : Option Writer) (n : Option ℕ) → holder by mark vs ≡ w → newer snapshot vs ≡ n → option_or (option_map open_by w) (option_map Newer n) ≡ Some e → IsCause by snapshot mark vs e
    go (Some w) n a b k = subst (IsCause by snapshot mark vs) (same_Some (open_by w) e k) a
    go None (Some n) a b k = subst (IsCause by snapshot mark vs) (same_Some (Newer n) e k) (a, b)
    go None None a b k = absurd (none-some e k)

pub no_conflict : (by : Writer) (snapshot mark : ℕ) (vs : List Kept) → conflict by snapshot mark vs ≡ None → (holder by mark vs ≡ None) × (newer snapshot vs ≡ None)
no_conflict by snapshot mark vs h = go (holder by mark vs) (newer snapshot vs) refl refl h
  where
    go : (w : Option Writer) (n : Option ℕ) → holder by mark vs ≡ w → newer snapshot vs ≡ n → option_or (option_map open_by w) (option_map Newer n) ≡ None →
        (holder by mark vs ≡ None) × (newer snapshot vs ≡ None)
    go (Some w) n a b k = absurd (none-some (open_by w) (sym k))
    go None (Some n) a b k = absurd (none-some (Newer n) (sym k))
    go None None a b k = (a, b)

-- an open write of the same transaction is in no conflict
pub own_is_free : (by : Writer) (snapshot mark : ℕ) (vs : List Kept) → IsTrue (begins_open by vs) → conflict by snapshot mark vs ≡ None
own_is_free by snapshot mark [] h = absurd (let k = h in cc)
own_is_free by snapshot mark (v ∷ vs) h = one v.number v.by v.image h
  where
    go : (b : Bool) (w : Option Writer) → b ≡ true → option_or (option_map open_by (cond (not b || false) w None)) None ≡ None
    go true w k = refl
    go false w k = absurd cc

    one : (n : Option ℕ) (w : Option Writer) (image : Image) → IsTrue (is_open_by by (record { number = n; by = w; image = image })) →
        conflict by snapshot mark (record { number = n; by = w; image = image } ∷ vs) ≡ None
    one (Some n) w image k = absurd (let j = k in cc)
    one None w image k = go (unwrap_or (option_map (λ x. same_writer x by) w) false) w k

pub not_own : (by : Writer) (vs : List Kept) {X E : Type 0} (result : Result X E) {e : E} → result ≡ Err e → (IsTrue (begins_open by vs) → IsOk result) → IsFalse (begins_open by vs)
not_own by vs result {e} is h = go (begins_open by vs) h
  where
    go : (b : Bool) → (IsTrue b → IsOk result) → IsFalse b
    go false k = refl
    go true k = let j = subst IsOk is (k refl) in absurd cc

-- ---- the same refusal, of another call

pub same_err : {X E : Type 0} (d e : E) → Path (Result X E) (Err d) (Err e) → d ≡ e
same_err d e h = ap (λ r. err_or d r) h
  where
    err_or : {X E : Type 0} → E → Result X E → E
    err_or d (Ok x) = d
    err_or d (Err e) = e

pub told_on : {X Y E : Type 0} (o : Option E) (r : Result X E) (s : Result Y E) (d : E) → r ≡ Err d → s ≡ Err d → IfSome o (λ e. r ≡ Err e) → IfSome o (λ e. s ≡ Err e)
told_on None r s d a b h = tt
told_on (Some e) r s d a b h = b ∙ ap Err (same_err d e (sym a ∙ h))

pub told_none : {X Y E : Type 0} (o : Option E) (r : Result X E) (s : Result Y E) (x : X) → r ≡ Ok x → IfSome o (λ e. r ≡ Err e) → IfSome o (λ e. s ≡ Err e)
told_none None r s x a h = tt
told_none (Some e) r s x a h = absurd (let k = sym a ∙ h in cc)

pub told_open : {X : Type 0} (by : Writer) (snapshot mark : ℕ) (vs : List Kept) (r : Result X WriteRefusal) → IfSome (conflict by snapshot mark vs) (λ e. r ≡ Err e) →
    IfSome (holder by mark vs) (λ w. r ≡ Err (open_by w))
told_open by snapshot mark vs r h = go (holder by mark vs) h
  where
    go : (w : Option Writer) → IfSome (option_or (option_map open_by w) (option_map Newer (newer snapshot vs))) (λ e. r ≡ Err e) → IfSome w (λ w. r ≡ Err (open_by w))
    go None k = tt
    go (Some w) k = k

pub told_newer : {X : Type 0} (by : Writer) (snapshot mark : ℕ) (vs : List Kept) (r : Result X WriteRefusal) → IfSome (conflict by snapshot mark vs) (λ e. r ≡ Err e) →
    holder by mark vs ≡ None → IfSome (newer snapshot vs) (λ n. r ≡ Err (Newer n))
told_newer by snapshot mark vs r h none = go (newer snapshot vs) (subst (λ w. IfSome (option_or (option_map open_by w) (option_map Newer (newer snapshot vs))) (λ e. r ≡ Err e)) none h)
  where
    go : (n : Option ℕ) → IfSome (option_or None (option_map Newer n)) (λ e. r ≡ Err e) → IfSome n (λ n. r ≡ Err (Newer n))
    go None k = tt
    go (Some n) k = k

pub never_own : (by : Writer) (snapshot mark : ℕ) (vs : List Kept) (e : WriteRefusal) → IsCause by snapshot mark vs e → IsTrue (begins_open by vs) → ⊥
never_own by snapshot mark vs e cause own = go e cause
  where
    none : (holder by mark vs ≡ None) × (newer snapshot vs ≡ None)
    none = no_conflict by snapshot mark vs (own_is_free by snapshot mark vs own)

    go : (e : WriteRefusal) → IsCause by snapshot mark vs e → ⊥
    go (Open s x) k = none-some (record { session = s; transaction = x }) (sym none.0 ∙ k)
    go (Newer n) k = none-some n (sym none.1 ∙ k.1)
    go NoMemory k = let both = sym k.2 ∙ own in absurd cc

-- ---- how many versions were added

pub one_more : (a own : Bool) → a ≡ not own → a ≡ true → Path ℕ 1 (cond own 0 1)
one_more a true is k = let j = sym is ∙ k in absurd cc
one_more a false is k = refl

pub none_more : (a own : Bool) → a ≡ not own → a ≡ false → Path ℕ 0 (cond own 0 1)
none_more a true is k = refl
none_more a false is k = let j = sym is ∙ k in absurd cc
