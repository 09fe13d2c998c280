-- What is cut at a bound: what is left of a record, and that it stays cut.
use Rattle.std.proofs.Common.{◌≡◌, ℕ, suc, ◌≤◌, List, [], ◌∷◌, Option, None, Some, Bool, true, false, refl, sym, ap, subst, arith, ◌++◌, not, ◌∙◌}
use Rattle.std.specs.Prelude.{if◌then◌else◌, cond, nat_le, IsSome}
use Rattle.std.proofs.lemmas.Bool.Decides.{nat_tests}
use Rattle.hg_base.specs.declared.rid.TableId.{TableId}
use Rattle.hg_base.specs.declared.report.Kind.{Kind}
use Rattle.hg_base.specs.declared.report.Kind.TheVariants.{Group, Table, Interval}
use Rattle.hg_base.specs.declared.value.Value.{Value}
use Rattle.hg_core.specs.declared.version.Stamp.{Stamp}
use Rattle.hg_core.specs.declared.version.Stamp.TheVariants.{Written, Numbered, Oldest}
use Rattle.hg_core.specs.declared.version.Version.{Version}
use Rattle.hg_core.specs.Versions.{stamp_number, is_up_to, first_at}
use Rattle.hg_core.specs.Passes.{PassRecord, horizon, recorded, group_bound, table_bound}
use Rattle.hg_core.specs.Removal.{swept, oldest, cut, reclaimed}
use Rattle.hg_base.specs.Lifetimes.{goes}
use Rattle.hg_core.specs.Ordered.{Falls, IsOrdered}
use Rattle.hg_core.specs.Clean.{IsOneRow, up_to, IsCutAt, past, as_oldest}

-- none is at or below the bound
none_swept : (bound horizon : ℕ) (snapshots : List ℕ) (successor : Option ℕ) (vs : List Version) → up_to bound vs ≡ [] → up_to bound (swept horizon snapshots successor vs) ≡ []
none_swept bound horizon snapshots successor [] n = refl
none_swept bound horizon snapshots successor (v ∷ vs) n = go (is_up_to bound (stamp_number v.stamp)) refl n (λ k. none_swept bound horizon snapshots (stamp_number v.stamp) vs k)
  where
    go : (b : Bool) → is_up_to bound (stamp_number v.stamp) ≡ b → cond b (v ∷ up_to bound vs) (up_to bound vs) ≡ [] →
        (up_to bound vs ≡ [] → up_to bound (swept horizon snapshots (stamp_number v.stamp) vs) ≡ []) → up_to bound (swept horizon snapshots successor (v ∷ vs)) ≡ []
    go true e n later = cc
    go false e n later = either (goes horizon snapshots successor (stamp_number v.stamp)) (later n)
      where
        either : (t : Bool) → up_to bound (swept horizon snapshots (stamp_number v.stamp) vs) ≡ [] →
            up_to bound (if t then swept horizon snapshots (stamp_number v.stamp) vs else v ∷ swept horizon snapshots (stamp_number v.stamp) vs) ≡ []
        either true k = k
        either false k = rw e k

-- the versions behind one that is at or below the bound are none
one_row : (v : Version) (vs : List Version) → IsOneRow (v ∷ vs) → (vs ≡ []) × IsSome v.image.row
one_row v [] k = (refl, k)
one_row v (w ∷ vs) k = absurd k

front_row : (v : Version) (vs : List Version) → vs ≡ [] → IsSome v.image.row → IsOneRow (v ∷ vs)
front_row v vs e some = subst (λ ws. IsOneRow (v ∷ ws)) (sym e) some

no_row : (vs : List Version) → vs ≡ [] → IsOneRow vs
no_row vs e = subst IsOneRow (sym e) tt

pub cut_swept : (bound horizon : ℕ) (snapshots : List ℕ) (successor : Option ℕ) (vs : List Version) → IsCutAt bound vs → IsCutAt bound (swept horizon snapshots successor vs)
cut_swept bound horizon snapshots successor [] k = tt
cut_swept bound horizon snapshots successor (v ∷ vs) k = go (is_up_to bound (stamp_number v.stamp)) refl k (λ k. cut_swept bound horizon snapshots (stamp_number v.stamp) vs k)
  where
    rest : List Version
    rest = swept horizon snapshots (stamp_number v.stamp) vs

    go : (b : Bool) → is_up_to bound (stamp_number v.stamp) ≡ b → IsOneRow (cond b (v ∷ up_to bound vs) (up_to bound vs)) →
        (IsCutAt bound vs → IsCutAt bound (swept horizon snapshots (stamp_number v.stamp) vs)) → IsCutAt bound (swept horizon snapshots successor (v ∷ vs))
    go true e k later = either (goes horizon snapshots successor (stamp_number v.stamp))
      where
        none : up_to bound (swept horizon snapshots (stamp_number v.stamp) vs) ≡ []
        none = none_swept bound horizon snapshots (stamp_number v.stamp) vs (one_row v (up_to bound vs) k).0

        either : (t : Bool) → IsCutAt bound (if t then swept horizon snapshots (stamp_number v.stamp) vs else v ∷ swept horizon snapshots (stamp_number v.stamp) vs)
        either true = no_row _ none
        either false = rw e (front_row v _ none (one_row v (up_to bound vs) k).1)
    go false e k later = either (goes horizon snapshots successor (stamp_number v.stamp)) (later k)
      where
        either : (t : Bool) → IsCutAt bound (swept horizon snapshots (stamp_number v.stamp) vs) →
            IsCutAt bound (if t then swept horizon snapshots (stamp_number v.stamp) vs else v ∷ swept horizon snapshots (stamp_number v.stamp) vs)
        either true c = c
        either false c = rw e c

-- what a cut leaves of one version
oldest_none : (bound : ℕ) (number : Option ℕ) (row : Option (List Value)) → is_up_to bound number ≡ false → up_to bound (oldest number row) ≡ []
oldest_none bound None None e = refl
oldest_none bound None (Some row) e = refl
oldest_none bound (Some n) None e = refl
oldest_none bound (Some n) (Some row) e = rw e refl

oldest_cut : (bound : ℕ) (number : Option ℕ) (row : Option (List Value)) → IsCutAt bound (oldest number row)
oldest_cut bound None None = tt
oldest_cut bound None (Some row) = tt
oldest_cut bound (Some n) None = tt
oldest_cut bound (Some n) (Some row) = go (nat_le n bound)
  where
    go : (b : Bool) → IsOneRow (cond b (record { stamp = Oldest n; image = record { row = Some row } } ∷ []) [])
    go true = refl
    go false = tt

none_cut : (bound c : ℕ) (vs : List Version) → up_to bound vs ≡ [] → up_to bound (cut c vs) ≡ []
none_cut bound c [] n = refl
none_cut bound c (v ∷ vs) n = go (is_up_to bound (stamp_number v.stamp)) refl n (λ k. none_cut bound c vs k)
  where
    go : (b : Bool) → is_up_to bound (stamp_number v.stamp) ≡ b → cond b (v ∷ up_to bound vs) (up_to bound vs) ≡ [] → (up_to bound vs ≡ [] → up_to bound (cut c vs) ≡ []) →
        up_to bound (cut c (v ∷ vs)) ≡ []
    go true e n later = cc
    go false e n later = either (is_up_to c (stamp_number v.stamp)) (later n)
      where
        either : (t : Bool) → up_to bound (cut c vs) ≡ [] → up_to bound (if t then oldest (stamp_number v.stamp) v.image.row else v ∷ cut c vs) ≡ []
        either true k = oldest_none bound (stamp_number v.stamp) v.image.row e
        either false k = rw e k

pub cut_cut : (bound c : ℕ) (vs : List Version) → IsCutAt bound vs → IsCutAt bound (cut c vs)
cut_cut bound c [] k = tt
cut_cut bound c (v ∷ vs) k = go (is_up_to bound (stamp_number v.stamp)) refl k (λ k. cut_cut bound c vs k)
  where
    go : (b : Bool) → is_up_to bound (stamp_number v.stamp) ≡ b → IsOneRow (cond b (v ∷ up_to bound vs) (up_to bound vs)) → (IsCutAt bound vs → IsCutAt bound (cut c vs)) →
        IsCutAt bound (cut c (v ∷ vs))
    go true e k later = either (is_up_to c (stamp_number v.stamp))
      where
        either : (t : Bool) → IsCutAt bound (if t then oldest (stamp_number v.stamp) v.image.row else v ∷ cut c vs)
        either true = oldest_cut bound (stamp_number v.stamp) v.image.row
        either false = rw e (front_row v _ (none_cut bound c vs (one_row v (up_to bound vs) k).0) (one_row v (up_to bound vs) k).1)
    go false e k later = either (is_up_to c (stamp_number v.stamp)) (later k)
      where
        either : (t : Bool) → IsCutAt bound (cut c vs) → IsCutAt bound (if t then oldest (stamp_number v.stamp) v.image.row else v ∷ cut c vs)
        either true c = oldest_cut bound (stamp_number v.stamp) v.image.row
        either false c = rw e c

-- a cut leaves its record cut
pub cut_is_cut : (bound : ℕ) (vs : List Version) → IsCutAt bound (cut bound vs)
cut_is_cut bound [] = tt
cut_is_cut bound (v ∷ vs) = go (is_up_to bound (stamp_number v.stamp)) refl (cut_is_cut bound vs)
  where
    go : (b : Bool) → is_up_to bound (stamp_number v.stamp) ≡ b → IsCutAt bound (cut bound vs) → IsCutAt bound (if b then oldest (stamp_number v.stamp) v.image.row else v ∷ cut bound vs)
    go true e later = oldest_cut bound (stamp_number v.stamp) v.image.row
    go false e later = rw e later

pub cut_reclaimed : (bound : ℕ) (kind : Kind) (table : TableId) (pass : PassRecord) (vs : List Version) → IsCutAt bound vs → IsCutAt bound (reclaimed kind table pass vs)
cut_reclaimed bound Group table pass vs k = cut_cut bound (group_bound pass) vs k
cut_reclaimed bound Table table pass vs k = cut_cut bound (table_bound table pass) vs k
cut_reclaimed bound Interval table pass vs k = cut_swept bound (horizon pass) (recorded table pass) None vs k

-- behind a number at or below the bound all are
past_none : (bound n : ℕ) (vs : List Version) → n ≤ suc bound → Falls n vs → past bound vs ≡ []
past_none bound n [] le f = refl
past_none bound n (v ∷ vs) le f =
    let low : is_up_to bound (stamp_number v.stamp) ≡ true = rw f.1 (let k : nat_le f.0 bound ≡ true = (let less = f.2 in grind (arith, nat_tests)) in k) in
    ap (λ b. cond (not b) (v ∷ past bound vs) (past bound vs)) low ∙ past_none bound f.0 vs (omega (arith, le, f.2)) f.3

cut_falling : (bound n : ℕ) (vs : List Version) → Falls n vs → cut bound vs ≡ past bound vs ++ as_oldest (first_at bound vs)
cut_falling bound n [] f = refl
cut_falling bound n (v ∷ vs) f = go (is_up_to bound (stamp_number v.stamp)) refl (cut_falling bound f.0 vs f.3)
  where
    low : is_up_to bound (stamp_number v.stamp) ≡ true → f.0 ≤ bound
    low e = let k : nat_le f.0 bound ≡ true = subst (λ x. is_up_to bound x ≡ true) f.1 e in grind (arith, nat_tests)

    go : (b : Bool) → is_up_to bound (stamp_number v.stamp) ≡ b → cut bound vs ≡ past bound vs ++ as_oldest (first_at bound vs)
        → (if b then oldest (stamp_number v.stamp) v.image.row else v ∷ cut bound vs) ≡ cond (not b) (v ∷ past bound vs) (past bound vs) ++ as_oldest (if b then Some v else first_at bound vs)
    go true e later = ap (λ ws. ws ++ oldest (stamp_number v.stamp) v.image.row) (sym (past_none bound f.0 vs (omega (arith, low e)) f.3))
    go false e later = ap (λ ws. v ∷ ws) later

-- a cut leaves what is past the bound, and of the others the newest as the oldest image
pub cut_exactly : (mark bound : ℕ) (vs : List Version) → IsOrdered mark vs → cut bound vs ≡ past bound vs ++ as_oldest (first_at bound vs)
cut_exactly mark bound [] o = refl
cut_exactly mark bound (v ∷ vs) o = go v.stamp o
  where
    go : (x : Stamp) → IsOrdered mark (record { stamp = x; image = v.image } ∷ vs) →
        cut bound (record { stamp = x; image = v.image } ∷ vs) ≡ past bound (record { stamp = x; image = v.image } ∷ vs) ++ as_oldest (first_at bound (record { stamp = x; image = v.image } ∷ vs))
    go (Written by) f = ap (λ ws. record { stamp = Written by; image = v.image } ∷ ws) (cut_falling bound (suc mark) vs f)
    go (Numbered n by) f = cut_falling bound (suc n) (record { stamp = Numbered n by; image = v.image } ∷ vs) (n, refl, omega arith, f.1)
    go (Oldest n) f = cut_falling bound (suc n) (record { stamp = Oldest n; image = v.image } ∷ vs) (n, refl, omega arith, f.1)
