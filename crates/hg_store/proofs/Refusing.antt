-- A write of what a bucket keeps is refused as one of the content.
use Rattle.std.proofs.Common.{◌≡◌, ℕ, ◌≤◌, List, [], ◌∷◌, Bool, true, false, Some, None, refl, sym, ap, ◌∙◌, cond, map, arith}
use Rattle.std.specs.Prelude.{not, ◌||◌, option_map, option_and_then, nat_le, nat_lt}
use Rattle.std.specs.Option.{option_or}
use Rattle.std.proofs.lemmas.Bool.Decides.{nat_tests}
use Rattle.hg_base.specs.declared.image.Image.{Image}
use Rattle.hg_base.specs.declared.writer.Writer.{Writer}
use Rattle.hg_base.specs.declared.line.Answer.TheVariants as answers
use Rattle.hg_core.specs.declared.version.Stamp.{Stamp}
use Rattle.hg_core.specs.declared.version.Stamp.TheVariants.{Written, Numbered, Oldest}
use Rattle.hg_core.specs.declared.version.Version.{Version}
use Rattle.hg_core.specs.Versions.{pair_of, first_at, newest_at, is_numbered, unpublished, IsFreeFor}
use Rattle.hg_base.specs.History.{same_writer}
use Rattle.hg_core.specs.Replies.{refused_over, refused_by, refusal}
use Rattle.hg_core.specs.Ordered.{IsOrdered}
use Rattle.hg_core.proofs.Shows.{writer_same}
use Rattle.hg_bucket.specs.declared.refusal.WriteRefusal.TheVariants.{Newer}
use Rattle.hg_bucket.specs.Conflicts.{conflict, open_by}
use Rattle.hg_store.specs.Kept.{kept, refusal_of}

-- what isn't published of the transaction's own has no number
abbrev pub IsUnstamped : ℕ → Writer → List Version → Type 0
IsUnstamped mark w vs = (image : Image) → unpublished mark vs ≡ Some (w, image) → is_numbered vs ≡ false

over_is : (n at : ℕ) → option_map Newer (cond (nat_lt at n) (Some n) None) ≡ option_and_then refusal_of (cond (nat_le n at) None (Some (answers.Newer n)))
over_is n at = go (nat_lt at n) (nat_le n at) (grind (arith, nat_tests))
  where
    go : (a b : Bool) → a ≡ cond b false true → option_map Newer (cond a (Some n) None) ≡ option_and_then refusal_of (cond b None (Some (answers.Newer n)))
    go true false e = refl
    go false true e = refl
    go true true e = absurd cc
    go false false e = absurd cc

pub conflict_kept : (mark : ℕ) (w : Writer) (at : ℕ) (vs : List Version) → IsOrdered mark vs → IsUnstamped mark w vs →
    conflict w at mark (map kept vs) ≡ option_and_then refusal_of (refusal mark w at vs)
conflict_kept mark w at [] o u = refl
conflict_kept mark w at (v ∷ vs) o u = go v.stamp o u
  where
    by_open : (by : Writer) (b : Bool) → option_or (option_map open_by (cond (not b || false) (Some by) None)) None ≡ option_and_then refusal_of (cond b None (Some (answers.OpenBy by)))
    by_open by true = refl
    by_open by false = refl

    go : (x : Stamp) → IsOrdered mark (record { stamp = x; image = v.image } ∷ vs) → IsUnstamped mark w (record { stamp = x; image = v.image } ∷ vs) →
        conflict w at mark (map kept (record { stamp = x; image = v.image } ∷ vs)) ≡ option_and_then refusal_of (refusal mark w at (record { stamp = x; image = v.image } ∷ vs))
    go (Written by) f u = by_open by (same_writer by w)
    go (Numbered n by) f u = published (nat_le n mark) (nat_lt mark n) (grind (arith, nat_tests)) refl
      where
        mine : nat_le n mark ≡ false → same_writer by w ≡ true → ⊥
        mine late same = let k = u v.image (ap (λ b. cond b None (Some (by, v.image))) late ∙ ap (λ x. Some (x, v.image)) (writer_same by w same)) in cc

        theirs : (b : Bool) → same_writer by w ≡ b → nat_le n mark ≡ false → Some (open_by by) ≡ option_and_then refusal_of (cond b None (Some (answers.OpenBy by)))
        theirs true s late = absurd (mine late s)
        theirs false s late = refl

        published : (a b : Bool) → b ≡ cond a false true → nat_le n mark ≡ a →
            option_or (option_map open_by (cond b (Some by) None)) (option_map Newer (cond (nat_lt at n) (Some n) None)) ≡ option_and_then refusal_of
            (refused_by w (cond a None (Some (by, v.image))) (refused_over at (newest_at mark (record { stamp = Numbered n by; image = v.image } ∷ vs))))
        published true false e k = over_is n at ∙ ap (λ b. option_and_then refusal_of
            (refused_over at (pair_of (cond b (Some (record { stamp = Numbered n by; image = v.image })) (first_at mark vs))))) (sym k)
        published false true e k = theirs (same_writer by w) refl k
        published true true e k = absurd cc
        published false false e k = absurd cc
    go (Oldest n) f u =
        let k : nat_le n mark ≡ true = grind (arith, nat_tests, f.0) in
        let l : nat_lt mark n ≡ false = grind (arith, nat_tests, f.0) in
        ap (λ b. option_or (option_map open_by (cond b None None)) (option_map Newer (cond (nat_lt at n) (Some n) None))) l
        ∙ over_is n at
        ∙ ap (λ b. option_and_then refusal_of (refused_over at (pair_of (cond b (Some (record { stamp = Oldest n; image = v.image })) (first_at mark vs))))) (sym k)

-- refusals for open writes that are the same name the same transaction
pub same_opened : (a b : Writer) → Some (open_by a) ≡ Some (open_by b) → a ≡ b
same_opened a b e =
    let session : a.session ≡ b.session = cc in
    let transaction : a.transaction ≡ b.transaction = cc in
    λ i. record { session = session i; transaction = transaction i }

-- ---- where it isn't refused

-- nobody else has the record open, and what has a number is published
pub free_of : (mark : ℕ) (w : Writer) (at : ℕ) (vs : List Version) → IsOrdered mark vs → IsUnstamped mark w vs → refusal mark w at vs ≡ None → IsFreeFor mark w vs
free_of mark w at [] o u none = tt
free_of mark w at (v ∷ vs) o u none = go v.stamp o u none
  where
    go : (x : Stamp) → IsOrdered mark (record { stamp = x; image = v.image } ∷ vs) → IsUnstamped mark w (record { stamp = x; image = v.image } ∷ vs) →
        refusal mark w at (record { stamp = x; image = v.image } ∷ vs) ≡ None → IsFreeFor mark w (record { stamp = x; image = v.image } ∷ vs)
    go (Written by) f u none = mine (same_writer by w) refl none
      where
        mine : (b : Bool) → same_writer by w ≡ b → cond b None (Some (answers.OpenBy by)) ≡ None → by ≡ w
        mine true s k = writer_same by w s
        mine false s k = absurd cc
    go (Numbered n by) f u none = published (nat_le n mark) refl none
      where
        published : (a : Bool) → nat_le n mark ≡ a → refused_by w (cond a None (Some (by, v.image)))
            (refused_over at (newest_at mark (record { stamp = Numbered n by; image = v.image } ∷ vs))) ≡ None → n ≤ mark
        published true k e = grind (arith, nat_tests)
        published false k e = theirs (same_writer by w) refl e
          where
            theirs : (b : Bool) → same_writer by w ≡ b → cond b None (Some (answers.OpenBy by)) ≡ None → n ≤ mark
            theirs true s e = absurd (let own = u v.image (ap (λ b. cond b None (Some (by, v.image))) k ∙ ap (λ x. Some (x, v.image)) (writer_same by w s)) in cc)
            theirs false s e = absurd cc
    go (Oldest n) f u none = tt
