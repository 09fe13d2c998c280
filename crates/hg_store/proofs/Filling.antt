-- The buckets of a new store.
use Rattle.std.proofs.Common.{◌≡◌, ℕ, suc, ◌+◌, ◌<◌, List, [], ◌∷◌, ◌++◌, length, get_or, refl, sym, ap, ◌∙◌, subst, arith}
use Rattle.std.specs.declared.snapshot.Snapshot.{Snapshot}
use Rattle.std.specs.declared.alloc.Global.{Global}
use Rattle.std.specs.declared.boxed.Box.{Box}
use Rattle.hg_bucket.specs.BucketModel.{BucketModel}
use Rattle.hg_rule.specs.declared.passes.BucketSeat.{BucketSeat}
use Rattle.hg_rule.specs.declared.view.Part.TheVariants.{OfBucket}
use Rattle.hg_rule.specs.Facts.{new_bucket}
use Rattle.hg_rule.specs.Views.{bucket_there, first_in}
use Rattle.hg_rule.specs.Seats.{BoardId, bucket_view}
use Rattle.hg_rule.specs.New.{EachFrom, IsNewBucket}
use Rattle.hg_store.specs.Kept.{Keeps}
use Rattle.hg_store.specs.Slots.{seat_board_id, SlotFits}

pub each_from_at : {A : Type 0} (P : ℕ → A → Type 0) (i : ℕ) (xs ys : List A) (y : A) → EachFrom P i (xs ++ y ∷ ys) → P (i + length xs) y
each_from_at P i [] ys y r = subst (λ n. P n y) (omega arith) r.0
each_from_at P i (x ∷ xs) ys y r = subst (λ n. P n y) (omega arith) (each_from_at P (suc i) xs ys y r.1)

pub each_from_first : {A : Type 0} (P : ℕ → A → Type 0) (i : ℕ) (xs : List A) (x : A) → 0 < length xs → EachFrom P i xs → x ≡ get_or xs 0 x → P i x
each_from_first P i [] x some r e = absurd (omega arith)
each_from_first P i (y ∷ xs) x some r e = subst (P i) (sym e) r.0

pub fits_new : (t : BoardId) (tag : Snapshot BucketSeat) (n : ℕ) (seat : BucketSeat) (bucket : Box BucketModel Global) → seat_board_id tag.value ≡ t → IsNewBucket t n seat →
    bucket.value ≡ record { records = []; made = 0; undone = 0; group = 0; table = 0; interval = 0; long = [] } → SlotFits tag n (record { bucket = bucket; seat = seat })
fits_new t tag n seat bucket same new empty =
    let at : (bucket_view seat).parts ≡ OfBucket n new_bucket ∷ [] = ap (λ m. m.0.parts) new.1.1 in (
      ((new.1.0 ∙ sym same, ap (λ m. m.1) new.1.1), at ∙ (λ i. OfBucket (sym new.0 i) (bucket_there (first_in (sym at i))) ∷ [])),
      (
        new.0,
        subst (λ p. Keeps bucket.value p) (sym (ap (λ ps. bucket_there (first_in ps)) at))
            (subst (λ b. Keeps b new_bucket) (sym empty) (record { versions = λ r. refl; made = refl; undone = refl; group = refl; table = refl; interval = refl })),
      ),
    )
