-- What is written in two steps.
use Rattle.std.proofs.Common.{◌≡◌, ◌∙◌, ℕ, zero, suc, List, [], ◌∷◌, ◌++◌, take, drop, Result, Ok, Err, refl, sym, ap, subst, append_assoc, append-nil}
use Rattle.std.specs.Prelude.{OnErr}
use Rattle.hg_talk.specs.Events.{Event, Wrote, WriteFailed, HasWritten, written_of}

-- nothing was written yet
pub wrote_none : (log : List Event) → HasWritten log log []
wrote_none log = record { read = refl; written = sym (append-nil (written_of log)); reads = refl }

-- and then more bytes
pub wrote_more : (before log after : List Event) (xs ys all : List ℕ) → HasWritten before log xs → after ≡ Wrote ys ∷ log → xs ++ ys ≡ all → HasWritten before after all
wrote_more before log after xs ys all h is same = subst (λ l. HasWritten before l all) (sym is) (record {
  read = h.read;
  written = ap (λ z. z ++ ys) h.written ∙ append_assoc (written_of before) xs ys ∙ ap (λ z. written_of before ++ z) same;
  reads = h.reads;
})

-- and then a call failed
pub wrote_failed : (before log after : List Event) (xs : List ℕ) → HasWritten before log xs → after ≡ WriteFailed ∷ log → HasWritten before after xs
wrote_failed before log after xs h is = subst (λ l. HasWritten before l xs) (sym is) (record { read = h.read; written = h.written; reads = h.reads })

-- a front of a text and its rest
pub parted : (n : ℕ) (text : List ℕ) → text ≡ take n text ++ drop n text
parted zero text = refl
parted (suc n) [] = refl
parted (suc n) (b ∷ text) = ap (λ z. b ∷ z) (parted n text)

-- whatever holds, holds where a call failed
pub on_error : {T E : Type 0} (P : Type 0) (r : Result T E) → P → OnErr r P
on_error P (Ok x) p = tt
on_error P (Err e) p = p
