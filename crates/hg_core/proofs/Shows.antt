-- What a bucket shows of a record is what a table shows that never reclaims, and an open write in it has no number.
use Rattle.std.proofs.Common.{◌≡◌, ℕ, suc, ◌<◌, ◌≤◌, List, [], ◌∷◌, Option, None, Some, Bool, true, false, ◌||◌, ◌==◌, refl, sym, ap, ◌∙◌, subst, arith}
use Rattle.std.specs.Prelude.{if◌then◌else◌, cond, nat_le, IsSome, option_map}
use Rattle.std.specs.List.{list_any, cons_option}
use Rattle.std.proofs.lemmas.Bool.Decides.{nat_tests}
use Rattle.hg_base.specs.declared.rid.Rid.{Rid}
use Rattle.hg_base.specs.declared.image.Image.{Image}
use Rattle.hg_base.specs.declared.writer.Writer.{Writer}
use Rattle.hg_base.specs.History.{History, same_rid, image_in, group_image, group_from, group_at, writes_from, same_writer}
use Rattle.hg_core.specs.declared.log.LogEntry.{LogEntry}
use Rattle.hg_core.specs.declared.log.LogEntry.TheVariants.{Began, Saw, Refused, Outside, Wrote, Undid, Published, Over}
use Rattle.hg_core.specs.Logs.{current, begans, is_plain, open_in}
use Rattle.hg_core.specs.declared.version.Stamp.{Stamp}
use Rattle.hg_core.specs.declared.version.Stamp.TheVariants.{Written, Numbered, Oldest}
use Rattle.hg_core.specs.declared.version.Version.{Version}
use Rattle.hg_core.specs.Versions.{stamp_number, is_up_to, first_at, paired, newest_at, is_numbered, unpublished_by, unpublished}
use Rattle.hg_core.specs.Ordered.{IsBacked}
use Rattle.hg_core.proofs.Backing.{image_backed}
use Rattle.hg_core.specs.Covered.{image_of}
use Rattle.hg_core.specs.Replies.{read_by, writes_in, numbers_in, AreReplied}
use Rattle.hg_core.proofs.Versions.{same_pair}
use Rattle.hg_core.proofs.Sweep.{pair_if}

-- ---- a read of one record

pub writer_itself : (w : Writer) → same_writer w w ≡ true
writer_itself w = grind (arith, nat_tests)

pub writer_same : (a b : Writer) → same_writer a b ≡ true → a ≡ b
writer_same a b e = let s : a.session ≡ b.session = grind (arith, nat_tests) in let t : a.transaction ≡ b.transaction = grind (arith, nat_tests) in λ i. record { session = s i; transaction = t i }

-- an own open write without a number is read
pub read_own : (mark at : ℕ) (w : Writer) (i : Image) (vs : List Version) → unpublished mark vs ≡ Some (w, i) → is_numbered vs ≡ false → read_by w at vs ≡ i
read_own mark at w i [] o n = cc
read_own mark at w i (v ∷ vs) o n = go v.stamp o n
  where
    go : (x : Stamp) → unpublished_by mark x v.image ≡ Some (w, i) → is_numbered (record { stamp = x; image = v.image } ∷ vs) ≡ false → read_by w at (record { stamp = x; image = v.image } ∷ vs) ≡ i
    go (Written by) o n =
        let both = same_pair (by, v.image) (w, i) o in
        let mine : same_writer by w ≡ true = subst (λ x. same_writer x w ≡ true) (sym (ap (λ x. x.0) both)) (writer_itself w) in
        ap (λ b. if b then v.image else image_of (newest_at at vs)) mine ∙ ap (λ x. x.1) both
    go (Numbered k by) o n = cc
    go (Oldest k) o n = cc

-- else the newest version
pub read_other : (mark at : ℕ) (w : Writer) (vs : List Version) → ((i : Image) → unpublished mark vs ≡ Some (w, i) → ⊥) → read_by w at vs ≡ image_of (newest_at at vs)
read_other mark at w [] other = refl
read_other mark at w (v ∷ vs) other = go v.stamp other
  where
    go : (x : Stamp) → ((i : Image) → unpublished_by mark x v.image ≡ Some (w, i) → ⊥) →
        read_by w at (record { stamp = x; image = v.image } ∷ vs) ≡ image_of (newest_at at (record { stamp = x; image = v.image } ∷ vs))
    go (Written by) other = by_writer (same_writer by w) refl
      where
        by_writer : (b : Bool) → same_writer by w ≡ b → (if b then v.image else image_of (newest_at at vs)) ≡ image_of (newest_at at vs)
        by_writer true e = absurd (other v.image (ap (λ x. Some (x, v.image)) (writer_same by w e)))
        by_writer false e = refl
    go (Numbered k by) other = refl
    go (Oldest k) other = refl

-- ---- the newest version is of the history

pub backed_newest : (mark n : ℕ) (h : History) (r : Rid) (p : ℕ × Image) (vs : List Version) → n ≤ mark → IsBacked mark h r vs → newest_at n vs ≡ Some p → (p.0 ≤ n) ×
    (group_image r (group_at h p.0) ≡ Some p.1)
backed_newest mark n h r p [] le b e = cc
backed_newest mark n h r p (v ∷ vs) le b e = go (stamp_number v.stamp) (image_backed mark h r v.stamp v.image b.0)
    (sym (pair_if (is_up_to n (stamp_number v.stamp)) v (first_at n vs)) ∙ e) (λ k. backed_newest mark n h r p vs le b.1 k)
  where
    same : (x y : ℕ × Image) → Some x ≡ Some y → x ≡ y
    same x y e = cc

    go : (x : Option ℕ) → ((k : ℕ) → x ≡ Some k → k ≤ mark → group_image r (group_at h k) ≡ Some v.image) → (if is_up_to n x then paired x v.image else newest_at n vs) ≡ Some p →
        (newest_at n vs ≡ Some p → (p.0 ≤ n) × (group_image r (group_at h p.0) ≡ Some p.1)) → (p.0 ≤ n) × (group_image r (group_at h p.0) ≡ Some p.1)
    go None f e later = later e
    go (Some k) f e later = by_test (nat_le k n) refl e
      where
        by_test : (b : Bool) → nat_le k n ≡ b → (if b then paired (Some k) v.image else newest_at n vs) ≡ Some p → (p.0 ≤ n) × (group_image r (group_at h p.0) ≡ Some p.1)
        by_test true q e =
            let within : k ≤ n = grind (arith, nat_tests) in
            subst (λ (x : ℕ × Image). (x.0 ≤ n) × (group_image r (group_at h x.0) ≡ Some x.1)) (same (k, v.image) p e) (within, f k refl (omega arith))
        by_test false q e = later e

pub group_does : (first : ℕ) (h : History) (r : Rid) (n : ℕ) (i : Image) → group_image r (group_from first h n) ≡ Some i → list_any (λ (w : ℕ × Image). w.0 == n) (writes_from first h r) ≡ true
group_does first [] r n i e = cc
group_does first (g ∷ gs) r n i e = go (first == n) refl e (λ k. group_does (suc first) gs r n i k)
  where
    later_too : (o : Option Image) → list_any (λ (w : ℕ × Image). w.0 == n) (writes_from (suc first) gs r) ≡ true →
        list_any (λ (w : ℕ × Image). w.0 == n) (cons_option (option_map (λ image. (first, image)) o) (writes_from (suc first) gs r)) ≡ true
    later_too None q = q
    later_too (Some a) q = or_right (first == n) (list_any (λ (w : ℕ × Image). w.0 == n) (writes_from (suc first) gs r)) q
      where
        or_right : (a b : Bool) → b ≡ true → (a || b) ≡ true
        or_right a b q = grind arith

    go : (b : Bool) → (first == n) ≡ b → group_image r (cond b g (group_from (suc first) gs n)) ≡ Some i →
        (group_image r (group_from (suc first) gs n) ≡ Some i → list_any (λ (w : ℕ × Image). w.0 == n) (writes_from (suc first) gs r) ≡ true) →
        list_any (λ (w : ℕ × Image). w.0 == n) (writes_from first (g ∷ gs) r) ≡ true
    go true q e later = rw e (ap (λ b. b || list_any (λ (w : ℕ × Image). w.0 == n) (writes_from (suc first) gs r)) q)
    go false q e later = later_too (group_image r g) (later e)

-- ---- an open transaction in its log

pub numbers_under : (x : ℕ) (log : List LogEntry) → begans log < x → numbers_in x log ≡ []
numbers_under x [] k = refl
numbers_under x (Began at scope ∷ log) k = numbers_under x log (omega arith)
numbers_under x (Published n ∷ log) k = let other : (begans log == x) ≡ false = grind (arith, nat_tests) in ap (λ b. if b then n ∷ numbers_in x log else numbers_in x log) other ∙ numbers_under x log k
numbers_under x (Saw t low high b rows ∷ log) k = numbers_under x log k
numbers_under x (Refused r answer ∷ log) k = numbers_under x log k
numbers_under x (Outside t ∷ log) k = numbers_under x log k
numbers_under x (Wrote r image ∷ log) k = numbers_under x log k
numbers_under x (Undid r ∷ log) k = numbers_under x log k
numbers_under x (Over ∷ log) k = numbers_under x log k

-- nothing was published, so it has no number
numbers_plain : (log : List LogEntry) → IsSome (current log) → is_plain log ≡ true → numbers_in (begans log) log ≡ []
numbers_plain [] s p = cc
numbers_plain (Began at scope ∷ log) s p = numbers_under (suc (begans log)) log (omega arith)
numbers_plain (Over ∷ log) s p = cc
numbers_plain (Published n ∷ log) s p = cc
numbers_plain (Undid r ∷ log) s p = cc
numbers_plain (Saw t low high b rows ∷ log) s p = numbers_plain log s p
numbers_plain (Refused r answer ∷ log) s p = numbers_plain log s p
numbers_plain (Outside t ∷ log) s p = numbers_plain log s p
numbers_plain (Wrote r image ∷ log) s p = numbers_plain log s p

-- an open write is a stored one of its transaction, which has no number
pub record IsOpenIn (r : Rid) (log : List LogEntry) : Type 0 where
  pub does : IsSome (image_in r (writes_in (begans log) log))
  pub unnumbered : numbers_in (begans log) log ≡ []

pub open_is : (buckets : ℕ) (h : History) (logs : ℕ → List LogEntry) (j : ℕ) (r : Rid) (i : Image) (log : List LogEntry) → AreReplied buckets h logs j log → IsSome (current log) →
    open_in r log ≡ Some i → IsOpenIn r log
open_is buckets h logs j r i [] a s e = cc
open_is buckets h logs j r i (Began at scope ∷ log) a s e = cc
open_is buckets h logs j r i (Over ∷ log) a s e = cc
open_is buckets h logs j r i (Published n ∷ log) a s e = cc
open_is buckets h logs j r i (Undid q ∷ log) a s e = go (same_rid q r) e (λ k. open_is buckets h logs j r i log a.1 s k)
  where
    go : (b : Bool) → (if b then None else open_in r log) ≡ Some i → (open_in r log ≡ Some i → IsOpenIn r log) → IsOpenIn r (Undid q ∷ log)
    go true e later = cc
    go false e later = let o = later e in record { does = o.does; unnumbered = o.unnumbered }
open_is buckets h logs j r i (Wrote q image ∷ log) a s e = go (same_rid q r) refl e (λ k. open_is buckets h logs j r i log a.1 s k)
  where
    here : (begans log == begans log) ≡ true
    here = grind (arith, nat_tests)

    go : (b : Bool) → same_rid q r ≡ b → (if b then Some image else open_in r log) ≡ Some i → (open_in r log ≡ Some i → IsOpenIn r log) → IsOpenIn r (Wrote q image ∷ log)
    go true t e later = record {
      does = rw here (rw t refl);
      unnumbered = numbers_plain log s a.0.1;
    }
    go false t e later = let o = later e in record { does = rw here (rw t o.does); unnumbered = o.unnumbered }
open_is buckets h logs j r i (Saw t low high b rows ∷ log) a s e = let o = open_is buckets h logs j r i log a.1 s e in record { does = o.does; unnumbered = o.unnumbered }
open_is buckets h logs j r i (Refused q answer ∷ log) a s e = let o = open_is buckets h logs j r i log a.1 s e in record { does = o.does; unnumbered = o.unnumbered }
open_is buckets h logs j r i (Outside t ∷ log) a s e = let o = open_is buckets h logs j r i log a.1 s e in record { does = o.does; unnumbered = o.unnumbered }
