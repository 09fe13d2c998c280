-- Counters count what the logs and the visits say, and balance.
use Rattle.std.proofs.Common.{◌≡◌, ℕ, suc, ◌+◌, ◌-◌, ◌<◌, ◌≤◌, List, [], ◌∷◌, length, Option, None, Some, Bool, true, false, not, ◌&&◌, ◌==◌, refl, sym, ap, ◌∙◌, subst, arith}
use Rattle.std.specs.Prelude.{if◌then◌else◌, nat_le, is_some}
use Rattle.std.proofs.lemmas.Bool.Decides.{nat_tests}
use Rattle.hg_base.specs.declared.rid.Rid.{Rid}
use Rattle.hg_base.specs.declared.writer.Writer.{Writer}
use Rattle.hg_base.specs.declared.image.Image.{Image}
use Rattle.hg_base.specs.declared.report.Kind.{Kind}
use Rattle.hg_base.specs.declared.report.Kind.TheVariants.{Group, Table, Interval}
use Rattle.hg_base.specs.History.{image_in}
use Rattle.hg_core.specs.declared.log.LogEntry.{LogEntry}
use Rattle.hg_core.specs.declared.log.LogEntry.TheVariants.{Wrote, Undid}
use Rattle.hg_core.specs.declared.version.Stamp.{Stamp}
use Rattle.hg_core.specs.declared.version.Stamp.TheVariants.{Written, Numbered, Oldest}
use Rattle.hg_core.specs.declared.version.Version.{Version}
use Rattle.hg_core.specs.declared.visit.Removed.{Removed}
use Rattle.hg_core.specs.declared.visit.Counters.{Counters}
use Rattle.hg_core.specs.declared.visit.Visit.{Visit}
use Rattle.hg_core.specs.Versions.{unpublished, unpublished_by, installed, undone, stamped, IsFreeFor, IsOpenBy}
use Rattle.hg_core.specs.Logs.{own_writes}
use Rattle.hg_core.specs.Phases.{IsSession}
use Rattle.hg_core.specs.Contents.{Content, bucket_of, store, versions, stored}
use Rattle.hg_core.specs.Sums.{sum_to, sum_below}
use Rattle.hg_core.specs.Counters.{removed_by, removed_more, added, total, is_of, first_writes, undos, removed_in, CountersBalance}
use Rattle.hg_core.specs.Visits.{IsVisiting, removing}
use Rattle.hg_core.specs.Events.{put, with_made, with_undone, with_removed}
use Rattle.hg_core.proofs.Indices.{by_number, put_here, put_else}
use Rattle.hg_core.proofs.Sums.{sum_same, sum_grown, below_grown}
use Rattle.hg_core.proofs.Lengths.{total_store, length_installed, length_undone, length_stamped}

-- ---- what is counted in the logs

-- logs whose counts stay
pub counters_quiet : (sessions buckets passes : ℕ) (log later : ℕ → List LogEntry) (bucket : ℕ → Content) (counters : ℕ → Counters) (visits : ℕ → List Visit)
    → ((k : ℕ) (test : Rid → Bool) → (first_writes test (later k) ≡ first_writes test (log k)) × (undos test (later k) ≡ undos test (log k)))
    → CountersBalance sessions buckets passes log bucket counters visits → CountersBalance sessions buckets passes later bucket counters visits
counters_quiet sessions buckets passes log later bucket counters visits same h = record {
  made = λ b. h.made b ∙ sym (sum_same sessions (λ j. first_writes (is_of buckets b) (log j)) (λ j. first_writes (is_of buckets b) (later j)) (λ k le. (same k (is_of buckets b)).0));
  undone = λ b. h.undone b ∙ sym (sum_same sessions (λ j. undos (is_of buckets b) (log j)) (λ j. undos (is_of buckets b) (later j)) (λ k le. (same k (is_of buckets b)).1));
  removed = h.removed;
  balance = h.balance;
}

-- one entry more, that counts nothing
pub counters_entry : (sessions buckets passes : ℕ) (log : ℕ → List LogEntry) (bucket : ℕ → Content) (counters : ℕ → Counters) (visits : ℕ → List Visit) (j : ℕ) (l : List LogEntry)
    → ((test : Rid → Bool) → (first_writes test l ≡ first_writes test (log j)) × (undos test l ≡ undos test (log j)))
    → CountersBalance sessions buckets passes log bucket counters visits → CountersBalance sessions buckets passes (put log j l) bucket counters visits
counters_entry sessions buckets passes log bucket counters visits j l same h = counters_quiet sessions buckets passes log (put log j l) bucket counters visits
    (by_number j (λ k b. (test : Rid → Bool) → (first_writes test (if b then l else log k) ≡ first_writes test (log k)) ×
    (undos test (if b then l else log k) ≡ undos test (log k))) same (λ k other test. (refl, refl))) h

-- one log grows, and a count of it
made_grown : (sessions : ℕ) (log : ℕ → List LogEntry) (count : List LogEntry → ℕ) (j d : ℕ) (l : List LogEntry) → IsSession sessions j → count l ≡ count (log j) + d →
    sum_to sessions (λ k. count (put log j l k)) ≡ sum_to sessions (λ k. count (log k)) + d
made_grown sessions log count j d l session e = sum_grown sessions j d (λ k. count (log k)) (λ k. count (put log j l k)) session.first session.last
    (λ k other. ap count (put_else log j k l other)) (ap count (put_here log j l) ∙ e)

-- the balance of a bucket
abbrev pub IsBalanced : Counters → Content → Type 0
IsBalanced c content = c.made ≡ c.undone + c.removed.group + c.removed.table + c.removed.interval + total content

-- a bucket that changes, and the others
balanced_at : (buckets : ℕ) (bucket : ℕ → Content) (counters : ℕ → Counters) (r : Rid) (vs : List Version) (c : Counters) → IsBalanced c (store r vs (bucket (bucket_of buckets r)))
    → ((b : ℕ) → IsBalanced (counters b) (bucket b)) → (b : ℕ) → IsBalanced (put counters (bucket_of buckets r) c b) (stored buckets bucket r vs b)
balanced_at buckets bucket counters r vs c here h = by_number (bucket_of buckets r)
    (λ b x. IsBalanced (if x then c else counters b) (if x then store r vs (bucket (bucket_of buckets r)) else bucket b)) here (λ b other. h b)

-- ---- a write

-- a version is added just where the transaction has not written the record
pub added_is : (mark : ℕ) (w : Writer) (vs : List Version) (x : Option Image) → IsFreeFor mark w vs → ((i : Image) → x ≡ Some i → unpublished mark vs ≡ Some (w, i)) →
    ((i : Image) → unpublished mark vs ≡ Some (w, i) → x ≡ Some i) → added vs ≡ (if not (is_some x) then 1 else 0)
added_is mark w [] None f a b = refl
added_is mark w [] (Some i) f a b = absurd (let z = a i refl in cc)
added_is mark w (v ∷ vs) x f a b = go v.stamp x f a b
  where
    go : (s : Stamp) (x : Option Image) → IsFreeFor mark w (record { stamp = s; image = v.image } ∷ vs) → ((i : Image) → x ≡ Some i → unpublished_by mark s v.image ≡ Some (w, i)) →
        ((i : Image) → unpublished_by mark s v.image ≡ Some (w, i) → x ≡ Some i) → added (record { stamp = s; image = v.image } ∷ vs) ≡ (if not (is_some x) then 1 else 0)
    go (Written by) None f a b = absurd (let z = b v.image (ap (λ y. Some (y, v.image)) f) in cc)
    go (Written by) (Some i) f a b = refl
    go (Numbered k by) None f a b = refl
    go (Numbered k by) (Some i) f a b = absurd (let p : nat_le k mark ≡ true = grind (arith, nat_tests) in let z = a i refl in let y = rw p at z in cc)
    go (Oldest k) None f a b = refl
    go (Oldest k) (Some i) f a b = absurd (let z = a i refl in cc)

pub counters_installed : (sessions buckets passes : ℕ) (log : ℕ → List LogEntry) (bucket : ℕ → Content) (counters : ℕ → Counters) (visits : ℕ → List Visit) (j : ℕ) (r : Rid)
    (w : Writer) (image : Image) → IsSession sessions j
    → added (versions buckets bucket r) ≡ (if not (is_some (image_in r (own_writes (log j)))) then 1 else 0)
    → CountersBalance sessions buckets passes log bucket counters visits
    → CountersBalance sessions buckets passes (put log j (Wrote r image ∷ log j)) (stored buckets bucket r (installed w image (versions buckets bucket r)))
    (with_made counters (bucket_of buckets r) (added (versions buckets bucket r))) visits
counters_installed sessions buckets passes log bucket counters visits j r w image session new h = record {
  made = by_number at (λ b x. (if x then record (counters at) { made = (counters at).made + n } else counters b).made ≡ sum_to sessions
      (λ k. first_writes (is_of buckets b) (put log j (Wrote r image ∷ log j) k)))
      (ap (λ m. m + n) (h.made at) ∙ sym (made_grown sessions log (first_writes (is_of buckets at)) j n (Wrote r image ∷ log j) session (here refl)))
      (λ b other. h.made b ∙ sym (made_grown sessions log (first_writes (is_of buckets b)) j 0 (Wrote r image ∷ log j) session (there b other) ∙ omega arith));
  undone = by_number at (λ b x. (if x then record (counters at) { made = (counters at).made + n } else counters b).undone ≡ sum_to sessions
      (λ k. undos (is_of buckets b) (put log j (Wrote r image ∷ log j) k))) (undone at) (λ b other. undone b);
  removed = λ kind. by_number at (λ b x. removed_by kind (if x then record (counters at) { made = (counters at).made + n } else counters b).removed ≡ sum_below passes
      (λ p. removed_in kind b (visits p))) (h.removed kind at) (λ b other. h.removed kind b);
  balance = balanced_at buckets bucket counters r (installed w image held) (record (counters at) { made = (counters at).made + n })
      (omega (arith, h.balance at, total_store r (installed w image held) (bucket at), length_installed w image held)) h.balance;
}
  where
    at : ℕ
    at = bucket_of buckets r

    held : List Version
    held = versions buckets bucket r

    n : ℕ
    n = added (versions buckets bucket r)

    here : (bucket_of buckets r == bucket_of buckets r) ≡ (bucket_of buckets r == bucket_of buckets r) →
        first_writes (is_of buckets (bucket_of buckets r)) (Wrote r image ∷ log j) ≡ first_writes (is_of buckets (bucket_of buckets r)) (log j) + added (versions buckets bucket r)
    here e = let same : (bucket_of buckets r == bucket_of buckets r) ≡ true = grind (arith, nat_tests) in
        ap (λ b. (if b && not (is_some (image_in r (own_writes (log j)))) then 1 else 0) + first_writes (is_of buckets (bucket_of buckets r)) (log j)) same ∙ omega (arith, new)

    there : (b : ℕ) → (b ≡ bucket_of buckets r → ⊥) → first_writes (is_of buckets b) (Wrote r image ∷ log j) ≡ first_writes (is_of buckets b) (log j) + 0
    there b other = let out : (bucket_of buckets r == b) ≡ false = grind (arith, nat_tests) in
        ap (λ c. (if c && not (is_some (image_in r (own_writes (log j)))) then 1 else 0) + first_writes (is_of buckets b) (log j)) out ∙ omega arith

    undone : (b : ℕ) → (counters b).undone ≡ sum_to sessions (λ k. undos (is_of buckets b) (put log j (Wrote r image ∷ log j) k))
    undone b = h.undone b ∙ sym (made_grown sessions log (undos (is_of buckets b)) j 0 (Wrote r image ∷ log j) session (omega arith) ∙ omega arith)

pub counters_undone : (sessions buckets passes : ℕ) (log : ℕ → List LogEntry) (bucket : ℕ → Content) (counters : ℕ → Counters) (visits : ℕ → List Visit) (j : ℕ) (r : Rid)
    (w : Writer) → IsSession sessions j → IsOpenBy w (versions buckets bucket r)
    → CountersBalance sessions buckets passes log bucket counters visits
    → CountersBalance sessions buckets passes (put log j (Undid r ∷ log j)) (stored buckets bucket r (undone (versions buckets bucket r))) (with_undone counters (bucket_of buckets r)) visits
counters_undone sessions buckets passes log bucket counters visits j r w session mine h = record {
  made = by_number at (λ b x. (if x then record (counters at) { undone = suc (counters at).undone } else counters b).made ≡ sum_to sessions
      (λ k. first_writes (is_of buckets b) (put log j (Undid r ∷ log j) k))) (made at) (λ b other. made b);
  undone = by_number at (λ b x. (if x then record (counters at) { undone = suc (counters at).undone } else counters b).undone ≡ sum_to sessions
      (λ k. undos (is_of buckets b) (put log j (Undid r ∷ log j) k)))
      (ap suc (h.undone at) ∙ sym (made_grown sessions log (undos (is_of buckets at)) j 1 (Undid r ∷ log j) session (here refl) ∙ omega arith))
      (λ b other. h.undone b ∙ sym (made_grown sessions log (undos (is_of buckets b)) j 0 (Undid r ∷ log j) session (there b other) ∙ omega arith));
  removed = λ kind. by_number at (λ b x. removed_by kind (if x then record (counters at) { undone = suc (counters at).undone } else counters b).removed ≡ sum_below passes
      (λ p. removed_in kind b (visits p))) (h.removed kind at) (λ b other. h.removed kind b);
  balance = balanced_at buckets bucket counters r (undone held) (record (counters at) { undone = suc (counters at).undone })
      (omega (arith, h.balance at, total_store r (undone held) (bucket at), length_undone w held mine)) h.balance;
}
  where
    at : ℕ
    at = bucket_of buckets r

    held : List Version
    held = versions buckets bucket r

    here : (bucket_of buckets r == bucket_of buckets r) ≡ (bucket_of buckets r == bucket_of buckets r) →
        undos (is_of buckets (bucket_of buckets r)) (Undid r ∷ log j) ≡ undos (is_of buckets (bucket_of buckets r)) (log j) + 1
    here e = let same : (bucket_of buckets r == bucket_of buckets r) ≡ true = grind (arith, nat_tests) in
        ap (λ b. (if b then 1 else 0) + undos (is_of buckets (bucket_of buckets r)) (log j)) same ∙ omega arith

    there : (b : ℕ) → (b ≡ bucket_of buckets r → ⊥) → undos (is_of buckets b) (Undid r ∷ log j) ≡ undos (is_of buckets b) (log j) + 0
    there b other = let out : (bucket_of buckets r == b) ≡ false = grind (arith, nat_tests) in ap (λ c. (if c then 1 else 0) + undos (is_of buckets b) (log j)) out ∙ omega arith

    made : (b : ℕ) → (counters b).made ≡ sum_to sessions (λ k. first_writes (is_of buckets b) (put log j (Undid r ∷ log j) k))
    made b = h.made b ∙ sym (made_grown sessions log (first_writes (is_of buckets b)) j 0 (Undid r ∷ log j) session (omega arith) ∙ omega arith)

-- as many versions as before
pub counters_stamped : (sessions buckets passes : ℕ) (log : ℕ → List LogEntry) (bucket : ℕ → Content) (counters : ℕ → Counters) (visits : ℕ → List Visit) (r : Rid) (n : ℕ) (w : Writer)
    → CountersBalance sessions buckets passes log bucket counters visits
    → CountersBalance sessions buckets passes log (stored buckets bucket r (stamped n w (versions buckets bucket r))) counters visits
counters_stamped sessions buckets passes log bucket counters visits r n w h = record {
  made = h.made;
  undone = h.undone;
  removed = h.removed;
  balance = by_number at (λ b x. IsBalanced (counters b) (if x then store r (stamped n w held) (bucket at) else bucket b))
      (omega (arith, h.balance at, total_store r (stamped n w held) (bucket at), length_stamped n w held)) (λ b other. h.balance b);
}
  where
    at : ℕ
    at = bucket_of buckets r

    held : List Version
    held = versions buckets bucket r

-- ---- a removal

-- what is removed by a kind counts for that kind alone
share : Kind → Kind → ℕ → ℕ
share Group Group n = n
share Table Table n = n
share Interval Interval n = n
share _ _ n = 0

removed_share : (kind of : Kind) (n : ℕ) (x : Removed) → removed_by kind (removed_more of n x) ≡ removed_by kind x + share kind of n
unfolding share
removed_share Group Group n x = refl
removed_share Group Table n x = omega arith
removed_share Group Interval n x = omega arith
removed_share Table Group n x = omega arith
removed_share Table Table n x = refl
removed_share Table Interval n x = omega arith
removed_share Interval Group n x = omega arith
removed_share Interval Table n x = omega arith
removed_share Interval Interval n x = refl

visit_share : (kind of : Kind) (b at n : ℕ) (vs : List Visit) → IsVisiting at vs → removed_in kind b (removing of n vs) ≡ removed_in kind b vs + (if at == b then share kind of n else 0)
visit_share kind of b at n [] here = absurd here
visit_share kind of b at n (v ∷ vs) here = subst (λ x. removed_in kind b (removing of n (v ∷ vs)) ≡ removed_in kind b (v ∷ vs) + (if x == b then share kind of n else 0)) here.0 (go (v.bucket == b))
  where
    go : (t : Bool) → (if t then removed_by kind (removed_more of n v.removed) else 0) + removed_in kind b vs ≡
        (if t then removed_by kind v.removed else 0) + removed_in kind b vs + (if t then share kind of n else 0)
    go true = omega (arith, removed_share kind of n v.removed)
    go false = omega arith

balanced_more : (of : Kind) (n m : ℕ) (c : Counters) (before after : Content) → IsBalanced c before → total after + n ≡ total before →
    IsBalanced (record c { removed = removed_more of n c.removed }) after
balanced_more Group n m c before after h e = omega (arith, h, e)
balanced_more Table n m c before after h e = omega (arith, h, e)
balanced_more Interval n m c before after h e = omega (arith, h, e)

pub counters_shortened : (sessions buckets passes : ℕ) (log : ℕ → List LogEntry) (bucket : ℕ → Content) (counters : ℕ → Counters) (visits : ℕ → List Visit) (p : ℕ) (of : Kind)
    (r : Rid) (vs : List Version) → p < passes → IsVisiting (bucket_of buckets r) (visits p) → length vs ≤ length (versions buckets bucket r)
    → CountersBalance sessions buckets passes log bucket counters visits
    → CountersBalance sessions buckets passes log (stored buckets bucket r vs) (with_removed counters (bucket_of buckets r) of (length (versions buckets bucket r) - length vs))
    (put visits p (removing of (length (versions buckets bucket r) - length vs) (visits p)))
counters_shortened sessions buckets passes log bucket counters visits p of r vs less here fewer h = record {
  made = by_number at (λ b x. (if x then record (counters at) { removed = removed_more of n (counters at).removed } else counters b).made ≡ sum_to sessions
      (λ k. first_writes (is_of buckets b) (log k))) (h.made at) (λ b other. h.made b);
  undone = by_number at (λ b x. (if x then record (counters at) { removed = removed_more of n (counters at).removed } else counters b).undone ≡ sum_to sessions
      (λ k. undos (is_of buckets b) (log k))) (h.undone at) (λ b other. h.undone b);
  removed = λ kind. by_number at (λ b x. removed_by kind (if x then record (counters at) { removed = removed_more of n (counters at).removed } else counters b).removed ≡ sum_below
      passes (λ q. removed_in kind b (put visits p (removing of n (visits p)) q)))
      (removed_share kind of n (counters at).removed ∙ ap (λ m. m + share kind of n) (h.removed kind at) ∙
      sym (grown kind at ∙ (let mine : (at == at) ≡ true = grind (arith, nat_tests) in ap (λ x. sum_below passes (λ q. removed_in kind at (visits q)) + (if x then share kind of n else 0)) mine)))
      (λ b other. h.removed kind b ∙ sym (grown kind b ∙ (let out : (at == b) ≡ false = grind (arith, nat_tests) in
      ap (λ x. sum_below passes (λ q. removed_in kind b (visits q)) + (if x then share kind of n else 0)) out ∙ omega arith)));
  balance = balanced_at buckets bucket counters r vs (record (counters at) { removed = removed_more of n (counters at).removed })
      (balanced_more of n n (counters at) (bucket at) (store r vs (bucket at)) (h.balance at) (omega (arith, total_store r vs (bucket at), fewer))) h.balance;
}
  where
    at : ℕ
    at = bucket_of buckets r

    n : ℕ
    n = length (versions buckets bucket r) - length vs

    grown : (kind : Kind) (b : ℕ) → sum_below passes (λ q. removed_in kind b (put visits p (removing of (length (versions buckets bucket r) - length vs) (visits p)) q)) ≡ sum_below
        passes (λ q. removed_in kind b (visits q)) + (if bucket_of buckets r == b then share kind of (length (versions buckets bucket r) - length vs) else 0)
    grown kind b = below_grown passes p (if bucket_of buckets r == b then share kind of (length (versions buckets bucket r) - length vs) else 0) (λ q. removed_in kind b (visits q))
        (λ q. removed_in kind b (put visits p (removing of (length (versions buckets bucket r) - length vs) (visits p)) q)) less
        (λ q other. ap (removed_in kind b) (put_else visits p q (removing of (length (versions buckets bucket r) - length vs) (visits p)) other))
        (ap (removed_in kind b) (put_here visits p (removing of (length (versions buckets bucket r) - length vs) (visits p))) ∙
        visit_share kind of b (bucket_of buckets r) (length (versions buckets bucket r) - length vs) (visits p) here)
