-- What logs wrote, and that whatever is held was written there.
use Rattle.std.proofs.Common.{◌≡◌, ◌⊎◌, inl, inr, ℕ, ◌<◌, List, [], ◌∷◌, ◌++◌, length, Bool, true, false, not, Option, Some, None, refl, ap, ◌∙◌, subst, arith}
use Rattle.std.specs.Prelude.{◌==◌, ◌||◌, cond, filter, if◌then◌else◌, nat_le, option_map}
use Rattle.std.specs.Option.{option_or}
use Rattle.std.proofs.lemmas.Bool.Decides.{nat_tests}
use Rattle.hg_base.specs.declared.rid.Rid.{Rid}
use Rattle.hg_base.specs.declared.writer.Writer.{Writer}
use Rattle.hg_base.specs.declared.image.Image.{Image}
use Rattle.hg_base.specs.History.{Write, Group as Grouped, same_rid, is_among, image_in, rids_of, group_rids, group_at, group_image}
use Rattle.hg_base.specs.Transcript.{last_images}
use Rattle.hg_base.proofs.ListFacts.{any_more, false_true}
use Rattle.hg_core.specs.declared.log.LogEntry.{LogEntry}
use Rattle.hg_core.specs.declared.log.LogEntry.TheVariants.{Began, Saw, Refused, Outside, Wrote, Undid, Published, Over}
use Rattle.hg_core.specs.declared.version.Stamp.{Stamp}
use Rattle.hg_core.specs.declared.version.Stamp.TheVariants.{Written, Numbered, Oldest}
use Rattle.hg_core.specs.declared.version.Version.{Version}
use Rattle.hg_core.specs.Versions.{unpublished, unpublished_by}
use Rattle.hg_core.specs.Contents.{versions}
use Rattle.hg_core.specs.Logs.{begans, own_writes, open_in, commit_in, published}
use Rattle.hg_core.specs.Judged.{of_session}
use Rattle.hg_core.specs.Ordered.{IsOrdered, IsWriteOf, IsBacked, group_write}
use Rattle.hg_core.specs.Replies.{writes_in}
use Rattle.hg_core.specs.State.{CoreState}
use Rattle.hg_core.specs.Invariant.{IsSteady}
use Rattle.hg_core.proofs.Records.{turned_rid}
use Rattle.hg_headline.proofs.Words.{same_number}
use Rattle.hg_headline.proofs.Among.{or_right, among_right, among_either}

-- ---- what logs wrote

-- the records that a log wrote
pub wrote_in : List LogEntry → List Rid
wrote_in [] = []
wrote_in (Wrote r image ∷ log) = r ∷ wrote_in log
wrote_in (_ ∷ log) = wrote_in log

own_wrote : (r : Rid) (log : List LogEntry) → is_among r (rids_of (own_writes log)) ≡ true → is_among r (wrote_in log) ≡ true
unfolding wrote_in
own_wrote r [] e = e
own_wrote r (Began at scope ∷ log) e = absurd (false_true e)
own_wrote r (Over ∷ log) e = absurd (false_true e)
own_wrote r (Wrote q image ∷ log) e = go (same_rid r q) e (λ k. own_wrote r log k)
  where
    go : (b : Bool) → (b || is_among r (rids_of (own_writes log))) ≡ true → (is_among r (rids_of (own_writes log)) ≡ true → is_among r (wrote_in log) ≡ true) → (b || is_among r (wrote_in log)) ≡ true
    go true e later = refl
    go false e later = later e
own_wrote r (Published n ∷ log) e = own_wrote r log e
own_wrote r (Undid q ∷ log) e = own_wrote r log e
own_wrote r (Saw t low high b rows ∷ log) e = own_wrote r log e
own_wrote r (Refused q a ∷ log) e = own_wrote r log e
own_wrote r (Outside t ∷ log) e = own_wrote r log e

-- each write that a log has is one of some transaction
pub wrote_by : (r : Rid) (log : List LogEntry) → is_among r (wrote_in log) ≡ true → (x : ℕ) × (is_among r (rids_of (writes_in x log)) ≡ true)
unfolding wrote_in
wrote_by r [] e = absurd (false_true e)
wrote_by r (Wrote q image ∷ log) e = go (same_rid r q) refl e (λ k. wrote_by r log k)
  where
    more : (b : Bool) (ws : List Write) → is_among r (rids_of ws) ≡ true → is_among r (rids_of (if b then record { rid = q; image = image } ∷ ws else ws)) ≡ true
    more true ws e = or_right (same_rid r q) (is_among r (rids_of ws)) e
    more false ws e = e

    first : (b : Bool) (ws : List Write) → same_rid r q ≡ true → b ≡ true → is_among r (rids_of (if b then record { rid = q; image = image } ∷ ws else ws)) ≡ true
    first true ws s e = ap (λ b. b || is_among r (rids_of ws)) s
    first false ws s e = absurd (false_true e)

    go : (b : Bool) → same_rid r q ≡ b → (b || is_among r (wrote_in log)) ≡ true → (is_among r (wrote_in log) ≡ true → (x : ℕ) × (is_among r (rids_of (writes_in x log)) ≡ true)) →
        (x : ℕ) × (is_among r (rids_of (writes_in x (Wrote q image ∷ log))) ≡ true)
    go true s e later = (begans log, first (begans log == begans log) (writes_in (begans log) log) s (same_number (begans log)))
    go false s e later = let k = later e in (k.0, more (begans log == k.0) (writes_in k.0 log) k.1)
wrote_by r (Began at scope ∷ log) e = wrote_by r log e
wrote_by r (Over ∷ log) e = wrote_by r log e
wrote_by r (Published n ∷ log) e = wrote_by r log e
wrote_by r (Undid q ∷ log) e = wrote_by r log e
wrote_by r (Saw t low high b rows ∷ log) e = wrote_by r log e
wrote_by r (Refused q a ∷ log) e = wrote_by r log e
wrote_by r (Outside t ∷ log) e = wrote_by r log e

-- an open write is in its log
open_wrote : (r : Rid) (i : Image) (log : List LogEntry) → open_in r log ≡ Some i → is_among r (wrote_in log) ≡ true
unfolding wrote_in
open_wrote r i [] e = absurd (cc)
open_wrote r i (Began at scope ∷ log) e = absurd (cc)
open_wrote r i (Over ∷ log) e = absurd (cc)
open_wrote r i (Published n ∷ log) e = absurd (cc)
open_wrote r i (Undid q ∷ log) e = go (same_rid q r) e (λ k. open_wrote r i log k)
  where
    go : (b : Bool) → (if b then None else open_in r log) ≡ Some i → (open_in r log ≡ Some i → is_among r (wrote_in log) ≡ true) → is_among r (wrote_in log) ≡ true
    go true e later = absurd (cc)
    go false e later = later e
open_wrote r i (Wrote q image ∷ log) e = go (same_rid q r) refl e (λ k. open_wrote r i log k)
  where
    go : (b : Bool) → same_rid q r ≡ b → (if b then Some image else open_in r log) ≡ Some i → (open_in r log ≡ Some i → is_among r (wrote_in log) ≡ true) → (same_rid r q || is_among r (wrote_in log)) ≡ true
    go true s e later = ap (λ b. b || is_among r (wrote_in log)) (turned_rid r q ∙ s)
    go false s e later = or_right (same_rid r q) (is_among r (wrote_in log)) (later e)
open_wrote r i (Saw t low high b rows ∷ log) e = open_wrote r i log e
open_wrote r i (Refused q a ∷ log) e = open_wrote r i log e
open_wrote r i (Outside t ∷ log) e = open_wrote r i log e

-- ---- what groups write is in logs

among_filtered : (p : Write → Bool) (r : Rid) (ws : List Write) → is_among r (rids_of (filter p ws)) ≡ true → is_among r (rids_of ws) ≡ true
among_filtered p r [] e = e
among_filtered p r (w ∷ ws) e = go (p w) e (λ k. among_filtered p r ws k)
  where
    go : (b : Bool) → is_among r (rids_of (cond b (w ∷ filter p ws) (filter p ws))) ≡ true → (is_among r (rids_of (filter p ws)) ≡ true → is_among r (rids_of ws) ≡ true) →
        (same_rid r w.rid || is_among r (rids_of ws)) ≡ true
    go true e later = step (same_rid r w.rid) e
      where
        step : (b : Bool) → (b || is_among r (rids_of (filter p ws))) ≡ true → (b || is_among r (rids_of ws)) ≡ true
        step true e = refl
        step false e = later e
    go false e later = or_right (same_rid r w.rid) (is_among r (rids_of ws)) (later e)

among_last : (r : Rid) (ws : List Write) → is_among r (rids_of (last_images ws)) ≡ true → is_among r (rids_of ws) ≡ true
among_last r [] e = e
among_last r (w ∷ ws) e = go (same_rid r w.rid) e (λ k. among_last r ws k)
  where
    go : (b : Bool) → (b || is_among r (rids_of (filter (λ (v : Write). not (same_rid w.rid v.rid)) (last_images ws)))) ≡ true →
        (is_among r (rids_of (last_images ws)) ≡ true → is_among r (rids_of ws) ≡ true) → (b || is_among r (rids_of ws)) ≡ true
    go true e later = refl
    go false e later = later (among_filtered (λ v. not (same_rid w.rid v.rid)) r (last_images ws) e)

group_either : (r : Rid) (g h : Grouped) → is_among r (group_rids (g ++ h)) ≡ true → (is_among r (group_rids g) ≡ true) ⊎ (is_among r (group_rids h) ≡ true)
group_either r [] h e = inr e
group_either r (c ∷ g) h e = go (among_either r (rids_of c.images) (group_rids (g ++ h)) e) (λ k. group_either r g h k)
  where
    rest : (is_among r (group_rids g) ≡ true) ⊎ (is_among r (group_rids h) ≡ true) → (is_among r (rids_of c.images ++ group_rids g) ≡ true) ⊎ (is_among r (group_rids h) ≡ true)
    rest (inl k) = inl (among_right r (rids_of c.images) (group_rids g) k)
    rest (inr k) = inr k

    go : (is_among r (rids_of c.images) ≡ true) ⊎ (is_among r (group_rids (g ++ h)) ≡ true) →
        (is_among r (group_rids (g ++ h)) ≡ true → (is_among r (group_rids g) ≡ true) ⊎ (is_among r (group_rids h) ≡ true)) →
        (is_among r (rids_of c.images ++ group_rids g) ≡ true) ⊎ (is_among r (group_rids h) ≡ true)
    go (inl k) later = inl (any_more (same_rid r) (rids_of c.images) (group_rids g) k)
    go (inr k) later = rest (later k)

published_wrote : (n j : ℕ) (r : Rid) (log : List LogEntry) → is_among r (group_rids (published n j log)) ≡ true → is_among r (wrote_in log) ≡ true
unfolding wrote_in
published_wrote n j r [] e = absurd (false_true e)
published_wrote n j r (Published m ∷ log) e = go (m == n) e (λ k. published_wrote n j r log k)
  where
    own : (is_among r (rids_of (last_images (own_writes log))) ≡ true) ⊎ (is_among r [] ≡ true) → is_among r (wrote_in log) ≡ true
    own (inl k) = own_wrote r log (among_last r (own_writes log) k)
    own (inr k) = absurd (false_true k)

    one : (is_among r (group_rids (published n j log)) ≡ true) ⊎ (is_among r (rids_of (last_images (own_writes log)) ++ []) ≡ true) →
        (is_among r (group_rids (published n j log)) ≡ true → is_among r (wrote_in log) ≡ true) → is_among r (wrote_in log) ≡ true
    one (inl k) later = later k
    one (inr k) later = own (among_either r (rids_of (last_images (own_writes log))) [] k)

    none : (is_among r (group_rids (published n j log)) ≡ true) ⊎ (is_among r [] ≡ true) → (is_among r (group_rids (published n j log)) ≡ true → is_among r (wrote_in log) ≡ true) →
        is_among r (wrote_in log) ≡ true
    none (inl k) later = later k
    none (inr k) later = absurd (false_true k)

    go : (b : Bool) → is_among r (group_rids (published n j log ++ (if b then commit_in j log ∷ [] else []))) ≡ true → (is_among r (group_rids (published n j log)) ≡ true → is_among r (wrote_in log) ≡ true) →
        is_among r (wrote_in log) ≡ true
    go true e later = one (group_either r (published n j log) (commit_in j log ∷ []) e) later
    go false e later = none (group_either r (published n j log) [] e) later
published_wrote n j r (Wrote q image ∷ log) e = or_right (same_rid r q) (is_among r (wrote_in log)) (published_wrote n j r log e)
published_wrote n j r (Began at scope ∷ log) e = published_wrote n j r log e
published_wrote n j r (Over ∷ log) e = published_wrote n j r log e
published_wrote n j r (Undid q ∷ log) e = published_wrote n j r log e
published_wrote n j r (Saw t low high b rows ∷ log) e = published_wrote n j r log e
published_wrote n j r (Refused q a ∷ log) e = published_wrote n j r log e
published_wrote n j r (Outside t ∷ log) e = published_wrote n j r log e

-- what a group writes, a session of it does
group_session : (r : Rid) (g : Grouped) → is_among r (group_rids g) ≡ true → (j : ℕ) × (is_among r (group_rids (of_session j g)) ≡ true)
group_session r [] e = absurd (false_true e)
group_session r (c ∷ g) e = go (among_either r (rids_of c.images) (group_rids g) e) (λ k. group_session r g k)
  where
    first : (b : Bool) (rest : Grouped) → b ≡ true → is_among r (rids_of c.images) ≡ true → is_among r (group_rids (cond b (c ∷ rest) rest)) ≡ true
    first true rest e k = any_more (same_rid r) (rids_of c.images) (group_rids rest) k
    first false rest e k = absurd (false_true e)

    more : (b : Bool) (rest : Grouped) → is_among r (group_rids rest) ≡ true → is_among r (group_rids (cond b (c ∷ rest) rest)) ≡ true
    more true rest k = among_right r (rids_of c.images) (group_rids rest) k
    more false rest k = k

    go : (is_among r (rids_of c.images) ≡ true) ⊎ (is_among r (group_rids g) ≡ true) → (is_among r (group_rids g) ≡ true → (j : ℕ) × (is_among r (group_rids (of_session j g)) ≡ true)) →
        (j : ℕ) × (is_among r (group_rids (of_session j (c ∷ g))) ≡ true)
    go (inl k) later = (c.session, first (c.session == c.session) (of_session c.session g) (same_number c.session) k)
    go (inr k) later = let found = later k in (found.0, more (c.session == found.0) (of_session found.0 g) found.1)

image_among : (r : Rid) (i : Image) (ws : List Write) → image_in r ws ≡ Some i → is_among r (rids_of ws) ≡ true
image_among r i [] e = absurd (cc)
image_among r i (w ∷ ws) e = go (same_rid w.rid r) refl e (λ k. image_among r i ws k)
  where
    go : (b : Bool) → same_rid w.rid r ≡ b → (if b then Some w.image else image_in r ws) ≡ Some i → (image_in r ws ≡ Some i → is_among r (rids_of ws) ≡ true) →
        (same_rid r w.rid || is_among r (rids_of ws)) ≡ true
    go true s e later = ap (λ b. b || is_among r (rids_of ws)) (turned_rid r w.rid ∙ s)
    go false s e later = or_right (same_rid r w.rid) (is_among r (rids_of ws)) (later e)

image_grouped : (r : Rid) (i : Image) (g : Grouped) → group_image r g ≡ Some i → is_among r (group_rids g) ≡ true
image_grouped r i [] e = absurd (cc)
image_grouped r i (c ∷ g) e = go (image_in r c.images) refl e (λ k. image_grouped r i g k)
  where
    go : (o : Option Image) → image_in r c.images ≡ o → option_or o (group_image r g) ≡ Some i → (group_image r g ≡ Some i → is_among r (group_rids g) ≡ true) →
        is_among r (rids_of c.images ++ group_rids g) ≡ true
    go None p e later = among_right r (rids_of c.images) (group_rids g) (later e)
    go (Some x) p e later = any_more (same_rid r) (rids_of c.images) (group_rids g) (image_among r x c.images p)

write_grouped : (r : Rid) (p : Writer × Image) (g : Grouped) → group_write r g ≡ Some p → is_among r (group_rids g) ≡ true
write_grouped r p [] e = absurd (cc)
write_grouped r p (c ∷ g) e = go (image_in r c.images) refl e (λ k. write_grouped r p g k)
  where
    go : (o : Option Image) → image_in r c.images ≡ o → option_or (option_map (λ image. (record { session = c.session; transaction = c.transaction }, image)) o) (group_write r g) ≡ Some p →
        (group_write r g ≡ Some p → is_among r (group_rids g) ≡ true) → is_among r (rids_of c.images ++ group_rids g) ≡ true
    go None q e later = among_right r (rids_of c.images) (group_rids g) (later e)
    go (Some x) q e later = any_more (same_rid r) (rids_of c.images) (group_rids g) (image_among r x c.images q)

-- ---- what a state holds was written

pub held_wrote : (s : CoreState) (r : Rid) → IsSteady s → 0 < length (versions s.buckets s.bucket r) → (j : ℕ) × (is_among r (wrote_in (s.log j)) ≡ true)
held_wrote s r h some = go (versions s.buckets s.bucket r) refl (h.contents_are_ordered.ordered r) (h.contents_are_ordered.backed r) some
  where
    grouped : (n : ℕ) → is_among r (group_rids (group_at s.history n)) ≡ true → (j : ℕ) × (is_among r (wrote_in (s.log j)) ≡ true)
    grouped n k = let found = group_session r (group_at s.history n) k in
        (found.0, published_wrote n found.0 r (s.log found.0) (subst (λ (g : Grouped). is_among r (group_rids g) ≡ true) (h.logs_answer.commits n found.0) found.1))

    opened : (w : Writer) (i : Image) → unpublished s.mark (versions s.buckets s.bucket r) ≡ Some (w, i) → (j : ℕ) × (is_among r (wrote_in (s.log j)) ≡ true)
    opened w i e = (w.session, open_wrote r i (s.log w.session) (h.open_writes_stand.owned r w i e).1)

    by_stamp : (x : Stamp) (v : Version) (vs : List Version) → v.stamp ≡ x → versions s.buckets s.bucket r ≡ v ∷ vs → IsOrdered s.mark (record { stamp = x; image = v.image } ∷ vs) →
        IsWriteOf s.mark s.history r x v.image → (j : ℕ) × (is_among r (wrote_in (s.log j)) ≡ true)
    by_stamp (Written by) v vs is e o b = opened by v.image (ap (unpublished s.mark) e ∙ ap (λ x. unpublished_by s.mark x v.image) is)
    by_stamp (Oldest n) v vs is e o b = grouped n (image_grouped r v.image (group_at s.history n) (b o.0))
    by_stamp (Numbered n by) v vs is e o b = at (nat_le n s.mark) refl
      where
        at : (t : Bool) → nat_le n s.mark ≡ t → (j : ℕ) × (is_among r (wrote_in (s.log j)) ≡ true)
        at true q = grouped n (write_grouped r (by, v.image) (group_at s.history n) (b (grind (arith, nat_tests))))
        at false q = opened by v.image (ap (unpublished s.mark) e ∙ ap (λ x. unpublished_by s.mark x v.image) is ∙
            ap (λ t. let p : Writer × Image = (by, v.image) in if t then None else Some p) q)

    go : (vs : List Version) → versions s.buckets s.bucket r ≡ vs → IsOrdered s.mark (versions s.buckets s.bucket r) → IsBacked s.mark s.history r (versions s.buckets s.bucket r) →
        0 < length (versions s.buckets s.bucket r) → (j : ℕ) × (is_among r (wrote_in (s.log j)) ≡ true)
    go [] e o b some = absurd (let none : length (versions s.buckets s.bucket r) ≡ 0 = ap (λ (ws : List Version). length ws) e in omega (arith, some, none))
    go (v ∷ vs) e o b some = by_stamp v.stamp v vs refl e (subst (IsOrdered s.mark) e o) (subst (IsBacked s.mark s.history r) e b).0
