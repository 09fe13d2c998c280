-- An open write of the log stands first in the bucket held, and the other way round.
use Rattle.std.proofs.Common.{◌≡◌, ℕ, List, [], ◌∷◌, false, Option, Some, None, refl, sym, ap, ◌∙◌, subst}
use Rattle.std.specs.Prelude.{IsSome, is_some}
use Rattle.hg_base.specs.declared.rid.Rid.{Rid}
use Rattle.hg_base.specs.declared.image.Image.{Image}
use Rattle.hg_base.specs.declared.writer.Writer.{Writer}
use Rattle.hg_base.specs.Lists.{Each}
use Rattle.hg_core.specs.declared.version.Stamp.{Stamp}
use Rattle.hg_core.specs.declared.version.Stamp.TheVariants.{Written, Numbered, Oldest}
use Rattle.hg_core.specs.declared.version.Version.{Version}
use Rattle.hg_core.specs.Versions.{unpublished, is_numbered, IsOpenBy}
use Rattle.hg_core.specs.Contents.{bucket_of, versions, is_stamped}
use Rattle.hg_core.specs.Logs.{begans, begun_in, open_in}
use Rattle.hg_core.specs.OpenWrites.{writer_of}
use Rattle.hg_core.proofs.OpenWrites.{none_stamped}
use Rattle.hg_core.proofs.Versions.{same_pair}
use Rattle.hg_rule.specs.declared.view.Part.TheVariants.{OfSession, OfBucket, OfCommit}
use Rattle.hg_rule.specs.declared.view.View.{View}
use Rattle.hg_rule.specs.declared.view.Sizes.{Sizes}
use Rattle.hg_rule.specs.Facts.{Shown}
use Rattle.hg_rule.specs.Rules.{IsBacked}
use Rattle.hg_rule.specs.Views.{number, session, others, first_in, after_first, HasSession}
use Rattle.hg_rule.specs.Holding.{bucket_number, bucket, HasBucket, commit_behind, farther, HasBoth, held, writer}
use Rattle.hg_rule.specs.Places.{IsThere, HoldsBucket}
use Rattle.hg_store.proofs.Holding.{held_is}

-- ---- of versions

pub open_of : (mark : ℕ) (w : Writer) (image : Image) (vs : List Version) → unpublished mark vs ≡ Some (w, image) → is_numbered vs ≡ false → IsOpenBy w vs
open_of mark w image [] e n = absurd cc
open_of mark w image (v ∷ vs) e n = go v.stamp e n
  where
    go : (x : Stamp) → unpublished mark (record { stamp = x; image = v.image } ∷ vs) ≡ Some (w, image) → is_numbered (record { stamp = x; image = v.image } ∷ vs) ≡ false → x ≡ Written w
    go (Written by) e n = ap (λ p. Written p.0) (same_pair (by, v.image) (w, image) e)
    go (Numbered k by) e n = absurd cc
    go (Oldest k) e n = absurd cc

unpublished_of : (mark : ℕ) (w : Writer) (vs : List Version) → IsOpenBy w vs → (image : Image) × (unpublished mark vs ≡ Some (w, image))
unpublished_of mark w [] o = absurd o
unpublished_of mark w (v ∷ vs) o = (v.image, ap (λ x. unpublished mark (record { stamp = x; image = v.image } ∷ vs)) o)

-- ---- of a view that has its session and a bucket

pub session_holds_bucket : (v : View) → HasSession v → HasBucket v → HoldsBucket (bucket_number v) v
session_holds_bucket v own has = (own ∙ ap (λ p. p ∷ others v) (sym (ap first_in own)), (has, subst (IsThere (bucket_number v)) (sym (ap first_in own)) tt))

module _ (z : Sizes) (n : ℕ) (v : View) (k : IsBacked z n v) (own : HasSession v) where
  session_shown : Shown k.state (OfSession (number v) (session v))
  session_shown = (subst (Each (Shown k.state)) own k.true_of.parts).0

  same_writer : writer_of (begun_in k.state.log) (number v) ≡ writer v
  same_writer = ap (λ x. record { session = number v; transaction = begans x }) session_shown.1.0

  same_open : (r : Rid) → open_in r (k.state.log (number v)) ≡ open_in r (session v).log
  same_open r = ap (open_in r) session_shown.1.0

  -- where none of its writes of the record has the next number
  first_open : HasBucket v → (r : Rid) → bucket_of z.buckets r ≡ bucket_number v → IsSome (open_in r (session v).log) → is_stamped (number v) r k.state.stamped_list ≡ false →
      IsOpenBy (writer v) (held v r)
  first_open has r here some unstamped = go (open_in r (session v).log) refl some
    where
      same : versions k.state.buckets k.state.bucket r ≡ held v r
      same = held_is z n (bucket_number v) v k (session_holds_bucket v own has) r here

      go : (o : Option Image) → open_in r (session v).log ≡ o → IsSome o → IsOpenBy (writer v) (held v r)
      go None e some = absurd cc
      go (Some image) e some =
          let out = k.steady.open_writes_stand.owns r (number v) image (same_open r ∙ e) in
          let bare = k.steady.stamped_is_next.exact r (writer_of (begun_in k.state.log) (number v)) image out ∙ unstamped in
          subst (λ w. IsOpenBy w (held v r)) same_writer (subst (IsOpenBy (writer_of (begun_in k.state.log) (number v))) same
          (open_of k.state.mark (writer_of (begun_in k.state.log) (number v)) image (versions k.state.buckets k.state.bucket r) out bare))

  -- while no write of the session has the next number
  pub mine_unstamped : HasBucket v → (r : Rid) → bucket_of z.buckets r ≡ bucket_number v → IsSome (open_in r (session v).log) → (session v).stamped ≡ false → IsOpenBy (writer v) (held v r)
  mine_unstamped has r here some none = first_open has r here some (none_stamped (number v) r k.state.stamped_list (session_shown.1.1 ∙ none))

  -- with the committer's part behind, whose list doesn't have it
  pub mine_unlisted : HasBoth v → (r : Rid) → bucket_of z.buckets r ≡ bucket_number v → IsSome (open_in r (session v).log) →
      is_stamped (number v) r (commit_behind v).stamped ≡ false → IsOpenBy (writer v) (held v r)
  mine_unlisted both r here some none =
      let all : Each (Shown k.state) (OfSession (number v) (session v) ∷ OfBucket (bucket_number v) (bucket v) ∷ OfCommit (commit_behind v) ∷ farther v) = subst
      (Each (Shown k.state)) (own ∙ ap (λ ps. OfSession (number v) (session v) ∷ ps) both) k.true_of.parts in
      first_open has r here some (ap (is_stamped (number v) r) all.1.1.0.1.0 ∙ none)
    where
      has : HasBucket v
      has = both ∙ ap (λ ps. OfBucket (bucket_number v) (bucket v) ∷ ps) (sym (ap after_first both))

  -- the log has each open write of the session's transaction
  pub mine_logged : HasBucket v → (r : Rid) → bucket_of z.buckets r ≡ bucket_number v → IsOpenBy (writer v) (held v r) → IsSome (open_in r (session v).log)
  mine_logged has r here mine =
      let same = held_is z n (bucket_number v) v k (session_holds_bucket v own has) r here in
      let back : IsOpenBy (writer_of (begun_in k.state.log) (number v)) (versions k.state.buckets k.state.bucket r) = subst (IsOpenBy (writer_of (begun_in k.state.log) (number v)))
      (sym same) (subst (λ w. IsOpenBy w (held v r)) (sym same_writer) mine) in
      let out = unpublished_of k.state.mark (writer_of (begun_in k.state.log) (number v)) (versions k.state.buckets k.state.bucket r) back in
      ap is_some (sym (same_open r) ∙ (k.steady.open_writes_stand.owned r (writer_of (begun_in k.state.log) (number v)) out.0 out.1).1)
