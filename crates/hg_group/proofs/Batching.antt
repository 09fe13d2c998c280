-- A batch is stamped.
use Rattle.std.proofs.Common.{◌≡◌, ℕ, List, [], ◌∷◌, ◌++◌, false, Option, Some, None, refl, sym, ap, ◌∙◌, subst, append-nil}
use Rattle.std.specs.Prelude.{IsSome, IsTrue}
use Rattle.hg_base.specs.declared.rid.Rid.{Rid}
use Rattle.hg_base.specs.declared.image.Image.{Image}
use Rattle.hg_base.specs.Lists.{Each}
use Rattle.hg_core.specs.Contents.{bucket_of, versions, is_stamped}
use Rattle.hg_core.specs.Logs.{begans, begun_in, open_in, is_in}
use Rattle.hg_core.specs.Versions.{IsOpenBy}
use Rattle.hg_core.specs.OpenWrites.{writer_of}
use Rattle.hg_rule.specs.declared.passes.SessionPass.{SessionPass}
use Rattle.hg_rule.specs.declared.view.CommitPart.{CommitPart}
use Rattle.hg_rule.specs.declared.view.Part.{Part}
use Rattle.hg_rule.specs.declared.view.Part.TheVariants.{OfBucket, OfCommit, Away, Lent}
use Rattle.hg_rule.specs.declared.view.Event.TheVariants.{Stamp}
use Rattle.hg_rule.specs.declared.view.View.{View}
use Rattle.hg_rule.specs.declared.view.Sizes.{Sizes}
use Rattle.hg_rule.specs.Facts.{Shown, StartsWith}
use Rattle.hg_rule.specs.Rules.{IsBacked}
use Rattle.hg_rule.specs.Views.{number, session, since, others, seeing, first_in, HasAway}
use Rattle.hg_rule.specs.Moves.{joined, put_in, but_second}
use Rattle.hg_rule.specs.Holding.{beyond, farther, bucket, bucket_number, commit, commit_behind, held, HasCommit, HasBoth}
use Rattle.hg_rule.specs.Places.{arrive_first, without_bucket, without_commit, HasFirst, HoldsBucket}
use Rattle.hg_rule.specs.Handing.{Members, Stamps, members, lent, flag, who, part_of, writer_at, hands_back}
use Rattle.hg_rule.specs.Writes.{listing}
use Rattle.hg_rule.specs.Seats.{BoardId, session_view, session_rest, IsSeatOf, IsAwayOf}
use Rattle.hg_rule.proofs.Members.{each_part, each_lent}
use Rattle.hg_rule.proofs.Holders.{still_away}
use Rattle.hg_store.specs.Stores.{Takes}
use Rattle.hg_group.specs.Batch.{StampsOne}
use Rattle.hg_store.proofs.Holding.{held_is}
use Rattle.hg_store.proofs.Mine.{open_of}

-- ---- a bucket comes

pub away_there : (v : View) → HasAway v → HasCommit v → v.parts ≡ Away (number v) (session v) (since v) ∷ OfCommit (commit v) ∷ beyond v
away_there v own has = own ∙ ap (λ ps. Away (number v) (session v) (since v) ∷ ps) has

pub away_first : (v : View) → HasAway v → HasFirst v
away_first v own = own ∙ ap (λ (ps : List Part). first_in ps ∷ others v) (sym own)

-- with the committer's part joined
away_joined : (v x w : View) (part : CommitPart) → HasAway v → x.parts ≡ OfCommit part ∷ [] → w ≡ joined v x →
    w.parts ≡ Away (number v) (session v) (since v) ∷ OfCommit part ∷ others v
away_joined v x w part own only is = ap (λ (y : View). y.parts) is ∙ (λ i. put_in (own i) (only i))

-- and without it again
away_left : (v w : View) → HasAway v → w ≡ without_commit v → w.parts ≡ Away (number v) (session v) (since v) ∷ beyond v
away_left v w own left = ap (λ (y : View). y.parts) left ∙ ap (λ (ps : List Part). first_in ps ∷ beyond v) own

pub record AwayTaken (v : View) (b : ℕ) (w : View) : Type 0 where
  pub number_is : number w ≡ number v
  pub session_is : session w ≡ session v
  pub since_is : since w ≡ since v
  pub commit_is : commit_behind w ≡ commit v
  pub farther_is : farther w ≡ beyond v
  pub bucket_is : bucket_number w ≡ b
  pub own : HasAway w
  pub both : HasBoth w
  pub parts : w.parts ≡ Away (number v) (session v) (since v) ∷ others w
  pub kept : StartsWith w.sights v.sights
  pub events : w.events ≡ v.events

pub away_taken : (v w : View) (b : ℕ) → HasAway v → HasCommit v → Takes v b w → AwayTaken v b w
away_taken v w b own has t =
    let all : w ≡ seeing (Away (number v) (session v) (since v) ∷ OfBucket b t.part ∷ OfCommit (commit v) ∷ beyond v) (v.sights ++ t.seen) v.events = t.after ∙
    ap (λ ps. seeing (put_in (arrive_first b ps) (OfBucket b t.part ∷ [])) (v.sights ++ t.seen) v.events) (away_there v own has) in
    subst (AwayTaken v b) (sym all) record {
      number_is = refl;
      session_is = refl;
      since_is = refl;
      commit_is = refl;
      farther_is = refl;
      bucket_is = refl;
      own = refl;
      both = refl;
      parts = refl;
      kept = (t.seen, refl);
      events = refl;
    }

-- its record was stamped, and the bucket left
pub stamped_one : (v u x w : View) (b j n : ℕ) (rid : Rid) → AwayTaken v b u → Stamps u j rid n x → w ≡ without_bucket x → StampsOne v j rid n w
stamped_one v u x w b j n rid t stamp left =
    let parts : List Part = Away (number u) (session u) (since u) ∷ OfCommit (listing j rid (commit_behind u)) ∷ lent (flag j (members (farther u))) in
    let is : w ≡ seeing parts (u.sights ++ []) (u.events ++ Stamp j rid n ∷ []) = left ∙ ap without_bucket stamp in
    record {
      parts = ap (λ (y : View). y.parts) is ∙ (λ i. Away (t.number_is i) (t.session_is i) (t.since_is i) ∷ OfCommit (listing j rid (t.commit_is i)) ∷ lent (flag j (members (t.farther_is i))));
      kept = (t.kept.0, ap (λ (y : View). y.sights) is ∙ (append-nil u.sights ∙ t.kept.1));
      events = ap (λ (y : View). y.events) is ∙ ap (λ l. l ++ Stamp j rid n ∷ []) t.events;
    }

-- ---- an open write of a session that handed over stands first in the bucket held

pub lent_open : (z : Sizes) (n j b : ℕ) (v : View) (r : Rid) → IsBacked z n v → HasAway v → HasBoth v → HoldsBucket b v → farther v ≡ lent (members (farther v)) →
    IsTrue (is_in (who (members (farther v))) j) → bucket_of z.buckets r ≡ b
    → IsSome (open_in r (part_of j (members (farther v))).log) → is_stamped j r (commit_behind v).stamped ≡ false → IsOpenBy (writer_at j (members (farther v))) (held v r)
lent_open z n j b v r k is both hold far among here some none = go (open_in r (part_of j ms).log) refl some
  where
    ms : Members
    ms = members (farther v)

    all : Each (Shown k.state) (Away (number v) (session v) (since v) ∷ OfBucket (bucket_number v) (bucket v) ∷ OfCommit (commit_behind v) ∷ lent ms)
    all = subst (Each (Shown k.state)) (is ∙ ap (λ (l : List Part). Away (number v) (session v) (since v) ∷ l) (both ∙
        ap (λ (l : List Part). OfBucket (bucket_number v) (bucket v) ∷ OfCommit (commit_behind v) ∷ l) far)) k.true_of.parts

    own : Shown k.state (Lent j (part_of j ms))
    own = each_part (λ i p. Shown k.state (Lent i p)) ms j (each_lent (Shown k.state) ms all.1.1.1) among

    writer : writer_of (begun_in k.state.log) j ≡ writer_at j ms
    writer = ap (λ x. record { session = j; transaction = begans x }) own.1.0

    same : versions k.state.buckets k.state.bucket r ≡ held v r
    same = held_is z n b v k hold r here

    go : (o : Option Image) → open_in r (part_of j ms).log ≡ o → IsSome o → IsOpenBy (writer_at j ms) (held v r)
    go None e some = absurd cc
    go (Some image) e some =
        let out = k.steady.open_writes_stand.owns r j image (ap (open_in r) own.1.0 ∙ e) in
        let bare = k.steady.stamped_is_next.exact r (writer_of (begun_in k.state.log) j) image out ∙ (ap (is_stamped j r) all.1.1.0.1.0 ∙ none) in
        subst (λ w. IsOpenBy w (held v r)) writer (subst (IsOpenBy (writer_of (begun_in k.state.log) j)) same
        (open_of k.state.mark (writer_of (begun_in k.state.log) j) image (versions k.state.buckets k.state.bucket r) out bare))

-- ---- one more

pub away_with : (t : BoardId) (z : Sizes) (p q : SessionPass) (os : List Part) → IsAwayOf t z p → IsSeatOf t q.seat → session_rest q ≡ session_rest p →
    (session_view q).parts ≡ Away (number (session_view p)) (session (session_view p)) (since (session_view p)) ∷ os → IsAwayOf t z q × (q.number ≡ p.number)
away_with t z p q os own seat rest e = (still_away t z p q os own seat rest e, ap (λ x. x.0) rest)

-- the pass's own part is away still once another was handed back
pub away_back : (t : BoardId) (z : Sizes) (p q : SessionPass) → IsAwayOf t z p → IsSeatOf t q.seat → session_rest q ≡ session_rest p → session_view q ≡ hands_back (session_view p)
    → IsAwayOf t z q × (q.number ≡ p.number)
away_back t z p q own seat rest is = away_with t z p q (beyond (session_view p)) own seat rest (ap (λ (y : View). y.parts) is ∙ ap but_second own.3)

-- the pass's own part is away still once the committer's part was joined
pub away_joins : (t : BoardId) (z : Sizes) (p q : SessionPass) (x : View) (part : CommitPart) → IsAwayOf t z p → IsSeatOf t q.seat → session_rest q ≡ session_rest p →
    x.parts ≡ OfCommit part ∷ [] → session_view q ≡ joined (session_view p) x → IsAwayOf t z q × (q.number ≡ p.number)
away_joins t z p q x part own seat rest only is =
    away_with t z p q (OfCommit part ∷ others (session_view p)) own seat rest (away_joined (session_view p) x (session_view q) part own.3 only is)

-- and once it left
pub away_leaves : (t : BoardId) (z : Sizes) (p q : SessionPass) → IsAwayOf t z p → IsSeatOf t q.seat → session_rest q ≡ session_rest p →
    session_view q ≡ without_commit (session_view p) → IsAwayOf t z q × (q.number ≡ p.number)
away_leaves t z p q own seat rest is = away_with t z p q (beyond (session_view p)) own seat rest (away_left (session_view p) (session_view q) own.3 is)
