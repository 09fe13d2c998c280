-- What a pass that holds a bucket knows, and that it holds it still after a step.
use Rattle.std.proofs.Common.{◌≡◌, ℕ, ◌*◌, ◌≤◌, List, [], ◌∷◌, Bool, true, false, refl, sym, ap, ◌∙◌, cond, subst, arith}
use Rattle.std.specs.Prelude.{◌==◌}
use Rattle.std.proofs.lemmas.Bool.Decides.{nat_tests}
use Rattle.hg_base.specs.declared.rid.Rid.{Rid}
use Rattle.hg_base.specs.declared.report.Kind.{Kind}
use Rattle.hg_base.specs.History.{same_rid}
use Rattle.hg_base.specs.Lists.{Each}
use Rattle.hg_base.proofs.HistoryFacts.{same_rid_equal}
use Rattle.hg_core.specs.declared.visit.Visit.{Visit}
use Rattle.hg_core.specs.Contents.{Content, bucket_of, look, versions}
use Rattle.hg_core.specs.Counters.{total}
use Rattle.hg_core.specs.Ordered.{IsOrdered}
use Rattle.hg_core.specs.Visits.{IsVisiting, removing}
use Rattle.hg_rule.specs.declared.view.SessionPart.{SessionPart}
use Rattle.hg_rule.specs.declared.view.BucketPart.{BucketPart}
use Rattle.hg_rule.specs.declared.view.PassPart.{PassPart}
use Rattle.hg_rule.specs.declared.view.Part.{Part}
use Rattle.hg_rule.specs.declared.view.Part.TheVariants.{OfSession, OfBucket, OfPass, Away}
use Rattle.hg_rule.specs.declared.view.Sight.{Sight}
use Rattle.hg_rule.specs.declared.view.Event.{Event}
use Rattle.hg_rule.specs.declared.view.View.{View}
use Rattle.hg_rule.specs.declared.view.Sizes.{Sizes}
use Rattle.hg_rule.specs.Facts.{Shown}
use Rattle.hg_rule.specs.Rules.{IsBacked}
use Rattle.hg_rule.specs.Views.{part_number, bucket_there, first_in, after_first, seeing}
use Rattle.hg_rule.specs.Moves.{put_in}
use Rattle.hg_rule.specs.Holding.{bucket_number, bucket, beyond, held}
use Rattle.hg_rule.specs.Places.{HasFirst, HoldsBucket, arrive_first, with_bucket}
use Rattle.hg_store.specs.declared.held.Held.{Held}
use Rattle.hg_store.specs.Kept.{Keeps, AreOrdered}
use Rattle.hg_store.specs.Stores.{held_number, held_records, Holds}
use Rattle.hg_store.proofs.Bounding.{total_most}

-- ---- the parts of a view that holds a bucket

pub parts_are : (b : ℕ) (v : View) → HoldsBucket b v → v.parts ≡ first_in v.parts ∷ OfBucket b (bucket v) ∷ beyond v
parts_are b v h = h.0 ∙ ap (λ ps. first_in v.parts ∷ ps) h.1.0

pub number_is : (b : ℕ) (v : View) → HoldsBucket b v → bucket_number v ≡ b
number_is b v h = ap part_number h.1.0

pub second_shown : (P : Part → Type 0) (ps rest : List Part) (p q : Part) → ps ≡ p ∷ q ∷ rest → Each P ps → P q
second_shown P ps rest p q e h = (subst (Each P) e h).1.0

-- ---- by a state that backs the view

pub look_none : (buckets b : ℕ) (r : Rid) (content : Content) → Each (λ e. bucket_of buckets e.0 ≡ b) content → (bucket_of buckets r ≡ b → ⊥) → look r content ≡ []
look_none buckets b r [] e other = refl
look_none buckets b r (x ∷ content) e other = go (same_rid r x.0) refl (look_none buckets b r content e.1 other)
  where
    go : (t : Bool) → same_rid r x.0 ≡ t → look r content ≡ [] → cond t x.1 (look r content) ≡ []
    go true same rest = absurd (other (ap (bucket_of buckets) (same_rid_equal r x.0 same) ∙ e.0))
    go false apart rest = rest

-- of the bucket's own records
pub held_is : (z : Sizes) (n b : ℕ) (v : View) (k : IsBacked z n v) → HoldsBucket b v → (r : Rid) → bucket_of z.buckets r ≡ b → versions k.state.buckets k.state.bucket r ≡ held v r
held_is z n b v k h r here =
    let shown = second_shown (Shown k.state) v.parts (beyond v) (first_in v.parts) (OfBucket b (bucket v)) (parts_are b v h) k.true_of.parts in
    ap (λ m. look r (k.state.bucket (bucket_of m r))) k.sized.buckets ∙ ap (λ m. look r (k.state.bucket m)) here ∙ ap (look r) shown.0

pub ordered_at : (z : Sizes) (n b : ℕ) (v : View) → IsBacked z n v → HoldsBucket b v → (r : Rid) → bucket_of z.buckets r ≡ b → IsOrdered n (held v r)
ordered_at z n b v k h r here = subst (λ vs. IsOrdered n vs) (held_is z n b v k h r here)
    (subst (λ m. IsOrdered m (versions k.state.buckets k.state.bucket r)) k.mark_is (k.steady.contents_are_ordered.ordered r))

-- a record of another bucket isn't there
pub placed_at : (z : Sizes) (n b : ℕ) (v : View) → IsBacked z n v → HoldsBucket b v → Each (λ e. bucket_of z.buckets e.0 ≡ b) (bucket v).content
placed_at z n b v k h =
    let shown : Shown k.state (OfBucket b (bucket v)) = second_shown (Shown k.state) v.parts (beyond v) (first_in v.parts) (OfBucket b (bucket v)) (parts_are b v h) k.true_of.parts in
    subst (λ m. Each (λ e. bucket_of m e.0 ≡ b) (bucket v).content) k.sized.buckets (subst (λ es. Each (λ e. bucket_of k.state.buckets e.0 ≡ b) es) shown.0 (k.steady.contents_are_placed b).bucket)

pub total_at : (z : Sizes) (n b : ℕ) (v : View) → IsBacked z n v → HoldsBucket b v → total (bucket v).content ≤ z.sessions * z.quota
total_at z n b v k h =
    let shown : Shown k.state (OfBucket b (bucket v)) = second_shown (Shown k.state) v.parts (beyond v) (first_in v.parts) (OfBucket b (bucket v)) (parts_are b v h) k.true_of.parts in
    subst (λ es. total es ≤ z.sessions * z.quota) shown.0 (subst (λ x. total (k.state.bucket b) ≤ x) (λ i. k.sized.sessions i * k.sized.quota i) (total_most k.state k.steady b))

pub all_ordered : (z : Sizes) (n b : ℕ) (v : View) → IsBacked z n v → HoldsBucket b v → AreOrdered (bucket v).content
all_ordered z n b v k h r = go (bucket_of z.buckets r == b) refl
  where
    go : (t : Bool) → (bucket_of z.buckets r == b) ≡ t → (mark : ℕ) × IsOrdered mark (look r (bucket v).content)
    go true e = (n, ordered_at z n b v k h r (grind (arith, nat_tests)))
    go false e = (0, subst (IsOrdered 0) (sym (look_none z.buckets b r (bucket v).content (placed_at z n b v k h) (grind (arith, nat_tests)))) tt)

-- ---- a bucket comes

bucket_joined : (v w : View) (b : ℕ) (part : BucketPart) → HasFirst v → w.parts ≡ OfBucket b part ∷ [] → bucket (with_bucket v w) ≡ part
bucket_joined v w b part e f = λ i. bucket_there (first_in (after_first (put_in (arrive_first (part_number (f i)) (e i)) (f i))))

pub taken_holds : (z : Sizes) (n : ℕ) (v w x : View) (b : ℕ) (part : BucketPart) (h : Held) → HasFirst v → w.parts ≡ OfBucket b part ∷ [] → x ≡ with_bucket v w → HoldsBucket b x →
    IsBacked z n x → held_number h ≡ b → Keeps (held_records h) part → Holds x h
taken_holds z n v w x b part h first only is has backed same keeps = record {
  has = subst (λ m. HoldsBucket m x) (sym same) has;
  keeps = subst (Keeps (held_records h)) (sym (ap bucket is ∙ bucket_joined v w b part first only)) keeps;
  ordered = all_ordered z n b x backed has;
}

-- ---- a step leaves it

pub session_holds : (h : Held) (j b : ℕ) (s : SessionPart) (part : BucketPart) (rest : List Part) (sights : List Sight) (events : List Event) → b ≡ held_number h →
    Keeps (held_records h) part → AreOrdered part.content → Holds (seeing (OfSession j s ∷ OfBucket b part ∷ rest) sights events) h
session_holds h j b s part rest sights events same k o = record {
  has = subst (λ m. HoldsBucket m (seeing (OfSession j s ∷ OfBucket b part ∷ rest) sights events)) same
      (refl, (refl, tt));
  keeps = k;
  ordered = o;
}

pub away_holds : (h : Held) (j b n : ℕ) (s : SessionPart) (part : BucketPart) (rest : List Part) (sights : List Sight) (events : List Event) → b ≡ held_number h →
    Keeps (held_records h) part → AreOrdered part.content → Holds (seeing (Away j s n ∷ OfBucket b part ∷ rest) sights events) h
away_holds h j b n s part rest sights events same k o = record {
  has = subst (λ m. HoldsBucket m (seeing (Away j s n ∷ OfBucket b part ∷ rest) sights events)) same
      (refl, (refl, tt));
  keeps = k;
  ordered = o;
}

visiting_still : (b n : ℕ) (kind : Kind) (visits : List Visit) → IsVisiting b visits → IsVisiting b (removing kind n visits)
visiting_still b n kind [] i = i
visiting_still b n kind (x ∷ visits) i = i

pub pass_holds : (h : Held) (p b n : ℕ) (kind : Kind) (r : PassPart) (part : BucketPart) (rest : List Part) (sights : List Sight) (events : List Event) → b ≡ held_number h →
    IsVisiting b r.visits → Keeps (held_records h) part → AreOrdered part.content → Holds (seeing (OfPass p (record r { visits = removing kind n r.visits }) ∷ OfBucket b part ∷ rest) sights events) h
pass_holds h p b n kind r part rest sights events same visits k o = record {
  has = subst
      (λ m. HoldsBucket m (seeing (OfPass p (record r { visits = removing kind n r.visits }) ∷ OfBucket b part ∷ rest) sights events)) same
      (refl, (refl, visiting_still b n kind r.visits visits));
  keeps = k;
  ordered = o;
}
