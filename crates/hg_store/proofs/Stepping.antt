-- A pass that holds a bucket holds it still after each step.
use Rattle.std.proofs.Common.{◌≡◌, ℕ, suc, ◌+◌, ◌<◌, ◌≤◌, List, [], ◌∷◌, length, Option, Some, None, refl, sym, ap, ◌∙◌, subst, map, arith}
use Rattle.std.specs.Prelude.{IsSome, IfSome, drop, unwrap_or}
use Rattle.hg_base.specs.declared.rid.Rid.{Rid}
use Rattle.hg_base.specs.declared.rid.TableId.{TableId}
use Rattle.hg_base.specs.declared.report.Kind.{Kind}
use Rattle.hg_base.specs.declared.report.Kind.TheVariants.{Group, Table, Interval}
use Rattle.hg_base.specs.Lists.{Each}
use Rattle.hg_core.specs.declared.ask.Ask.{Ask}
use Rattle.hg_core.specs.declared.version.Stamp.{Stamp}
use Rattle.hg_core.specs.declared.version.Stamp.TheVariants.{Written, Numbered, Oldest}
use Rattle.hg_core.specs.declared.version.Version.{Version}
use Rattle.hg_core.specs.Versions.{IsOpenBy, undone, stamped}
use Rattle.hg_core.specs.Contents.{bucket_of, look}
use Rattle.hg_core.specs.Passes.{PassRecord, horizon, recorded, group_bound, table_bound}
use Rattle.hg_core.specs.Removal.{cut, reclaimed}
use Rattle.hg_core.specs.Ordered.{IsOrdered}
use Rattle.hg_core.proofs.Versions.{opened_is, falls_more}
use Rattle.hg_core.proofs.Sweep.{ordered_cut, ordered_swept}
use Rattle.hg_bucket.specs.BucketModel as bucket_words
use Rattle.hg_bucket.specs.BucketModel.{Kept, versions_of, OthersStay, IsBelow, IsThere, IsNextKey}
use Rattle.hg_bucket.specs.BucketModel.{BucketModel}
use Rattle.hg_rule.specs.declared.view.Part.TheVariants.{OfSession, OfBucket, OfCommit, OfPass, Away}
use Rattle.hg_rule.specs.declared.view.Sight.TheVariants.{Saw, Heard}
use Rattle.hg_rule.specs.declared.view.Event.TheVariants.{Look as LookEvent, Stamp as StampEvent}
use Rattle.hg_rule.specs.declared.view.View.{View}
use Rattle.hg_rule.specs.declared.view.Sizes.{Sizes}
use Rattle.hg_rule.specs.Facts.{groups, Shown, record_of}
use Rattle.hg_rule.specs.Rules.{IsBacked}
use Rattle.hg_rule.specs.Views.{number, session, since, pass, others, first_in, then_has, HasPass}
use Rattle.hg_rule.specs.Holding.{bucket_number, bucket, beyond, farther, commit_behind, held, writer, HasBoth}
use Rattle.hg_rule.specs.Places.{HasFirst, IsThere as IsVisitedBy}
use Rattle.hg_rule.specs.Writes.{Looks, Undoes, with_log, log_asked, undoing, stamping, listing}
use Rattle.hg_rule.specs.Handing.{members, lent, flag, writer_at, Stamps}
use Rattle.hg_base.specs.declared.writer.Writer.{Writer}
use Rattle.hg_rule.specs.Removes.{Reclaims, left_of, removed_of, shortening}
use Rattle.hg_store.specs.declared.held.Held.{Held}
use Rattle.hg_store.specs.Kept.{kept}
use Rattle.hg_store.specs.Stores.{held_number, held_records, Holds}
use Rattle.hg_store.proofs.Changing.{all_below}
use Rattle.hg_store.proofs.Doing.{Does}
use Rattle.hg_store.proofs.Keeping.{undo_kept, stamp_kept, kept_length, counted, gone_is, reclaim_kept, ordered_stored}
use Rattle.hg_store.proofs.Holding.{number_is, ordered_at, session_holds, away_holds, pass_holds}

-- ---- a key

none_there : (records : List (Rid × List Kept)) (table : TableId) (from : ℕ) (found : Option ℕ) → IsNextKey records table from found → (k : ℕ) → from ≤ k →
    IfSome found (λ key. k < key) → IsThere records table k → ⊥
none_there records table from None next k le below there = next k le there
none_there records table from (Some key) next k le below there = let least = next.2 k le there in absurd (omega (arith, least, below))

empty_of : (o : Option (List Kept)) (vs : List Version) → (IsSome o → ⊥) → unwrap_or o [] ≡ map kept vs → vs ≡ []
empty_of (Some ks) vs none e = absurd (none refl)
empty_of None [] none e = refl
empty_of None (v ∷ vs) none e = absurd cc

pub none_between : (h : Held) (v : View) (table : TableId) (from : ℕ) (found : Option ℕ) → Holds v h → IsNextKey (held_records h).records table from found → (k : ℕ) → from ≤ k →
    IfSome found (λ key. k < key) → look (bucket_words.record_at table k) (bucket v).content ≡ []
none_between h v table from found hold next k le below = empty_of _ (look (bucket_words.record_at table k) (bucket v).content)
    (none_there (held_records h).records table from found next k le below) (hold.keeps.versions (bucket_words.record_at table k))

pub some_there : (h : Held) (v : View) (table : TableId) (found : Option ℕ) → Holds v h →
    IfSome found (λ key. 0 < length (versions_of (held_records h).records (bucket_words.record_at table key))) →
    IfSome found (λ key. 0 < length (look (bucket_words.record_at table key) (bucket v).content))
some_there h v table None hold there = tt
some_there h v table (Some key) hold there =
    let same = ap length (hold.keeps.versions (bucket_words.record_at table key)) ∙ kept_length (look (bucket_words.record_at table key) (bucket v).content) in
    omega (arith, same, there)

-- ---- a look

pub look_holds : (v w : View) (h : Held) (ask : Ask) (n : ℕ) → Holds v h → Looks v ask n w → Holds w h
look_holds v w h ask n hold k =
    subst (λ x. Holds x h)
    (sym (k.after ∙ ap (λ ps. then_has v (OfSession (number v) (with_log (log_asked v ask n k.rows) (session v)) ∷ ps)
    (Saw (groups k.history) ∷ Heard (number v) (log_asked v ask n k.rows) ∷ k.heard) (LookEvent (number v) ask n)) hold.has.1.0))
    (session_holds h (number v) (held_number h) (with_log (log_asked v ask n k.rows) (session v)) (bucket v) (beyond v) _ _ refl hold.keeps hold.ordered)

-- ---- an undo

pub undo_holds : (v w : View) (h h' : Held) (r : Rid) → Holds v h → held_number h' ≡ held_number h → IsOpenBy (writer v) (held v r) → Undoes v r w
    → versions_of (held_records h').records r ≡ drop 1 (versions_of (held_records h).records r) → OthersStay (held_records h).records (held_records h').records r →
    held_records h' ≡ record (held_records h) { records = (held_records h').records; long = (held_records h').long; undone = (held_records h).undone + 1 } → Holds w h'
undo_holds v w h h' r hold same mine step here others counters =
    subst (λ x. Holds x h') (sym step) (session_holds h' (number v) (bucket_number v) _ (undoing r (bucket v)) (beyond v) _ _ (number_is (held_number h) v hold.has ∙ sym same)
    (undo_kept (held_records h) (held_records h') (bucket v) r hold.keeps here others counters)
    (ordered_stored (bucket v).content r (undone (held v r)) (hold.ordered r).0 hold.ordered (opened_is (hold.ordered r).0 (writer v) (held v r) mine (hold.ordered r).1).ordered_undone))

-- ---- a stamp

mark_held : (z : Sizes) (n : ℕ) (v : View) → IsBacked z n v → HasFirst v → HasBoth v → n ≡ length (commit_behind v).history.list
mark_held z n v k first both =
    let shown : Each (Shown k.state) (first_in v.parts ∷ OfBucket (bucket_number v) (bucket v) ∷ OfCommit (commit_behind v) ∷ farther v) = subst (Each (Shown k.state)) (first ∙
    ap (λ ps. first_in v.parts ∷ ps) both) k.true_of.parts in
    sym k.mark_is ∙ k.steady.mark_is_length.is_length ∙ ap length shown.1.1.0.0

pub over_by : (z : Sizes) (n number : ℕ) (v : View) (h : Held) (r : Rid) (w : Writer) → Holds v h → IsBacked z n v → HasBoth v → bucket_of z.buckets r ≡ held_number h →
    IsOpenBy w (held v r) → number ≡ suc (length (commit_behind v).history.list) → Each (IsBelow number) (drop 1 (versions_of (held_records h).records r))
over_by z n m v h r w hold k both here mine next =
    subst (λ ks. Each (IsBelow m) (drop 1 ks)) (sym (hold.keeps.versions r))
    (subst (λ x. Each (IsBelow x) (drop 1 (map kept (held v r)))) (ap suc (mark_held z n v k hold.has.0 both) ∙ sym next)
    (all_below n w (held v r) mine (ordered_at z n (held_number h) v k hold.has r here)))

pub stamp_holds : (z : Sizes) (n number j : ℕ) (v x : View) (h h' : Held) (r : Rid) (w : Writer) → w ≡ writer_at j (members (farther v)) → Holds v h → IsBacked z n v → HasBoth v →
    held_number h' ≡ held_number h → bucket_of z.buckets r ≡ held_number h → IsOpenBy w (held v r) → number ≡ suc (length (commit_behind v).history.list) → Stamps v j r number x
    → versions_of (held_records h').records r ≡ bucket_words.stamped w number (versions_of (held_records h).records r) →
    OthersStay (held_records h).records (held_records h').records r → held_records h' ≡ record (held_records h) { records = (held_records h').records; long = (held_records h').long } → Holds x h'
stamp_holds z n m j v x h h' r w is hold k both same here mine next step stored apart counters =
    let o = (opened_is n w (held v r) mine (ordered_at z n (held_number h) v k hold.has r here)).ordered_stamped in
    let p = subst (λ x. IsOrdered n (stamped x w (held v r))) (ap suc (mark_held z n v k hold.has.0 both) ∙ sym next) o in
    subst (λ x. Holds x h') (sym (step ∙ ap (λ (y : Writer). then_has v (Away (number v) (session v) (since v) ∷ OfBucket (bucket_number v) (stamping m y r (bucket v)) ∷ OfCommit
    (listing j r (commit_behind v)) ∷ lent (flag j (members (farther v)))) [] (StampEvent j r m)) (sym is)))
    (away_holds h' (number v) (bucket_number v) (since v) (session v) (stamping m w r (bucket v)) _ _ _ (number_is (held_number h) v hold.has ∙ sym same)
    (stamp_kept (held_records h) (held_records h') (bucket v) r m w hold.keeps stored apart counters)
    (ordered_stored (bucket v).content r (stamped m w (held v r)) n hold.ordered p))

-- ---- a reclaim

pub ordered_more : (m n : ℕ) (vs : List Version) → m ≤ n → IsOrdered m vs → IsOrdered n vs
ordered_more m n [] le o = tt
ordered_more m n (v ∷ vs) le o = go v.stamp o
  where
    go : (x : Stamp) → IsOrdered m (record { stamp = x; image = v.image } ∷ vs) → IsOrdered n (record { stamp = x; image = v.image } ∷ vs)
    go (Written by) f = falls_more (suc m) (suc n) vs (omega arith) f
    go (Numbered k by) f = (omega (arith, f.0), f.1)
    go (Oldest k) f = (omega (arith, f.0), f.1)

cut_in_order : (m bound : ℕ) (vs : List Version) → IsOrdered m vs → (n : ℕ) × IsOrdered n (cut bound vs)
cut_in_order m bound vs o = (m + bound, (ordered_cut (m + bound) bound vs (omega arith) (ordered_more m (m + bound) vs (omega arith) o)).0)

pub reclaimed_in_order : (kind : Kind) (table : TableId) (p : PassRecord) (m : ℕ) (vs : List Version) → IsOrdered m vs → (n : ℕ) × IsOrdered n (reclaimed kind table p vs)
reclaimed_in_order Group table p m vs o = cut_in_order m (group_bound p) vs o
reclaimed_in_order Table table p m vs o = cut_in_order m (table_bound table p) vs o
reclaimed_in_order Interval table p m vs o = (m, ordered_swept m (horizon p) (recorded table p) vs o)

pub reclaim_gone : (kind : Kind) (does : List Kept → List Kept) (v : View) (h : Held) (new : BucketModel) (r : Rid) (gone : ℕ) → Holds v h →
    Does kind r.table (record_of (pass v)) does → versions_of new.records r ≡ does (versions_of (held_records h).records r) →
    length (versions_of new.records r) + gone ≡ length (versions_of (held_records h).records r) → gone ≡ removed_of v r kind
reclaim_gone kind does v h new r gone hold d here sum = gone_is kind (record_of (pass v)) does (hold.ordered r).0 gone (held_records h) new (bucket v) r d (hold.ordered r).1 hold.keeps here sum

pub reclaim_holds : (kind : Kind) (does : List Kept → List Kept) (v w : View) (h h' : Held) (r : Rid) (gone : ℕ) → Holds v h → HasPass v → held_number h' ≡ held_number h →
    Does kind r.table (record_of (pass v)) does → Reclaims v r kind w
    → versions_of (held_records h').records r ≡ does (versions_of (held_records h).records r) → OthersStay (held_records h).records (held_records h').records r →
    length (versions_of (held_records h').records r) + gone ≡ length (versions_of (held_records h).records r) → held_records h' ≡ counted kind gone (held_records h) (held_records h') → Holds w h'
reclaim_holds kind does v w h h' r gone hold own same d step here others sum counters =
    let order = reclaimed_in_order kind r.table (record_of (pass v)) (hold.ordered r).0 (held v r) (hold.ordered r).1 in
    subst (λ x. Holds x h') (sym step) (pass_holds h' (number v) (bucket_number v) (removed_of v r kind) kind (pass v)
    (shortening r kind (left_of v r kind) (removed_of v r kind) (bucket v)) (beyond v) _ _ (number_is (held_number h) v hold.has ∙ sym same)
    (subst (λ b. IsVisitedBy b (OfPass (number v) (pass v))) (sym (number_is (held_number h) v hold.has)) (subst (λ ps. IsVisitedBy (held_number h) (first_in ps)) own hold.has.1.1))
    (reclaim_kept kind (record_of (pass v)) does (hold.ordered r).0 gone (held_records h) (held_records h') (bucket v) r d (hold.ordered r).1 hold.keeps here others sum counters)
    (ordered_stored (bucket v).content r (left_of v r kind) order.0 hold.ordered order.1))
