-- What a pass knows that counts one bucket after the other.
use Rattle.std.proofs.Common.{◌≡◌, inr, None, ℕ, suc, ◌+◌, ◌^◌, ◌<◌, Bool, true, false, List, [], ◌∷◌, ◌++◌, length, refl, sym, ap, ◌∙◌, subst, arith}
use Rattle.std.specs.Prelude.{◌==◌, if◌then◌else◌}
use Rattle.hg_base.specs.declared.report.Kind.{Kind}
use Rattle.hg_base.specs.declared.report.Kind.TheVariants.{Group, Table, Interval}
use Rattle.hg_base.specs.declared.line.Totals.{Totals}
use Rattle.hg_base.specs.Lists.{Each}
use Rattle.hg_core.specs.declared.visit.Counters.{Counters}
use Rattle.hg_core.specs.declared.visit.Visit.{Visit}
use Rattle.hg_core.specs.Contents.{Content}
use Rattle.hg_core.specs.Counters.{none_removed, removed_by, removed_in, removed_all}
use Rattle.hg_core.specs.Logs.{newest_of}
use Rattle.hg_core.specs.State.{CoreState}
use Rattle.hg_core.proofs.Sums.{below_same}
use Rattle.hg_rule.specs.declared.view.BucketPart.{BucketPart}
use Rattle.hg_rule.specs.declared.view.PassPart.{PassPart}
use Rattle.hg_rule.specs.declared.view.Part.{Part}
use Rattle.hg_rule.specs.declared.view.Part.TheVariants.{OfBucket, OfCommit, OfPass}
use Rattle.hg_rule.specs.declared.view.View.{View}
use Rattle.hg_rule.specs.declared.view.Sizes.{Sizes}
use Rattle.hg_rule.specs.Keys.{session_key, commit_key, pass_key, has, count, shares}
use Rattle.hg_rule.specs.Facts.{StartsWith, Shown}
use Rattle.hg_rule.specs.Rules.{HasRoom, IsBacked}
use Rattle.hg_rule.specs.Views.{number, pass, others, session_there, pass_there, commit_there, bucket_there, first_in, after_first, HasPass}
use Rattle.hg_rule.specs.Moves.{put_in}
use Rattle.hg_rule.specs.Holding.{bucket, commit, beyond}
use Rattle.hg_rule.specs.Places.{arrive_first, depart, without_bucket, HoldsCommit}
use Rattle.hg_rule.specs.Reading.{chosen, seek, passes_in}
use Rattle.hg_rule.proofs.Lists.{starts_on}
use Rattle.hg_store.specs.Kept.{AreCountsOf}
use Rattle.hg_store.specs.Stores.{Takes}
use Rattle.hg_headline.specs.Logged.{Logged}
use Rattle.hg_headline.specs.Totalled.{HasCut, AreCounts, BucketTells, SumTells, TotalsTell, plus}
use Rattle.hg_headline.proofs.Totalling.{tells_same, more_tells, totals_tell, made_few, Fits, fits}
use Rattle.hg_session.specs.Ended.{logs_in, visits_in, history_in, IsEnded}
use Rattle.hg_session.specs.OneRun.{EndsOneRun}
use Rattle.hg_session.specs.Visited.{Counts, empty_visit, empty_visits, HasVisited}
use Rattle.hg_session.proofs.Ending.{bucket_told, few, within, logged, newest_is, one_run}

-- ---- a bucket comes behind the pass's own part, which has other visits

module _ (v x : View) (m b : ℕ) (r : PassPart) (visits : List Visit) (part : BucketPart) (os : List Part) (before : v.parts ≡ OfPass m r ∷ os)
    (now : x.parts ≡ OfPass m (record r { visits = visits }) ∷ OfBucket b part ∷ os) where
  pub ended_now : (z : Sizes) → IsEnded z v → IsEnded z x
  ended_now z e = record {
    sessions = λ j is. subst (λ ps. 0 < count (session_key j) ps) (sym now) (one_more _ (subst (λ ps. 0 < count (session_key j) ps) before (e.sessions j is)));
    passes = ap shares now ∙ same r.share (shares os) ∙ sym (ap shares before) ∙ e.passes;
    rest = λ j. ap (λ ps. (session_there (seek (session_key j) ps)).phase) now ∙ sym (ap (λ ps. (session_there (seek (session_key j) ps)).phase) before) ∙ e.rest j;
  }
    where
      one_more : (n : ℕ) → 0 < 0 + n → 0 < 0 + (0 + n)
      one_more n l = omega arith

      same : (n k : ℕ) → n + (0 + k) ≡ n + k
      same n k = omega arith

  pub committed_now : 0 < count commit_key v.parts → 0 < count commit_key x.parts
  committed_now l = subst (λ ps. 0 < count commit_key ps) (sym now) (one_more _ (subst (λ ps. 0 < count commit_key ps) before l))
    where
      one_more : (n : ℕ) → 0 < 0 + n → 0 < 0 + (0 + n)
      one_more n l = omega arith

  pub logs_now : logs_in x ≡ logs_in v
  logs_now = (λ i j. (session_there (seek (session_key j) (now i))).log) ∙ sym (λ i j. (session_there (seek (session_key j) (before i))).log)

  pub history_now : history_in x ≡ history_in v
  history_now = ap (λ ps. (commit_there (seek commit_key ps)).history.list) now ∙ sym (ap (λ ps. (commit_there (seek commit_key ps)).history.list) before)

  pub passes_now : passes_in x.parts ≡ passes_in v.parts
  passes_now = ap passes_in now ∙ sym (ap passes_in before)

  -- the visits of each pass
  pub each_visit : (P : List Visit → List Visit → Type 0) → P r.visits visits → ((vs : List Visit) → P vs vs) → (p : ℕ) → P (visits_in v p) (visits_in x p)
  each_visit P own other p =
      subst (λ ps. P (pass_there (seek (pass_key p) ps)).visits (visits_in x p)) (sym before)
      (subst (λ ps. P (pass_there (seek (pass_key p) (OfPass m r ∷ os))).visits (pass_there (seek (pass_key p) ps)).visits) (sym now) (go (has (pass_key p) (OfPass m r))))
    where
      go : (t : Bool) → P (pass_there (chosen t (OfPass m r) (seek (pass_key p) os))).visits (pass_there (chosen t (OfPass m (record r { visits = visits })) (seek (pass_key p) os))).visits
      go true = own
      go false = other _

-- ---- visits that removed nothing

removed_none : (kind : Kind) → removed_by kind none_removed ≡ 0
removed_none Group = refl
removed_none Table = refl
removed_none Interval = refl

nothing_more : (kind : Kind) (t : Bool) (n : ℕ) → (if t then removed_by kind none_removed else 0) + n ≡ n
nothing_more kind true n = omega (arith, removed_none kind)
nothing_more kind false n = omega arith

empties_removed : (kind : Kind) (b mark round : ℕ) (contents : List Content) (vs : List Visit) → removed_in kind b (empty_visits mark round contents ++ vs) ≡ removed_in kind b vs
empties_removed kind b mark round [] vs = refl
empties_removed kind b mark round (content ∷ contents) vs = nothing_more kind (length contents == b) (removed_in kind b (empty_visits mark round contents ++ vs)) ∙ empties_removed kind b mark round contents vs

none_of_all : (kind : Kind) (mark round : ℕ) (contents : List Content) (vs : List Visit) → removed_all kind (empty_visits mark round contents ++ vs) ≡ removed_all kind vs
none_of_all kind mark round [] vs = refl
none_of_all kind mark round (content ∷ contents) vs = omega (arith, removed_none kind, none_of_all kind mark round contents vs)

cut_before : (buckets n b mark round : ℕ) (contents : List Content) (vs : List Visit) → HasCut buckets n b vs → HasCut buckets n b (empty_visits mark round contents ++ vs)
cut_before buckets n b mark round [] vs c = c
cut_before buckets n b mark round (content ∷ contents) vs c = inr (cut_before buckets n b mark round contents vs c)

-- ---- one bucket more

module _ (v u x : View) (n : ℕ) (own : HasPass v) (h : HasVisited v n u) (takes : Takes u n x) where
  abbrev contents : List Content
  contents = h.contents

  abbrev part : BucketPart
  part = takes.part

  abbrev visits : List Visit
  visits = record { bucket = n; mark = (pass v).mark; round = (pass v).round; removed = none_removed; given = None } ∷ (empty_visits (pass v).mark (pass v).round contents ++ (pass v).visits)

  parts_now : x.parts ≡ OfPass (number v) (record (pass v) { visits = visits }) ∷ OfBucket n part ∷ others v
  parts_now = ap (λ (y : View). y.parts) takes.after ∙ (λ i. put_in (arrive_first n (h.parts i)) (OfBucket n part ∷ []))

  bucket_now : bucket x ≡ part
  bucket_now = ap (λ ps. bucket_there (first_in (after_first ps))) parts_now

  counters_are : (s : CoreState) (counts : Totals) → Each (Shown s) x.parts → AreCountsOf (bucket x).counters counts → AreCounts (s.counters n) counts
  counters_are s counts shown are =
      let same : s.counters n ≡ (bucket x).counters = (subst (Each (Shown s)) parts_now shown).1.0.1 ∙ sym (ap (λ (c : BucketPart). c.counters) bucket_now) in
      record {
        made = are.made ∙ sym (ap (λ (c : Counters). c.made) same);
        undone = are.undone ∙ sym (ap (λ (c : Counters). c.undone) same);
        group = are.group ∙ sym (ap (λ (c : Counters). c.removed.group) same);
        table = are.table ∙ sym (ap (λ (c : Counters). c.removed.table) same);
        interval = are.interval ∙ sym (ap (λ (c : Counters). c.removed.interval) same);
        balance = are.left;
      }

  removed_now : (kind : Kind) → removed_in kind n visits ≡ removed_in kind n (pass v).visits
  removed_now kind = nothing_more kind (n == n) _ ∙ empties_removed kind n (pass v).mark (pass v).round contents (pass v).visits

  -- the counts tell what they would with the visits from before
  pub taken_tells : (z : Sizes) (counts : Totals) (mark : ℕ) → IsEnded z v → 0 < count commit_key v.parts → IsBacked z mark x → AreCountsOf (bucket x).counters counts →
      BucketTells z.sessions z.buckets (passes_in v.parts) (logs_in v) (visits_in v) (history_in v) n counts
  taken_tells z counts mark ended committed backed are =
      tells_same z.sessions z.buckets (passes_in v.parts) (logs_in v) (visits_in x) (visits_in v) (history_in v) n counts
      (subst (λ k. BucketTells z.sessions z.buckets (passes_in v.parts) (logs_in v) (visits_in x) k n counts) (history_now v x (number v) n (pass v) visits part (others v) own parts_now)
      (subst (λ l. BucketTells z.sessions z.buckets (passes_in v.parts) l (visits_in x) (history_in x) n counts) (logs_now v x (number v) n (pass v) visits part (others v) own parts_now)
      (subst (λ k. BucketTells z.sessions z.buckets k (logs_in x) (visits_in x) (history_in x) n counts) (passes_now v x (number v) n (pass v) visits part (others v) own parts_now)
      (bucket_told z mark x backed (ended_now v x (number v) n (pass v) visits part (others v) own parts_now z ended)
      (committed_now v x (number v) n (pass v) visits part (others v) own parts_now committed) n counts (counters_are backed.state counts backed.true_of.parts are)))))
      (λ kind. below_same (passes_in v.parts) (λ p. removed_in kind n (visits_in v p)) (λ p. removed_in kind n (visits_in x p))
      (λ p le. each_visit v x (number v) n (pass v) visits part (others v) own parts_now (λ before now. removed_in kind n now ≡ removed_in kind n before) (removed_now kind) (λ vs. refl) p))
      (λ cut. (
        cut.0,
        (
          cut.1.0,
          each_visit v x (number v) n (pass v) visits part (others v) own parts_now (λ before now. HasCut z.buckets (length (history_in v)) n before → HasCut z.buckets (length (history_in v)) n now)
              (λ c. inr (cut_before z.buckets (length (history_in v)) n (pass v).mark (pass v).round contents (pass v).visits c)) (λ vs c. c) cut.0 cut.1.1,
        ),
      ))

  -- and the pass has visited it
  pub visited_more : (w : View) → w ≡ without_bucket x → HasVisited v (suc n) w
  visited_more w after = record {
    contents = part.content ∷ contents;
    each = ap suc h.each;
    parts = ap (λ (y : View). y.parts) after ∙ (λ i. depart (bucket_there (first_in (after_first (parts_now i)))).content (first_in (parts_now i)) ∷ after_first (after_first (parts_now i)))
        ∙ (λ i. OfPass (number v) (record (pass v) { visits = empty_visit (pass v).mark (pass v).round (sym h.each i) part.content ∷ (empty_visits (pass v).mark (pass v).round contents ++ (pass v).visits) }) ∷ others v);
    kept = subst (λ l. StartsWith l v.sights) (sym (ap (λ (y : View). y.sights) after ∙ ap (λ (y : View). y.sights) takes.after)) (starts_on _ u.sights v.sights h.kept (takes.seen, refl));
    events = ap (λ (y : View). y.events) after ∙ ap (λ (y : View). y.events) takes.after ∙ h.events;
  }

-- ---- what stays of a view whose pass visited buckets

module _ (v w : View) (n : ℕ) (own : HasPass v) (h : HasVisited v n w) where
  pub logs_still : logs_in w ≡ logs_in v
  logs_still = (λ i j. (session_there (seek (session_key j) (h.parts i))).log) ∙ sym (λ i j. (session_there (seek (session_key j) (own i))).log)

  pub passes_still : passes_in w.parts ≡ passes_in v.parts
  passes_still = ap passes_in h.parts ∙ sym (ap passes_in own)

  pub ended_still : (z : Sizes) → IsEnded z v → IsEnded z w
  ended_still z e = record {
    sessions = λ j is. subst (λ ps. 0 < count (session_key j) ps) (sym h.parts) (subst (λ ps. 0 < count (session_key j) ps) own (e.sessions j is));
    passes = ap shares h.parts ∙ sym (ap shares own) ∙ e.passes;
    rest = λ j. ap (λ ps. (session_there (seek (session_key j) ps)).phase) h.parts ∙ sym (ap (λ ps. (session_there (seek (session_key j) ps)).phase) own) ∙ e.rest j;
  }

  pub removed_still : (kind : Kind) (p : ℕ) → removed_all kind (visits_in w p) ≡ removed_all kind (visits_in v p)
  removed_still kind p =
      subst (λ ps. removed_all kind (pass_there (seek (pass_key p) ps)).visits ≡ removed_all kind (visits_in v p)) (sym h.parts)
      (subst (λ ps. removed_all kind (pass_there (seek (pass_key p)
      (OfPass (number v) (record (pass v) { visits = empty_visits (pass v).mark (pass v).round h.contents ++ (pass v).visits }) ∷ others v))).visits ≡ removed_all kind
      (pass_there (seek (pass_key p) ps)).visits) (sym own)
      (go (has (pass_key p) (OfPass (number v) (pass v)))))
    where
      go : (t : Bool) → removed_all kind (pass_there (chosen t (OfPass (number v) (record (pass v) { visits = empty_visits (pass v).mark (pass v).round h.contents ++ (pass v).visits }))
          (seek (pass_key p) (others v)))).visits ≡ removed_all kind (pass_there (chosen t (OfPass (number v) (pass v)) (seek (pass_key p) (others v)))).visits
      go true = none_of_all kind (pass v).mark (pass v).round h.contents (pass v).visits
      go false = refl

-- ---- the loop

-- the sums of the first n buckets, as they are told of a view
abbrev pub SumsTell : Sizes → View → ℕ → Totals → Type 0
SumsTell z v n sums = SumTells z.sessions z.buckets (passes_in v.parts) (logs_in v) (visits_in v) (history_in v) n sums

module _ (z : Sizes) (v : View) (own : HasPass v) (holds : HoldsCommit v) where
  parts_before : v.parts ≡ OfPass (number v) (pass v) ∷ OfCommit (commit v) ∷ beyond v
  parts_before = own ∙ ap (λ ps. OfPass (number v) (pass v) ∷ ps) holds.1

  pub committed : 0 < count commit_key v.parts
  committed = subst (λ ps. 0 < count commit_key ps) (sym parts_before) (one_there (count commit_key (beyond v)))
    where
      one_there : (n : ℕ) → 0 < 0 + (1 + n)
      one_there n = omega arith

  pub history_there : history_in v ≡ (commit v).history.list
  history_there = ap (λ ps. (commit_there (seek commit_key ps)).history.list) parts_before

  -- the committer's part is behind it still
  pub commit_still : (n : ℕ) (w : View) → HasVisited v n w → HoldsCommit w × (commit w ≡ commit v)
  commit_still n w h =
      let os : others w ≡ OfCommit (commit v) ∷ beyond v = ap after_first h.parts ∙ holds.1 in
      let c : commit w ≡ commit v = ap (λ ps. commit_there (first_in ps)) os in
      let first : first_in w.parts ≡ OfPass (number v) (record (pass v) { visits = empty_visits (pass v).mark (pass v).round h.contents ++ (pass v).visits }) = ap first_in h.parts in
      ((h.parts ∙ (λ i. sym first i ∷ sym (ap after_first h.parts) i), os ∙ (λ i. OfCommit (sym c i) ∷ sym (ap after_first os) i)), c)

  -- one bucket's counts more
  module _ (u w : View) (n mark : ℕ) (sums counts : Totals) (ended : IsEnded z v) (h : HasVisited v n u) (s : SumsTell z v n sums) (c : Counts z u n counts w) where
    tells : BucketTells z.sessions z.buckets (passes_in v.parts) (logs_in v) (visits_in v) (history_in v) n counts
    tells = taken_tells v u c.held n own h c.takes z counts c.mark ended committed c.backed c.counts_are

    pub sums_more : SumsTell z v (suc n) (plus sums counts)
    sums_more = more_tells z.sessions z.buckets (passes_in v.parts) (logs_in v) (visits_in v) (history_in v) n sums counts s tells

    pub visited_next : HasVisited v (suc n) w
    visited_next = visited_more v u c.held n own h c.takes w c.after

    pub sums_fit : HasRoom z → n < z.buckets → IsBacked z mark v → Fits (2 ^ 40) sums counts
    sums_fit room less backed = fits z.sessions z.buckets (passes_in v.parts) (logs_in v) (visits_in v) (history_in v) n sums counts (2 ^ 40) less
        (omega (arith, made_few z.sessions z.quota (logs_in v) (few z mark v backed ended committed), room.begins)) s tells

  pub sums_all : (mark : ℕ) (sums : Totals) → 0 < z.buckets → IsEnded z v → IsBacked z mark v → SumsTell z v z.buckets sums →
      TotalsTell z.sessions z.buckets (passes_in v.parts) (logs_in v) (visits_in v) (commit v).history.list sums
  sums_all mark sums some ended backed s = subst (λ k. TotalsTell z.sessions z.buckets (passes_in v.parts) (logs_in v) (visits_in v) k sums) history_there
      (totals_tell z.sessions z.buckets (passes_in v.parts) (logs_in v) (visits_in v) (history_in v) sums some (within z mark v backed ended committed) s)

  pub logs_told : (mark : ℕ) → 0 < z.buckets → IsEnded z v → IsBacked z mark v → Logged z.buckets (commit v).history.list (logs_in v)
  logs_told mark some ended backed = subst (λ k. Logged z.buckets k (logs_in v)) history_there (logged z mark v backed ended committed some)

  pub newest_told : (mark : ℕ) → IsEnded z v → IsBacked z mark v → length (commit v).history.list ≡ newest_of z.sessions (logs_in v)
  newest_told mark ended backed = sym (ap length history_there) ∙ newest_is z mark v backed ended committed

  pub run_told : (mark : ℕ) (sums : Totals) → 0 < z.buckets → IsEnded z v → IsBacked z mark v → SumsTell z v z.buckets sums → EndsOneRun z v (commit v).history.list sums
  run_told mark sums some ended backed s = subst (λ k. EndsOneRun z v k sums) history_there (one_run z mark v backed ended committed sums some
      (totals_tell z.sessions z.buckets (passes_in v.parts) (logs_in v) (visits_in v) (history_in v) sums some (within z mark v backed ended committed) s))
