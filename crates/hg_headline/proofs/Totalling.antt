-- What the counters of the buckets tell, one bucket after the other, and their sums.
use Rattle.std.proofs.Common.{◌≡◌, ◌⊎◌, inl, inr, ℕ, zero, suc, ◌+◌, ◌*◌, ◌<◌, ◌≤◌, List, [], ◌∷◌, length, Bool, true, false, not, Option, Some, None, refl, sym, ap, ◌∙◌, subst, arith}
use Rattle.std.specs.Prelude.{if◌then◌else◌, ◌&&◌, is_some, IfSome}
use Rattle.hg_base.specs.declared.rid.Rid.{Rid}
use Rattle.hg_base.specs.declared.writer.Writer.{Writer}
use Rattle.hg_base.specs.declared.image.Image.{Image}
use Rattle.hg_base.specs.declared.report.Kind.{Kind}
use Rattle.hg_base.specs.declared.report.Kind.TheVariants.{Group, Table, Interval}
use Rattle.hg_base.specs.declared.line.Totals.{Totals}
use Rattle.hg_base.specs.Lists.{Each}
use Rattle.hg_base.specs.History.{History, image_in}
use Rattle.hg_base.specs.Counts.{live}
use Rattle.hg_core.specs.declared.log.LogEntry.{LogEntry}
use Rattle.hg_core.specs.declared.log.LogEntry.TheVariants.{Began, Saw, Refused, Outside, Wrote, Undid, Published, Over}
use Rattle.hg_core.specs.declared.version.Version.{Version}
use Rattle.hg_core.specs.declared.visit.Visit.{Visit}
use Rattle.hg_core.specs.Logs.{current, wrotes, own_writes, newest_of}
use Rattle.hg_core.specs.Versions.{unpublished}
use Rattle.hg_core.specs.Contents.{bucket_of, versions}
use Rattle.hg_core.specs.Clean.{IsCutAt}
use Rattle.hg_core.specs.Sums.{sum_to, sum_below}
use Rattle.hg_core.specs.Counters.{total, is_of, first_writes, removed_in}
use Rattle.hg_core.specs.Visits.{StaysAsGiven, IsVisit}
use Rattle.hg_core.specs.State.{CoreState}
use Rattle.hg_core.specs.Invariant.{IsSteady}
use Rattle.hg_core.proofs.Begins.{none_open}
use Rattle.hg_core.proofs.Bounded.{mark_told}
use Rattle.hg_core.proofs.Remaining.{rows_left}
use Rattle.hg_core.proofs.Sums.{sum_most}
use Rattle.hg_headline.specs.Counted.{every, made_in}
use Rattle.hg_headline.specs.Totalled.{HasCut, WasLeftCut, AreCounts, BucketTells, SumTells, TotalsTell, plus}
use Rattle.hg_headline.proofs.OverBuckets.{made_over, undone_over, all_removed_over, filtered_over}

-- ---- a state of the core

-- where no transaction is open, nothing is unpublished
pub none_unpublished : (s : CoreState) → IsSteady s → ((j : ℕ) → current (s.log j) ≡ None) → (r : Rid) → unpublished s.mark (versions s.buckets s.bucket r) ≡ None
none_unpublished s h rest r = go (unpublished s.mark (versions s.buckets s.bucket r)) refl
  where
    go : (x : Option (Writer × Image)) → unpublished s.mark (versions s.buckets s.bucket r) ≡ x → unpublished s.mark (versions s.buckets s.bucket r) ≡ None
    go None e = e
    go (Some (w, i)) e = absurd (
        let own = (h.open_writes_stand.owned r w i e).1 in
        let none = none_open s.history r (s.log w.session) (h.logs_answer.judged w.session) (rest w.session) in
        cc
        )

-- what a visit left cut is cut still
still_cut : (buckets mark b : ℕ) (vs : Rid → List Version) (visits : List Visit) → Each (IsVisit buckets mark vs) visits → HasCut buckets mark b visits → (r : Rid) →
    bucket_of buckets r ≡ b → IsCutAt mark (vs r)
still_cut buckets mark b vs [] h cut r at = absurd cut
still_cut buckets mark b vs (visit ∷ visits) h (inr cut) r at = still_cut buckets mark b vs visits h.1 cut r at
still_cut buckets mark b vs (visit ∷ visits) h (inl cut) r at =
    let stays : StaysAsGiven buckets visit.bucket visit.mark vs cut.given = subst (λ o. IfSome o (StaysAsGiven buckets visit.bucket visit.mark vs)) cut.gives h.0.stays in
    stays.cut r mark (at ∙ sym cut.bucket) (let e = cut.mark_is in omega arith) (cut.cut r at)

pub cut_now : (s : CoreState) (b : ℕ) → IsSteady s → WasLeftCut s.buckets s.mark s.passes s.visits b → (r : Rid) → bucket_of s.buckets r ≡ b → IsCutAt s.mark (versions s.buckets s.bucket r)
cut_now s b h was = still_cut s.buckets s.mark b (versions s.buckets s.bucket) (s.visits was.0) (h.visits_stay.each was.0) was.1.1

-- the counters of one bucket, where no transaction is open
pub state_tells : (s : CoreState) (b : ℕ) (counts : Totals) → IsSteady s → ((j : ℕ) → current (s.log j) ≡ None) → AreCounts (s.counters b) counts →
    BucketTells s.sessions s.buckets s.passes s.log s.visits s.history b counts
state_tells s b counts h rest are = record {
  made = are.made ∙ h.counters_balance.made b;
  undone = are.undone ∙ h.counters_balance.undone b;
  group = are.group ∙ h.counters_balance.removed Group b;
  table = are.table ∙ h.counters_balance.removed Table b;
  interval = are.interval ∙ h.counters_balance.removed Interval b;
  left = λ was. held ∙ rows_left s h b (λ r at. (none_unpublished s h rest r, cut_now s b h (subst (λ n. WasLeftCut s.buckets n s.passes s.visits b) (sym h.mark_is_length.is_length) was) r at));
  balance = are.balance;
}
  where
    held : counts.left ≡ total (s.bucket b)
    held = omega (arith, are.made, are.undone, are.group, are.table, are.interval, are.balance, h.counters_balance.balance b)

-- the greatest number of the logs is the length of the history
pub history_is_newest : (s : CoreState) → IsSteady s → length s.history ≡ newest_of s.sessions s.log
history_is_newest s h = sym h.mark_is_length.is_length ∙ mark_told s h

-- ---- the same told with other words

-- visits that removed as much, and left no bucket cut that the first did not
pub tells_same : (sessions buckets passes : ℕ) (logs : ℕ → List LogEntry) (visits others : ℕ → List Visit) (h : History) (b : ℕ) (counts : Totals) →
    BucketTells sessions buckets passes logs visits h b counts
    → ((kind : Kind) → sum_below passes (λ p. removed_in kind b (visits p)) ≡ sum_below passes (λ p. removed_in kind b (others p)))
    → (WasLeftCut buckets (length h) passes others b → WasLeftCut buckets (length h) passes visits b)
    → BucketTells sessions buckets passes logs others h b counts
tells_same sessions buckets passes logs visits others h b counts t same was = record {
  made = t.made;
  undone = t.undone;
  group = t.group ∙ same Group;
  table = t.table ∙ same Table;
  interval = t.interval ∙ same Interval;
  left = λ cut. t.left (was cut);
  balance = t.balance;
}

-- ---- sums

pub more_tells : (sessions buckets passes : ℕ) (logs : ℕ → List LogEntry) (visits : ℕ → List Visit) (h : History) (n : ℕ) (sums counts : Totals) →
    SumTells sessions buckets passes logs visits h n sums → BucketTells sessions buckets passes logs visits h n counts → SumTells sessions buckets passes logs visits h (suc n) (plus sums counts)
more_tells sessions buckets passes logs visits h n sums counts s t = record {
  made = λ i. s.made i + t.made i;
  undone = λ i. s.undone i + t.undone i;
  group = λ i. s.group i + t.group i;
  table = λ i. s.table i + t.table i;
  interval = λ i. s.interval i + t.interval i;
  left = λ cut. (let a = s.left (λ b le. cut b (omega arith)) in let c = t.left (cut n (omega arith)) in λ i. a i + c i);
  balance = omega (arith, s.balance, t.balance);
}

pub totals_tell : (sessions buckets passes : ℕ) (logs : ℕ → List LogEntry) (visits : ℕ → List Visit) (h : History) (sums : Totals) → 0 < buckets →
    ((p : ℕ) → Each (λ (v : Visit). v.bucket < buckets) (visits p)) → SumTells sessions buckets passes logs visits h buckets sums → TotalsTell sessions buckets passes logs visits h sums
totals_tell sessions buckets passes logs visits h sums some within s = record {
  made = s.made ∙ made_over buckets sessions logs some;
  undone = s.undone ∙ undone_over buckets sessions logs some;
  group = s.group ∙ all_removed_over Group buckets passes visits within;
  table = s.table ∙ all_removed_over Table buckets passes visits within;
  interval = s.interval ∙ all_removed_over Interval buckets passes visits within;
  left = λ cut. s.left cut ∙ filtered_over buckets (live h) some;
  balance = s.balance;
}

-- ---- no sum is too great

firsts_few : (l : List LogEntry) → first_writes every l ≤ wrotes l
firsts_few [] = omega arith
firsts_few (Wrote r image ∷ l) = go (is_some (image_in r (own_writes l))) (firsts_few l)
  where
    go : (b : Bool) → first_writes every l ≤ wrotes l → (if true && not b then 1 else 0) + first_writes every l ≤ suc (wrotes l)
    go true le = omega arith
    go false le = omega arith
firsts_few (Began at scope ∷ l) = firsts_few l
firsts_few (Saw t low high b rows ∷ l) = firsts_few l
firsts_few (Refused r a ∷ l) = firsts_few l
firsts_few (Outside t ∷ l) = firsts_few l
firsts_few (Undid r ∷ l) = firsts_few l
firsts_few (Published n ∷ l) = firsts_few l
firsts_few (Over ∷ l) = firsts_few l

pub made_few : (sessions quota : ℕ) (logs : ℕ → List LogEntry) → ((j : ℕ) → wrotes (logs j) ≤ quota) → made_in sessions logs ≤ sessions * quota
made_few sessions quota logs few = sum_most sessions quota (λ j. first_writes every (logs j)) (λ j. omega (arith, firsts_few (logs j), few j))

-- the first ones of a sum
below_least : (m n : ℕ) (f : ℕ → ℕ) → m ≤ n → sum_below m f ≤ sum_below n f
below_least m zero f le = let e : m ≡ 0 = omega arith in subst (λ k. sum_below k f ≤ 0) (sym e) (omega arith)
below_least m (suc n) f le = go (n_or m n le) (below_least m n f)
  where
    n_or : (m n : ℕ) → m ≤ suc n → (m ≡ suc n) ⊎ (m ≤ n)
    n_or zero n le = inr (omega arith)
    n_or (suc m) zero le = inl (omega arith)
    n_or (suc m) (suc n) le = more (n_or m n (omega arith))
      where
        more : (m ≡ suc n) ⊎ (m ≤ n) → (suc m ≡ suc (suc n)) ⊎ (suc m ≤ suc n)
        more (inl e) = inl (ap suc e)
        more (inr l) = inr (omega arith)

    go : (m ≡ suc n) ⊎ (m ≤ n) → (m ≤ n → sum_below m f ≤ sum_below n f) → sum_below m f ≤ sum_below n f + f n
    go (inl e) ih = subst (λ k. sum_below k f ≤ sum_below n f + f n) (sym e) (omega arith)
    go (inr l) ih = omega (arith, ih l)

-- one bucket more leaves each sum within how often all sessions may write
pub record Fits (most : ℕ) (sums counts : Totals) : Type 0 where
  pub made : sums.made + counts.made ≤ most
  pub undone : sums.undone + counts.undone ≤ most
  pub group : sums.group + counts.group ≤ most
  pub table : sums.table + counts.table ≤ most
  pub interval : sums.interval + counts.interval ≤ most
  pub left : sums.left + counts.left ≤ most

pub fits : (sessions buckets passes : ℕ) (logs : ℕ → List LogEntry) (visits : ℕ → List Visit) (h : History) (n : ℕ) (sums counts : Totals) (most : ℕ) → n < buckets →
    made_in sessions logs ≤ most → SumTells sessions buckets passes logs visits h n sums → BucketTells sessions buckets passes logs visits h n counts → Fits most sums counts
fits sessions buckets passes logs visits h n sums counts most less few s t = record {
  made = made;
  undone = omega (arith, made, s.balance, t.balance);
  group = omega (arith, made, s.balance, t.balance);
  table = omega (arith, made, s.balance, t.balance);
  interval = omega (arith, made, s.balance, t.balance);
  left = omega (arith, made, s.balance, t.balance);
}
  where
    f : ℕ → ℕ
    f b = sum_to sessions (λ j. first_writes (is_of buckets b) (logs j))

    made : sums.made + counts.made ≤ most
    made =
        let upto = below_least (suc n) buckets f less in
        let all = made_over buckets sessions logs (omega arith) in
        omega (arith, upto, all, s.made, t.made, few)
