-- What the counts of the buckets say of the logs, where one pass has the parts of all sessions.
use Rattle.std.proofs.Common.{◌≡◌, inl, inr, ℕ, zero, suc, ◌+◌, ◌*◌, ◌^◌, ◌<◌, ◌≤◌, Bool, true, false, ltb, List, [], ◌∷◌, length, refl, sym, ap, ◌∙◌, subst, arith, length-append}
use Rattle.std.proofs.lemmas.Bool.{le-ltb}
use native.Mathlib.Decide.{dec_le}
use Rattle.hg_base.specs.declared.line.Totals.{Totals}
use Rattle.hg_base.specs.Lists.{Each}
use Rattle.hg_core.specs.declared.log.LogEntry.{LogEntry}
use Rattle.hg_core.specs.declared.visit.Counters.{Counters}
use Rattle.hg_core.specs.Counters.{is_of, first_writes, undos}
use Rattle.hg_core.specs.Logs.{wrotes}
use Rattle.hg_core.specs.Phases.{IsSession}
use Rattle.hg_core.specs.State.{CoreState}
use Rattle.hg_core.specs.Sums.{sum_to, sum_below}
use Rattle.hg_rule.specs.declared.view.Part.TheVariants.{OfSession, OfBucket}
use Rattle.hg_rule.specs.declared.view.Sight.{Sight}
use Rattle.hg_rule.specs.declared.view.Sight.TheVariants.{Saw}
use Rattle.hg_rule.specs.declared.view.View.{View}
use Rattle.hg_rule.specs.declared.view.Sizes.{Sizes}
use Rattle.hg_rule.specs.Facts.{Shown, Known, IsAmong, StartsWith, groups}
use Rattle.hg_rule.specs.Holding.{bucket}
use Rattle.hg_rule.specs.Keys.{session_key, expected, one, both}
use Rattle.hg_rule.specs.Places.{without_bucket}
use Rattle.hg_rule.specs.Rules.{HasRoom, IsBacked}
use Rattle.hg_rule.specs.Views.{number, part_number, session, session_there, others, bucket_there, first_in, after_first, seeing, HasSession}
use Rattle.hg_rule.proofs.Holders.{session_arrives, session_departs}
use Rattle.hg_store.specs.Kept.{AreCountsOf}
use Rattle.hg_store.specs.Stores.{Takes}
use Rattle.hg_tracker.specs.Begun.{SawGroups}
use Rattle.hg_headline.specs.Counted.{every, made_in}
use Rattle.hg_headline.specs.Logged.{Logged}
use Rattle.hg_headline.specs.Totalled.{plus}
use Rattle.hg_headline.proofs.OverBuckets.{made_over, undone_over, state_logged}
use Rattle.hg_headline.proofs.Totalling.{made_few}
use Rattle.hg_session.specs.SoFar.{ShowLogs, CountLogs}

-- ---- sums

alike : (n : ℕ) (f g : ℕ → ℕ) → ((k : ℕ) → 0 < k → k ≤ n → g k ≡ f k) → sum_to n g ≡ sum_to n f
alike zero f g same = refl
alike (suc n) f g same = let a = alike n f g (λ k some le. same k some (omega arith)) in let b = same (suc n) (omega arith) (omega arith) in omega arith

below_least : (m n : ℕ) (f : ℕ → ℕ) → m ≤ n → sum_below m f ≤ sum_below n f
below_least m zero f le = let e : m ≡ 0 = omega arith in subst (λ k. sum_below k f ≤ 0) (sym e) (omega arith)
below_least m (suc n) f le = go (dec_le m n) (below_least m n f)
  where
    go : Dec (m ≤ n) → (m ≤ n → sum_below m f ≤ sum_below n f) → sum_below m f ≤ sum_below n f + f n
    go (yes l) ih = let a = ih l in omega (arith, a)
    go (no l) ih = let e : m ≡ suc n = omega (arith, l, le) in subst (λ k. sum_below k f ≤ sum_below n f + f n) (sym e) (omega arith)

-- ---- one bucket

-- what the counts of bucket b say of the logs
pub record CountBucket (z : Sizes) (logs : ℕ → List LogEntry) (b : ℕ) (counts : Totals) : Type 0 where
  pub made : counts.made ≡ sum_to z.sessions (λ j. first_writes (is_of z.buckets b) (logs j))
  pub undone : counts.undone ≡ sum_to z.sessions (λ j. undos (is_of z.buckets b) (logs j))
  pub balance : counts.made ≡ counts.undone + counts.group + counts.table + counts.interval + counts.left
  pub few : made_in z.sessions logs ≤ z.sessions * z.quota

module _ (z : Sizes) (v x : View) (b : ℕ) (own : HasSession v) (t : Takes v b x) where
  parts_now : x.parts ≡ OfSession (number v) (session v) ∷ OfBucket b t.part ∷ others v
  parts_now = session_arrives v (seeing (OfBucket b t.part ∷ []) t.seen []) x b t.part own refl t.after

  pub bucket_counted : (mark : ℕ) → IsBacked z mark x → (logs : ℕ → List LogEntry) → ShowLogs z v.parts logs → (counts : Totals) → AreCountsOf (bucket x).counters counts →
      CountBucket z logs b counts
  bucket_counted mark k logs show counts are = record {
    made = are.made ∙ sym (ap (λ (c : Counters). c.made) same) ∙ k.steady.counters_balance.made b
        ∙ (λ i. sum_to (k.sized.sessions i) (λ j. first_writes (is_of (k.sized.buckets i) b) (s.log j)))
        ∙ alike z.sessions (λ j. first_writes (is_of z.buckets b) (logs j)) (λ j. first_writes (is_of z.buckets b) (s.log j)) (λ j some le. ap (first_writes (is_of z.buckets b)) (log_is j some le));
    undone = are.undone ∙ sym (ap (λ (c : Counters). c.undone) same) ∙ k.steady.counters_balance.undone b
        ∙ (λ i. sum_to (k.sized.sessions i) (λ j. undos (is_of (k.sized.buckets i) b) (s.log j)))
        ∙ alike z.sessions (λ j. undos (is_of z.buckets b) (logs j)) (λ j. undos (is_of z.buckets b) (s.log j)) (λ j some le. ap (undos (is_of z.buckets b)) (log_is j some le));
    balance = are.left;
    few = subst (λ n. n ≤ z.sessions * z.quota) (alike z.sessions (λ j. first_writes every (logs j)) (λ j. first_writes every (s.log j)) (λ j some le. ap (first_writes every) (log_is j some le)))
        (made_few z.sessions z.quota s.log (λ j. subst (λ q. wrotes (s.log j) ≤ q) k.sized.quota (k.steady.logs_answer.written j)));
  }
    where
      s : CoreState
      s = k.state

      shown : Each (Shown s) (OfSession (number v) (session v) ∷ OfBucket b t.part ∷ others v)
      shown = subst (Each (Shown s)) parts_now k.true_of.parts

      log_is : (j : ℕ) → 0 < j → j ≤ z.sessions → s.log j ≡ logs j
      log_is j some le = show s (subst (Each (Shown s)) (sym own) (shown.0, shown.1.1)) j (record { first = some; last = le })

      same : s.counters b ≡ (bucket x).counters
      same = shown.1.0.1 ∙ sym (ap (λ ps. (bucket_there (first_in (after_first ps))).counters) parts_now)

  -- the pass has what it had, once the bucket left it
  pub parts_after : (w : View) → w ≡ without_bucket x → w.parts ≡ v.parts
  parts_after w after =
      let has : HasSession x = parts_now ∙ (λ i. OfSession (part_number (sym parts_now i)) (session_there (first_in (sym parts_now i))) ∷ after_first (sym parts_now i)) in
      session_departs x w has after
      ∙ (λ i. OfSession (part_number (parts_now i)) (session_there (first_in (parts_now i))) ∷ after_first (after_first (parts_now i))) ∙ sym own

  pub sights_after : (w : View) → w ≡ without_bucket x → StartsWith w.sights v.sights
  sights_after w after = (t.seen, ap (λ (y : View). y.sights) after ∙ ap (λ (y : View). y.sights) t.after)

-- ---- all buckets

-- the sums are those of the first n buckets
pub record SumLogs (z : Sizes) (n : ℕ) (logs : ℕ → List LogEntry) (sums : Totals) : Type 0 where
  pub made : sums.made ≡ sum_below n (λ b. sum_to z.sessions (λ j. first_writes (is_of z.buckets b) (logs j)))
  pub undone : sums.undone ≡ sum_below n (λ b. sum_to z.sessions (λ j. undos (is_of z.buckets b) (logs j)))
  pub balance : sums.made ≡ sums.undone + sums.group + sums.table + sums.interval + sums.left

pub sum_more : (z : Sizes) (n m : ℕ) (logs : ℕ → List LogEntry) (sums counts next : Totals) → m ≡ suc n → next ≡ plus sums counts → SumLogs z n logs sums → CountBucket z logs n counts →
    SumLogs z m logs next
sum_more z n m logs sums counts next e f s t = subst (λ k. SumLogs z k logs next) (sym e) (subst (SumLogs z (suc n) logs) (sym f) (record {
  made = λ i. s.made i + t.made i;
  undone = λ i. s.undone i + t.undone i;
  balance = omega (arith, s.balance, t.balance);
}))

-- one bucket more leaves each sum small
pub record SumsFit (sums counts : Totals) : Type 0 where
  pub made : sums.made + counts.made < 2 ^ 64
  pub undone : sums.undone + counts.undone < 2 ^ 64
  pub group : sums.group + counts.group < 2 ^ 64
  pub table : sums.table + counts.table < 2 ^ 64
  pub interval : sums.interval + counts.interval < 2 ^ 64
  pub left : sums.left + counts.left < 2 ^ 64

pub sums_fit : (z : Sizes) (n : ℕ) (logs : ℕ → List LogEntry) (sums counts : Totals) → HasRoom z → n < z.buckets → SumLogs z n logs sums → CountBucket z logs n counts → SumsFit sums counts
sums_fit z n logs sums counts room less s t = record {
  made = omega (arith, made);
  undone = omega (arith, made, s.balance, t.balance);
  group = omega (arith, made, s.balance, t.balance);
  table = omega (arith, made, s.balance, t.balance);
  interval = omega (arith, made, s.balance, t.balance);
  left = omega (arith, made, s.balance, t.balance);
}
  where
    f : ℕ → ℕ
    f b = sum_to z.sessions (λ j. first_writes (is_of z.buckets b) (logs j))

    made : sums.made + counts.made ≤ 2 ^ 40
    made =
        let upto = below_least (suc n) z.buckets f less in
        let all = made_over z.buckets z.sessions logs (omega arith) in
        let few = t.few in
        let most = room.begins in
        omega (arith, upto, all, s.made, t.made, few, most)

pub sums_all : (z : Sizes) (logs : ℕ → List LogEntry) (sums : Totals) → 0 < z.buckets → SumLogs z z.buckets logs sums → CountLogs z.sessions logs sums
sums_all z logs sums some s = record {
  made = s.made ∙ made_over z.buckets z.sessions logs some;
  undone = s.undone ∙ undone_over z.buckets z.sessions logs some;
  balance = s.balance;
}

-- ---- the history

known_at : (s : CoreState) (x : Sight) (xs : List Sight) → Each (Known s) xs → IsAmong x xs → Known s x
known_at s x [] h i = absurd i
known_at s x (y ∷ xs) h (inl e) = subst (Known s) e h.0
known_at s x (y ∷ xs) h (inr i) = known_at s x xs h.1 i

both_no : (b : Bool) → both b false ≡ false
both_no true = refl
both_no false = refl

module _ (z : Sizes) (v : View) (mark : ℕ) (k : IsBacked z mark v) where
  pub logs_whole : (logs : ℕ → List LogEntry) → ShowLogs z v.parts logs → ((j : ℕ) → (IsSession z.sessions j → ⊥) → logs j ≡ []) → k.state.log ≡ logs
  logs_whole logs show none = λ i j. each j (dec_le 1 j) (dec_le j z.sessions) i
    where
      outside : (j : ℕ) → (IsSession z.sessions j → ⊥) → expected z k.used (session_key j) ≡ 0 → k.state.log j ≡ logs j
      outside j out e = (k.outside (session_key j) e).1.0 ∙ sym (none j out)

      over : (j : ℕ) → z.sessions < suc j → expected z k.used (session_key (suc j)) ≡ 0
      over j le = ap (λ b. one (both (ltb 0 (suc j)) b)) (le-ltb (suc j) (suc z.sessions) (omega (arith, le))) ∙ ap one (both_no (ltb 0 (suc j)))

      each : (j : ℕ) → Dec (1 ≤ j) → Dec (j ≤ z.sessions) → k.state.log j ≡ logs j
      each j (yes a) (yes b) = show k.state k.true_of.parts j (record { first = a; last = b })
      each zero (yes a) (no b) = absurd (omega arith)
      each (suc j) (yes a) (no b) = outside (suc j) (λ s. b s.last) (over j (omega (arith, b)))
      each zero (no a) q = outside zero (λ s. a s.first) refl
      each (suc j) (no a) q = absurd (a (omega arith))

  pub history_logged : (logs : ℕ → List LogEntry) → 0 < z.buckets → k.state.log ≡ logs → Logged z.buckets k.state.history logs
  history_logged logs some is = subst (Logged z.buckets k.state.history) is
      (subst (λ b. Logged b k.state.history k.state.log) k.sized.buckets (state_logged k.state k.steady (subst (λ b. 0 < b) (sym k.sized.buckets) some)))

  pub history_saw : (n : ℕ) → SawGroups n v.sights → n ≤ length k.state.history
  history_saw n saw =
      let starts : StartsWith k.state.history saw.0 = known_at k.state (Saw (groups saw.0)) v.sights k.true_of.sights saw.2 in
      let long = ap length starts.1 ∙ length-append saw.0 starts.0 in
      let is = saw.1 in
      omega (arith, long, is)
