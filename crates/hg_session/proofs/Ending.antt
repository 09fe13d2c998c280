-- A pass that all sessions and all other passes were joined to, with the committer's part, knows logs, visits and history of
-- the state, in whatever order the parts stand. Of the buckets it needs none.
use Rattle.std.proofs.Common.{◌≡◌, ◌⊎◌, inl, inr, ℕ, zero, suc, ◌+◌, ◌<◌, ◌≤◌, Bool, true, false, eqb, ltb, List, [], ◌∷◌, ◌++◌, length, None, refl, sym, ap, ◌∙◌, subst, arith, eq-eqb}
use Rattle.std.proofs.Common.{ne_eqb, true≢false}
use Rattle.std.proofs.lemmas.Bool.{lt-ltb}
use native.Mathlib.Decide.{dec_le}
use Rattle.std.specs.Prelude.{max}
use Rattle.hg_base.specs.declared.line.Totals.{Totals}
use Rattle.hg_base.specs.Lists.{Each}
use Rattle.hg_core.specs.declared.visit.Visit.{Visit}
use Rattle.hg_core.specs.Phases.{snapshot_in}
use Rattle.hg_core.specs.Logs.{current, wrotes, newest_of}
use Rattle.hg_core.specs.State.{CoreState}
use Rattle.hg_rule.specs.declared.view.Part.{Part}
use Rattle.hg_rule.specs.declared.view.Part.TheVariants.{OfSession, OfBucket, OfCommit, OfPass, Away, Lent}
use Rattle.hg_rule.specs.declared.view.View.{View}
use Rattle.hg_rule.specs.declared.view.Sizes.{Sizes}
use Rattle.hg_rule.specs.Keys.{home_key, Key, session_key, bucket_key, commit_key, pass_key, both, has, one, count, expected}
use Rattle.hg_rule.specs.Facts.{Shown, new_part}
use Rattle.hg_rule.specs.Rules.{IsBacked}
use Rattle.hg_rule.specs.Views.{session_there, bucket_there, commit_there, pass_there}
use Rattle.hg_rule.specs.Reading.{chosen, seek, passes_in, state_of}
use Rattle.hg_rule.proofs.Counts.{count_append}
use Rattle.hg_rule.proofs.Found.{ltb_less, HasPart, state_is, full, inside_is as is_session}
use Rattle.hg_rule.proofs.Lists.{each_append}
use Rattle.hg_base.proofs.ListFacts.{each_keeps}
use Rattle.hg_headline.specs.Logged.{Logged}
use Rattle.hg_headline.specs.Totalled.{AreCounts, BucketTells, TotalsTell}
use Rattle.hg_headline.proofs.OverBuckets.{state_logged}
use Rattle.hg_headline.proofs.RunsEnd.{totals_at}
use Rattle.hg_headline.proofs.Totalling.{state_tells, history_is_newest}
use Rattle.hg_session.specs.Ended.{logs_in, visits_in, history_in, IsEnded}
use Rattle.hg_session.specs.OneRun.{journals_in, EndsOneRun}

-- ---- the buckets that a list lacks

abbrev fill : ℕ → Part → List Part → List Part
fill zero p qs = p ∷ qs
fill (suc n) p qs = qs

-- those below n, as they are in the state
abbrev lacking : CoreState → List Part → ℕ → List Part
lacking s ps zero = []
lacking s ps (suc n) = fill (count (bucket_key n) ps) (OfBucket n (record { content = s.bucket n; counters = s.counters n })) (lacking s ps n)

-- what buckets alone leave as it is
record AreBuckets (qs : List Part) : Type 0 where
  pub sessions : (j : ℕ) → (count (session_key j) qs ≡ 0) × (seek (session_key j) qs ≡ new_part (session_key j))
  pub commit : (count commit_key qs ≡ 0) × (seek commit_key qs ≡ new_part commit_key)
  pub passes : (p : ℕ) → (count (pass_key p) qs ≡ 0) × (seek (pass_key p) qs ≡ new_part (pass_key p))
  pub none : passes_in qs ≡ 0

no_more : (n : ℕ) → n ≡ 0 → 0 + n ≡ 0
no_more n e = omega (arith, e)

are_buckets : (s : CoreState) (ps : List Part) (n : ℕ) → AreBuckets (lacking s ps n)
are_buckets s ps zero = record { sessions = λ j. (refl, refl); commit = (refl, refl); passes = λ p. (refl, refl); none = refl }
are_buckets s ps (suc n) = go (count (bucket_key n) ps) (are_buckets s ps n)
  where
    go : (c : ℕ) → AreBuckets (lacking s ps n) → AreBuckets (fill c (OfBucket n (record { content = s.bucket n; counters = s.counters n })) (lacking s ps n))
    go zero a = record {
      sessions = λ j. (no_more _ (a.sessions j).0, (a.sessions j).1);
      commit = (no_more _ a.commit.0, a.commit.1);
      passes = λ p. (no_more _ (a.passes p).0, (a.passes p).1);
      none = a.none;
    }
    go (suc c) a = a

all_shown : (s : CoreState) (ps : List Part) (n : ℕ) → Each (Shown s) (lacking s ps n)
all_shown s ps zero = tt
all_shown s ps (suc n) = go (count (bucket_key n) ps) (all_shown s ps n)
  where
    go : (c : ℕ) → Each (Shown s) (lacking s ps n) → Each (Shown s) (fill c (OfBucket n (record { content = s.bucket n; counters = s.counters n })) (lacking s ps n))
    go zero h = ((refl, refl), h)
    go (suc c) h = h

-- each of them is there once, with those of the list
none_over : (s : CoreState) (ps : List Part) (n i : ℕ) → n ≤ i → count (bucket_key i) (lacking s ps n) ≡ 0
none_over s ps zero i le = refl
none_over s ps (suc n) i le = go (count (bucket_key n) ps) (none_over s ps n i (omega arith))
  where
    go : (c : ℕ) → count (bucket_key i) (lacking s ps n) ≡ 0 → count (bucket_key i) (fill c (OfBucket n (record { content = s.bucket n; counters = s.counters n })) (lacking s ps n)) ≡ 0
    go zero e = let x : ℕ = one (eqb n i) in let y : ℕ = count (bucket_key i) (lacking s ps n) in let a : x ≡ 0 = ap one (ne_eqb n i (λ t. absurd (omega arith))) in
        let b : y ≡ 0 = e in omega (arith, a, b)
    go (suc c) e = e

same_or_less : (i n : ℕ) → i < suc n → (i ≡ n) ⊎ (i < n)
same_or_less zero zero le = inl refl
same_or_less zero (suc n) le = inr (omega arith)
same_or_less (suc i) zero le = absurd (omega arith)
same_or_less (suc i) (suc n) le = more (same_or_less i n (omega arith))
  where
    more : (i ≡ n) ⊎ (i < n) → (suc i ≡ suc n) ⊎ (suc i < suc n)
    more (inl e) = inl (ap suc e)
    more (inr l) = inr (omega arith)

each_once : (s : CoreState) (ps : List Part) (n i : ℕ) → i < n → count (bucket_key i) ps ≤ 1 → count (bucket_key i) ps + count (bucket_key i) (lacking s ps n) ≡ 1
each_once s ps zero i le most = absurd (omega arith)
each_once s ps (suc n) i le most = go (same_or_less i n le) (λ l. each_once s ps n i l most)
  where
    last : (c : ℕ) → c ≤ 1 → c + count (bucket_key n) (fill c (OfBucket n (record { content = s.bucket n; counters = s.counters n })) (lacking s ps n)) ≡ 1
    last zero m = let x : ℕ = one (eqb n n) in let y : ℕ = count (bucket_key n) (lacking s ps n) in let a : x ≡ 1 = ap one (eq-eqb n n refl) in
        let b : y ≡ 0 = none_over s ps n n (omega arith) in omega (arith, a, b)
    last (suc c) m = let y : ℕ = count (bucket_key n) (lacking s ps n) in let b : y ≡ 0 = none_over s ps n n (omega arith) in omega (arith, b)

    less : (c : ℕ) → i < n → count (bucket_key i) (fill c (OfBucket n (record { content = s.bucket n; counters = s.counters n })) (lacking s ps n)) ≡ count (bucket_key i) (lacking s ps n)
    less zero l = let x : ℕ = one (eqb n i) in let y : ℕ = count (bucket_key i) (lacking s ps n) in let a : x ≡ 0 = ap one (ne_eqb n i (λ t. absurd (omega arith))) in omega (arith, a)
    less (suc c) l = refl

    go : (i ≡ n) ⊎ (i < n) → (i < n → count (bucket_key i) ps + count (bucket_key i) (lacking s ps n) ≡ 1) →
        count (bucket_key i) ps + count (bucket_key i) (fill (count (bucket_key n) ps) (OfBucket n (record { content = s.bucket n; counters = s.counters n })) (lacking s ps n)) ≡ 1
    go (inl e) ih = subst (λ k. count (bucket_key k) ps ≤ 1 → count (bucket_key k) ps + count (bucket_key k)
        (fill (count (bucket_key n) ps) (OfBucket n (record { content = s.bucket n; counters = s.counters n })) (lacking s ps n)) ≡ 1) (sym e) (last (count (bucket_key n) ps)) most
    go (inr l) ih = ap (λ x. count (bucket_key i) ps + x) (less (count (bucket_key n) ps) l) ∙ ih l

-- ---- what they leave as it is

seek_same : (k : Key) (ps qs : List Part) → seek k qs ≡ new_part k → seek k (ps ++ qs) ≡ seek k ps
seek_same k [] qs e = e
seek_same k (p ∷ ps) qs e = ap (chosen (has k p) p) (seek_same k ps qs e)

seek_there : (k : Key) (ps qs : List Part) → 0 < count k ps → seek k (ps ++ qs) ≡ seek k ps
seek_there k [] qs l = absurd (omega arith)
seek_there k (p ∷ ps) qs l = go (has k p) l (seek_there k ps qs)
  where
    go : (t : Bool) → 0 < one t + count k ps → (0 < count k ps → seek k (ps ++ qs) ≡ seek k ps) → chosen t p (seek k (ps ++ qs)) ≡ chosen t p (seek k ps)
    go true l ih = refl
    go false l ih = ih (none_before _ l)
      where
        none_before : (n : ℕ) → 0 < 0 + n → 0 < n
        none_before n l = omega arith

passes_same : (ps qs : List Part) → passes_in qs ≡ 0 → passes_in (ps ++ qs) ≡ passes_in ps
passes_same [] qs e = e
passes_same (OfSession j t ∷ ps) qs e = passes_same ps qs e
passes_same (OfBucket b t ∷ ps) qs e = passes_same ps qs e
passes_same (OfCommit t ∷ ps) qs e = passes_same ps qs e
passes_same (Away j t n ∷ ps) qs e = passes_same ps qs e
passes_same (Lent j t ∷ ps) qs e = passes_same ps qs e
passes_same (OfPass p t ∷ ps) qs e = ap (max (suc p)) (passes_same ps qs e)

-- ---- a state that backs the view

is_below : (i n : ℕ) → ltb i n ≡ true → i < n
is_below i n e = ltb_less i n (let x : ℕ = one (ltb i n) in let f : x ≡ 1 = ap one e in omega arith)

module _ (z : Sizes) (n : ℕ) (v : View) (k : IsBacked z n v) (ended : IsEnded z v) (committed : 0 < count commit_key v.parts) where
  abbrev s : CoreState
  s = k.state

  abbrev more : List Part
  more = lacking s v.parts z.buckets

  buckets : AreBuckets more
  buckets = are_buckets s v.parts z.buckets

  sum_none : (a b : ℕ) → b ≡ 0 → a + b ≡ a
  sum_none a b e = omega (arith, e)

  counted : (h : Key) → HasPart h → count h (v.parts ++ more) ≡ expected z k.used h
  counted (home_key j) part = absurd part
  counted (session_key j) part = count_append (session_key j) v.parts more ∙ sum_none _ _ (buckets.sessions j).0 ∙
      full (count (session_key j) v.parts) (both (ltb 0 j) (ltb j (suc z.sessions))) (k.most (session_key j)) (λ e. ended.sessions j (is_session z j e))
  counted (bucket_key i) part = count_append (bucket_key i) v.parts more ∙ go (ltb i z.buckets) refl (k.most (bucket_key i))
    where
      go : (b : Bool) → ltb i z.buckets ≡ b → count (bucket_key i) v.parts ≤ one b → count (bucket_key i) v.parts + count (bucket_key i) more ≡ one b
      go true e most = each_once s v.parts z.buckets i (is_below i z.buckets e) most
      go false e most = let x : ℕ = count (bucket_key i) v.parts in let y : ℕ = count (bucket_key i) more in let a : x ≤ 0 = most in
          let b : y ≡ 0 = none_over s v.parts z.buckets i (over e) in omega (arith, a, b)
        where
          over : ltb i z.buckets ≡ false → z.buckets ≤ i
          over e = pick (dec_le z.buckets i)
            where
              pick : Dec (z.buckets ≤ i) → z.buckets ≤ i
              pick (yes l) = l
              pick (no l) = absurd (true≢false (sym (lt-ltb i z.buckets (omega arith)) ∙ e))
  counted commit_key part = count_append commit_key v.parts more ∙ sum_none _ _ buckets.commit.0 ∙ (let a : ℕ = count commit_key v.parts in let d : a ≤ 1 = k.most commit_key in
      let c : 0 < a = committed in omega (arith, c, d))
  counted (pass_key p) part = count_append (pass_key p) v.parts more ∙ sum_none _ _ (buckets.passes p).0 ∙ k.alone ended.passes p

  -- the state is the one that the view's parts are, with the buckets that it lacks
  state_read : s ≡ state_of z n s.register s.mask (v.parts ++ more)
  state_read = state_is z s k.used n s.register s.mask (v.parts ++ more) k.sized k.passes (each_append (Shown s) v.parts more k.true_of.parts (all_shown s v.parts z.buckets))
      counted k.outside k.mark_is (λ j. refl) (λ j. refl)

  pub logs_are : s.log ≡ logs_in v
  logs_are = ap (λ (c : CoreState). c.log) state_read ∙ (λ i j. (session_there (seek_same (session_key j) v.parts more (buckets.sessions j).1 i)).log)

  pub visits_are : s.visits ≡ visits_in v
  visits_are = ap (λ (c : CoreState). c.visits) state_read ∙ (λ i p. (pass_there (seek_same (pass_key p) v.parts more (buckets.passes p).1 i)).visits)

  -- the journal of each pass
  journals_are : (p : ℕ) → (s.pass p).journal ≡ journals_in v p
  journals_are p = ap (λ (c : CoreState). (c.pass p).journal) state_read ∙ (λ i. (pass_there (seek_same (pass_key p) v.parts more (buckets.passes p).1 i)).journal)

  pub history_is : s.history ≡ history_in v
  history_is = ap (λ (c : CoreState). c.history) state_read ∙ (λ i. (commit_there (seek_same commit_key v.parts more buckets.commit.1 i)).history.list)

  pub bucket_is : (b : ℕ) → 0 < count (bucket_key b) v.parts → (s.bucket b ≡ (bucket_there (seek (bucket_key b) v.parts)).content) ×
      (s.counters b ≡ (bucket_there (seek (bucket_key b) v.parts)).counters)
  bucket_is b l =
      let same = seek_there (bucket_key b) v.parts more l in
      (ap (λ (c : CoreState). c.bucket b) state_read ∙ ap (λ p. (bucket_there p).content) same, ap (λ (c : CoreState). c.counters b) state_read ∙ ap (λ p. (bucket_there p).counters) same)

  pub passes_are : s.passes ≡ passes_in v.parts
  passes_are = ap (λ (c : CoreState). c.passes) state_read ∙ passes_same v.parts more buckets.none

  -- no transaction is open
  pub none_open : (j : ℕ) → current (s.log j) ≡ None
  none_open j = k.steady.logs_answer.reads j ∙ ap snapshot_in (ap (λ (c : CoreState). c.phase j) state_read ∙
      ap (λ p. (session_there p).phase) (seek_same (session_key j) v.parts more (buckets.sessions j).1) ∙ ended.rest j)

  -- ---- what it knows

  pub mark_is : n ≡ length (history_in v)
  mark_is = sym k.mark_is ∙ k.steady.mark_is_length.is_length ∙ ap length history_is

  pub newest_is : length (history_in v) ≡ newest_of z.sessions (logs_in v)
  newest_is = sym (ap length history_is) ∙ history_is_newest s k.steady ∙ (λ i. newest_of (k.sized.sessions i) (logs_are i))

  pub logged : 0 < z.buckets → Logged z.buckets (history_in v) (logs_in v)
  logged some = subst (λ h. Logged z.buckets h (logs_in v)) history_is
      (subst (λ l. Logged z.buckets s.history l) logs_are (subst (λ b. Logged b s.history s.log) k.sized.buckets (state_logged s k.steady (subst (λ b. 0 < b) (sym k.sized.buckets) some))))

  pub few : (j : ℕ) → wrotes (logs_in v j) ≤ z.quota
  few j = subst (λ l. wrotes (l j) ≤ z.quota) logs_are (subst (λ e. wrotes (s.log j) ≤ e) k.sized.quota (k.steady.logs_answer.written j))

  pub within : (p : ℕ) → Each (λ (x : Visit). x.bucket < z.buckets) (visits_in v p)
  within p = subst (λ f. Each (λ (x : Visit). x.bucket < z.buckets) (f p)) visits_are
      (subst (λ b. Each (λ (x : Visit). x.bucket < b) (s.visits p)) k.sized.buckets (each_keeps _ (λ (x : Visit). x.bucket < s.buckets) (λ x i. i.bucket) (s.visits p) (k.steady.visits_stay.each p)))

  pub bucket_told : (b : ℕ) (counts : Totals) → AreCounts (s.counters b) counts → BucketTells z.sessions z.buckets (passes_in v.parts) (logs_in v) (visits_in v) (history_in v) b counts
  bucket_told b counts are =
      subst (λ h. BucketTells z.sessions z.buckets (passes_in v.parts) (logs_in v) (visits_in v) h b counts) history_is
      (subst (λ f. BucketTells z.sessions z.buckets (passes_in v.parts) (logs_in v) f s.history b counts) visits_are
      (subst (λ f. BucketTells z.sessions z.buckets (passes_in v.parts) f s.visits s.history b counts) logs_are
      (subst (λ m. BucketTells z.sessions z.buckets m s.log s.visits s.history b counts) passes_are
      (subst (λ m. BucketTells z.sessions m s.passes s.log s.visits s.history b counts) k.sized.buckets
      (subst (λ m. BucketTells m s.buckets s.passes s.log s.visits s.history b counts) k.sized.sessions (state_tells s b counts k.steady none_open are))))))

  -- totals that are told of the view are told of the state
  told_there : (totals : Totals) → TotalsTell z.sessions z.buckets (passes_in v.parts) (logs_in v) (visits_in v) (history_in v) totals →
      TotalsTell s.sessions s.buckets s.passes s.log s.visits s.history totals
  told_there totals t =
      subst (λ m. TotalsTell m s.buckets s.passes s.log s.visits s.history totals) (sym k.sized.sessions)
      (subst (λ m. TotalsTell z.sessions m s.passes s.log s.visits s.history totals) (sym k.sized.buckets)
      (subst (λ m. TotalsTell z.sessions z.buckets m s.log s.visits s.history totals) (sym passes_are)
      (subst (λ f. TotalsTell z.sessions z.buckets (passes_in v.parts) f s.visits s.history totals) (sym logs_are)
      (subst (λ f. TotalsTell z.sessions z.buckets (passes_in v.parts) (logs_in v) f s.history totals) (sym visits_are)
      (subst (λ h. TotalsTell z.sessions z.buckets (passes_in v.parts) (logs_in v) (visits_in v) h totals) (sym history_is) t)))))

  -- one list of steps ends so
  pub one_run : (totals : Totals) → 0 < z.buckets → TotalsTell z.sessions z.buckets (passes_in v.parts) (logs_in v) (visits_in v) (history_in v) totals →
      EndsOneRun z v (history_in v) totals
  one_run totals some t = record {
    state = s;
    reached = k.reached;
    sized = k.sized;
    logs = logs_are;
    history_is = history_is;
    passes = passes_are;
    visits = visits_are;
    journals = journals_are;
    seen = k.true_of.sights;
    counted = totals_at s totals k.steady (subst (λ b. 0 < b) (sym k.sized.buckets) some) (told_there totals t);
  }
