-- What a gather finds where all sessions rest, and were heard to the end of their logs.
use Rattle.std.proofs.Common.{◌≡◌, ◌⊎◌, inl, inr, ℕ, zero, suc, ◌+◌, ◌<◌, ◌≤◌, Bool, true, false, List, [], ◌∷◌, ◌++◌, length, map, Option, Some, None, refl, sym, ap, ◌∙◌, subst, arith, eqb}
use Rattle.std.proofs.Common.{ltb, length-append, true≢false}
use Rattle.std.specs.Prelude.{◌==◌, if◌then◌else◌, max, IfSome, IsTrue}
use Rattle.std.proofs.lemmas.Bool.Decides.{nat_tests}
use Rattle.hg_base.specs.History.{History}
use Rattle.hg_base.specs.Lists.{Each}
use Rattle.hg_core.specs.declared.loaded.Loaded.{Loaded}
use Rattle.hg_core.specs.declared.register.Register.{Register}
use Rattle.hg_core.specs.declared.register.Register.TheVariants as registers
use Rattle.hg_core.specs.declared.phase.Phase.TheVariants as phases
use Rattle.hg_core.specs.declared.log.LogEntry.{LogEntry}
use Rattle.hg_core.specs.Logs.{current, has_begun, newest_number, newest_of, UpTo}
use Rattle.hg_core.specs.Phases.{IsSession, IsEntering, snapshot_in}
use Rattle.hg_core.specs.Passes.{PassRecord, found}
use Rattle.hg_core.specs.Reach.{Says, Reaches, StandsIn}
use Rattle.hg_core.specs.State.{CoreState}
use Rattle.hg_core.proofs.Bounded.{mark_told, newest_most}
use Rattle.hg_rule.specs.declared.view.PassPart.{PassPart}
use Rattle.hg_rule.specs.declared.view.Part.{Part}
use Rattle.hg_rule.specs.declared.view.Part.TheVariants.{OfSession, OfBucket, OfCommit, OfPass, Away, Lent}
use Rattle.hg_rule.specs.declared.view.Sight.{Sight}
use Rattle.hg_rule.specs.declared.view.Sight.TheVariants.{Saw, Heard, Took, Did}
use Rattle.hg_rule.specs.declared.view.View.{View}
use Rattle.hg_rule.specs.declared.view.Sizes.{Sizes}
use Rattle.hg_rule.specs.Facts.{IsAmong, StartsWith, groups, heard, record_of, Shown, Known, IsHeard}
use Rattle.hg_rule.specs.Keys.{session_key, both, one, count}
use Rattle.hg_rule.specs.Rules.{IsBacked}
use Rattle.hg_rule.specs.Reading.{chosen, seek}
use Rattle.hg_rule.specs.Views.{session_there}
use Rattle.hg_rule.proofs.Counts.{same_number}
use Rattle.hg_rule.proofs.Found.{inside_is}
use Rattle.hg_tracker.specs.Begun.{AtMost}
use Rattle.hg_tracker.specs.Entries.{down_from}
use Rattle.hg_tracker.proofs.After.{first_key}
use Rattle.hg_session.specs.Ended.{logs_in, IsEnded}
use Rattle.hg_session.proofs.Bringing.{no_part}

-- ---- what was heard

heard_least : (j : ℕ) (x : Sight) (xs : List Sight) → heard j (x ∷ []) ≤ heard j (x ∷ xs)
heard_least j (Saw h) xs = omega arith
heard_least j (Took n) xs = omega arith
heard_least j (Did e) xs = omega arith
heard_least j (Heard k log) xs = go (k == j)
  where
    a : ℕ
    a = length log

    b : ℕ
    b = heard j xs

    go : (t : Bool) → (if t then max a 0 else 0) ≤ (if t then max a b else b)
    go true = omega arith
    go false = omega arith

heard_behind : (j : ℕ) (x : Sight) (xs : List Sight) → heard j xs ≤ heard j (x ∷ xs)
heard_behind j (Saw h) xs = omega arith
heard_behind j (Took n) xs = omega arith
heard_behind j (Did e) xs = omega arith
heard_behind j (Heard k log) xs = go (k == j)
  where
    a : ℕ
    a = length log

    b : ℕ
    b = heard j xs

    go : (t : Bool) → b ≤ (if t then max a b else b)
    go true = omega arith
    go false = omega arith

heard_among : (j : ℕ) (x : Sight) (xs : List Sight) → IsAmong x xs → heard j (x ∷ []) ≤ heard j xs
heard_among j x [] a = absurd a
heard_among j x (y ∷ xs) (inl e) = subst (λ t. heard j (t ∷ []) ≤ heard j (y ∷ xs)) e (heard_least j y xs)
heard_among j x (y ∷ xs) (inr a) = omega (arith, heard_among j x xs a, heard_behind j y xs)

heard_one : (j : ℕ) (log : List LogEntry) → heard j (Heard j log ∷ []) ≡ length log
heard_one j log =
    let a : ℕ = length log in
    let e : (j == j) ≡ true = grind (arith, nat_tests) in
    let m : max a 0 ≡ a = omega arith in
    ap (λ t. if t then max a 0 else 0) e ∙ m

pub heard_whole : (j : ℕ) (log : List LogEntry) (xs : List Sight) → IsHeard j log xs → length log ≤ heard j xs
heard_whole j log xs (inl e) = let none : length log ≡ 0 = ap length e in omega (arith, none)
heard_whole j log xs (inr a) = omega (arith, heard_one j log, heard_among j (Heard j log) xs a)

each_among : (n : ℕ) (x : Sight) (xs : List Sight) → Each (AtMost n) xs → IsAmong x xs → AtMost n x
each_among n x [] h a = absurd a
each_among n x (y ∷ xs) h (inl e) = subst (AtMost n) e h.0
each_among n x (y ∷ xs) h (inr a) = each_among n x xs h.1 a

pub up_to_whole : (n j : ℕ) (log : List LogEntry) (xs : List Sight) → Each (AtMost n) xs → IsHeard j log xs → UpTo n log
up_to_whole n j log xs h (inl e) = subst (UpTo n) (sym e) tt
up_to_whole n j log xs h (inr a) = each_among n (Heard j log) xs h a

-- ---- no number of the logs is over the mark

all_most : (n m : ℕ) (logs : ℕ → List LogEntry) → ((j : ℕ) → IsSession n j → UpTo m (logs j)) → newest_of n logs ≤ m
all_most zero m logs u = omega arith
all_most (suc n) m logs u = omega (
  arith,
  all_most n m logs (λ j is. u j (record { first = is.first; last = let l = is.last in omega arith })),
  newest_most m (logs (suc n))
      (u (suc n) (record { first = omega arith; last = omega arith })),
)

same_newest : (n : ℕ) (logs others : ℕ → List LogEntry) → ((j : ℕ) → IsSession n j → logs j ≡ others j) → newest_of n logs ≡ newest_of n others
same_newest zero logs others e = refl
same_newest (suc n) logs others e =
    let more = same_newest n logs others (λ j is. e j (record { first = is.first; last = let l = is.last in omega arith })) in
    let last = e (suc n) (record { first = omega arith; last = omega arith }) in
    λ i. max (more i) (newest_number (last i))

-- ---- registers that were loaded

append_length : (xs ys : List LogEntry) → length (xs ++ ys) ≡ length xs + length ys
append_length [] ys = omega arith
append_length (x ∷ xs) ys = omega (arith, append_length xs ys)

none_of : (xs : List LogEntry) → length xs ≡ 0 → xs ≡ []
none_of [] e = refl
none_of (x ∷ xs) e = absurd (omega arith)

-- one that was loaded when the log was as it is, with no transaction open, by a session that rests
idle_said : (register : Register) (later early : List LogEntry) → later ≡ [] → current early ≡ None → Says register later early phases.Idle → register ≡ registers.Idle
idle_said registers.Idle later early none rests says = refl
idle_said (registers.Live number declared moved) later early none rests (scope, says) = absurd (let was = says.snapshot in cc)
idle_said (registers.Entering f) later early none rests says = begun says.1
  where
    begun : IsTrue (has_begun later) ⊎ IsEntering phases.Idle → registers.Entering f ≡ registers.Idle
    begun (inl h) = absurd (true≢false (sym h ∙ ap has_begun none))
    begun (inr h) = absurd h

idle_register : (known : ℕ) (register : Register) (log later early : List LogEntry) → length log ≤ known → current log ≡ None → Reaches known register log phases.Idle later early →
    register ≡ registers.Idle
idle_register known register log later early whole rests reach =
    let e : length log ≡ length (later ++ early) = ap length reach.log_is in
    let none : later ≡ [] = none_of later (omega (arith, e, append_length later early, whole, reach.longer)) in
    let all : log ≡ early = reach.log_is ∙ ap (λ xs. xs ++ early) none in
    idle_said register later early none (sym (ap current all) ∙ rests) reach.says

all_idle : (n : ℕ) (loaded : List (ℕ × Loaded)) → map (λ e. e.0) loaded ≡ down_from n → ((j : ℕ) → IsSession n j → IfSome (found j loaded) (λ it. it.register ≡ registers.Idle)) →
    Each (λ e. e.1.register ≡ registers.Idle) loaded
all_idle n [] keys h = tt
all_idle zero (e ∷ loaded) keys h = absurd (let l : suc (length (map (λ e. e.0) loaded)) ≡ 0 = ap length keys in omega arith)
all_idle (suc n) (e ∷ loaded) keys h = (own, all_idle n loaded (first_key e loaded n keys).1 (λ j is. later j is.last (h j (record { first = is.first; last = let l = is.last in omega arith }))))
  where
    key : e.0 ≡ suc n
    key = (first_key e loaded n keys).0

    own : e.1.register ≡ registers.Idle
    own = first (suc n == e.0) (grind (arith, nat_tests, key)) (h (suc n) (record { first = omega arith; last = omega arith }))
      where
        first : (t : Bool) → t ≡ true → IfSome (if t then Some e.1 else found (suc n) loaded) (λ it. it.register ≡ registers.Idle) → e.1.register ≡ registers.Idle
        first true q k = k
        first false q k = absurd (true≢false (sym q))

    later : (j : ℕ) → j ≤ n → IfSome (if j == e.0 then Some e.1 else found j loaded) (λ it. it.register ≡ registers.Idle) → IfSome (found j loaded) (λ it. it.register ≡ registers.Idle)
    later j l k = apart (j == e.0) (grind (arith, nat_tests, key, l)) k
      where
        apart : (t : Bool) → t ≡ false → IfSome (if t then Some e.1 else found j loaded) (λ it. it.register ≡ registers.Idle) → IfSome (found j loaded) (λ it. it.register ≡ registers.Idle)
        apart false q k = k
        apart true q k = absurd (true≢false q)

-- ---- a state that backs the view

-- a session whose part is there
session_is : (s : CoreState) (j : ℕ) (ps : List Part) → Each (Shown s) ps → 0 < count (session_key j) ps → (s.phase j ≡ (session_there (seek (session_key j) ps)).phase) ×
    (s.log j ≡ (session_there (seek (session_key j) ps)).log)
session_is s j [] h l = absurd (omega arith)
session_is s j (OfSession i part ∷ ps) h l = go (eqb i j) refl l (session_is s j ps h.1)
  where
    go : (t : Bool) → eqb i j ≡ t → 0 < one t + count (session_key j) ps → (0 < count (session_key j) ps → (s.phase j ≡ (session_there (seek (session_key j) ps)).phase) ×
        (s.log j ≡ (session_there (seek (session_key j) ps)).log))
        → (s.phase j ≡ (session_there (chosen t (OfSession i part) (seek (session_key j) ps))).phase) × (s.log j ≡ (session_there (chosen t (OfSession i part) (seek (session_key j) ps))).log)
    go true e l ih = let same = sym (same_number i j e) in (ap s.phase same ∙ h.0.0, ap s.log same ∙ h.0.1.0)
    go false e l ih = ih (less _ l)
      where
        less : (n : ℕ) → 0 < 0 + n → 0 < n
        less n l = omega arith
session_is s j (Lent i part ∷ ps) h l = go (eqb i j) refl l (session_is s j ps h.1)
  where
    go : (t : Bool) → eqb i j ≡ t → 0 < one t + count (session_key j) ps → (0 < count (session_key j) ps → (s.phase j ≡ (session_there (seek (session_key j) ps)).phase) ×
        (s.log j ≡ (session_there (seek (session_key j) ps)).log))
        → (s.phase j ≡ (session_there (chosen t (Lent i part) (seek (session_key j) ps))).phase) × (s.log j ≡ (session_there (chosen t (Lent i part) (seek (session_key j) ps))).log)
    go true e l ih = let same = sym (same_number i j e) in (ap s.phase same ∙ h.0.0, ap s.log same ∙ h.0.1.0)
    go false e l ih = ih (less _ l)
      where
        less : (n : ℕ) → 0 < 0 + n → 0 < n
        less n l = omega arith
session_is s j (Away i part n ∷ ps) h l = session_is s j ps h.1 (less _ l)
  where
    less : (n : ℕ) → 0 < 0 + n → 0 < n
    less n l = omega arith
session_is s j (OfBucket b part ∷ ps) h l = session_is s j ps h.1 (less _ l)
  where
    less : (n : ℕ) → 0 < 0 + n → 0 < n
    less n l = omega arith
session_is s j (OfCommit part ∷ ps) h l = session_is s j ps h.1 (less _ l)
  where
    less : (n : ℕ) → 0 < 0 + n → 0 < n
    less n l = omega arith
session_is s j (OfPass p part ∷ ps) h l = session_is s j ps h.1 (less _ l)
  where
    less : (n : ℕ) → 0 < 0 + n → 0 < n
    less n l = omega arith

known_among : (s : CoreState) (a : Sight) (xs : List Sight) → Each (Known s) xs → IsAmong a xs → Known s a
known_among s a [] h i = absurd i
known_among s a (x ∷ xs) h (inl e) = subst (Known s) e h.0
known_among s a (x ∷ xs) h (inr i) = known_among s a xs h.1 i

module _ (z : Sizes) (n : ℕ) (x : View) (k : IsBacked z n x) (ended : IsEnded z x) (p : ℕ) (r : PassPart) (os : List Part) (parts : x.parts ≡ OfPass p r ∷ os) where
  abbrev s : CoreState
  s = k.state

  session : (j : ℕ) → IsSession z.sessions j → (s.phase j ≡ (session_there (seek (session_key j) x.parts)).phase) × (s.log j ≡ logs_in x j)
  session j is = session_is s j x.parts k.true_of.parts (ended.sessions j is)

  rests : (j : ℕ) → IsSession z.sessions j → s.phase j ≡ phases.Idle
  rests j is = (session j is).0 ∙ ended.rest j

  record_is : s.pass p ≡ record_of r
  record_is = (subst (Each (Shown s)) parts k.true_of.parts).0.0

  idle_at : (j : ℕ) → IsSession z.sessions j → length (logs_in x j) ≤ heard j r.seen → IfSome (found j r.loaded) (λ it. it.register ≡ registers.Idle)
  idle_at j is whole = go (found j r.loaded) (subst (λ (t : PassRecord). IfSome (found j t.loaded) (λ it. StandsIn (t.known j) it.register (s.log j) (s.phase j))) record_is
      (k.steady.records_reach_logs.stands p j))
    where
      none : current (s.log j) ≡ None
      none = k.steady.logs_answer.reads j ∙ ap snapshot_in (rests j is)

      go : (o : Option Loaded) → IfSome o (λ it. StandsIn (heard j r.seen) it.register (s.log j) (s.phase j)) → IfSome o (λ it. it.register ≡ registers.Idle)
      go None h = tt
      go (Some it) h = let k = subst (StandsIn (heard j r.seen) it.register (s.log j)) (rests j is) h in
          idle_register (heard j r.seen) it.register (s.log j) k.0 k.1 (subst (λ l. length l ≤ heard j r.seen) (sym (session j is).1) whole) none k.2

  -- each register of the pass's record is idle
  pub found_idle : map (λ e. e.0) r.loaded ≡ down_from z.sessions → ((j : ℕ) → IsSession z.sessions j → length (logs_in x j) ≤ heard j r.seen) → Each (λ e. e.1.register ≡ registers.Idle) r.loaded
  found_idle keys whole = all_idle z.sessions r.loaded keys (λ j is. idle_at j is (whole j is))

  -- and its mark is the greatest number of the logs
  pub mark_newest : ((j : ℕ) → IsSession z.sessions j → UpTo r.mark (logs_in x j)) → r.mark ≡ newest_of z.sessions (logs_in x)
  mark_newest most =
      let told : s.mark ≡ newest_of z.sessions (logs_in x) = mark_told s k.steady ∙ ap (λ m. newest_of m s.log) k.sized.sessions ∙
      same_newest z.sessions s.log (logs_in x) (λ j is. (session j is).1) in
      let less : r.mark ≤ s.mark = subst (λ (t : PassRecord). t.mark ≤ s.mark) record_is (k.steady.mark_is_length.passes p) in
      omega (arith, told, less, all_most z.sessions r.mark (logs_in x) most)

  -- no group was seen beyond it
  pub seen_newest : (h : History) → IsAmong (Saw (groups h)) x.sights → length h ≤ newest_of z.sessions (logs_in x)
  seen_newest h i =
      let told : s.mark ≡ newest_of z.sessions (logs_in x) = mark_told s k.steady ∙ ap (λ m. newest_of m s.log) k.sized.sessions ∙
      same_newest z.sessions s.log (logs_in x) (λ j is. (session j is).1) in
      let known : StartsWith s.history h = known_among s (Saw (groups h)) x.sights k.true_of.sights i in
      let sum = length-append h known.0 in
      let all : length s.history ≡ length (h ++ known.0) = ap length known.1 in
      let mark = k.steady.mark_is_length.is_length in
      omega (arith, told, sum, all, mark)

  -- each log is the one that it has, and a number that is no session's has none
  pub logs_shown : (j : ℕ) → s.log j ≡ logs_in x j
  logs_shown j = go (both (ltb 0 j) (ltb j (suc z.sessions))) refl (k.most (session_key j))
    where
      go : (b : Bool) → both (ltb 0 j) (ltb j (suc z.sessions)) ≡ b → count (session_key j) x.parts ≤ one b → s.log j ≡ logs_in x j
      go true e most = (session j (inside_is z j e)).1
      go false e most =
          let n : ℕ = count (session_key j) x.parts in
          let less : n ≤ 0 = most in
          let none : n ≡ 0 = omega (arith, less) in
          (k.outside (session_key j) (ap one e)).1.0 ∙ sym (ap (λ p. (session_there p).log) (no_part j x.parts none))
