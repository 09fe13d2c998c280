-- Sessions go to a collector's pass, one after the other.
use Rattle.std.proofs.Common.{◌≡◌, ℕ, zero, suc, ◌+◌, ◌<◌, Bool, true, false, eqb, List, [], ◌∷◌, ◌++◌, length, map, refl, sym, ap, ◌∙◌, subst, inl, inr, arith, append_assoc, append-nil}
use Rattle.std.proofs.Common.{eq-eqb, ne_eqb}
use Rattle.std.specs.Prelude.{get_or, max}
use Rattle.hg_base.specs.Lists.{Each}
use Rattle.hg_core.specs.declared.phase.Phase.TheVariants as phases
use Rattle.hg_core.specs.Phases.{IsSession}
use Rattle.hg_rule.specs.declared.view.SessionPart.{SessionPart}
use Rattle.hg_rule.specs.declared.view.Part.{Part}
use Rattle.hg_rule.specs.declared.view.Part.TheVariants.{OfSession, OfPass}
use Rattle.hg_rule.specs.declared.view.Sight.{Sight}
use Rattle.hg_rule.specs.declared.view.View.{View}
use Rattle.hg_rule.specs.Keys.{session_key, pass_key, has, one, count, shares}
use Rattle.hg_rule.specs.Facts.{IsAmong, new_part, IsHeard}
use Rattle.hg_rule.specs.New.{EachFrom}
use Rattle.hg_rule.specs.Views.{number, session, pass, others, session_there, pass_there, HasPass}
use Rattle.hg_rule.specs.Moves.{put_in, did, merged}
use Rattle.hg_rule.specs.Reading.{chosen, seek, passes_in}
use Rattle.hg_rule.proofs.Counts.{count_append}
use Rattle.hg_rule.proofs.Growing.{among_later}
use Rattle.hg_rule.proofs.Lists.{starts_on, each_map, each_append, among_left}
use Rattle.hg_store.proofs.Filling.{each_from_at}
use Rattle.hg_session.specs.declared.engine.Engine.{Engine}
use Rattle.hg_session.specs.declared.session.Session.{Session}
use Rattle.hg_session.specs.Engines.{engine_sizes}
use Rattle.hg_session.specs.Ties.{phase_at}
use Rattle.hg_session.specs.Sessions.{view_of, number_of, log_of, seen_by}
use Rattle.hg_session.specs.Ended.{logs_in, visits_in, HasAllPasses, IsEnded}
use Rattle.hg_session.specs.OneRun.{journals_in}
use Rattle.hg_session.specs.Finished.{logs_of, parts_of, IsClosed, HasNoSession, HaveGone, AreAmong}

-- a session's part
abbrev part_of : Session → Part
part_of s = OfSession (number_of s) (session (view_of s))

parts_snoc : (sessions : List Session) (s : Session) → parts_of (sessions ++ s ∷ []) ≡ (view_of s).parts ++ parts_of sessions
parts_snoc [] s = refl_append (view_of s).parts
  where
    refl_append : (ps : List Part) → ps ≡ ps ++ []
    refl_append [] = refl
    refl_append (p ∷ ps) = ap (λ l. p ∷ l) (refl_append ps)
parts_snoc (x ∷ sessions) s = ap (λ l. l ++ (view_of x).parts) (parts_snoc sessions s) ∙ append_assoc (view_of s).parts (parts_of sessions) (view_of x).parts

pub one_finishes : (v w u : View) (sessions : List Session) (s : Session) → HaveGone sessions v w → u ≡ merged w (view_of s) → HaveGone (sessions ++ s ∷ []) v u
one_finishes v w u sessions s h e =
    let sights : u.sights ≡ w.sights ++ (seen_by s ++ did (view_of s).events) = ap (λ (x : View). x.sights) e in record {
      parts = ap (λ (x : View). x.parts) e ∙ (λ i. put_in (h.parts i) (view_of s).parts)
          ∙ ap (λ l. OfPass (number v) (pass v) ∷ l) (sym (append_assoc (view_of s).parts (parts_of sessions) (others v)) ∙ ap (λ l. l ++ others v) (sym (parts_snoc sessions s)));
      seen = each_append (λ t. AreAmong (seen_by t) u.sights) sessions (s ∷ [])
          (each_map (λ t. AreAmong (seen_by t) w.sights) (λ t. AreAmong (seen_by t) u.sights) (λ t a x i. subst (IsAmong x) (sym sights) (among_left x w.sights _ (a x i))) sessions h.seen)
          (λ x i. subst (IsAmong x) (sym sights) (among_later x w.sights _ (among_left x (seen_by s) _ i)), tt);
      kept = starts_on u.sights w.sights v.sights h.kept (_, sights);
      events = ap (λ (x : View). x.events) e ∙ h.events;
    }

-- ---- what all of them leave

part_is : (e : Engine) (j : ℕ) (s : Session) → IsClosed e j s → (view_of s).parts ≡ OfSession j (session (view_of s)) ∷ []
part_is e j s h = h.own.only ∙ (λ i. OfSession (h.number_is i) (session (view_of s)) ∷ [])

-- the list behind the parts of one more
behind : (e : Engine) (j : ℕ) (s : Session) (sessions : List Session) (rest : List Part) → IsClosed e j s →
    parts_of (s ∷ sessions) ++ rest ≡ parts_of sessions ++ (OfSession j (session (view_of s)) ∷ rest)
behind e j s sessions rest h = append_assoc (parts_of sessions) (view_of s).parts rest ∙ ap (λ (l : List Part). parts_of sessions ++ (l ++ rest)) (part_is e j s h)

-- what passes over sessions' parts
passed : {X : Type 0} (e : Engine) (f : List Part → X) → ((j : ℕ) (part : SessionPart) (ps : List Part) → f (OfSession j part ∷ ps) ≡ f ps) → (i : ℕ) (sessions : List Session) →
    EachFrom (IsClosed e) i sessions → (rest : List Part) → f (parts_of sessions ++ rest) ≡ f rest
passed e f over i [] row rest = refl
passed e f over i (s ∷ sessions) row rest = ap f (behind e i s sessions rest row.0) ∙ (passed e f over (suc i) sessions row.1 _ ∙ over i (session (view_of s)) rest)

other_key : (i j : ℕ) (part : SessionPart) (rest : List Part) → (i ≡ j → ⊥) → seek (session_key j) (OfSession i part ∷ rest) ≡ seek (session_key j) rest
other_key i j part rest no_same = ap (λ b. chosen b (OfSession i part) (seek (session_key j) rest)) (ne_eqb i j no_same)

-- the parts of those that come later are of other sessions
lower : (e : Engine) (j i : ℕ) (sessions : List Session) (rest : List Part) → j < i → EachFrom (IsClosed e) i sessions → seek (session_key j) (parts_of sessions ++ rest) ≡ seek (session_key j) rest
lower e j i [] rest l row = refl
lower e j i (s ∷ sessions) rest l row = ap (seek (session_key j)) (behind e i s sessions rest row.0) ∙
    (lower e j (suc i) sessions _ (omega (arith, l)) row.1 ∙ other_key i j (session (view_of s)) rest (λ t. absurd (omega (arith, l, t))))

-- session j's part, where i is the first one's number
own_part : (e : Engine) (j i k : ℕ) (sessions : List Session) (rest : List Part) → j ≡ i + k → EachFrom (IsClosed e) i sessions →
    seek (session_key j) (parts_of sessions ++ rest) ≡ get_or (map part_of sessions) k (seek (session_key j) rest)
own_part e j i k [] rest is row = refl
own_part e j i zero (s ∷ sessions) rest is row =
    let same : i ≡ j = omega (arith, is) in
    ap (seek (session_key j)) (behind e i s sessions rest row.0) ∙ (lower e j (suc i) sessions _ (omega (arith, is)) row.1
    ∙ (ap (λ b. chosen b (OfSession i (session (view_of s))) (seek (session_key j) rest)) (eq-eqb i j same) ∙ (λ t. OfSession (sym row.0.number_is t) (session (view_of s)))))
own_part e j i (suc k) (s ∷ sessions) rest is row =
    ap (seek (session_key j)) (behind e i s sessions rest row.0) ∙ (own_part e j (suc i) k sessions _ (omega (arith, is)) row.1
    ∙ ap (get_or (map part_of sessions) k) (other_key i j (session (view_of s)) rest (λ t. absurd (omega (arith, is, t)))))

pub no_part : (j : ℕ) (ps : List Part) → count (session_key j) ps ≡ 0 → seek (session_key j) ps ≡ new_part (session_key j)
no_part j [] none = refl
no_part j (p ∷ ps) none = go (has (session_key j) p) none (no_part j ps)
  where
    go : (b : Bool) → one b + count (session_key j) ps ≡ 0 → (count (session_key j) ps ≡ 0 → seek (session_key j) ps ≡ new_part (session_key j)) →
        chosen b p (seek (session_key j) ps) ≡ new_part (session_key j)
    go true c ih = absurd (some_more _ c)
      where
        some_more : (n : ℕ) → 1 + n ≡ 0 → ⊥
        some_more n c = omega (arith, c)
    go false c ih = ih (less _ c)
      where
        less : (n : ℕ) → 0 + n ≡ 0 → n ≡ 0
        less n c = omega (arith, c)

log_at : (j k : ℕ) (sessions : List Session) → (session_there (get_or (map part_of sessions) k (new_part (session_key j)))).log ≡ get_or (map log_of sessions) k []
log_at j k [] = refl
log_at j zero (s ∷ sessions) = refl
log_at j (suc k) (s ∷ sessions) = log_at j k sessions

rests : (e : Engine) (j : ℕ) (s : Session) → IsClosed e j s → (session (view_of s)).phase ≡ phases.Idle
rests e j s h = h.own.ties.phase ∙ ap phase_at (sym h.own.ties.opens ∙ h.closed)

phase_there : (e : Engine) (j i k : ℕ) (sessions : List Session) → EachFrom (IsClosed e) i sessions → (session_there (get_or (map part_of sessions) k (new_part (session_key j)))).phase ≡ phases.Idle
phase_there e j i k [] row = refl
phase_there e j i zero (s ∷ sessions) row = rests e i s row.0
phase_there e j i (suc k) (s ∷ sessions) row = phase_there e j (suc i) k sessions row.1

there : (e : Engine) (j i k : ℕ) (sessions : List Session) (rest : List Part) → j ≡ i + k → k < length sessions → EachFrom (IsClosed e) i sessions →
    0 < count (session_key j) (parts_of sessions ++ rest)
there e j i k [] rest is l row = absurd (omega (arith, l))
there e j i zero (s ∷ sessions) rest is l row = subst (λ ps. 0 < count (session_key j) ps) (sym (behind e i s sessions rest row.0)) (
    let b : ℕ = count (session_key j) (parts_of sessions) in
    let c : ℕ = count (session_key j) rest in
    let x : ℕ = one (eqb i j) in
    let x_is : x ≡ 1 = ap one (eq-eqb i j (omega (arith, is))) in
    let a : ℕ = count (session_key j) (parts_of sessions ++ (OfSession i (session (view_of s)) ∷ rest)) in
    let sum : a ≡ b + (x + c) = count_append (session_key j) (parts_of sessions) (OfSession i (session (view_of s)) ∷ rest) in
    omega (arith, x_is, sum))
there e j i (suc k) (s ∷ sessions) rest is l row = subst (λ ps. 0 < count (session_key j) ps) (sym (behind e i s sessions rest row.0))
    (there e j (suc i) k sessions _ (omega (arith, is)) (omega (arith, l)) row.1)

heard_at : (e : Engine) (j i k : ℕ) (sights : List Sight) (sessions : List Session) → j ≡ i + k → EachFrom (IsClosed e) i sessions →
    Each (λ s. AreAmong (seen_by s) sights) sessions → IsHeard j (get_or (map log_of sessions) k []) sights
heard_at e j i k sights [] is row seen = inl refl
heard_at e j i zero sights (s ∷ sessions) is row seen = subst (λ n. IsHeard n (log_of s) sights) (row.0.number_is ∙ same) (go row.0.own.heard)
  where
    same : i ≡ j
    same = omega (arith, is)

    go : IsHeard (number_of s) (log_of s) (seen_by s) → IsHeard (number_of s) (log_of s) sights
    go (inl none) = inl none
    go (inr among) = inr (seen.0 _ among)
heard_at e j i (suc k) sights (s ∷ sessions) is row seen = heard_at e j (suc i) k sights sessions (omega (arith, is)) row.1 seen.1

module _ (e : Engine) (v w : View) (sessions : List Session) (own : HasPass v) (row : EachFrom (IsClosed e) 1 sessions) (none : HasNoSession v) (h : HaveGone sessions v w) where
  others_none : (j : ℕ) → count (session_key j) (others v) ≡ 0
  others_none j = less _ (sym (ap (count (session_key j)) own) ∙ none j)
    where
      less : (n : ℕ) → 0 + n ≡ 0 → n ≡ 0
      less n c = omega (arith, c)

  from_one : (k : ℕ) → suc k ≡ 1 + k
  from_one k = omega arith

  at_zero : seek (session_key 0) w.parts ≡ new_part (session_key 0)
  at_zero = ap (seek (session_key 0)) h.parts ∙ (lower e 0 1 sessions (others v) (omega arith) row ∙ no_part 0 (others v) (others_none 0))

  at_next : (k : ℕ) → seek (session_key (suc k)) w.parts ≡ get_or (map part_of sessions) k (new_part (session_key (suc k)))
  at_next k = ap (seek (session_key (suc k))) h.parts ∙ (own_part e (suc k) 1 k sessions (others v) (from_one k) row ∙
      ap (get_or (map part_of sessions) k) (no_part (suc k) (others v) (others_none (suc k))))

  log_is : (j : ℕ) → logs_in w j ≡ logs_of sessions j
  log_is zero = ap (λ p. (session_there p).log) at_zero
  log_is (suc k) = ap (λ p. (session_there p).log) (at_next k) ∙ log_at (suc k) k sessions

  pub logs_finished : logs_in w ≡ logs_of sessions
  logs_finished = λ i j. log_is j i

  rest_is : (j : ℕ) → (session_there (seek (session_key j) w.parts)).phase ≡ phases.Idle
  rest_is zero = ap (λ p. (session_there p).phase) at_zero
  rest_is (suc k) = ap (λ p. (session_there p).phase) (at_next k) ∙ phase_there e (suc k) 1 k sessions row

  none_before : (n : ℕ) → 0 < n → 0 < 0 + n
  none_before n l = omega (arith, l)

  is_there : (j : ℕ) → IsSession (length sessions) j → 0 < count (session_key j) w.parts
  is_there zero is = absurd (let l = is.first in omega (arith, l))
  is_there (suc k) is = subst (λ ps. 0 < count (session_key (suc k)) ps) (sym h.parts) (none_before _ (there e (suc k) 1 k sessions (others v) (from_one k) (let l = is.last in omega (arith, l)) row))

  shares_same : shares w.parts ≡ shares v.parts
  shares_same = ap shares h.parts ∙ (ap (λ n. (pass v).share + n) (passed e shares (λ j part ps. none_more _) 1 sessions row (others v)) ∙ sym (ap shares own))
    where
      none_more : (n : ℕ) → 0 + n ≡ n
      none_more n = omega arith

  pub ended_finished : length sessions ≡ (engine_sizes e).sessions → HasAllPasses v → IsEnded (engine_sizes e) w
  ended_finished all passes = record {
    sessions = λ j is. is_there j (subst (λ n. IsSession n j) (sym all) is);
    passes = shares_same ∙ passes;
    rest = rest_is;
  }

  pub visits_finished : visits_in w ≡ visits_in v
  visits_finished = λ i p. (ap (λ ps. (pass_there (seek (pass_key p) ps)).visits) h.parts
      ∙ (ap (λ part. (pass_there (chosen (has (pass_key p) (OfPass (number v) (pass v))) (OfPass (number v) (pass v)) part)).visits)
      (passed e (seek (pass_key p)) (λ j part ps. refl) 1 sessions row (others v))
      ∙ sym (ap (λ ps. (pass_there (seek (pass_key p) ps)).visits) own))) i

  pub journals_finished : journals_in w ≡ journals_in v
  journals_finished = λ i p. (ap (λ ps. (pass_there (seek (pass_key p) ps)).journal) h.parts
      ∙ (ap (λ part. (pass_there (chosen (has (pass_key p) (OfPass (number v) (pass v))) (OfPass (number v) (pass v)) part)).journal)
      (passed e (seek (pass_key p)) (λ j part ps. refl) 1 sessions row (others v))
      ∙ sym (ap (λ ps. (pass_there (seek (pass_key p) ps)).journal) own))) i

  pub passes_finished : passes_in w.parts ≡ passes_in v.parts
  passes_finished = ap passes_in h.parts ∙ (ap (max (suc (number v))) (passed e passes_in (λ j part ps. refl) 1 sessions row (others v)) ∙ sym (ap passes_in own))

  pub heard_finished : (j : ℕ) → IsHeard j (logs_of sessions j) w.sights
  heard_finished zero = inl refl
  heard_finished (suc k) = heard_at e (suc k) 1 k w.sights sessions (from_one k) row h.seen

-- ---- on the way

pub closed_here : (e : Engine) (all before rest more : List Session) (s : Session) → all ≡ before ++ rest → rest ≡ s ∷ more → EachFrom (IsClosed e) 1 all → IsClosed e (1 + length before) s
closed_here e all before rest more s is next row = each_from_at (IsClosed e) 1 before more s (subst (EachFrom (IsClosed e) 1) (is ∙ ap (λ r. before ++ r) next) row)

pub one_less : (all before rest more : List Session) (s : Session) → all ≡ before ++ rest → rest ≡ s ∷ more → all ≡ (before ++ s ∷ []) ++ more
one_less all before rest more s is next = is ∙ (ap (λ r. before ++ r) next ∙ sym (append_assoc before (s ∷ []) more))

pub none_left : (rest : List Session) → length rest ≡ 0 → rest ≡ []
none_left [] e = refl
none_left (s ∷ rest) e = absurd (omega (arith, e))

pub all_finish : (v w : View) (all before rest : List Session) → all ≡ before ++ rest → rest ≡ [] → HaveGone before v w → HaveGone all v w
all_finish v w all before rest is none h = subst (λ l. HaveGone l v w) (sym (is ∙ (ap (λ r. before ++ r) none ∙ append-nil before))) h
