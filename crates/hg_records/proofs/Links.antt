-- Statements that lead to the next of their session, with one more.
use Rattle.std.proofs.Common.{◌≡◌, ◌≢◌, ◌==◌, ◌&&◌, ◌<◌, ◌≤◌, ◌+◌, ◌∙◌, ◌⊎◌, inl, inr, ℕ, zero, suc, List, [], ◌∷◌, ◌++◌, length, drop, get_or, set, true, false, cond, refl, sym, ap, arith}
use Rattle.std.proofs.Common.{add-one, length-append}
use Rattle.std.proofs.Math.ListN.{get_or-append}
use Rattle.std.proofs.Math.Seq.{get_or-append_seam}
use Rattle.std.proofs.lemmas.Bool.{leb-false, leb-true}
use Rattle.std.proofs.lemmas.Bool.Decides.{nat_tests}
use Rattle.std.specs.Prelude.{nat_le}
use Rattle.std.proofs.lemmas.List.{length-map, map-append}
use Rattle.hg_base.proofs.ListFacts.{cases, false_true, not_equal}
use Rattle.hg_base.specs.Lists.{Each}
use Rattle.hg_base.specs.declared.limits.TheConstants.{MOST_SESSIONS}
use Rattle.hg_records.specs.declared.ends.Ends.{Ends}
use Rattle.hg_records.specs.declared.ends.TheConstants.{NOWHERE}
use Rattle.hg_records.specs.declared.statements.Entry.{Entry}
use Rattle.hg_records.specs.Packed.{HasSession}
use Rattle.hg_records.specs.Links.{AreLinked, IsChained, IsLast, KnowsEnds, first_in, last_in, led, next_from, next_of, sessions_in}

pub same : (j : ℕ) → (j == j) ≡ true
same j = grind (arith, nat_tests)

differ : (j k : ℕ) → (j == k) ≡ false → (k == j) ≡ false
differ j k e = grind (arith, nat_tests, e)

pub alike : (j k : ℕ) → (j == k) ≡ true → j ≡ k
alike j k e = grind (arith, nat_tests, e)

-- ---- the next of a session, where one number more stands behind

next_other : (j s n : ℕ) (ks : List ℕ) → (s == j) ≡ false → next_of j n (ks ++ s ∷ []) ≡ next_of j n ks
next_other j s n [] e = rw e refl
next_other j s n (k ∷ ks) e = ap (λ m. cond (k == j) n m) (next_other j s (n + 1) ks e)

next_new : (j n m : ℕ) (ks : List ℕ) → m ≡ n + length ks → m ≤ NOWHERE → next_of j n ks ≡ NOWHERE → next_of j n (ks ++ j ∷ []) ≡ m
next_new j n m [] is most none = let here : n ≡ m = omega (arith, is) in rw (same j) here
next_new j n m (k ∷ ks) is most none = cases (k == j)
    (λ e. absurd (let here : n ≡ NOWHERE = rw e at none in omega (arith, is, most, here)))
    (λ e. rw e (next_new j (n + 1) m ks (omega (arith, is)) most (rw e at none)))

next_kept : (j n : ℕ) (ks more : List ℕ) → next_of j n ks ≢ NOWHERE → next_of j n (ks ++ more) ≡ next_of j n ks
next_kept j n [] more some = absurd (some refl)
next_kept j n (k ∷ ks) more some = cases (k == j)
    (λ e. rw e refl)
    (λ e. rw e (next_kept j (n + 1) ks more (rw e at some)))

next_found : (j n l : ℕ) (ks : List ℕ) → l < length ks → get_or ks l 0 ≡ j → n + length ks ≤ NOWHERE → next_of j n ks ≢ NOWHERE
next_found j n l [] less at most none = omega (arith, less)
next_found j n zero (k ∷ ks) less at most none =
    let here : n ≡ NOWHERE = rw (at, same j) at none in omega (arith, most, here)
next_found j n (suc l) (k ∷ ks) less at most none = cases (k == j)
    (λ e. let here : n ≡ NOWHERE = rw e at none in omega (arith, most, here))
    (λ e. next_found j (n + 1) l ks (omega (arith, less)) at (omega (arith, most)) (rw e at none))

-- ---- one entry more

more_sessions : (es : List Entry) (x : Entry) → sessions_in (es ++ x ∷ []) ≡ sessions_in es ++ x.session ∷ []
more_sessions es x = map-append (λ (e : Entry). e.session) es (x ∷ [])

many_sessions : (es : List Entry) → length (sessions_in es) ≡ length es
many_sessions es = length-map es (λ (e : Entry). e.session)

session_at : (es : List Entry) (l : ℕ) (d : Entry) → l < length es → get_or (sessions_in es) l 0 ≡ (get_or es l d).session
session_at [] l d less = absurd (omega (arith, less))
session_at (e ∷ es) zero d less = refl
session_at (e ∷ es) (suc l) d less = session_at es l d (omega (arith, less))

led_sessions : (l i : ℕ) (es : List Entry) → sessions_in (led l i es) ≡ sessions_in es
led_sessions l i [] = refl
led_sessions zero i (e ∷ es) = refl
led_sessions (suc l) i (e ∷ es) = ap (λ ks. e.session ∷ ks) (led_sessions l i es)

pub led_many : (l i : ℕ) (es : List Entry) → length (led l i es) ≡ length es
led_many l i [] = refl
led_many zero i (e ∷ es) = refl
led_many (suc l) i (e ∷ es) = ap suc (led_many l i es)

led_other : (l i k : ℕ) (es : List Entry) (d : Entry) → k ≢ l → get_or (led l i es) k d ≡ get_or es k d
led_other l i k [] d other = refl
led_other zero i zero (e ∷ es) d other = absurd (other refl)
led_other zero i (suc k) (e ∷ es) d other = refl
led_other (suc l) i zero (e ∷ es) d other = refl
led_other (suc l) i (suc k) (e ∷ es) d other = led_other l i k es d (λ e. other (ap suc e))

pub led_past : (l i : ℕ) (es : List Entry) → length es ≤ l → led l i es ≡ es
led_past l i [] past = refl
led_past zero i (e ∷ es) past = absurd (omega (arith, past))
led_past (suc l) i (e ∷ es) past = ap (λ xs. e ∷ xs) (led_past l i es (omega (arith, past)))

pub led_is : (l i : ℕ) (es : List Entry) (d : Entry) → l < length es → set es l (record (get_or es l d) { next = i }) ≡ led l i es
led_is l i [] d less = absurd (omega (arith, less))
led_is zero i (e ∷ es) d less = refl
led_is (suc l) i (e ∷ es) d less = ap (λ xs. e ∷ xs) (led_is l i es d (omega (arith, less)))

-- the first of its session
linked_first : (n : ℕ) (es : List Entry) (x : Entry) → x.next ≡ NOWHERE → next_of x.session n (sessions_in es) ≡ NOWHERE → n + length es ≤ NOWHERE → AreLinked n es → AreLinked n (es ++ x ∷ [])
linked_first n [] x end none most h = (end, tt)
linked_first n (e ∷ es) x end none most h = cases (e.session == x.session)
    (λ k. absurd (let here : n ≡ NOWHERE = rw k at none in omega (arith, most, here)))
    (λ k. (
      h.0 ∙ sym (ap (next_of e.session (n + 1)) (more_sessions es x) ∙ next_other e.session x.session (n + 1) (sessions_in es) (differ e.session x.session k)),
      linked_first (n + 1) es x end (rw k at none) (omega (arith, most)) h.1,
    ))

-- the last of its session leads to it
linked_next : (n l i : ℕ) (es : List Entry) (x : Entry) → l < length es → (get_or es l x).session ≡ x.session → (get_or es l x).next ≡ NOWHERE → x.next ≡ NOWHERE
    → i ≡ n + length es → i ≤ NOWHERE → AreLinked n es → AreLinked n (led l i (es ++ x ∷ []))
linked_next n l i [] x less of last end is most h = absurd (omega (arith, less))
linked_next n zero i (e ∷ es) x less of last end is most h =
    let none : next_of x.session (n + 1) (sessions_in es) ≡ NOWHERE = ap (λ j. next_of j (n + 1) (sessions_in es)) (sym of) ∙ sym h.0 ∙ last in
    let new : next_of x.session (n + 1) (sessions_in es ++ x.session ∷ []) ≡ i = next_new x.session (n + 1) i (sessions_in es) (omega (arith, is, many_sessions es)) most none in (
      sym (ap (λ j. next_of j (n + 1) (sessions_in (es ++ x ∷ []))) of ∙ ap (next_of x.session (n + 1)) (more_sessions es x) ∙ new),
      linked_first (n + 1) es x end none (omega (arith, is, most)) h.1,
    )
linked_next n (suc l) i (e ∷ es) x less of last end is most h =
    let within : l < length es = omega (arith, less) in
    let other = λ (k : (x.session == e.session) ≡ false). next_other e.session x.session (n + 1) (sessions_in es) k in
    let found = λ (k : (x.session == e.session) ≡ true). next_kept e.session (n + 1) (sessions_in es) (x.session ∷ [])
    (next_found e.session (n + 1) l (sessions_in es) (omega (arith, within, many_sessions es)) (session_at es l x within ∙ of ∙ alike x.session e.session k)
    (omega (arith, is, most, many_sessions es))) in (
      h.0 ∙ sym (ap (next_of e.session (n + 1)) (led_sessions l i (es ++ x ∷ []) ∙ more_sessions es x) ∙ cases (x.session == e.session) found other),
      linked_next (n + 1) l i es x within of last end (omega (arith, is)) most h.1,
    )

-- ---- the ends of each session

-- where the last of session s stands, or nowhere where there is none
abbrev Before : List Entry → ℕ → ℕ → Type 0
Before es s l = ((l ≡ NOWHERE) × (next_of s 0 (sessions_in es) ≡ NOWHERE)) ⊎ IsLast es s l

before : (ends : Ends) (es : List Entry) (s l : ℕ) → KnowsEnds ends es s → l ≡ cond (first_in ends s == NOWHERE) NOWHERE (last_in ends s) → Before es s l
before ends es s l h is = cases (first_in ends s == NOWHERE)
    (λ e. inl (rw e at is, sym h.first ∙ alike (first_in ends s) NOWHERE e))
    (λ e. inr (let here : l ≡ last_in ends s = rw e at is in rw here (h.last (λ no. false_true (sym e ∙ ap (λ k. k == NOWHERE) no ∙ same NOWHERE)))))

links_more : (es : List Entry) (x : Entry) (l : ℕ) → Before es x.session l → x.next ≡ NOWHERE → length es < NOWHERE → AreLinked 0 es → AreLinked 0 (led l (length es) (es ++ x ∷ []))
links_more es x l (inl e) end room h =
    rw (led_past l (length es) (es ++ x ∷ []) (omega (arith, e.0, room, length-append es (x ∷ [])))) (linked_first 0 es x end e.1 (omega (arith, room)) h)
links_more es x l (inr k) end room h = linked_next 0 l (length es) es x k.within (k.session x) (k.next x) end (omega arith) (omega (arith, room)) h

-- the first of each session
first_more : (ends ends' : Ends) (es : List Entry) (x : Entry) (l j : ℕ) → KnowsEnds ends es j → length es < NOWHERE
    → first_in ends' j ≡ cond ((x.session == j) && (first_in ends j == NOWHERE)) (length es) (first_in ends j)
    → first_in ends' j ≡ next_of j 0 (sessions_in (led l (length es) (es ++ x ∷ [])))
first_more ends ends' es x l j h room is =
    is ∙ cases (x.session == j)
    (λ e. rw (alike x.session j e, same j) (cases (first_in ends j == NOWHERE)
    (λ k. rw k (sym (next_new j 0 (length es) (sessions_in es) (omega (arith, many_sessions es)) (omega (arith, room)) (sym h.first ∙ alike (first_in ends j) NOWHERE k))))
    (λ k. rw k (h.first ∙ sym (next_kept j 0 (sessions_in es) (j ∷ []) (λ no. false_true (sym k ∙ ap (λ m. m == NOWHERE) (h.first ∙ no) ∙ same NOWHERE)))))))
    (λ e. rw e (h.first ∙ sym (next_other j x.session 0 (sessions_in es) e)))
    ∙ sym (ap (next_of j 0) (led_sessions l (length es) (es ++ x ∷ []) ∙ more_sessions es x))

-- the new entry is its session's last
last_new : (es : List Entry) (x : Entry) (l : ℕ) → Before es x.session l → x.next ≡ NOWHERE → length es < NOWHERE → IsLast (led l (length es) (es ++ x ∷ [])) x.session (length es)
last_new es x l b end room =
    let apart : length es ≢ l = go b in
    let at : (d : Entry) → get_or (led l (length es) (es ++ x ∷ [])) (length es) d ≡ x = λ d. led_other l (length es) (length es) (es ++ x ∷ []) d apart ∙ get_or-append_seam es x [] d in
    record {
      within = omega (arith, led_many l (length es) (es ++ x ∷ []), length-append es (x ∷ []));
      session = λ d. ap (λ (e : Entry). e.session) (at d);
      next = λ d. ap (λ (e : Entry). e.next) (at d) ∙ end;
    }
  where
    go : Before es x.session l → length es ≢ l
    go (inl e) k = omega (arith, e.0, k, room)
    go (inr h) k = omega (arith, h.within, k)

-- and that of another session stays
last_stays : (es : List Entry) (x : Entry) (l j k : ℕ) → Before es x.session l → (x.session == j) ≡ false → length es < NOWHERE → IsLast es j k → IsLast (led l (length es) (es ++ x ∷ [])) j k
last_stays es x l j k b other room h =
    let apart : k ≢ l = go b in
    let at : (d : Entry) → get_or (led l (length es) (es ++ x ∷ [])) k d ≡ get_or es k d = λ d. led_other l (length es) k (es ++ x ∷ []) d apart ∙ get_or-append es (x ∷ []) d k h.within in
    record {
      within = omega (arith, h.within, led_many l (length es) (es ++ x ∷ []), length-append es (x ∷ []));
      session = λ d. ap (λ (e : Entry). e.session) (at d) ∙ h.session d;
      next = λ d. ap (λ (e : Entry). e.next) (at d) ∙ h.next d;
    }
  where
    go : Before es x.session l → k ≢ l
    go (inl e) is = omega (arith, e.0, is, room, h.within)
    go (inr last) is = false_true (sym other ∙ ap (λ m. m == j) (sym (last.session x) ∙ ap (λ m. (get_or es m x).session) (sym is) ∙ h.session x) ∙ same j)

last_more : (ends ends' : Ends) (es : List Entry) (x : Entry) (l j : ℕ) → KnowsEnds ends es j → Before es x.session l → x.next ≡ NOWHERE → length es < NOWHERE
    → first_in ends' j ≡ cond ((x.session == j) && (first_in ends j == NOWHERE)) (length es) (first_in ends j)
    → last_in ends' j ≡ cond (x.session == j) (length es) (last_in ends j)
    → first_in ends' j ≢ NOWHERE → IsLast (led l (length es) (es ++ x ∷ [])) j (last_in ends' j)
last_more ends ends' es x l j h b end room first last some = cases (x.session == j)
    (λ e. rw (last, e, ← alike x.session j e) (last_new es x l b end room))
    (λ e. rw (last, e) (last_stays es x l j (last_in ends j) b e room (h.last (rw (first, e) at some))))

-- one entry more, to which the last of its session leads
pub chained_more : (ends ends' : Ends) (es : List Entry) (x : Entry) (l : ℕ) → IsChained ends es → x.session ≤ MOST_SESSIONS → x.next ≡ NOWHERE → length es < NOWHERE
    → l ≡ cond (first_in ends x.session == NOWHERE) NOWHERE (last_in ends x.session)
    → ((j : ℕ) → first_in ends' j ≡ cond ((x.session == j) && (first_in ends j == NOWHERE)) (length es) (first_in ends j))
    → ((j : ℕ) → last_in ends' j ≡ cond (x.session == j) (length es) (last_in ends j))
    → IsChained ends' (led l (length es) (es ++ x ∷ []))
chained_more ends ends' es x l h within end room is first last =
    let b : Before es x.session l = before ends es x.session l (h.each x.session within) is in record {
      links = links_more es x l b end room h.links;
      each = λ j most. record {
        first = first_more ends ends' es x l j (h.each j most) room (first j);
        last = last_more ends ends' es x l j (h.each j most) b end room (first j) (last j);
      };
    }

-- ---- where an entry leads

-- the session at i
leads : (n i : ℕ) (es : List Entry) (d : Entry) → i < length es → AreLinked n es → (get_or es i d).next ≡ next_of (get_or es i d).session (n + suc i) (drop (suc i) (sessions_in es))
leads n i [] d less h = absurd (omega (arith, less))
leads n zero (e ∷ es) d less h = h.0
leads n (suc i) (e ∷ es) d less h =
    let m : n + 1 + suc i ≡ n + suc (suc i) = omega arith in
    leads (n + 1) i es d (omega (arith, less)) h.1 ∙ ap (λ k. next_of (get_or es i d).session k (drop (suc i) (sessions_in es))) m

pub leads_on : (i : ℕ) (es : List Entry) (d : Entry) → i < length es → AreLinked 0 es → (get_or es i d).next ≡ next_from (get_or es i d).session (i + 1) (sessions_in es)
leads_on i es d less h =
    let m : 0 + suc i ≡ suc i = omega arith in
    rw (add-one) (leads 0 i es d less h ∙ ap (λ k. next_of (get_or es i d).session k (drop (suc i) (sessions_in es))) m)

-- a session that no entry has
no_session : (j n : ℕ) (es : List Entry) → MOST_SESSIONS < j → Each HasSession es → next_of j n (sessions_in es) ≡ NOWHERE
no_session j n [] over h = refl
no_session j n (e ∷ es) over h = let other : (e.session == j) ≡ false = not_equal e.session j (omega (arith, over, h.0)) in rw other (no_session j (n + 1) es over h.1)

-- the first of a session
pub first_known : (ends : Ends) (es : List Entry) (j first : ℕ) → IsChained ends es → Each HasSession es → (j ≤ MOST_SESSIONS → first ≡ first_in ends j) →
    (MOST_SESSIONS < j → first ≡ NOWHERE) → first ≡ next_from j 0 (sessions_in es)
first_known ends es j first h sessions known other = cases (nat_le j MOST_SESSIONS)
    (λ e. let at : j ≤ MOST_SESSIONS = leb-true j MOST_SESSIONS e in known at ∙ (h.each j at).first)
    (λ e. let over : MOST_SESSIONS < j = leb-false j MOST_SESSIONS e in other over ∙ sym (no_session j 0 es over sessions))
