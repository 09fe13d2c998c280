-- The transactions that logs show open are those that the lines before show open.
use Rattle.std.proofs.Common.{◌≡◌, ℕ, zero, suc, ◌+◌, ◌<◌, ◌≤◌, List, [], ◌∷◌, map, Bool, true, false, Option, Some, None, refl, sym, ap, ◌∙◌, subst, arith}
use Rattle.std.specs.Prelude.{◌==◌, ◌&&◌, cond, filter_map, if◌then◌else◌, nat_lt, option_map, IsTrue, IsFalse, ⊤}
use Rattle.std.specs.Bool.{MatchBool}
use Rattle.std.specs.List.{cons_option}
use Rattle.std.proofs.lemmas.Bool.{or_left, or_right}
use Rattle.hg_base.specs.declared.scope.Snapshot.{Snapshot}
use Rattle.hg_base.specs.declared.report.Told.{Told}
use Rattle.hg_base.specs.Lists.{Each, Ascends, numbers_from, greatest}
use Rattle.hg_base.specs.Transcript.{Said, last_of, open_of, open_after}
use Rattle.hg_base.specs.Freshness.{open_snapshot, open_snapshots, is_declared}
use Rattle.hg_base.proofs.ListFacts.{each_keeps}
use Rattle.hg_base.proofs.Growth.{left_below, right_below}
use Rattle.hg_core.specs.declared.log.LogEntry.{LogEntry}
use Rattle.hg_core.specs.declared.log.LogEntry.TheVariants.{Began, Saw, Refused, Outside, Wrote, Undid, Published, Over}
use Rattle.hg_core.specs.Logs.{current, begans}
use Rattle.hg_core.proofs.Right.{of_some}
use Rattle.hg_headline.specs.Gathered.{began_at, WasLive}
use Rattle.hg_headline.specs.Met.{live_in, HasDeclared}
use Rattle.hg_headline.proofs.Words.{same_number, differs, none_is_not_some, some_is_some, ascends_cons}
use Rattle.hg_headline.proofs.Commits.{greatest_within, each_map}
use Rattle.hg_headline.proofs.Ties.{Ties, StandsIn}

-- ---- sessions without lines

-- no line of the session
abbrev pub NoneOf : ℕ → List Said → Type 0
NoneOf j others = Each (λ (o : Said). IsFalse (o.session == j)) others

pub last_of_none : (j : ℕ) (others : List Said) → NoneOf j others → last_of j others ≡ None
last_of_none j [] h = refl
last_of_none j (o ∷ os) h = ap (λ b. cond (b && nat_lt 0 o.transaction) (Some o) (last_of j os)) h.0 ∙ last_of_none j os h.1

pub none_named : (j : ℕ) (earlier : List Said) → greatest (map (λ (s : Said). s.session) earlier) < j → NoneOf j earlier
none_named j [] h = tt
none_named j (s ∷ ss) h = (
  differs s.session j (left_below s.session (greatest (map (λ (q : Said). q.session) ss)) j h),
  none_named j ss
      (right_below s.session (greatest (map (λ (q : Said). q.session) ss)) j h),
)

-- ---- the open transactions

abbrev pub live_of : ℕ → Option Snapshot → Option (ℕ × ℕ)
live_of j c = option_map (λ snapshot. (j, snapshot.at)) c

pub stands_at : (j : ℕ) (o : Option Said) (c : Option Snapshot) (x : ℕ) → StandsIn o c x → live_of j c ≡ open_snapshot j o
stands_at j None None x h = refl
stands_at j None (Some c) x h = absurd h
stands_at j (Some s) None x h = absurd h
stands_at j (Some s) (Some c) x h = ap (λ n. Some (j, n)) (sym h.1.0)

pub picked_same : {X Y : Type 0} (f g : X → Option Y) → ((x : X) → f x ≡ g x) → (xs : List X) → filter_map f xs ≡ filter_map g xs
picked_same f g e [] = refl
picked_same f g e (x ∷ xs) = λ i. cons_option (e x i) (picked_same f g e xs i)

pub picked_none : {Y : Type 0} (f : ℕ → Option Y) (n many : ℕ) → ((j : ℕ) → n ≤ j → f j ≡ None) → filter_map f (numbers_from n many) ≡ []
picked_none f n zero h = refl
picked_none f n (suc many) h = ap (λ o. cons_option o (filter_map f (numbers_from (suc n) many))) (h n (omega arith)) ∙ picked_none f (suc n) many (λ j k. h j (omega (arith, k)))

-- nothing is picked past the first few
pub picked_few : {Y : Type 0} (f : ℕ → Option Y) (n few many : ℕ) → few ≤ many → ((j : ℕ) → n + few ≤ j → f j ≡ None) → filter_map f (numbers_from n many) ≡ filter_map f (numbers_from n few)
picked_few f n zero many k h = picked_none f n many (λ j i. h j (omega (arith, i)))
picked_few f n (suc few) zero k h = absurd (omega (arith, k))
picked_few f n (suc few) (suc many) k h = ap (cons_option (f n)) (picked_few f (suc n) few many (omega (arith, k)) (λ j i. h j (omega (arith, i))))

pub live_is_open : (sessions : ℕ) (logs : ℕ → List LogEntry) (earlier : List Said) → ((j : ℕ) → Ties j earlier (logs j)) → Each (λ (s : Said). s.session ≤ sessions) earlier →
    live_in sessions logs ≡ open_snapshots earlier
live_is_open sessions logs earlier t w =
    let top : ℕ = greatest (map (λ (s : Said). s.session) earlier) in
    picked_same (λ j. live_of j (current (logs j))) (λ j. open_snapshot j (open_of j earlier))
    (λ j. stands_at j (open_of j earlier) (current (logs j)) (begans (logs j)) (t j).standing) (numbers_from 1 sessions)
    ∙ picked_few (λ j. open_snapshot j (open_of j earlier)) 1 top sessions
    (greatest_within sessions (map (λ (s : Said). s.session) earlier) (each_map (λ n. n ≤ sessions) (λ (s : Said). s.session) earlier w))
    (λ j k. ap (λ o. open_snapshot j (open_after o)) (last_of_none j earlier (none_named j earlier (omega (arith, k)))))

-- ---- what is held ascends, and was begun

-- the pairs that are picked of a stretch of sessions
abbrev pub live_from : (ℕ → List LogEntry) → ℕ → ℕ → List (ℕ × ℕ)
live_from logs n many = filter_map (λ j. live_of j (current (logs j))) (numbers_from n many)

pub live_over : (logs : ℕ → List LogEntry) (n many least : ℕ) → least ≤ n → Each (λ m. least ≤ m) (map (λ (p : ℕ × ℕ). p.0) (live_from logs n many))
live_over logs n zero least k = tt
live_over logs n (suc many) least k = go (current (logs n)) (live_over logs (suc n) many least (omega (arith, k)))
  where
    go : (o : Option Snapshot) → Each (λ m. least ≤ m) (map (λ (p : ℕ × ℕ). p.0) (live_from logs (suc n) many)) →
        Each (λ m. least ≤ m) (map (λ (p : ℕ × ℕ). p.0) (cons_option (live_of n o) (live_from logs (suc n) many)))
    go None h = h
    go (Some c) h = (k, h)

pub live_ascends : (logs : ℕ → List LogEntry) (n many : ℕ) → Ascends (map (λ (p : ℕ × ℕ). p.0) (live_from logs n many))
live_ascends logs n zero = tt
live_ascends logs n (suc many) = go (current (logs n)) (live_ascends logs (suc n) many) (live_over logs (suc n) many (suc n) (omega arith))
  where
    go : (o : Option Snapshot) → Ascends (map (λ (p : ℕ × ℕ). p.0) (live_from logs (suc n) many)) → Each (λ m. suc n ≤ m) (map (λ (p : ℕ × ℕ). p.0) (live_from logs (suc n) many)) →
        Ascends (map (λ (p : ℕ × ℕ). p.0) (cons_option (live_of n o) (live_from logs (suc n) many)))
    go None h k = h
    go (Some c) h k = ascends_cons n (map (λ (p : ℕ × ℕ). p.0) (live_from logs (suc n) many))
        (each_keeps (λ m. suc n ≤ m) (λ m. n < m) (λ m q. q) (map (λ (p : ℕ × ℕ). p.0) (live_from logs (suc n) many)) k) h

-- a pair of a session and the snapshot of its open transaction
abbrev pub IsLive : (ℕ → List LogEntry) → ℕ × ℕ → Type 0
IsLive logs p = (c : Snapshot) × (current (logs p.0) ≡ Some c) × (c.at ≡ p.1)

pub live_each : (logs : ℕ → List LogEntry) (n many : ℕ) → Each (IsLive logs) (live_from logs n many)
live_each logs n zero = tt
live_each logs n (suc many) = go (current (logs n)) refl (live_each logs (suc n) many)
  where
    go : (o : Option Snapshot) → current (logs n) ≡ o → Each (IsLive logs) (live_from logs (suc n) many) → Each (IsLive logs) (cons_option (live_of n o) (live_from logs (suc n) many))
    go None e h = h
    go (Some c) e h = ((c, e, refl), h)

pub map_twice : {X : Type 0} (f : X → ℕ × ℕ) (xs : List X) → map (λ (p : ℕ × ℕ). p.0) (map f xs) ≡ map (λ x. (f x).0) xs
map_twice f [] = refl
map_twice f (x ∷ xs) = ap (λ ys. (f x).0 ∷ ys) (map_twice f xs)

pub each_unmap : {X Y : Type 0} (P : Y → Type 0) (f : X → Y) (xs : List X) → Each P (map f xs) → Each (λ x. P (f x)) xs
each_unmap P f [] h = tt
each_unmap P f (x ∷ xs) h = (h.0, each_unmap P f xs h.1)

-- a transaction that is open was begun
pub began_open : (d : Bool) (l : List LogEntry) (c : Snapshot) → current l ≡ Some c → (if d then is_declared c.scope else true) ≡ true → began_at d c.at l ≡ true
began_open d [] c e k = absurd (none_is_not_some c e)
began_open d (Began at scope ∷ l) c e k =
    let same : c ≡ record { at = at; scope = scope } = sym (some_is_some (record { at = at; scope = scope }) c e) in
    or_left _ (began_at d c.at l) (subst (λ (x : Snapshot). ((x.at == c.at) && (if d then is_declared x.scope else true)) ≡ true) same
    (ap (λ b. b && (if d then is_declared c.scope else true)) (same_number c.at) ∙ k))
began_open d (Saw t low high b rows ∷ l) c e k = began_open d l c e k
began_open d (Refused r a ∷ l) c e k = began_open d l c e k
began_open d (Outside t ∷ l) c e k = began_open d l c e k
began_open d (Wrote r image ∷ l) c e k = began_open d l c e k
began_open d (Undid r ∷ l) c e k = began_open d l c e k
began_open d (Published n ∷ l) c e k = began_open d l c e k
began_open d (Over ∷ l) c e k = absurd (none_is_not_some c e)

-- what was begun in a log was begun in a longer one
abbrev pub Begins : (ℕ → List LogEntry) → ℕ → List LogEntry → Type 0
Begins final j l = (d : Bool) (n : ℕ) → began_at d n l ≡ true → began_at d n (final j) ≡ true

pub begins_less : (final : ℕ → List LogEntry) (j : ℕ) (e : LogEntry) (l : List LogEntry) → Begins final j (e ∷ l) → Begins final j l
begins_less final j (Began at scope) l q d n k = q d n (or_right _ (began_at d n l) k)
begins_less final j (Saw t low high b rows) l q d n k = q d n k
begins_less final j (Refused r a) l q d n k = q d n k
begins_less final j (Outside t) l q d n k = q d n k
begins_less final j (Wrote r image) l q d n k = q d n k
begins_less final j (Undid r) l q d n k = q d n k
begins_less final j (Published m) l q d n k = q d n k
begins_less final j Over l q d n k = q d n k

pub was_live : (logs final : ℕ → List LogEntry) → ((j : ℕ) → Begins final j (logs j)) → (told : Told) → IsLive logs (told.session, told.number) →
    MatchBool told.moved (HasDeclared logs told) ⊤ → WasLive final told
was_live logs final more told (c, e, at) moved = record {
  begun = more told.session false told.number (subst (λ n. began_at false n (logs told.session) ≡ true) at (began_open false (logs told.session) c e refl));
  declared = go told.moved moved;
}
  where
    go : (b : Bool) → MatchBool b (HasDeclared logs told) ⊤ → MatchBool b (IsTrue (began_at true told.number (final told.session))) ⊤
    go true h = more told.session true told.number (subst (λ n. began_at true n (logs told.session) ≡ true) at
        (began_open true (logs told.session) c e (of_some (current (logs told.session)) (λ snapshot. IsTrue (is_declared snapshot.scope)) c e h)))
    go false h = tt
