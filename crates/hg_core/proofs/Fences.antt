-- What a whole record fences off.
use Rattle.std.proofs.Common.{◌≡◌, ℕ, zero, suc, ◌<◌, ◌≤◌, List, [], ◌∷◌, length, slice_index_or, Option, None, Some, Bool, true, false, not, ◌||◌, ◌==◌, ◌⊎◌, inl, inr, refl, subst, arith}
use Rattle.std.specs.Prelude.{if◌then◌else◌, min, Contains, IsSome, IsTrue}
use Rattle.hg_base.specs.declared.rid.TableId.{TableId}
use Rattle.hg_base.specs.declared.scope.Scope.{Scope}
use Rattle.hg_base.specs.Transcript.{has}
use Rattle.hg_core.specs.declared.loaded.Loaded.{Loaded}
use Rattle.hg_core.specs.declared.register.Register.{Register}
use Rattle.hg_core.specs.declared.register.Register.TheVariants as registers
use Rattle.hg_core.specs.declared.phase.Phase.{Phase}
use Rattle.hg_core.specs.declared.phase.Phase.TheVariants.{Idle, Fixed, Live}
use Rattle.hg_core.specs.declared.log.LogEntry.{LogEntry}
use Rattle.hg_core.specs.Words.{shows_declared, is_moved}
use Rattle.hg_core.specs.Passes.{PassRecord, found, HasMask, IsWhole, mask_has, lower, least_entering, horizon, if_live, live_numbers, recorded, all_recorded, least, group_bound, table_bound}
use Rattle.hg_core.specs.State.{CoreState}
use Rattle.hg_core.specs.Bounds.{EntersUpTo, HoldsBack, Bounds}
use Rattle.hg_core.specs.Reach.{Says, StandsIn}
use Rattle.hg_core.specs.Invariant.{IsSteady}
use Rattle.hg_core.specs.Missed.{MissesNone}
use Rattle.hg_core.proofs.Loading.{found_one}

-- ---- the horizon

lower_least : (n : ℕ) (register : Register) → lower n register ≤ n
lower_least n registers.Idle = omega arith
lower_least n (registers.Entering f) = omega arith
lower_least n (registers.Live number declared moved) = omega arith

-- it is at or below the mark
pub horizon_mark : (n : ℕ) (loaded : List (ℕ × Loaded)) → least_entering n loaded ≤ n
horizon_mark n [] = omega arith
horizon_mark n (e ∷ loaded) = omega (arith, horizon_mark n loaded, lower_least (least_entering n loaded) e.1.register)

lower_entering : (m n : ℕ) (register : Register) → EntersUpTo register n → lower m register ≤ n
lower_entering m n registers.Idle e = absurd e
lower_entering m n (registers.Entering f) e = omega arith
lower_entering m n (registers.Live number declared moved) e = absurd e

-- it is at or below each entering number
pub horizon_entering : (m n j : ℕ) (one : Loaded) (loaded : List (ℕ × Loaded)) → found j loaded ≡ Some one → EntersUpTo one.register n → least_entering m loaded ≤ n
horizon_entering m n j one [] f e = cc
horizon_entering m n j one (x ∷ loaded) f e = go (j == x.0) f (λ k. horizon_entering m n j one loaded k e)
  where
    go : (b : Bool) → (if b then Some x.1 else found j loaded) ≡ Some one → (found j loaded ≡ Some one → least_entering m loaded ≤ n) → lower (least_entering m loaded) x.1.register ≤ n
    go true q later = let same : x.1 ≡ one = cc in rw same (lower_entering (least_entering m loaded) n one.register e)
    go false q later = omega (arith, later q, lower_least (least_entering m loaded) x.1.register)

-- ---- the numbers of live registers

contains_more : (x n : ℕ) (xs : List ℕ) → Contains xs n → Contains (x ∷ xs) n
contains_more x n xs c = (suc c.0, (let k = c.1 in omega arith), c.2)

contains_first : (x n : ℕ) (xs : List ℕ) → x ≡ n → Contains (x ∷ xs) n
contains_first x n xs e = (zero, omega arith, e)

contains_with : (n : ℕ) (test : Bool → Option ℕ → Bool) (register : Register) (mask : Option ℕ) (rest : List ℕ) → Contains rest n → Contains (if_live test register mask rest) n
contains_with n test registers.Idle mask rest c = c
contains_with n test (registers.Entering f) mask rest c = c
contains_with n test (registers.Live number declared moved) mask rest c = go (test moved mask)
  where
    go : (b : Bool) → Contains (if b then number ∷ rest else rest) n
    go true = contains_more number n rest c
    go false = c

-- a register is live at n and passes the test
abbrev pub Passes : (Bool → Option ℕ → Bool) → Register → Option ℕ → ℕ → Type 0
Passes test registers.Idle mask n = ⊥
Passes test (registers.Entering f) mask n = ⊥
Passes test (registers.Live number declared moved) mask n = (number ≡ n) × (test moved mask ≡ true)

contains_passed : (n : ℕ) (test : Bool → Option ℕ → Bool) (register : Register) (mask : Option ℕ) (rest : List ℕ) → Passes test register mask n → Contains (if_live test register mask rest) n
contains_passed n test registers.Idle mask rest h = absurd h
contains_passed n test (registers.Entering f) mask rest h = absurd h
contains_passed n test (registers.Live number declared moved) mask rest h = rw h.1 (contains_first number n rest h.0)

pub contains_live : (n j : ℕ) (test : Bool → Option ℕ → Bool) (one : Loaded) (loaded : List (ℕ × Loaded)) → found j loaded ≡ Some one → Passes test one.register one.mask n →
    Contains (live_numbers test loaded) n
contains_live n j test one [] f h = cc
contains_live n j test one (x ∷ loaded) f h = go (j == x.0) f (λ k. contains_live n j test one loaded k h)
  where
    go : (b : Bool) → (if b then Some x.1 else found j loaded) ≡ Some one → (found j loaded ≡ Some one → Contains (live_numbers test loaded) n) →
        Contains (if_live test x.1.register x.1.mask (live_numbers test loaded)) n
    go true q later = let same : x.1 ≡ one = cc in rw same (contains_passed n test one.register one.mask (live_numbers test loaded) h)
    go false q later = contains_with n test x.1.register x.1.mask (live_numbers test loaded) (later q)

-- The register of a session that is live with the table passes the test for that table: where its mask wasn't loaded it shows
-- no declared tables, and is unmoved.
passes_table : (table : TableId) (n : ℕ) (register : Register) (mask : Option ℕ) (scope : Scope) → HoldsBack register mask n scope →
    (IsTrue (shows_declared register) → IsSome mask) → (IsTrue (is_moved register) → IsTrue (shows_declared register)) → IsTrue (has scope table) →
    Passes (λ moved mask. not moved || mask_has table mask) register mask n
passes_table table n registers.Idle mask scope l whole moves h = absurd l
passes_table table n (registers.Entering f) mask scope l whole moves h = absurd l
passes_table table n (registers.Live number declared false) mask scope l whole moves h = (l.0, refl)
passes_table table n (registers.Live number declared true) None scope l whole moves h = absurd (let z = whole (moves refl) in cc)
passes_table table n (registers.Live number declared true) (Some tables) scope l whole moves h = (l.0, l.2 table h)

-- and the test of all
passes_all : (n : ℕ) (register : Register) (mask : Option ℕ) (scope : Scope) → HoldsBack register mask n scope → Passes (λ moved mask. true) register mask n
passes_all n registers.Idle mask scope l = absurd l
passes_all n (registers.Entering f) mask scope l = absurd l
passes_all n (registers.Live number declared moved) mask scope l = (l.0, refl)

-- ---- a whole record

-- what was loaded of a session that is not at rest
pub loaded_of : (s : CoreState) (p j : ℕ) → IsSteady s → IsWhole s.sessions (s.pass p) → (s.phase j ≡ Idle → ⊥) → (one : Loaded) × (found j (s.pass p).loaded ≡ Some one)
loaded_of s p j h whole awake = elim (h.registers_agree.others j) [ inl session ↦ the_one (found j (s.pass p).loaded) refl (whole.registers j session) | inr rests ↦ absurd (awake rests) ]
  where
    the_one : (o : Option Loaded) → found j (s.pass p).loaded ≡ o → IsSome o → (one : Loaded) × (found j (s.pass p).loaded ≡ Some one)
    the_one None e some = cc
    the_one (Some one) e some = (one, e)

-- a register that stands in a log was moved only where it shows declared tables
moved_declared : (register : Register) (later before : List LogEntry) (phase : Phase) → Says register later before phase → IsTrue (is_moved register) → IsTrue (shows_declared register)
moved_declared registers.Idle later before phase says m = m
moved_declared (registers.Entering f) later before phase says m = m
moved_declared (registers.Live number declared moved) later before phase says m = says.1.moves m

-- what was loaded of session j holds its snapshot, and has its mask where it shows declared tables
pub record IsHeld (pass : PassRecord) (j at : ℕ) (scope : Scope) (one : Loaded) : Type 0 where
  pub loaded : found j pass.loaded ≡ Some one
  pub holds : HoldsBack one.register one.mask at scope
  pub whole : HasMask one
  pub moves : IsTrue (is_moved one.register) → IsTrue (shows_declared one.register)

-- a live number is at or over the horizon, or its register was loaded and holds it
pub live_fenced : (s : CoreState) (p j at : ℕ) (scope : Scope) → IsSteady s → IsWhole s.sessions (s.pass p) → s.phase j ≡ Live at scope →
    (horizon (s.pass p) ≤ at) ⊎ ((one : Loaded) × IsHeld (s.pass p) j at scope one)
live_fenced s p j at scope h whole live =
    let pass = s.pass p in
    let found_it = loaded_of s p j h whole (λ e. cc) in
    let one = found_it.0 in
    let bounds : Bounds pass.mark one (Live at scope) = subst (Bounds pass.mark one) live (found_one (λ loaded. Bounds pass.mark loaded (s.phase j)) _ one found_it.1 (h.records_bound_sessions p j)) in
    let stands = found_one (λ loaded. StandsIn (pass.known j) loaded.register (s.log j) (s.phase j)) _ one found_it.1 (h.records_reach_logs.stands p j) in
    elim bounds [
      | inl a ↦ inl (omega (arith, horizon_mark pass.mark pass.loaded))
      | inr a ↦ elim a [
        | inl b ↦ inl (horizon_entering pass.mark at j one pass.loaded found_it.1 b)
        | inr b ↦ inr (one, record { loaded = found_it.1; holds = b; whole = found_one HasMask _ one found_it.1 (whole.masks j); moves = moved_declared one.register _ _ _ stands.2.says })
      ]
    ]

pub held_in_table : (pass : PassRecord) (j at : ℕ) (scope : Scope) (table : TableId) (one : Loaded) → IsHeld pass j at scope one → IsTrue (has scope table) → Contains (recorded table pass) at
held_in_table pass j at scope table one held has_it = contains_live at j _ one pass.loaded held.loaded (passes_table table at one.register one.mask scope held.holds held.whole held.moves has_it)

pub held_in_all : (pass : PassRecord) (j at : ℕ) (scope : Scope) (one : Loaded) → IsHeld pass j at scope one → Contains (all_recorded pass) at
held_in_all pass j at scope one held = contains_live at j _ one pass.loaded held.loaded (passes_all at one.register one.mask scope held.holds)

-- a number that was fixed is at or over the horizon
pub fixed_fenced : (s : CoreState) (p j f m : ℕ) (scope : Scope) → IsSteady s → IsWhole s.sessions (s.pass p) → s.phase j ≡ Fixed scope f m → horizon (s.pass p) ≤ m
fixed_fenced s p j f m scope h whole fixed =
    let pass = s.pass p in
    let found_it = loaded_of s p j h whole (λ e. cc) in
    let one = found_it.0 in
    let bounds : Bounds pass.mark one (Fixed scope f m) = subst (Bounds pass.mark one) fixed
    (found_one (λ loaded. Bounds pass.mark loaded (s.phase j)) _ one found_it.1 (h.records_bound_sessions p j)) in
    elim bounds [
      | inl a ↦ omega (arith, horizon_mark pass.mark pass.loaded)
      | inr a ↦ horizon_entering pass.mark m j one pass.loaded found_it.1 a
    ]

pub misses_none : (s : CoreState) (p : ℕ) → IsSteady s → IsWhole s.sessions (s.pass p) → MissesNone (horizon (s.pass p)) (s.pass p) s.phase
misses_none s p h whole j at scope table live has_it = elim (live_fenced s p j at scope h whole live) [ inl a ↦ inl a | inr a ↦ inr (held_in_table (s.pass p) j at scope table a.0 a.1 has_it) ]

-- ---- the bounds

pub least_first : (n : ℕ) (xs : List ℕ) → least n xs ≤ n
least_first n [] = omega arith
least_first n (x ∷ xs) = omega (arith, least_first n xs)

pub least_of : (n m : ℕ) (xs : List ℕ) → Contains xs m → least n xs ≤ m
least_of n m [] c = absurd (let k = c.1 in omega arith)
least_of n m (x ∷ xs) c = go c.0 c.1 c.2 (λ k. least_of n m xs k)
  where
    go : (k : ℕ) → k < length (x ∷ xs) → slice_index_or (x ∷ xs) k m ≡ m → (Contains xs m → least n xs ≤ m) → min x (least n xs) ≤ m
    go zero below e later = let same : x ≡ m = e in omega arith
    go (suc k) below e later = let less : k < length xs = omega arith in omega (arith, later (k, less, e))

pub table_below : (s : CoreState) (p j at : ℕ) (scope : Scope) (table : TableId) → IsSteady s → IsWhole s.sessions (s.pass p) → s.phase j ≡ Live at scope →
    IsTrue (has scope table) → table_bound table (s.pass p) ≤ at
table_below s p j at scope table h whole live has_it = elim (live_fenced s p j at scope h whole live) [
  | inl a ↦ omega (arith, least_first (horizon (s.pass p)) (recorded table (s.pass p)))
  | inr a ↦ least_of _ at (recorded table (s.pass p)) (held_in_table (s.pass p) j at scope table a.0 a.1 has_it)
]

pub group_below : (s : CoreState) (p j at : ℕ) (scope : Scope) → IsSteady s → IsWhole s.sessions (s.pass p) → s.phase j ≡ Live at scope → group_bound (s.pass p) ≤ at
group_below s p j at scope h whole live = elim (live_fenced s p j at scope h whole live) [
  | inl a ↦ omega (arith, least_first (horizon (s.pass p)) (all_recorded (s.pass p)))
  | inr a ↦ least_of _ at (all_recorded (s.pass p)) (held_in_all (s.pass p) j at scope a.0 a.1)
]
