-- The events of a collector's pass: each changes the pass's record, and a move the register too.
use Rattle.std.proofs.Common.{◌≡◌, ℕ, suc, ◌<◌, ◌≤◌, List, [], length, Option, Some, None, Bool, true, false, inl, inr, refl, sym, subst, arith}
use Rattle.std.specs.Prelude.{if◌then◌else◌, IfSome}
use Rattle.hg_base.specs.declared.scope.Scope.{Scope}
use Rattle.hg_base.specs.declared.scope.Scope.TheVariants as scopes
use Rattle.hg_base.specs.Freshness.{is_declared}
use Rattle.hg_core.specs.declared.loaded.Loaded.{Loaded}
use Rattle.hg_core.specs.declared.register.Register.{Register}
use Rattle.hg_core.specs.declared.register.Register.TheVariants as registers
use Rattle.hg_core.specs.declared.phase.Phase.{Phase}
use Rattle.hg_core.specs.declared.phase.Phase.TheVariants.{Idle, Declared, Probed, Entered, Fixed, Live}
use Rattle.hg_core.specs.Words.{number_of}
use Rattle.hg_core.specs.declared.journal.PassEntry.TheVariants.{Tried, Took}
use Rattle.hg_core.specs.Phases.{scope_in}
use Rattle.hg_core.specs.Passes.{PassRecord, found}
use Rattle.hg_core.specs.State.{CoreState}
use Rattle.hg_core.specs.Events.{put, moved, moved_in, masked_in, noting, begun_record, sampled, masked, moved_at, happens, May, Mark, Sample, SampleMask, Move, Miss, Take}
use Rattle.hg_core.specs.Registers.{Shows, IsMaskOf, RegistersAgree}
use Rattle.hg_core.specs.Bounds.{IsWithin, Bounds}
use Rattle.hg_core.specs.Reach.{StandsIn}
use Rattle.hg_core.specs.Invariant.{IsSteady}
use Rattle.hg_core.proofs.Indices.{by_number}
use Rattle.hg_core.proofs.Loading.{found_one, changed_each}
use Rattle.hg_core.proofs.Recalls.{says_now}

-- ---- another record of a pass

-- what a record has of session j bounds the session, and stands in its log
abbrev pub IsTold : CoreState → PassRecord → ℕ → Loaded → Type 0
IsTold s pass j loaded = Bounds pass.mark loaded (s.phase j) × StandsIn (pass.known j) loaded.register (s.log j) (s.phase j)

both_some : {X : Type 0} (o : Option X) (P Q : X → Type 0) → IfSome o P → IfSome o Q → IfSome o (λ x. P x × Q x)
both_some None P Q p q = tt
both_some (Some x) P Q p q = (p, q)

first_some : {X : Type 0} (o : Option X) (P Q : X → Type 0) → IfSome o (λ x. P x × Q x) → IfSome o P
first_some None P Q h = tt
first_some (Some x) P Q h = h.0

second_some : {X : Type 0} (o : Option X) (P Q : X → Type 0) → IfSome o (λ x. P x × Q x) → IfSome o Q
second_some None P Q h = tt
second_some (Some x) P Q h = h.1

told : (s : CoreState) (p : ℕ) → IsSteady s → (j : ℕ) → IfSome (found j (s.pass p).loaded) (IsTold s (s.pass p) j)
told s p h j = both_some _ _ _ (h.records_bound_sessions p j) (h.records_reach_logs.stands p j)

-- a pass has another record, and the registers show the phases
with_record : (s : CoreState) (p : ℕ) (more : PassRecord) (register : ℕ → Register) → IsSteady s → RegistersAgree s.sessions s.tables s.phase register s.mask → more.mark ≤ s.mark →
    ((j : ℕ) → more.known j ≤ length (s.log j)) → ((j : ℕ) → IfSome (found j more.loaded) (IsTold s more j)) → IsSteady (record s { register = register; pass = put s.pass p more })
with_record s p more register h agree low known told = record {
  mark_is_length = record {
    is_length = h.mark_is_length.is_length;
    sessions = h.mark_is_length.sessions;
    passes = by_number p (λ q b. (if b then more else s.pass q).mark ≤ s.mark) low (λ q other. h.mark_is_length.passes q);
  };
  taken_at_most_mark = h.taken_at_most_mark;
  contents_are_placed = h.contents_are_placed;
  counters_balance = h.counters_balance;
  visits_stay = h.visits_stay;
  history = h.history;
  no_update_is_lost = h.no_update_is_lost;
  registers_agree = agree;
  records_bound_sessions = by_number p (λ q b. (j : ℕ) → IfSome (found j (if b then more else s.pass q).loaded)
      (λ loaded. Bounds (if b then more else s.pass q).mark loaded (s.phase j))) (λ j. first_some _ _ _ (told j)) (λ q other. h.records_bound_sessions q);
  records_reach_logs = record {
    known = by_number p (λ q b. (j : ℕ) → (if b then more else s.pass q).known j ≤ length (s.log j)) known (λ q other. h.records_reach_logs.known q);
    stands = by_number p (λ q b. (j : ℕ) → IfSome (found j (if b then more else s.pass q).loaded)
        (λ loaded. StandsIn ((if b then more else s.pass q).known j) loaded.register (s.log j) (s.phase j))) (λ j. second_some _ _ _ (told j)) (λ q other. h.records_reach_logs.stands q);
  };
  covered = h.covered;
  open_writes_may_commit = h.open_writes_may_commit;
  contents_are_ordered = h.contents_are_ordered;
  open_writes_stand = h.open_writes_stand;
  stamped_is_next = h.stamped_is_next;
  replies_answer = h.replies_answer;
  logs_answer = h.logs_answer;
}

-- ---- the mark, and a register

pub mark_kept : (s : CoreState) (p : ℕ) (known : ℕ → ℕ) → IsSteady s → May s (Mark p known) → IsSteady (happens s (Mark p known))
mark_kept s p known h may = with_record s p (begun_record s.mark known (s.pass p)) s.register h h.registers_agree (omega arith) may.known_of (λ j. tt)

-- what a register that is loaded now bounds
pub bounds_now : (mark : ℕ) (register : Register) (p : Phase) → Shows p register → Bounds mark (record { register = register; mask = None }) p
bounds_now mark register Idle a = tt
bounds_now mark register (Declared scope) a = tt
bounds_now mark register (Probed scope f) a = tt
bounds_now mark register (Entered scope f) a = tt
bounds_now mark register (Fixed scope f m) a = rw a.0 (inr a.1)
bounds_now mark register (Live at scope) a = let e = a.1.value in rw e (inr (inr (refl, refl, tt)))

pub sample_kept : (s : CoreState) (p j : ℕ) → IsSteady s → May s (Sample p j) → IsSteady (happens s (Sample p j))
sample_kept s p j h may = with_record s p (sampled (s.pass p) j (s.register j)) s.register h h.registers_agree (h.mark_is_length.passes p) (h.records_reach_logs.known p)
    (by_number j (λ k b. IfSome (if b then Some (record { register = s.register j; mask = None }) else found k (s.pass p).loaded) (IsTold s (s.pass p) k)) (
      bounds_now _ (s.register j) (s.phase j) (h.registers_agree.shows j),
      ([], s.log j, record { log_is = refl; longer = h.records_reach_logs.known p j; says = says_now (s.register j) (s.log j) (s.phase j) (h.registers_agree.shows j) (h.logs_answer.reads j) }),
    )
    (λ k other. told s p h k))

-- ---- a mask

-- a declared scope's mask word has its tables
mask_within : (tables mask : ℕ) (scope : Scope) → IsMaskOf tables scope mask → true ≡ is_declared scope → IsWithin scope (scopes.Declared mask)
mask_within tables mask scopes.All is e = absurd (cc)
mask_within tables mask (scopes.Declared m) is e = let same : mask ≡ m = is.value in rw same (λ table x. x)

-- the mask that is loaded now is that of the session's tables, where it is live at the number that was loaded
bounds_masked : (tables mark number mask : ℕ) (moved : Bool) (p : Phase) → IfSome (scope_in p) (λ scope. IsMaskOf tables scope mask) →
    Bounds mark (record { register = registers.Live number true moved; mask = None }) p → Bounds mark (record { register = registers.Live number true moved; mask = Some mask }) p
bounds_masked tables mark number mask moved Idle is b = tt
bounds_masked tables mark number mask moved (Declared scope) is b = tt
bounds_masked tables mark number mask moved (Probed scope f) is b = tt
bounds_masked tables mark number mask moved (Entered scope f) is b = tt
bounds_masked tables mark number mask moved (Fixed scope f m) is b = b
bounds_masked tables mark number mask moved (Live at scope) is b = elim b [
  | inl low ↦ inl low
  | inr holds ↦ elim holds [
    | inl none ↦ absurd none
    | inr here ↦ inr (inr (here.0, here.1, mask_within tables mask scope is here.1))
  ]
]

pub sample_mask_kept : (s : CoreState) (p j : ℕ) → IsSteady s → May s (SampleMask p j) → IsSteady (happens s (SampleMask p j))
sample_mask_kept s p j h (number, was_moved, found_it) =
    let one : Loaded = record { register = registers.Live number true was_moved; mask = None } in
    let now = found_one (IsTold s (s.pass p) j) _ one found_it (told s p h j) in
    with_record s p (masked (s.pass p) j (s.mask j)) s.register h h.registers_agree (h.mark_is_length.passes p) (h.records_reach_logs.known p)
    (changed_each (IsTold s (s.pass p)) _ j one (s.pass p).loaded found_it
    (bounds_masked s.tables _ number (s.mask j) was_moved (s.phase j) (h.registers_agree.masks j) now.0, now.1)
    (told s p h))

-- ---- a move

-- the register of a session with declared tables, moved
moved_shows : (n : ℕ) (p : Phase) → Shows p (registers.Live n true false) → Shows p (registers.Live n true true)
moved_shows n Idle a = absurd (cc)
moved_shows n (Declared scope) a = absurd (cc)
moved_shows n (Probed scope f) a = absurd (cc)
moved_shows n (Entered scope f) a = absurd (cc)
moved_shows n (Fixed scope f m) a = absurd (let e = a.0 in cc)
moved_shows n (Live at scope) a =
    let e = a.1.value in
    let number : n ≡ at = cc in
    let same : true ≡ is_declared scope = cc in
    (true, record { value = λ i. registers.Live (number i) (same i) true; declared = λ t. sym same })

-- whether the register is moved makes no difference to what it bounds
bounds_moved : (mark number : ℕ) (mask : Option ℕ) (p : Phase) → Bounds mark (record { register = registers.Live number true false; mask = mask }) p →
    Bounds mark (record { register = registers.Live number true true; mask = mask }) p
bounds_moved mark number mask Idle b = tt
bounds_moved mark number mask (Declared scope) b = tt
bounds_moved mark number mask (Probed scope f) b = tt
bounds_moved mark number mask (Entered scope f) b = tt
bounds_moved mark number mask (Fixed scope f m) b = b
bounds_moved mark number mask (Live at scope) b = b

-- nor to what it says of the log, save that its tables are declared
stands_moved : (known number : ℕ) (log : List _) (p : Phase) → StandsIn known (registers.Live number true false) log p → StandsIn known (registers.Live number true true) log p
stands_moved known number log p (later, before, r) = let says = r.says in (
  later,
  before,
  record { log_is = r.log_is; longer = r.longer; says = (says.0, record { snapshot = says.1.snapshot; tables = says.1.tables; moves = λ t. refl }) },
)

pub move_kept : (s : CoreState) (p j : ℕ) → IsSteady s → May s (Move p j) → IsSteady (happens s (Move p j))
move_kept s p j h (n, mask, may) =
    let one : Loaded = record { register = registers.Live n true false; mask = mask } in
    let shown : Shows (s.phase j) (registers.Live n true true) = moved_shows n (s.phase j) (subst (Shows (s.phase j)) may.shown (h.registers_agree.shows j)) in
    let was = found_one (IsTold s (s.pass p) j) _ one may.loaded (told s p h j) in
    with_record s p (moved_at (s.pass p) j (number_of (s.register j))) (put s.register j (moved (s.register j))) h
    (record {
      shows = by_number j (λ k b. Shows (s.phase k) (if b then moved (s.register j) else s.register k)) (rw may.shown shown) (λ k other. h.registers_agree.shows k);
      masks = h.registers_agree.masks;
      others = h.registers_agree.others;
    })
    (h.mark_is_length.passes p) (h.records_reach_logs.known p)
    (changed_each (IsTold s (s.pass p)) _ j one (s.pass p).loaded may.loaded
    (bounds_moved _ n mask (s.phase j) was.0, stands_moved _ n (s.log j) (s.phase j) was.1)
    (told s p h))

pub miss_kept : (s : CoreState) (p j number : ℕ) → IsSteady s → May s (Miss p j number) → IsSteady (happens s (Miss p j number))
miss_kept s p j number h may = with_record s p (noting (Tried j number false) (s.pass p)) s.register h h.registers_agree (h.mark_is_length.passes p) (h.records_reach_logs.known p) (told s p h)

-- ---- a group taken

taken_more : (s : CoreState) → IsSteady s → s.taken < s.mark → IsSteady (record s { taken = suc s.taken })
taken_more s h left = record {
  mark_is_length = h.mark_is_length;
  registers_agree = h.registers_agree;
  covered = h.covered;
  open_writes_stand = h.open_writes_stand;
  stamped_is_next = h.stamped_is_next;
  contents_are_ordered = h.contents_are_ordered;
  contents_are_placed = h.contents_are_placed;
  visits_stay = h.visits_stay;
  counters_balance = h.counters_balance;
  records_bound_sessions = h.records_bound_sessions;
  open_writes_may_commit = h.open_writes_may_commit;
  history = h.history;
  no_update_is_lost = h.no_update_is_lost;
  logs_answer = h.logs_answer;
  replies_answer = h.replies_answer;
  records_reach_logs = h.records_reach_logs;
  taken_at_most_mark = omega (arith, left);
}

pub take_kept : (s : CoreState) (p : ℕ) → IsSteady s → May s (Take p) → IsSteady (happens s (Take p))
take_kept s p h may =
    let noted : PassRecord = noting (Took (suc s.taken)) (s.pass p) in
    taken_more (record s { pass = put s.pass p noted }) (with_record s p noted s.register h h.registers_agree (h.mark_is_length.passes p) (h.records_reach_logs.known p) (told s p h)) may.left
