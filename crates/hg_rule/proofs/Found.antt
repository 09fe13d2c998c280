-- The state of the rule is the one that is read.
use Rattle.std.proofs.Common.{◌≡◌, ℕ, zero, suc, ◌+◌, ◌<◌, ◌≤◌, Bool, true, false, eqb, ltb, List, [], ◌∷◌, length, refl, sym, ap, ◌∙◌, subst, arith, true≢false, eq-eqb}
use Rattle.std.proofs.lemmas.Bool.{le-ltb}
use Rattle.std.specs.Prelude.{max, slice_index, if◌then◌else◌, IfSome, ⊤}
use mathlib.Core.Option.{some}
use native.Mathlib.Decide.{dec_le}
use lib.ListN.{get_elem?}
use Rattle.hg_base.specs.Lists.{Each}
use Rattle.atomic_table.specs.Table.{State}
use Rattle.hg_core.specs.declared.register.Register.{Register}
use Rattle.hg_core.specs.declared.register.Register.TheVariants as registers
use Rattle.hg_core.specs.declared.phase.Phase.{Phase}
use Rattle.hg_core.specs.declared.phase.Phase.TheVariants as phases
use Rattle.hg_core.specs.Phases.{IsSession, scope_in}
use Rattle.hg_core.specs.Registers.{Shows, IsMaskOf}
use Rattle.hg_core.specs.Words.{register_of}
use Rattle.hg_core.specs.State.{CoreState}
use Rattle.hg_core.specs.Invariant.{IsSteady}
use Rattle.hg_rule.specs.declared.view.Part.{Part}
use Rattle.hg_rule.specs.declared.view.Part.TheVariants.{OfSession, OfBucket, OfCommit, OfPass, Away, Lent}
use Rattle.hg_rule.specs.declared.view.View.{View}
use Rattle.hg_rule.specs.declared.view.Sizes.{Sizes}
use Rattle.hg_rule.specs.Keys.{Key, session_key, bucket_key, commit_key, pass_key, home_key, both, has, one, count, tally, expected}
use Rattle.hg_rule.specs.Facts.{record_of, Shown, new_part}
use Rattle.hg_rule.specs.Words.{register_at, mask_at}
use Rattle.hg_rule.specs.Rules.{IsSized, HasRoom, AreUsed, Rule, IsBacked}
use Rattle.hg_rule.specs.Views.{session_there, bucket_there, commit_there, pass_there}
use Rattle.hg_rule.specs.Reading.{chosen, seek, passes_in, state_of, all_parts, registers_in, read, HasAll, AllRest, own_state, unmasked, IsRunsEnd}
use Rattle.hg_rule.proofs.Counts.{same_number, has_new, one_true, count_append}
use Rattle.hg_rule.proofs.Lists.{each_append}
use Rattle.hg_rule.proofs.Registers.{word_back, register_small}
use Rattle.hg_rule.proofs.Reached.{steady}

-- ---- each part is found

-- a part of the key, as it is in the state
abbrev Right : CoreState → Key → Part → Type 0
Right s k p = (has k p ≡ true) × Shown s p

pick : (s : CoreState) (k : Key) (p q : Part) (b : Bool) → has k p ≡ b → Shown s p → (b ≡ false → Right s k q) → Right s k (chosen b p q)
pick s k p q true e h f = (e, h)
pick s k p q false e h f = f refl

sought : (s : CoreState) (k : Key) (ps : List Part) → Each (Shown s) ps → (count k ps ≡ 0 → Shown s (new_part k)) → Right s k (seek k ps)
sought s k [] h f = (has_new k, f refl)
sought s k (p ∷ ps) h f = pick s k p (seek k ps) (has k p) refl h.0
    (λ e. sought s k ps h.1 (λ z. f (let x : ℕ = one (has k p) in let y : ℕ = count k ps in let e' : x ≡ 0 = ap one e in let z' : y ≡ 0 = z in omega arith)))

session_right : (s : CoreState) (j : ℕ) (p : Part) → Right s (session_key j) p → (s.phase j ≡ (session_there p).phase) × (s.log j ≡ (session_there p).log)
session_right s j (OfSession i t) h = let e = sym (same_number i j h.0) in (ap s.phase e ∙ h.1.0, ap s.log e ∙ h.1.1.0)
session_right s j (OfBucket b t) h = absurd (true≢false (sym h.0))
session_right s j (OfCommit t) h = absurd (true≢false (sym h.0))
session_right s j (OfPass p t) h = absurd (true≢false (sym h.0))
session_right s j (Away i t n) h = absurd (true≢false (sym h.0))
session_right s j (Lent i t) h = let e = sym (same_number i j h.0) in (ap s.phase e ∙ h.1.0, ap s.log e ∙ h.1.1.0)

bucket_right : (s : CoreState) (b : ℕ) (p : Part) → Right s (bucket_key b) p → (s.bucket b ≡ (bucket_there p).content) × (s.counters b ≡ (bucket_there p).counters)
bucket_right s b (OfSession i t) h = absurd (true≢false (sym h.0))
bucket_right s b (OfBucket i t) h = let e = sym (same_number i b h.0) in (ap s.bucket e ∙ h.1.0, ap s.counters e ∙ h.1.1)
bucket_right s b (OfCommit t) h = absurd (true≢false (sym h.0))
bucket_right s b (OfPass p t) h = absurd (true≢false (sym h.0))
bucket_right s b (Away i t n) h = absurd (true≢false (sym h.0))
bucket_right s b (Lent i t) h = absurd (true≢false (sym h.0))

commit_right : (s : CoreState) (p : Part) → Right s commit_key p → (s.history ≡ (commit_there p).history.list) × ((s.stamped_list ≡ (commit_there p).stamped) × (s.taken ≡ (commit_there p).taken))
commit_right s (OfSession i t) h = absurd (true≢false (sym h.0))
commit_right s (OfBucket b t) h = absurd (true≢false (sym h.0))
commit_right s (OfCommit t) h = h.1
commit_right s (OfPass p t) h = absurd (true≢false (sym h.0))
commit_right s (Away i t n) h = absurd (true≢false (sym h.0))
commit_right s (Lent i t) h = absurd (true≢false (sym h.0))

pass_right : (s : CoreState) (q : ℕ) (p : Part) → Right s (pass_key q) p → (s.pass q ≡ record_of (pass_there p)) × (s.visits q ≡ (pass_there p).visits)
pass_right s q (OfSession i t) h = absurd (true≢false (sym h.0))
pass_right s q (OfBucket b t) h = absurd (true≢false (sym h.0))
pass_right s q (OfCommit t) h = absurd (true≢false (sym h.0))
pass_right s q (Away i t n) h = absurd (true≢false (sym h.0))
pass_right s q (Lent i t) h = absurd (true≢false (sym h.0))
pass_right s q (OfPass i t) h = let e = sym (same_number i q h.0) in (ap s.pass e ∙ h.1.0, ap s.visits e ∙ h.1.1.0)

-- ---- how many passes there are

-- one more for a part of another kind, or of a pass
pass_below : (ps : List Part) (q : ℕ) → 0 < count (pass_key q) ps → q < passes_in ps
pass_below [] q l = absurd (omega arith)
pass_below (OfSession j s ∷ ps) q l = pass_below ps q (less _ l)
  where
    less : (n : ℕ) → 0 < 0 + n → 0 < n
    less n l = omega arith
pass_below (OfBucket b c ∷ ps) q l = pass_below ps q (less _ l)
  where
    less : (n : ℕ) → 0 < 0 + n → 0 < n
    less n l = omega arith
pass_below (OfCommit h ∷ ps) q l = pass_below ps q (less _ l)
  where
    less : (n : ℕ) → 0 < 0 + n → 0 < n
    less n l = omega arith
pass_below (Away j s n ∷ ps) q l = pass_below ps q (less _ l)
  where
    less : (n : ℕ) → 0 < 0 + n → 0 < n
    less n l = omega arith
pass_below (Lent j s ∷ ps) q l = pass_below ps q (less _ l)
  where
    less : (n : ℕ) → 0 < 0 + n → 0 < n
    less n l = omega arith
pass_below (OfPass p r ∷ ps) q l = go (eqb p q) refl (λ m. pass_below ps q m)
  where
    m : ℕ
    m = passes_in ps

    go : (b : Bool) → eqb p q ≡ b → (0 < count (pass_key q) ps → q < m) → q < max (suc p) m
    go true e f = let same : p ≡ q = same_number p q e in omega arith
    go false e f = let x : ℕ = one (eqb p q) in let y : ℕ = count (pass_key q) ps in let e' : x ≡ 0 = ap one e in let l' : 0 < x + y = l in let k : q < m = f (omega arith) in omega arith

pass_most : (n : ℕ) (ps : List Part) → ((q : ℕ) → 0 < count (pass_key q) ps → q < n) → passes_in ps ≤ n
pass_most n [] f = omega arith
pass_most n (OfSession j s ∷ ps) f = pass_most n ps (λ q l. f q (let y : ℕ = count (pass_key q) ps in let l' : 0 < y = l in omega arith))
pass_most n (OfBucket b c ∷ ps) f = pass_most n ps (λ q l. f q (let y : ℕ = count (pass_key q) ps in let l' : 0 < y = l in omega arith))
pass_most n (OfCommit h ∷ ps) f = pass_most n ps (λ q l. f q (let y : ℕ = count (pass_key q) ps in let l' : 0 < y = l in omega arith))
pass_most n (Away j s m ∷ ps) f = pass_most n ps (λ q l. f q (let y : ℕ = count (pass_key q) ps in let l' : 0 < y = l in omega arith))
pass_most n (Lent j s ∷ ps) f = pass_most n ps (λ q l. f q (let y : ℕ = count (pass_key q) ps in let l' : 0 < y = l in omega arith))
pass_most n (OfPass p r ∷ ps) f =
    let m : ℕ = passes_in ps in
    let a : m ≤ n = pass_most n ps (λ q l. f q (let x : ℕ = one (eqb p q) in let y : ℕ = count (pass_key q) ps in let l' : 0 < y = l in omega arith)) in
    let b : p < n = f p (let x : ℕ = one (eqb p p) in let y : ℕ = count (pass_key p) ps in let e : x ≡ 1 = ap one (eq-eqb p p refl) in omega arith) in
    omega arith

pub ltb_less : (p n : ℕ) → 0 < one (ltb p n) → p < n
ltb_less p n l = go (dec_le (suc p) n)
  where
    go : Dec (suc p ≤ n) → p < n
    go (yes h) = omega arith
    go (no h) = absurd (let x : ℕ = one (ltb p n) in let e : x ≡ 0 = ap one (le-ltb p n (omega arith)) in let l' : 0 < x = l in omega arith)

passes_are : (n : ℕ) (used : ℕ → Bool) (ps : List Part) → AreUsed n used → ((q : ℕ) → count (pass_key q) ps ≡ one (used q)) → passes_in ps ≡ n
passes_are n used ps a f = go n refl
  where
    most : passes_in ps ≤ n
    most = pass_most n ps (λ q l. a.below q (one_true (used q) (let x : ℕ = one (used q) in let y : ℕ = count (pass_key q) ps in let e : y ≡ x = f q in let l' : 0 < y = l in omega arith)))

    go : (m : ℕ) → m ≡ n → passes_in ps ≡ n
    go zero e = let x : ℕ = passes_in ps in let b : x ≤ n = most in omega arith
    go (suc m) e =
        let x : ℕ = passes_in ps in
        let b : x ≤ n = most in
        let c : m < x = pass_below ps m (let x : ℕ = one (used m) in let y : ℕ = count (pass_key m) ps in let h : y ≡ x = f m in let g : x ≡ 1 = ap one (a.last m e) in omega arith) in
        omega arith

-- ---- the whole state

-- the keys whose parts make up the state; where a session's part has its place is none of it
abbrev pub HasPart : Key → Type 0
HasPart (session_key j) = ⊤
HasPart (bucket_key b) = ⊤
HasPart commit_key = ⊤
HasPart (pass_key p) = ⊤
HasPart (home_key j) = ⊥

pub state_is : (z : Sizes) (s : CoreState) (used : ℕ → Bool) (n : ℕ) (register : ℕ → Register) (mask : ℕ → ℕ) (ps : List Part) → IsSized z s → AreUsed s.passes used → Each (Shown s) ps
    → ((k : Key) → HasPart k → count k ps ≡ expected z used k)
    → ((k : Key) → expected z used k ≡ 0 → Shown s (new_part k))
    → s.mark ≡ n → ((j : ℕ) → s.register j ≡ register j) → ((j : ℕ) → s.mask j ≡ mask j) → s ≡ state_of z n register mask ps
state_is z s used n register mask ps sized all shown counts outside mark registers masks = λ i. record {
  sessions = sized.sessions i;
  tables = sized.tables i;
  buckets = sized.buckets i;
  quota = sized.quota i;
  passes = sym (passes_are s.passes used ps all (λ q. counts (pass_key q) tt)) i;
  mark = mark i;
  register = λ j. registers j i;
  mask = λ j. masks j i;
  history = (commit_right s _ (right commit_key tt)).0 i;
  stamped_list = (commit_right s _ (right commit_key tt)).1.0 i;
  taken = (commit_right s _ (right commit_key tt)).1.1 i;
  phase = λ j. (session_right s j _ (right (session_key j) tt)).0 i;
  log = λ j. (session_right s j _ (right (session_key j) tt)).1 i;
  bucket = λ b. (bucket_right s b _ (right (bucket_key b) tt)).0 i;
  counters = λ b. (bucket_right s b _ (right (bucket_key b) tt)).1 i;
  pass = λ p. (pass_right s p _ (right (pass_key p) tt)).0 i;
  visits = λ p. (pass_right s p _ (right (pass_key p) tt)).1 i;
}
  where
    right : (k : Key) → HasPart k → Right s k (seek k ps)
    right k part = sought s k ps shown (λ e. outside k (sym (counts k part) ∙ e))

-- ---- the state that words and views show

tally_all : (k : Key) (vs : List View) → count k (all_parts vs) ≡ tally k vs
tally_all k [] = refl
tally_all k (v ∷ vs) = count_append k v.parts (all_parts vs) ∙ ap (λ n. count k v.parts + n) (tally_all k vs)

all_shown : (s : CoreState) (vs : List View) → ((i : ℕ) (v : View) → get_elem? vs i ≡ some v → Each (Shown s) v.parts) → Each (Shown s) (all_parts vs)
all_shown s [] h = tt
all_shown s (v ∷ vs) h = each_append (Shown s) v.parts (all_parts vs) (h 0 v refl) (all_shown s vs (λ i w e. h (suc i) w e))

idle_shows : (register : Register) (phase : Phase) → Shows phase register → phase ≡ phases.Idle → register ≡ registers.Idle
idle_shows register phase a e = subst (λ p. Shows p register) e a

pub inside_is : (z : Sizes) (j : ℕ) → both (ltb 0 j) (ltb j (suc z.sessions)) ≡ true → IsSession z.sessions j
inside_is z j e = record { first = sure 0 j (left (ltb 0 j) _ e); last = let l : j < suc z.sessions = sure j (suc z.sessions) (right (ltb 0 j) _ e) in omega arith }
  where
    left : (a b : Bool) → both a b ≡ true → a ≡ true
    left true b e = refl
    left false b e = e

    right : (a b : Bool) → both a b ≡ true → b ≡ true
    right true b e = e
    right false b e = absurd (true≢false (sym e))

    sure : (a b : ℕ) → ltb a b ≡ true → a < b
    sure a b e = ltb_less a b (let x : ℕ = one (ltb a b) in let f : x ≡ 1 = ap one e in omega arith)

outside_idle : (z : Sizes) (t : State ℕ View) (r : Rule z t) (j : ℕ) → both (ltb 0 j) (ltb j (suc z.sessions)) ≡ false → r.state.register j ≡ registers.Idle
outside_idle z t r j e = idle_shows (r.state.register j) (r.state.phase j) ((steady r).registers_agree.shows j) (r.outside (session_key j) (ap one e)).0

pub reads : (z : Sizes) (t : State ℕ View) → HasRoom z → (r : Rule z t) → r.state ≡ read z t.words t.views
reads z t room r = state_is z r.state r.used (slice_index t.words 0) (registers_in z t.words) (λ j. slice_index t.words (mask_at j)) (all_parts t.views) r.sized r.passes
    (all_shown r.state t.views (λ i v e. (r.shown i v e).parts))
    (λ k part. tally_all k t.views ∙ r.exact k) r.outside (sym r.words.mark) (λ j. go j (both (ltb 0 j) (ltb j (suc z.sessions))) refl) (λ j. sym (r.words.masks j))
  where
    go : (j : ℕ) (b : Bool) → both (ltb 0 j) (ltb j (suc z.sessions)) ≡ b → r.state.register j ≡ (if b then register_of (slice_index t.words (register_at j)) else registers.Idle)
    go j true e = sym (ap register_of (r.words.registers j (inside_is z j e)) ∙ word_back (r.state.register j) (register_small z r.state j room r.sized (steady r)))
    go j false e = outside_idle z t r j e

-- ---- one view that has everything

pub full : (c : ℕ) (b : Bool) → c ≤ one b → (b ≡ true → 0 < c) → c ≡ one b
full c true l f = let p : 0 < c = f refl in omega arith
full c false l f = omega arith

pub less_is : (i n : ℕ) → ltb i n ≡ true → i < n
less_is i n e = ltb_less i n (let x : ℕ = one (ltb i n) in let f : x ≡ 1 = ap one e in omega arith)

has_all : (z : Sizes) (n : ℕ) (v : View) (b : IsBacked z n v) → HasAll z v → (k : Key) → HasPart k → count k v.parts ≡ expected z b.used k
has_all z n v b h (home_key j) part = absurd part
has_all z n v b h (session_key j) part = full (count (session_key j) v.parts) (both (ltb 0 j) (ltb j (suc z.sessions))) (b.most (session_key j)) (λ e. h.sessions j (inside_is z j e))
has_all z n v b h (bucket_key i) part = full (count (bucket_key i) v.parts) (ltb i z.buckets) (b.most (bucket_key i)) (λ e. h.buckets i (less_is i z.buckets e))
has_all z n v b h commit_key part = let a : ℕ = count commit_key v.parts in let c : 0 < a = h.commit in let d : a ≤ 1 = b.most commit_key in omega arith
has_all z n v b h (pass_key p) part = b.alone h.passes p

-- no mask counts while all rest
steady_unmasked : (s : CoreState) → IsSteady s → ((j : ℕ) → s.phase j ≡ phases.Idle) → IsSteady (unmasked s)
steady_unmasked s h rest = record {
  mark_is_length = h.mark_is_length;
  registers_agree = record { shows = h.registers_agree.shows; masks = λ j. subst (λ p. IfSome (scope_in p) (λ scope. IsMaskOf s.tables scope 0)) (sym (rest j)) tt; others = h.registers_agree.others };
  covered = h.covered;
  open_writes_stand = h.open_writes_stand;
  stamped_is_next = h.stamped_is_next;
  contents_are_ordered = h.contents_are_ordered;
  contents_are_placed = h.contents_are_placed;
  records_bound_sessions = h.records_bound_sessions;
  open_writes_may_commit = h.open_writes_may_commit;
  history = h.history;
  no_update_is_lost = h.no_update_is_lost;
  logs_answer = h.logs_answer;
  replies_answer = h.replies_answer;
  records_reach_logs = h.records_reach_logs;
  counters_balance = h.counters_balance;
  visits_stay = h.visits_stay;
  taken_at_most_mark = h.taken_at_most_mark;
}

pub owned : (z : Sizes) (n : ℕ) (v : View) → IsBacked z n v → HasAll z v → AllRest v → IsSteady (own_state z v) × ((n ≡ (own_state z v).mark) × IsRunsEnd z v)
owned z n v b h rest = (subst IsSteady same (steady_unmasked s b.steady resting), (sym b.mark_is ∙ mark, record { state = s; reached = b.reached; own = same }))
  where
    s : CoreState
    s = b.state

    counts : (k : Key) → HasPart k → count k v.parts ≡ expected z b.used k
    counts = has_all z n v b h

    right : (k : Key) → HasPart k → Right s k (seek k v.parts)
    right k part = sought s k v.parts b.true_of.parts (λ e. b.outside k (sym (counts k part) ∙ e))

    mark : s.mark ≡ length (commit_there (seek commit_key v.parts)).history.list
    mark = b.steady.mark_is_length.is_length ∙ ap length (commit_right s _ (right commit_key tt)).0

    resting : (j : ℕ) → s.phase j ≡ phases.Idle
    resting j = (session_right s j _ (right (session_key j) tt)).0 ∙ rest j

    same : unmasked s ≡ own_state z v
    same = ap unmasked (state_is z s b.used _ (λ _. registers.Idle) s.mask v.parts b.sized b.passes b.true_of.parts counts b.outside mark
        (λ j. idle_shows (s.register j) (s.phase j) (b.steady.registers_agree.shows j) (resting j)) (λ j. refl))
