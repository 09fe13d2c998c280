-- What a collector's pass loads into its record is allowed: mark, sample and sample_mask.
use Rattle.std.proofs.Common.{suc, ◌≡◌, ℕ, ◌+◌, Bool, true, false, List, [], ◌∷◌, ◌++◌, length, get_or, Option, Some, None, refl, sym, ap, ◌∙◌, subst, arith}
use Rattle.std.proofs.Common.{inl, inr, length-append, le_refl}
use Rattle.std.specs.Prelude.{if◌then◌else◌, IsTrue, IsNone, max, ◌<◌, ◌≤◌, ◌==◌}
use Rattle.std.proofs.lemmas.Bool.Decides.{nat_tests}
use mathlib.Core.Option.{some, none}
use lib.ListN.{get_elem?}
use Rattle.atomic_table.specs.Table.{step, keeps, Allows}
use Rattle.hg_base.specs.declared.scope.Scope.{Scope}
use Rattle.hg_base.specs.declared.scope.Snapshot.{Snapshot}
use Rattle.hg_base.specs.Lists.{Each}
use Rattle.hg_core.specs.declared.loaded.Loaded.{Loaded}
use Rattle.hg_core.specs.declared.register.Register.{Register}
use Rattle.hg_core.specs.declared.register.Register.TheVariants as registers
use Rattle.hg_core.specs.declared.phase.Phase.{Phase}
use Rattle.hg_core.specs.declared.phase.Phase.TheVariants.{Idle, Declared, Probed, Entered, Fixed, Live}
use Rattle.hg_core.specs.declared.log.LogEntry.{LogEntry}
use Rattle.hg_core.specs.declared.log.LogEntry.TheVariants.{Began, Saw, Refused, Outside, Wrote, Undid, Published, Over}
use Rattle.hg_core.specs.Words.{IsRegister, shows_declared, register_of}
use Rattle.hg_core.specs.Logs.{current}
use Rattle.hg_core.specs.Phases.{IsSession, snapshot_in}
use Rattle.hg_core.specs.Passes.{PassRecord, found}
use Rattle.hg_core.specs.Contents.{has_stamped}
use Rattle.hg_core.specs.Registers.{Shows}
use Rattle.hg_core.specs.State.{CoreState}
use Rattle.hg_core.specs.declared.journal.PassEntry.TheVariants.{Marked}
use Rattle.hg_core.specs.Events.{moved, masked_in, sampled as sampling, masked as with_mask, happens, Mark, Sample, SampleMask}
use Rattle.hg_core.proofs.Indices.{put_here, put_else}
use Rattle.hg_rule.specs.declared.view.PassPart.{PassPart}
use Rattle.hg_rule.specs.declared.view.Part.{Part}
use Rattle.hg_rule.specs.declared.view.Part.TheVariants.{OfSession, OfBucket, OfCommit, OfPass, Away, Lent}
use Rattle.hg_rule.specs.declared.view.Sight.{Sight}
use Rattle.hg_rule.specs.declared.view.Sight.TheVariants as sights
use Rattle.hg_rule.specs.declared.view.Event.TheVariants as events
use Rattle.hg_rule.specs.declared.view.View.{View}
use Rattle.hg_rule.specs.declared.view.Sizes.{Sizes}
use Rattle.hg_rule.specs.Keys.{pass_key, key_of, count}
use Rattle.hg_rule.specs.Facts.{IsAmong, groups, heard, HasBegun, Shown, Known}
use Rattle.hg_rule.specs.Words.{register_at, mask_at}
use Rattle.hg_rule.specs.Rules.{HasRoom, Rule}
use Rattle.hg_rule.specs.Views.{number, pass, others, HasPass, then_has}
use Rattle.hg_rule.specs.Steps.{Seated, Samples, SamplesMask, AwaitsMask, beginning, loading, masking}
use Rattle.hg_rule.specs.Steps.{marked, sampled, masked}
use Rattle.hg_rule.proofs.Counts.{another, away_same, one_true}
use Rattle.hg_rule.proofs.Lists.{starts_same}
use Rattle.hg_rule.proofs.Keeps.{Table, keep}
use Rattle.hg_rule.proofs.Turning.{there, has_part}
use Rattle.hg_rule.proofs.Registers.{word_back, loaded_words, register_small}
use Rattle.hg_rule.proofs.Evidence.{own_pass, at_board, history_at, one_register, log_stays}
use Rattle.hg_rule.proofs.Reached.{steady, acted}

-- what a pass's step leaves
pub record Collecting (c d : CoreState) (p : ℕ) : Type 0 where
  pub pass : (q : ℕ) → (q ≡ p → ⊥) → d.pass q ≡ c.pass q
  pub phase : d.phase ≡ c.phase
  pub log : d.log ≡ c.log
  pub bucket : d.bucket ≡ c.bucket
  pub counters : d.counters ≡ c.counters
  pub history : d.history ≡ c.history
  pub stamped : d.stamped_list ≡ c.stamped_list
  pub taken : d.taken ≡ c.taken
  pub visits : d.visits ≡ c.visits
  pub mark : c.mark ≤ d.mark

pub pass_only : (c d : CoreState) (p : ℕ) (old : PassPart) → Collecting c d p → (q : Part) → count (key_of q) (OfPass p old ∷ []) ≡ 0 → Shown c q → Shown d q
pass_only c d p old h (OfSession k t) away s = ((λ i. h.phase i k) ∙ s.0, ((λ i. h.log i k) ∙ s.1.0, ap (has_stamped k) h.stamped ∙ s.1.1))
pass_only c d p old h (OfBucket b t) away s = ((λ i. h.bucket i b) ∙ s.0, (λ i. h.counters i b) ∙ s.1)
pass_only c d p old h (OfCommit t) away s = (h.history ∙ s.0, (h.stamped ∙ s.1.0, h.taken ∙ s.1.1))
pass_only c d p old h (Away k t m) away s = away_same c d k t m (λ i. h.phase i k) (λ i. h.log i k) h.mark s
pass_only c d p old h (Lent k t) away s = ((λ i. h.phase i k) ∙ s.0, ((λ i. h.log i k) ∙ s.1.0, ap (has_stamped k) h.stamped ∙ s.1.1))
pass_only c d p old h (OfPass q t) away s = (h.pass q (another p q away) ∙ s.0, ((λ i. h.visits i q) ∙ s.1.0, s.1.1))

-- what was heard of a log is no longer than the log
heard_most : (s : CoreState) (j : ℕ) (xs : List Sight) → Each (Known s) xs → heard j xs ≤ length (s.log j)
heard_most s j [] h = omega arith
heard_most s j (sights.Saw g ∷ xs) h = heard_most s j xs h.1
heard_most s j (sights.Took n ∷ xs) h = heard_most s j xs h.1
heard_most s j (sights.Did e ∷ xs) h = heard_most s j xs h.1
heard_most s j (sights.Heard k log ∷ xs) h = go (k == j) refl (heard_most s j xs h.1)
  where
    go : (b : Bool) → (k == j) ≡ b → heard j xs ≤ length (s.log j) → (if b then max (length log) (heard j xs) else heard j xs) ≤ length (s.log j)
    go false e less = less
    go true e less =
        let same : k ≡ j = grind (arith, nat_tests) in
        let l : length (s.log k) ≡ length h.0.0 + length log = ap length h.0.1 ∙ length-append h.0.0 log in
        let m : length (s.log k) ≡ length (s.log j) = ap (λ n. length (s.log n)) same in
        let a : ℕ = length (s.log j) in let b : ℕ = length log in let x : ℕ = heard j xs in let i : x ≤ a = less in
        omega arith

-- the pass of a view is there
pub pass_low : (z : Sizes) (t : Table) (r : Rule z t) (id : ℕ) (v : View) → get_elem? t.views id ≡ some v → HasPass v → number v < r.state.passes
pass_low z t r id v at is = r.passes.below (number v) (one_true (r.used (number v)) (there z t r id v (pass_key (number v)) at (has_part (OfPass (number v) (pass v)) (others v) v.parts is)))

pub marks : (z : Sizes) (slots id : ℕ) (m : Seated) → HasRoom z → HasPass m.0 → Allows (Rule z) slots id m 0 (λ n. n) (marked (step slots 0 0 0 none) m)
marks z slots id m room is t r deep at small =
    let v : View = m.0 in
    let c = r.state in
    let p : ℕ = number v in
    let n : ℕ = get_or t.words 0 0 in
    let known : ℕ → ℕ = λ j. heard j v.sights in
    let new : PassPart = beginning n v.sights (pass v) in
    let d : CoreState = happens c (Mark p known) in
    let own = own_pass z t r id v at is in
    let w = loaded_words z c t.words 0 r.words in
    let grows = log_stays c in (
      then_has v (OfPass p new ∷ others v) (sights.Saw (groups c.history) ∷ []) (events.Mark p n),
      keeps,
      tt,
      keep z t r id v (OfPass p (pass v) ∷ []) (OfPass p new ∷ []) (others v) (sights.Saw (groups c.history) ∷ []) (events.Mark p n) 0 n d at is record {
        reached = acted z c (Mark p known) r.reached record { there = pass_low z t r id v at is; known_of = λ j. heard_most c j v.sights (r.shown id v at).sights };
        sized = record { sessions = r.sized.sessions; tables = r.sized.tables; buckets = r.sized.buckets; quota = r.sized.quota };
        passes = refl;
        shows = record { count = w.count; mark = w.mark; registers = w.registers; masks = w.masks };
        grows = record { history = grows.history; logs = grows.logs; taken = grows.taken };
        only = pass_only c d p (pass v) record {
          pass = λ q other. put_else c.pass p q _ other;
          phase = refl;
          log = refl;
          bucket = refl;
          counters = refl;
          history = refl;
          stamped = refl;
          taken = refl;
          visits = refl;
          mark = le_refl _;
        };
        counts = λ k. refl;
        shared = refl;
        shown = ((put_here c.pass p _ ∙ (λ i. record { mark = sym r.words.mark i; round = suc (own.0 i).round; known = known; loaded = []; journal = (own.0 i).journal ++ Marked (sym r.words.mark i) ∷ [] }), own.1), tt);
        known = (starts_same c.history, tt);
        stands = tt;
      },
      ((c.history, (history_at z t r id v room at, refl)), refl),
    )

abbrev taken_out : Snapshot → Option Snapshot → Snapshot
taken_out other None = other
taken_out other (Some snapshot) = snapshot

-- the log of a session that reads has the begin of its transaction
begun_now : (log : List LogEntry) (at : ℕ) (scope : Scope) → current log ≡ Some (record { at = at; scope = scope }) → IsAmong (Began at scope) log
begun_now [] at scope e = absurd (let z = e in cc)
begun_now (Began a s ∷ log) at scope e = let same = ap (taken_out (record { at = a; scope = s })) e in inl (ap (λ (x : Snapshot). Began x.at x.scope) same)
begun_now (Over ∷ log) at scope e = absurd (let z = e in cc)
begun_now (Saw t low high b rows ∷ log) at scope e = inr (begun_now log at scope e)
begun_now (Refused q answer ∷ log) at scope e = inr (begun_now log at scope e)
begun_now (Outside t ∷ log) at scope e = inr (begun_now log at scope e)
begun_now (Wrote q image ∷ log) at scope e = inr (begun_now log at scope e)
begun_now (Undid q ∷ log) at scope e = inr (begun_now log at scope e)
begun_now (Published n ∷ log) at scope e = inr (begun_now log at scope e)

register_begun : (register : Register) (phase : Phase) (log : List LogEntry) → Shows phase register → current log ≡ snapshot_in phase → HasBegun register log
register_begun register Idle log a e = rw a tt
register_begun register (Declared scope) log a e = rw a tt
register_begun register (Probed scope f) log a e = rw a tt
register_begun register (Entered scope f) log a e = rw a tt
register_begun register (Fixed scope f m) log a e = let k = a.0 in rw k tt
register_begun register (Live at scope) log a e = let k = a.1.value in rw k (scope, refl, begun_now log at scope e)

samples_there : (z : Sizes) (slots id j : ℕ) (m : Seated) → HasRoom z → HasPass m.0 → IsSession z.sessions j → found j (pass m.0).loaded ≡ None →
    Allows (Rule z) slots id m (register_at j) (λ n. n) (sampled (step slots (register_at j) 0 0 none) m)
samples_there z slots id j m room is inside fresh t r deep at small =
    let v : View = m.0 in
    let c = r.state in
    let p : ℕ = number v in
    let n : ℕ = get_or t.words (register_at j) 0 in
    let register : Register = register_of n in
    let back : c.register j ≡ register = sym (ap register_of (r.words.registers j inside) ∙ word_back (c.register j) (register_small z c j room r.sized (steady r))) in
    let new : PassPart = loading j register (pass v) in
    let d : CoreState = happens c (Sample p j) in
    let own = own_pass z t r id v at is in
    let w = loaded_words z c t.words (register_at j) r.words in
    let grows = log_stays c in (
      then_has v (OfPass p new ∷ others v) [] (events.Sample p j register),
      keeps,
      tt,
      keep z t r id v (OfPass p (pass v) ∷ []) (OfPass p new ∷ []) (others v) [] (events.Sample p j register) (register_at j) n d at is record {
        reached = acted z c (Sample p j) r.reached record { there = pass_low z t r id v at is; session = at_board z c j r.sized inside; fresh = subst IsNone (sym (ap (λ (x : PassRecord). found j x.loaded) own.0 ∙ fresh)) refl };
        sized = record { sessions = r.sized.sessions; tables = r.sized.tables; buckets = r.sized.buckets; quota = r.sized.quota };
        passes = refl;
        shows = record { count = w.count; mark = w.mark; registers = w.registers; masks = w.masks };
        grows = record { history = grows.history; logs = grows.logs; taken = grows.taken };
        only = pass_only c d p (pass v) record {
          pass = λ q other. put_else c.pass p q _ other;
          phase = refl;
          log = refl;
          bucket = refl;
          counters = refl;
          history = refl;
          stamped = refl;
          taken = refl;
          visits = refl;
          mark = le_refl _;
        };
        counts = λ k. refl;
        shared = refl;
        shown = ((put_here c.pass p _ ∙ (λ i. sampling (own.0 i) j (back i)), own.1), tt);
        known = tt;
        stands = subst (λ x. HasBegun x (c.log j)) back (register_begun (c.register j) (c.phase j) (c.log j) ((steady r).registers_agree.shows j) ((steady r).logs_answer.reads j));
      },
      (
        (λ i same. subst (λ i. Samples v i register (then_has v (OfPass p new ∷ others v) [] (events.Sample p j register))) (one_register j i same) refl),
        subst IsRegister back
            (register_small z c j room r.sized (steady r)),
        refl,
      ),
    )

-- at the word that the call loads
pub samples : (z : Sizes) (slots id j i : ℕ) (m : Seated) → HasRoom z → HasPass m.0 → IsSession z.sessions j → found j (pass m.0).loaded ≡ None → i ≡ register_at j
    → Allows (Rule z) slots id m i (λ n. n) (sampled (step slots i 0 0 none) m)
samples z slots id j i m room is inside fresh there = subst (λ i. Allows (Rule z) slots id m i (λ n. n) (sampled (step slots i 0 0 none) m)) (sym there)
    (samples_there z slots id j m room is inside fresh)

-- what was loaded of a live and declared session without its mask
abbrev bare : ℕ → Bool → Option Loaded
bare n moved = Some (record { register = registers.Live n true moved; mask = None })

awaits : (one : Option Loaded) → AwaitsMask one → (n : ℕ) × (moved : Bool) × (one ≡ bare n moved)
awaits None h = absurd h
awaits (Some loaded) h = go loaded.register h.0 h.1
  where
    go : (register : Register) → IsTrue (shows_declared register) → loaded.mask ≡ None → (n : ℕ) × (moved : Bool) ×
        (◌≡◌ {A = Option Loaded} (Some (record loaded { register = register })) (bare n moved))
    go registers.Idle says bare_one = absurd (let x = says in cc)
    go (registers.Entering f) says bare_one = absurd (let x = says in cc)
    go (registers.Live n true moved) says bare_one = (n, moved, λ i. Some (record { register = registers.Live n true moved; mask = bare_one i }))
    go (registers.Live n false moved) says bare_one = absurd (let x = says in cc)

one_mask : (j k : ℕ) → mask_at j ≡ mask_at k → j ≡ k
one_mask j k e = omega arith

samples_mask_there : (z : Sizes) (slots id j : ℕ) (m : Seated) → HasPass m.0 → AwaitsMask (found j (pass m.0).loaded) →
    Allows (Rule z) slots id m (mask_at j) (λ n. n) (masked (step slots (mask_at j) 0 0 none) m)
samples_mask_there z slots id j m is has_it t r deep at small =
    let v : View = m.0 in
    let c = r.state in
    let p : ℕ = number v in
    let n : ℕ = get_or t.words (mask_at j) 0 in
    let mask : c.mask j ≡ n = sym (r.words.masks j) in
    let entry = awaits (found j (pass v).loaded) has_it in
    let new : PassPart = masking j n (pass v) in
    let d : CoreState = happens c (SampleMask p j) in
    let own = own_pass z t r id v at is in
    let w = loaded_words z c t.words (mask_at j) r.words in
    let grows = log_stays c in
    let after : View = then_has v (OfPass p new ∷ others v) [] (events.SampleMask p j n) in (
      after,
      keeps,
      tt,
      keep z t r id v (OfPass p (pass v) ∷ []) (OfPass p new ∷ []) (others v) [] (events.SampleMask p j n) (mask_at j) n d at is record {
        reached = acted z c (SampleMask p j) r.reached (entry.0, entry.1, ap (λ (x : PassRecord). found j x.loaded) own.0 ∙ entry.2);
        sized = record { sessions = r.sized.sessions; tables = r.sized.tables; buckets = r.sized.buckets; quota = r.sized.quota };
        passes = refl;
        shows = record { count = w.count; mark = w.mark; registers = w.registers; masks = w.masks };
        grows = record { history = grows.history; logs = grows.logs; taken = grows.taken };
        only = pass_only c d p (pass v) record {
          pass = λ q other. put_else c.pass p q _ other;
          phase = refl;
          log = refl;
          bucket = refl;
          counters = refl;
          history = refl;
          stamped = refl;
          taken = refl;
          visits = refl;
          mark = le_refl _;
        };
        counts = λ k. refl;
        shared = refl;
        shown = ((put_here c.pass p _ ∙ (λ i. with_mask (own.0 i) j (mask i)), own.1), tt);
        known = tt;
        stands = tt;
      },
      ((λ i same. subst (λ i. SamplesMask v i n after) (one_mask j i same) refl), refl),
    )

-- at the word that the call loads
pub samples_mask : (z : Sizes) (slots id j i : ℕ) (m : Seated) → HasPass m.0 → AwaitsMask (found j (pass m.0).loaded) → i ≡ mask_at j
    → Allows (Rule z) slots id m i (λ n. n) (masked (step slots i 0 0 none) m)
samples_mask z slots id j i m is has_it there = subst (λ i. Allows (Rule z) slots id m i (λ n. n) (masked (step slots i 0 0 none) m)) (sym there) (samples_mask_there z slots id j m is has_it)
