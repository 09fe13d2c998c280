-- A session's entrance is allowed: declare, probe, fix and enter.
use Rattle.std.proofs.Common.{◌≡◌, ℕ, ◌<◌, [], ◌∷◌, get_or, set, refl, sym, ap, ◌∙◌, subst, arith}
use Rattle.std.proofs.Common.{le_refl}
use Rattle.std.specs.Prelude.{◌≤◌}
use mathlib.Core.Option.{none}
use Rattle.atomic_table.specs.Table.{step, keeps, Allows}
use Rattle.hg_base.specs.declared.scope.Scope.{Scope}
use Rattle.hg_core.specs.declared.register.Register.TheVariants as registers
use Rattle.hg_core.specs.declared.phase.Phase.TheVariants.{Idle, Declared, Probed, Entered, Fixed}
use Rattle.hg_core.specs.Words.{IsBelow, mask_of, word_of}
use Rattle.hg_core.specs.Logs.{begans}
use Rattle.hg_core.specs.Phases.{IsSession, declared_in}
use Rattle.hg_core.specs.Contents.{has_stamped}
use Rattle.hg_core.specs.State.{CoreState}
use Rattle.hg_core.specs.Events.{happens, Declare, Probe, Enter, Fix}
use Rattle.hg_core.proofs.Indices.{put_here, put_else}
use Rattle.hg_rule.specs.declared.view.SessionPart.{SessionPart}
use Rattle.hg_rule.specs.declared.view.Part.{Part}
use Rattle.hg_rule.specs.declared.view.Part.TheVariants.{OfSession, OfBucket, OfCommit, OfPass, Away, Lent}
use Rattle.hg_rule.specs.declared.view.Sight.TheVariants as sights
use Rattle.hg_rule.specs.declared.view.Event.TheVariants as events
use Rattle.hg_rule.specs.declared.view.View.{View}
use Rattle.hg_rule.specs.declared.view.Sizes.{Sizes}
use Rattle.hg_rule.specs.Keys.{key_of, count}
use Rattle.hg_rule.specs.Facts.{groups, Shown}
use Rattle.hg_rule.specs.Words.{register_at, mask_at}
use Rattle.hg_rule.specs.Rules.{HasRoom, ShowsWords, Rule}
use Rattle.hg_rule.specs.Views.{number, session, others, HasSession, then_has}
use Rattle.hg_rule.specs.Steps.{Seated, in_phase, loaded_in}
use Rattle.hg_rule.specs.Steps.{declared, probed, entered, fixed}
use Rattle.hg_rule.proofs.Counts.{another, away_same}
use Rattle.hg_rule.proofs.Lists.{starts_same}
use Rattle.hg_rule.proofs.Keeps.{keep}
use Rattle.hg_rule.proofs.Registers.{loaded_words, stored_words, masked_words}
use Rattle.hg_rule.proofs.Evidence.{own_session, at_board, history_at, log_stays}
use Rattle.hg_rule.proofs.Reached.{acted}

-- what a session's step leaves
pub record Sessional (c d : CoreState) (j : ℕ) : Type 0 where
  pub phase : (k : ℕ) → (k ≡ j → ⊥) → d.phase k ≡ c.phase k
  pub log : (k : ℕ) → (k ≡ j → ⊥) → d.log k ≡ c.log k
  pub bucket : d.bucket ≡ c.bucket
  pub counters : d.counters ≡ c.counters
  pub history : d.history ≡ c.history
  pub stamped : d.stamped_list ≡ c.stamped_list
  pub taken : d.taken ≡ c.taken
  pub pass : d.pass ≡ c.pass
  pub visits : d.visits ≡ c.visits
  pub mark : c.mark ≤ d.mark

pub session_only : (c d : CoreState) (j : ℕ) (old : SessionPart) → Sessional c d j → (p : Part) → count (key_of p) (OfSession j old ∷ []) ≡ 0 → Shown c p → Shown d p
session_only c d j old h (OfSession k t) away s = let n = another j k away in (h.phase k n ∙ s.0, (h.log k n ∙ s.1.0, ap (has_stamped k) h.stamped ∙ s.1.1))
session_only c d j old h (OfBucket b t) away s = ((λ i. h.bucket i b) ∙ s.0, (λ i. h.counters i b) ∙ s.1)
session_only c d j old h (OfCommit t) away s = (h.history ∙ s.0, (h.stamped ∙ s.1.0, h.taken ∙ s.1.1))
session_only c d j old h (OfPass p t) away s = ((λ i. h.pass i p) ∙ s.0, ((λ i. h.visits i p) ∙ s.1.0, s.1.1))
session_only c d j old h (Away k t m) away s = let n = another j k away in away_same c d k t m (h.phase k n) (h.log k n) h.mark s
session_only c d j old h (Lent k t) away s = let n = another j k away in (h.phase k n ∙ s.0, (h.log k n ∙ s.1.0, ap (has_stamped k) h.stamped ∙ s.1.1))

pub declares : (z : Sizes) (slots id i x : ℕ) (scope picked : Scope) (m : Seated) → HasSession m.0 → IsSession z.sessions (number m.0) → (session m.0).phase ≡ Idle →
    begans (session m.0).log < z.quota → IsBelow z.tables scope → picked ≡ scope → i ≡ mask_at (number m.0) → x ≡ mask_of scope
    → Allows (Rule z) slots id m i (λ _. x) (λ _. declared picked (step slots i x 0 none) m x)
declares z slots id i x scope picked m is inside rests fewer below same there value t r deep at small =
    let v : View = m.0 in
    let c = r.state in
    let j : ℕ = number v in
    let new : SessionPart = in_phase (Declared picked) (session v) in
    let d : CoreState = happens c (Declare j scope) in
    let own = own_session z t r id v at is in
    let w = masked_words z c t.words j x (mask_of scope) inside value r.words in
    let grows = log_stays c in (
      then_has v (OfSession j new ∷ others v) [] (events.Declare j picked),
      keeps,
      tt,
      keep z t r id v (OfSession j (session v) ∷ []) (OfSession j new ∷ []) (others v) [] (events.Declare j picked) i x d at is record {
        reached = acted z c (Declare j scope) r.reached record {
          session = at_board z c j r.sized inside;
          rests = own.0 ∙ rests;
          room = omega (arith, fewer, ap begans own.1.0, r.sized.quota);
          tables = subst (λ n. IsBelow n scope) (sym r.sized.tables) below;
        };
        sized = record { sessions = r.sized.sessions; tables = r.sized.tables; buckets = r.sized.buckets; quota = r.sized.quota };
        passes = refl;
        shows = subst (λ i. ShowsWords z d (set t.words i x)) (sym there) (record { count = w.count; mark = w.mark; registers = w.registers; masks = w.masks });
        grows = record { history = grows.history; logs = grows.logs; taken = grows.taken };
        only = session_only c d j (session v) record {
          phase = λ k other. put_else c.phase j k (Declared scope) other;
          log = λ k other. refl;
          bucket = refl;
          counters = refl;
          history = refl;
          stamped = refl;
          taken = refl;
          pass = refl;
          visits = refl;
          mark = le_refl _;
        };
        counts = λ k. refl;
        shared = refl;
        shown = ((put_here c.phase j (Declared scope) ∙ ap Declared (sym same), own.1), tt);
        known = tt;
        stands = tt;
      },
      (refl, refl),
    )

pub probes : (z : Sizes) (slots id : ℕ) (m : Seated) (scope : Scope) → HasRoom z → HasSession m.0 → (session m.0).phase ≡ Declared scope →
    Allows (Rule z) slots id m 0 (λ n. n) (probed (step slots 0 0 0 none) m)
probes z slots id m scope room is was t r deep at small =
    let v : View = m.0 in
    let c = r.state in
    let j : ℕ = number v in
    let n : ℕ = get_or t.words 0 0 in
    let new : SessionPart = in_phase (Probed (declared_in (session v).phase) n) (session v) in
    let d : CoreState = happens c (Probe j) in
    let own = own_session z t r id v at is in
    let w = loaded_words z c t.words 0 r.words in
    let grows = log_stays c in (
      then_has v (OfSession j new ∷ others v) (sights.Saw (groups c.history) ∷ []) (events.Probe j n),
      keeps,
      tt,
      keep z t r id v (OfSession j (session v) ∷ []) (OfSession j new ∷ []) (others v) (sights.Saw (groups c.history) ∷ []) (events.Probe j n) 0 n d at is record {
        reached = acted z c (Probe j) r.reached (scope, own.0 ∙ was);
        sized = record { sessions = r.sized.sessions; tables = r.sized.tables; buckets = r.sized.buckets; quota = r.sized.quota };
        passes = refl;
        shows = record { count = w.count; mark = w.mark; registers = w.registers; masks = w.masks };
        grows = record { history = grows.history; logs = grows.logs; taken = grows.taken };
        only = session_only c d j (session v) record {
          phase = λ k other. put_else c.phase j k (Probed (declared_in (c.phase j)) c.mark) other;
          log = λ k other. refl;
          bucket = refl;
          counters = refl;
          history = refl;
          stamped = refl;
          taken = refl;
          pass = refl;
          visits = refl;
          mark = le_refl _;
        };
        counts = λ k. refl;
        shared = refl;
        shown = ((put_here c.phase j (Probed (declared_in (c.phase j)) c.mark) ∙ (λ i. Probed (declared_in (own.0 i)) (sym r.words.mark i)), own.1), tt);
        known = (starts_same c.history, tt);
        stands = tt;
      },
      ((c.history, (history_at z t r id v room at, refl)), refl),
    )

pub fixes : (z : Sizes) (slots id f : ℕ) (scope : Scope) (m : Seated) → HasRoom z → HasSession m.0 → (session m.0).phase ≡ Entered scope f →
    Allows (Rule z) slots id m 0 (λ n. n) (fixed (step slots 0 0 0 none) m)
fixes z slots id f scope m room is was t r deep at small =
    let v : View = m.0 in
    let c = r.state in
    let j : ℕ = number v in
    let n : ℕ = get_or t.words 0 0 in
    let g : ℕ = loaded_in (session v).phase in
    let same : f ≡ g = sym (ap loaded_in was) in
    let new : SessionPart = in_phase (Fixed (declared_in (session v).phase) g n) (session v) in
    let d : CoreState = happens c (Fix j f) in
    let own = own_session z t r id v at is in
    let w = loaded_words z c t.words 0 r.words in
    let grows = log_stays c in (
      then_has v (OfSession j new ∷ others v) (sights.Saw (groups c.history) ∷ []) (events.Fix j n),
      keeps,
      tt,
      keep z t r id v (OfSession j (session v) ∷ []) (OfSession j new ∷ []) (others v) (sights.Saw (groups c.history) ∷ []) (events.Fix j n) 0 n d at is record {
        reached = acted z c (Fix j f) r.reached (scope, own.0 ∙ was);
        sized = record { sessions = r.sized.sessions; tables = r.sized.tables; buckets = r.sized.buckets; quota = r.sized.quota };
        passes = refl;
        shows = record { count = w.count; mark = w.mark; registers = w.registers; masks = w.masks };
        grows = record { history = grows.history; logs = grows.logs; taken = grows.taken };
        only = session_only c d j (session v) record {
          phase = λ k other. put_else c.phase j k (Fixed (declared_in (c.phase j)) f c.mark) other;
          log = λ k other. refl;
          bucket = refl;
          counters = refl;
          history = refl;
          stamped = refl;
          taken = refl;
          pass = refl;
          visits = refl;
          mark = le_refl _;
        };
        counts = λ k. refl;
        shared = refl;
        shown = ((put_here c.phase j (Fixed (declared_in (c.phase j)) f c.mark) ∙ (λ i. Fixed (declared_in (own.0 i)) (same i) (sym r.words.mark i)), own.1), tt);
        known = (starts_same c.history, tt);
        stands = tt;
      },
      ((c.history, (history_at z t r id v room at, refl)), refl),
    )

pub enters : (z : Sizes) (slots id f i x : ℕ) (scope : Scope) (m : Seated) → HasSession m.0 → IsSession z.sessions (number m.0) → (session m.0).phase ≡ Probed scope f →
    i ≡ register_at (number m.0) → x ≡ word_of (registers.Entering f)
    → Allows (Rule z) slots id m i (λ _. x) (λ _. entered (step slots i x 0 none) m x)
enters z slots id f i x scope m is inside was there value t r deep at small =
    let v : View = m.0 in
    let c = r.state in
    let j : ℕ = number v in
    let g : ℕ = loaded_in (session v).phase in
    let same : f ≡ g = sym (ap loaded_in was) in
    let new : SessionPart = in_phase (Entered (declared_in (session v).phase) g) (session v) in
    let d : CoreState = happens c (Enter j f) in
    let own = own_session z t r id v at is in
    let w = stored_words z c t.words j x (registers.Entering f) inside value r.words in
    let grows = log_stays c in (
      then_has v (OfSession j new ∷ others v) [] (events.Enter j g),
      keeps,
      tt,
      keep z t r id v (OfSession j (session v) ∷ []) (OfSession j new ∷ []) (others v) [] (events.Enter j g) i x d at is record {
        reached = acted z c (Enter j f) r.reached (scope, own.0 ∙ was);
        sized = record { sessions = r.sized.sessions; tables = r.sized.tables; buckets = r.sized.buckets; quota = r.sized.quota };
        passes = refl;
        shows = subst (λ i. ShowsWords z d (set t.words i x)) (sym there) (record { count = w.count; mark = w.mark; registers = w.registers; masks = w.masks });
        grows = record { history = grows.history; logs = grows.logs; taken = grows.taken };
        only = session_only c d j (session v) record {
          phase = λ k other. put_else c.phase j k (Entered (declared_in (c.phase j)) f) other;
          log = λ k other. refl;
          bucket = refl;
          counters = refl;
          history = refl;
          stamped = refl;
          taken = refl;
          pass = refl;
          visits = refl;
          mark = le_refl _;
        };
        counts = λ k. refl;
        shared = refl;
        shown = ((put_here c.phase j (Entered (declared_in (c.phase j)) f) ∙ (λ i. Entered (declared_in (own.0 i)) (same i)), own.1), tt);
        known = tt;
        stands = tt;
      },
      (refl, refl),
    )
