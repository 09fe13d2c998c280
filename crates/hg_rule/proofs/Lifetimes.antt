-- A snapshot's lifetime is allowed: go_live and end.
use Rattle.std.proofs.Common.{◌≡◌, ℕ, false, [], ◌∷◌, set, None, refl, sym, ap, ◌∙◌, subst}
use Rattle.std.proofs.Common.{le_refl}
use Rattle.std.specs.Prelude.{IsSome}
use mathlib.Core.Option.{none}
use Rattle.atomic_table.specs.Table.{step, keeps, Allows}
use Rattle.hg_base.specs.declared.rid.Rid.{Rid}
use Rattle.hg_base.specs.declared.scope.Scope.{Scope}
use Rattle.hg_base.specs.Freshness.{is_declared}
use Rattle.hg_core.specs.declared.register.Register.TheVariants as registers
use Rattle.hg_core.specs.declared.phase.Phase.TheVariants.{Idle, Fixed, Live}
use Rattle.hg_core.specs.declared.log.LogEntry.TheVariants.{Began, Over}
use Rattle.hg_core.specs.Words.{word_of}
use Rattle.hg_core.specs.Logs.{open_in}
use Rattle.hg_core.specs.Phases.{IsSession, declared_in, snapshot_in}
use Rattle.hg_core.specs.State.{CoreState}
use Rattle.hg_core.specs.Events.{happens, GoLive, End}
use Rattle.hg_core.proofs.Indices.{put_here, put_else}
use Rattle.hg_rule.specs.declared.view.SessionPart.{SessionPart}
use Rattle.hg_rule.specs.declared.view.Part.TheVariants.{OfSession}
use Rattle.hg_rule.specs.declared.view.Sight.TheVariants as sights
use Rattle.hg_rule.specs.declared.view.Event.TheVariants as events
use Rattle.hg_rule.specs.declared.view.View.{View}
use Rattle.hg_rule.specs.declared.view.Sizes.{Sizes}
use Rattle.hg_rule.specs.Facts.{EndsWith}
use Rattle.hg_rule.specs.Words.{register_at}
use Rattle.hg_rule.specs.Rules.{ShowsWords, Rule}
use Rattle.hg_rule.specs.Views.{number, session, others, HasSession, then_has}
use Rattle.hg_rule.specs.Steps.{Seated, logging, loaded_in}
use Rattle.hg_rule.specs.Steps.{went_live, ended}
use Rattle.hg_rule.proofs.Lists.{ends_same}
use Rattle.hg_rule.proofs.Keeps.{keep}
use Rattle.hg_rule.proofs.Registers.{stored_words}
use Rattle.hg_rule.proofs.Evidence.{own_session, log_stays, log_grows}
use Rattle.hg_rule.proofs.Entrance.{session_only}
use Rattle.hg_rule.proofs.Reached.{acted}

pub goes_live : (z : Sizes) (slots id f n i x : ℕ) (scope : Scope) (m : Seated) → HasSession m.0 → IsSession z.sessions (number m.0) → (session m.0).phase ≡ Fixed scope f n →
    i ≡ register_at (number m.0) → x ≡ word_of (registers.Live n (is_declared scope) false)
    → Allows (Rule z) slots id m i (λ _. x) (λ _. went_live (step slots i x 0 none) m x)
goes_live z slots id f n i x scope m is inside was there value t r deep at small =
    let v : View = m.0 in
    let c = r.state in
    let j : ℕ = number v in
    let g : ℕ = loaded_in (session v).phase in
    let same : n ≡ g = sym (ap loaded_in was) in
    let to : Scope = declared_in (session v).phase in
    let back : scope ≡ to = sym (ap declared_in was) in
    let new : SessionPart = logging (Began g to) (Live g to) (session v) in
    let d : CoreState = happens c (GoLive j n scope) in
    let own = own_session z t r id v at is in
    let w = stored_words z c t.words j x (registers.Live n (is_declared scope) false) inside value r.words in
    let log : d.log j ≡ Began g to ∷ (session v).log = put_here c.log j (Began n scope ∷ c.log j) ∙ (λ i. Began (same i) (back i) ∷ own.1.0 i) in
    let grows = log_stays c in (
      then_has v (OfSession j new ∷ others v) (sights.Heard j (Began g to ∷ (session v).log) ∷ []) (events.GoLive j g to),
      keeps,
      tt,
      keep z t r id v (OfSession j (session v) ∷ []) (OfSession j new ∷ []) (others v) (sights.Heard j (Began g to ∷ (session v).log) ∷ []) (events.GoLive j g to) i x d at is record {
        reached = acted z c (GoLive j n scope) r.reached (f, own.0 ∙ was);
        sized = record { sessions = r.sized.sessions; tables = r.sized.tables; buckets = r.sized.buckets; quota = r.sized.quota };
        passes = refl;
        shows = subst (λ i. ShowsWords z d (set t.words i x)) (sym there) (record { count = w.count; mark = w.mark; registers = w.registers; masks = w.masks });
        grows = record { history = grows.history; logs = log_grows c j (Began n scope); taken = grows.taken };
        only = session_only c d j (session v) record {
          phase = λ k other. put_else c.phase j k (Live n scope) other;
          log = λ k other. put_else c.log j k (Began n scope ∷ c.log j) other;
          bucket = refl;
          counters = refl;
          history = refl;
          stamped = refl;
          taken = refl;
          pass = refl;
          visits = refl;
          mark = le_refl _;
        };
        counts = λ k. refl;
        shared = refl;
        shown = ((put_here c.phase j (Live n scope) ∙ (λ i. Live (same i) (back i)), (log, own.1.1)), tt);
        known = (subst (λ l. EndsWith l (Began g to ∷ (session v).log)) (sym log) (ends_same (Began g to ∷ (session v).log)), tt);
        stands = tt;
      },
      (refl, refl),
    )

pub ends : (z : Sizes) (slots id i : ℕ) (m : Seated) → HasSession m.0 → IsSession z.sessions (number m.0) → IsSome (snapshot_in (session m.0).phase) →
    ((rid : Rid) → open_in rid (session m.0).log ≡ None) → i ≡ register_at (number m.0)
    → Allows (Rule z) slots id m i (λ _. 0) (λ _. ended (step slots i 0 0 none) m 0)
ends z slots id i m is inside live none_open there t r deep at small =
    let v : View = m.0 in
    let c = r.state in
    let j : ℕ = number v in
    let new : SessionPart = logging Over Idle (session v) in
    let d : CoreState = happens c (End j) in
    let own = own_session z t r id v at is in
    let w = stored_words z c t.words j 0 registers.Idle inside refl r.words in
    let log : d.log j ≡ Over ∷ (session v).log = put_here c.log j (Over ∷ c.log j) ∙ ap (λ l. Over ∷ l) own.1.0 in
    let grows = log_stays c in (
      then_has v (OfSession j new ∷ others v) (sights.Heard j (Over ∷ (session v).log) ∷ []) (events.End j),
      keeps,
      tt,
      keep z t r id v (OfSession j (session v) ∷ []) (OfSession j new ∷ []) (others v) (sights.Heard j (Over ∷ (session v).log) ∷ []) (events.End j) i 0 d at is record {
        reached = acted z c (End j) r.reached record { live = subst (λ p. IsSome (snapshot_in p)) (sym own.0) live; none = λ rid. ap (open_in rid) own.1.0 ∙ none_open rid };
        sized = record { sessions = r.sized.sessions; tables = r.sized.tables; buckets = r.sized.buckets; quota = r.sized.quota };
        passes = refl;
        shows = subst (λ i. ShowsWords z d (set t.words i 0)) (sym there) (record { count = w.count; mark = w.mark; registers = w.registers; masks = w.masks });
        grows = record { history = grows.history; logs = log_grows c j Over; taken = grows.taken };
        only = session_only c d j (session v) record {
          phase = λ k other. put_else c.phase j k Idle other;
          log = λ k other. put_else c.log j k (Over ∷ c.log j) other;
          bucket = refl;
          counters = refl;
          history = refl;
          stamped = refl;
          taken = refl;
          pass = refl;
          visits = refl;
          mark = le_refl _;
        };
        counts = λ k. refl;
        shared = refl;
        shown = ((put_here c.phase j Idle, (log, own.1.1)), tt);
        known = (subst (λ l. EndsWith l (Over ∷ (session v).log)) (sym log) (ends_same (Over ∷ (session v).log)), tt);
        stands = tt;
      },
      (refl, refl),
    )
