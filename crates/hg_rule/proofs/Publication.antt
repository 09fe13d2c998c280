-- A publication of a group that was handed over is allowed.
use Rattle.std.proofs.Common.{◌≡◌, inl, inr, ℕ, suc, ◌+◌, ◌≤◌, Bool, true, false, List, [], ◌∷◌, ◌++◌, length, get_or, set, refl, sym, ap, ◌∙◌, subst, arith, le_refl}
use Rattle.std.proofs.Common.{append-nil, true≢false}
use Rattle.std.specs.Prelude.{if◌then◌else◌, IsSome, IsTrue, ◌||◌}
use mathlib.Core.Option.{none}
use Rattle.atomic_table.specs.Table.{step, keeps, Allows}
use Rattle.hg_base.specs.declared.rid.Rid.{Rid}
use Rattle.hg_base.specs.Lists.{Each}
use Rattle.hg_base.proofs.ListFacts.{cases}
use Rattle.hg_core.specs.declared.log.LogEntry.{LogEntry}
use Rattle.hg_core.specs.declared.log.LogEntry.TheVariants as entries
use Rattle.hg_core.specs.Logs.{current, is_plain, open_in, is_in, commit_in, new_group, published_logs}
use Rattle.hg_core.specs.Phases.{snapshot_in}
use Rattle.hg_core.specs.Contents.{is_stamped, has_stamped}
use Rattle.hg_core.specs.State.{CoreState}
use Rattle.hg_core.specs.Events.{happens, Publish}
use Rattle.hg_rule.specs.declared.view.SessionPart.{SessionPart}
use Rattle.hg_rule.specs.declared.view.CommitPart.{CommitPart}
use Rattle.hg_rule.specs.declared.view.Part.{Part}
use Rattle.hg_rule.specs.declared.view.Part.TheVariants.{OfCommit, Away, Lent}
use Rattle.hg_rule.specs.declared.view.Sight.{Sight}
use Rattle.hg_rule.specs.declared.view.Sight.TheVariants as sights
use Rattle.hg_rule.specs.declared.view.Event.TheVariants as events
use Rattle.hg_rule.specs.declared.view.View.{View}
use Rattle.hg_rule.specs.declared.view.Sizes.{Sizes}
use Rattle.hg_rule.specs.Keys.{session_key, one, has, count, tally}
use Rattle.hg_rule.specs.Facts.{EndsWith, StartsWith, IsLeft, Shown, Known}
use Rattle.hg_rule.specs.Rules.{HasRoom, Rule}
use Rattle.hg_rule.specs.Views.{number, session, since, HasAway, then_has}
use Rattle.hg_rule.specs.Steps.{Seated}
use Rattle.hg_rule.specs.Holding.{beyond, bucket, HasCommit, commit}
use Rattle.hg_rule.specs.Handing.{Members, lent, members, who, numbered, hears, group_of, MayPublish, publishing, publishes}
use Rattle.hg_rule.proofs.Lists.{starts_same, ends_same}
use Rattle.hg_rule.proofs.Counts.{expected_small}
use Rattle.hg_rule.proofs.Keeps.{keep, tally_one}
use Rattle.hg_rule.proofs.Owned.{Leaves, leaves_only}
use Rattle.hg_rule.proofs.Evidence.{history_at}
use Rattle.hg_rule.proofs.Commits.{marked_words, history_is}
use Rattle.hg_rule.proofs.Members.{each_part, each_lent, each_who, each_two, each_in, not_in, lent_shares, numbered_count, none_twice, unlike}
use Rattle.hg_rule.proofs.Reached.{steady, acted}

-- the log of who publishes, and of others
log_here : (log : ℕ → List LogEntry) (js : List ℕ) (n k : ℕ) → is_in js k ≡ true → published_logs log js n k ≡ entries.Published n ∷ log k
log_here log js n k e = ap (λ x. if x then entries.Published n ∷ log k else log k) e

log_else : (log : ℕ → List LogEntry) (js : List ℕ) (n k : ℕ) → is_in js k ≡ false → published_logs log js n k ≡ log k
log_else log js n k e = ap (λ x. if x then entries.Published n ∷ log k else log k) e

log_grown : (log : ℕ → List LogEntry) (js : List ℕ) (n k : ℕ) → EndsWith (published_logs log js n k) (log k)
log_grown log js n k = go (is_in js k)
  where
    go : (b : Bool) → EndsWith (if b then entries.Published n ∷ log k else log k) (log k)
    go true = (entries.Published n ∷ [], refl)
    go false = ends_same (log k)

none_else : (js : List ℕ) (k : ℕ) (list : List (ℕ × Rid)) → is_in js k ≡ false → Each (λ e. IsTrue (is_in js e.0)) list → has_stamped k list ≡ false
none_else js k [] e h = refl
none_else js k (x ∷ list) e h = ap (λ b. b || has_stamped k list) (unlike x.0 k (λ (q : k ≡ x.0). true≢false (sym h.0 ∙ (ap (is_in js) (sym q) ∙ e)))) ∙ none_else js k list e h.1

-- a part that is away is so still, or its transaction was published
away_published : (c d : CoreState) (js : List ℕ) (k : ℕ) (part : SessionPart) (n : ℕ) → d.phase k ≡ c.phase k → d.log k ≡ published_logs c.log js (suc c.mark) k →
    d.mark ≡ suc c.mark → (is_in js k ≡ true → is_plain (c.log k) ≡ true) → Shown c (Away k part n) → Shown d (Away k part n)
away_published c d js k part n phase log more plain s = (phase ∙ s.0, (omega (arith, more, s.1.0), subst (IsLeft n part.log) (sym log) (go (is_in js k) plain s.1.1)))
  where
    go : (b : Bool) → (b ≡ true → is_plain (c.log k) ≡ true) → IsLeft n part.log (c.log k) → IsLeft n part.log (if b then entries.Published (suc c.mark) ∷ c.log k else c.log k)
    go true f (inl e) = inr (suc c.mark, omega (arith, s.1.0), ap (λ l. entries.Published (suc c.mark) ∷ l) e)
    go true f (inr h) = absurd (true≢false (sym (f refl) ∙ ap is_plain h.2))
    go false f h = h

group_is : (c : CoreState) (ms : Members) → Each (Shown c) (lent ms) → new_group c.log (who ms) ≡ group_of ms
group_is c [] h = refl
group_is c (m ∷ ms) h = (λ i. commit_in m.0 (h.0.1.0 i) ∷ group_is c ms h.1 i)

-- what is so of each member's part, is so of its log
logs_plain : (c : CoreState) (ms : Members) → Each (Shown c) (lent ms) → Each (λ m. IsTrue (is_plain m.1.log)) ms → Each (λ m. IsTrue (is_plain (c.log m.0))) ms
logs_plain c ms a b = each_two (λ m. Shown c (Lent m.0 m.1)) (λ m. IsTrue (is_plain m.1.log)) (λ m. IsTrue (is_plain (c.log m.0))) ms
    (λ m s p. subst (λ l. IsTrue (is_plain l)) (sym s.1.0) p) (each_lent (Shown c) ms a) b

numbered_shown : (c d : CoreState) (n : ℕ) (js : List ℕ) (ms : Members) → d.phase ≡ c.phase → d.log ≡ published_logs c.log js n → d.stamped_list ≡ [] →
    Each (λ m. is_in js m.0 ≡ true) ms → Each (Shown c) (lent ms) → Each (Shown d) (lent (numbered n ms))
numbered_shown c d n js [] phase logs list among h = tt
numbered_shown c d n js (m ∷ ms) phase logs list among h = (
  ((λ i. phase i m.0) ∙ h.0.0, ((λ i. logs i m.0) ∙ (log_here c.log js n m.0 among.0 ∙ ap (λ l. entries.Published n ∷ l) h.0.1.0), ap (has_stamped m.0) list)),
  numbered_shown c d n js ms phase logs list among.1 h.1,
)

hears_known : (c d : CoreState) (n : ℕ) (js : List ℕ) (ms : Members) → d.log ≡ published_logs c.log js n → Each (λ m. is_in js m.0 ≡ true) ms → Each (Shown c) (lent ms) → Each (Known d) (hears n ms)
hears_known c d n js [] logs among h = tt
hears_known c d n js (m ∷ ms) logs among h = (
  subst (λ l. EndsWith l (entries.Published n ∷ m.1.log)) (sym ((λ i. logs i m.0) ∙ (log_here c.log js n m.0 among.0 ∙ ap (λ l. entries.Published n ∷ l) h.0.1.0)))
      (ends_same (entries.Published n ∷ m.1.log)),
  hears_known c d n js ms logs among.1 h.1,
)

publish_leaves : (c d : CoreState) (o n : ℕ) (was : SessionPart) (h : CommitPart) (ms : Members) → d.phase ≡ c.phase → d.log ≡ published_logs c.log (who ms) (suc c.mark) →
    d.stamped_list ≡ [] → Each (λ e. IsTrue (is_in (who ms) e.0)) c.stamped_list
    → ((k : ℕ) → is_in (who ms) k ≡ true → is_plain (c.log k) ≡ true) → d.bucket ≡ c.bucket → d.counters ≡ c.counters → d.taken ≡ c.taken → d.pass ≡ c.pass → d.visits ≡ c.visits →
    d.mark ≡ suc c.mark → Leaves c d (Away o was n ∷ OfCommit h ∷ lent ms)
publish_leaves c d o n was h ms phase logs list alone plain bucket counters taken pass visits more = record {
  phase = λ k away i. phase i k;
  log = λ k away. (λ i. logs i k) ∙ log_else c.log (who ms) (suc c.mark) k (out k away);
  stamped = λ k away. ap (has_stamped k) list ∙ sym (none_else (who ms) k c.stamped_list (out k away) alone);
  bucket = λ k away i. bucket i k;
  counters = λ k away i. counters i k;
  history = λ away. absurd (omega (arith, away));
  list = λ away. absurd (omega (arith, away));
  taken = λ away. taken;
  pass = λ p away i. pass i p;
  visits = λ p away i. visits i p;
  home = λ k part m away s. away_published c d (who ms) k part m (λ i. phase i k) (λ i. logs i k) more (plain k) s;
}
  where
    out : (k : ℕ) → count (session_key k) (Away o was n ∷ OfCommit h ∷ lent ms) ≡ 0 → is_in (who ms) k ≡ false
    out k away = not_in ms k (let x : ℕ = count (session_key k) (lent ms) in let z : 0 + (0 + x) ≡ 0 = away in omega arith)

pub may_publish : (z : Sizes) (slots id x : ℕ) (m : Seated) → HasRoom z → HasAway m.0 → HasCommit m.0 → beyond m.0 ≡ lent (members (beyond m.0)) →
    x ≡ suc (length (commit m.0).history.list) → MayPublish (members (beyond m.0)) (commit m.0).stamped
    → Allows (Rule z) slots id m 0 (λ _. x) (λ _. publishes (step slots 0 x 0 none) m x)
may_publish z slots id x m room is has_it far next may t r deep at small =
    let v : View = m.0 in
    let c = r.state in
    let o : ℕ = number v in
    let ms : Members = members (beyond v) in
    let js : List ℕ = who ms in
    let h : CommitPart = commit v in
    let first : Part = Away o (session v) (since v) in
    let qs : List Part = first ∷ OfCommit h ∷ lent ms in
    let parts : v.parts ≡ qs = is ∙ ap (λ (l : List Part). first ∷ l) (has_it ∙ ap (λ (l : List Part). OfCommit h ∷ l) far) in
    let all : Each (Shown c) qs = subst (Each (Shown c)) parts (r.shown id v at).parts in
    let list : Shown c (OfCommit h) = all.1.0 in
    let each = each_lent (Shown c) ms all.1.1 in
    let mark : suc c.mark ≡ x = ap suc ((steady r).mark_is_length.is_length ∙ ap length list.0) ∙ sym next in
    let d : CoreState = happens c (Publish js) in
    let part : CommitPart = publishing ms h in
    let qs' : List Part = first ∷ OfCommit part ∷ lent (numbered x ms) in
    let logs : d.log ≡ published_logs c.log js x = (λ i. published_logs c.log js (mark i)) in
    let history : d.history ≡ part.history.list = (λ i. list.0 i ++ group_is c ms all.1.1 i ∷ []) in
    let alone : Each (λ e. IsTrue (is_in js e.0)) c.stamped_list = subst (Each (λ e. IsTrue (is_in js e.0))) (sym list.1.0) may.alone in
    let plain : (k : ℕ) → is_in js k ≡ true → is_plain (c.log k) ≡ true = (λ k e. each_part (λ k p. is_plain (c.log k) ≡ true) ms k (logs_plain c ms all.1.1 may.plain) e) in
    let more : List Sight = sights.Saw part.history ∷ hears x ms in
    let small_counts : (k : ℕ) → count (session_key k) (lent ms) ≤ 1 = (λ k. let a : ℕ = count (session_key k) v.parts in let b : ℕ = count (session_key k) (lent ms) in
    let f : ℕ = tally (session_key k) t.views in
    let h1 : a ≡ 0 + (0 + b) = ap (count (session_key k)) parts in let h2 : a ≤ f = tally_one (session_key k) t.views id v at in
    let h3 : f ≤ 1 = subst (λ n. n ≤ 1) (sym (r.exact (session_key k))) (expected_small z r.used (session_key k)) in omega arith) in (
      then_has v qs' more (events.Publish x),
      keeps,
      tt,
      subst (λ (ps : List Part). Rule z record { words = set t.words 0 x; homes = t.homes; views = set t.views id (then_has v ps more (events.Publish x)) }) (append-nil qs')
          (keep z t r id v qs qs' [] more (events.Publish x) 0 x d at (parts ∙ sym (append-nil qs)) record {
            reached = acted z c (Publish js) r.reached record {
              some = omega (arith, may.some, many ms);
              distinct = none_twice ms small_counts;
              opened = each_who (λ j. IsSome (current (c.log j))) ms
                  (each_two (λ m. Shown c (Lent m.0 m.1)) (λ m. IsSome (snapshot_in m.1.phase)) (λ m. IsSome (current (c.log m.0))) ms
                  (λ m s l. subst IsSome (sym ((steady r).logs_answer.reads m.0 ∙ ap snapshot_in s.0)) l) each may.live);
              plain = each_who (λ j. IsTrue (is_plain (c.log j))) ms (logs_plain c ms all.1.1 may.plain);
              stamped = λ k. cases (is_in js k)
                  (λ e. (each_part (λ k p. has_stamped k c.stamped_list ≡ true) ms k
                  (each_two (λ m. Shown c (Lent m.0 m.1)) (λ m. m.1.stamped ≡ true) (λ m. has_stamped m.0 c.stamped_list ≡ true) ms (λ m s f. s.1.1 ∙ f) each may.flagged) e) ∙ sym e)
                  (λ e. none_else js k c.stamped_list e alone ∙ sym e);
              whole = λ k rid among opened. subst (λ l. IsTrue (is_stamped k rid l)) (sym list.1.0)
                  (each_part (λ k p. IsSome (open_in rid (c.log k)) → IsTrue (is_stamped k rid h.stamped)) ms k
                  (each_two (λ m. Shown c (Lent m.0 m.1)) (λ m. (rid : Rid) → IsSome (open_in rid m.1.log) → IsTrue (is_stamped m.0 rid h.stamped))
                  (λ m. IsSome (open_in rid (c.log m.0)) → IsTrue (is_stamped m.0 rid h.stamped)) ms
                  (λ m s f o. f rid (subst (λ l. IsSome (open_in rid l)) s.1.0 o)) each may.every) among opened);
            };
            sized = record { sessions = r.sized.sessions; tables = r.sized.tables; buckets = r.sized.buckets; quota = r.sized.quota };
            passes = refl;
            shows = marked_words z c d t.words x mark refl refl r.words;
            grows = record { history = (new_group c.log js ∷ [], refl); logs = λ k. log_grown c.log js (suc c.mark) k; taken = le_refl _ };
            only = leaves_only c d _ (publish_leaves c d o (since v) (session v) h ms refl refl refl alone plain refl refl refl refl refl refl);
            counts = λ k. ap (λ y. one (has k first) + (one (has k (OfCommit h)) + y)) (numbered_count k x ms);
            shared = ap (λ (y : ℕ). 0 + (0 + y)) (lent_shares (numbered x ms) ∙ sym (lent_shares ms));
            shown = (away_published c d js o (session v) (since v) refl refl refl (plain o) all.0, ((history, (refl, list.1.1)), numbered_shown c d x js ms refl logs refl (each_in ms) all.1.1));
            known = (subst (λ g. StartsWith d.history g) history (starts_same d.history), hears_known c d x js ms logs (each_in ms) all.1.1);
            stands = tt;
          }),
      ((history_is v (get_or t.words 0 0) c.history h.history.list list.0 (history_at z t r id v room at), refl), refl),
    )
  where
    many : (ms : Members) → length (who ms) ≡ length ms
    many [] = refl
    many (m ∷ ms) = ap suc (many ms)
