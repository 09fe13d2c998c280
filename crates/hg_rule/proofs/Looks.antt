-- A look is allowed, and all logs are heard at it.
use Rattle.std.proofs.Common.{le_refl, ◌≡◌, ℕ, zero, suc, ◌<◌, ◌≤◌, inl, inr, Bool, true, false, List, [], ◌∷◌, length, get_or, set, ◌==◌, Option, Some, None}
use Rattle.std.proofs.Common.{refl, sym, ap, ◌∙◌, subst, arith, get_or-set_same}
use Rattle.std.specs.Prelude.{if◌then◌else◌, ltb, IsSome, IsTrue}
use Rattle.std.proofs.lemmas.Bool.Decides.{nat_tests}
use mathlib.Core.Option.{some, none}
use native.Mathlib.Decide.{dec_le}
use lib.ListN.{get_elem?}
use Rattle.atomic_table.proofs.Lists.{set_here}
use Rattle.atomic_table.specs.Table.{step, keeps, Allows}
use Rattle.hg_base.specs.declared.rid.Rid.{Rid}
use Rattle.hg_base.specs.declared.rid.TableId.{TableId}
use Rattle.hg_base.specs.declared.line.Answer.{Answer}
use Rattle.hg_base.specs.declared.writer.Writer.{Writer}
use Rattle.hg_base.specs.declared.value.Value.{Value}
use Rattle.hg_base.specs.History.{same_rid, nothing}
use Rattle.hg_base.specs.Lists.{Each}
use Rattle.hg_base.specs.Replies.{AreRows}
use Rattle.hg_base.proofs.HistoryFacts.{same_rid_equal}
use Rattle.hg_core.specs.declared.ask.Ask.{Ask}
use Rattle.hg_core.specs.declared.ask.Ask.TheVariants.{Read, Write, Outside}
use Rattle.hg_core.specs.declared.log.LogEntry.{LogEntry}
use Rattle.hg_core.specs.declared.log.LogEntry.TheVariants as entries
use Rattle.hg_core.specs.Logs.{is_plain}
use Rattle.hg_core.specs.Phases.{snapshot_in}
use Rattle.hg_core.specs.Contents.{Content, bucket_of, look, versions}
use Rattle.hg_core.specs.Placed.{IsPlaced}
use Rattle.hg_core.specs.Replies.{read_by, in_bucket, refusal}
use Rattle.hg_core.specs.State.{CoreState}
use Rattle.hg_core.specs.Events.{happens, looked, with_refusal, Look, Asks}
use Rattle.hg_core.proofs.Indices.{put_here, put_else}
use Rattle.hg_rule.specs.declared.view.SessionPart.{SessionPart}
use Rattle.hg_rule.specs.declared.view.Part.TheVariants.{OfSession, OfBucket}
use Rattle.hg_rule.specs.declared.view.Sight.{Sight}
use Rattle.hg_rule.specs.declared.view.Sight.TheVariants as sights
use Rattle.hg_rule.specs.declared.view.Event.TheVariants as events
use Rattle.hg_rule.specs.declared.view.View.{View}
use Rattle.hg_rule.specs.declared.view.Sizes.{Sizes}
use Rattle.hg_rule.specs.Facts.{EndsWith, IsAmong, IsHeard, Known, groups, new_part, Shown}
use Rattle.hg_rule.specs.Keys.{both, one, session_key}
use Rattle.hg_rule.specs.Words.{words_for}
use Rattle.hg_rule.specs.Rules.{HasRoom, Rule}
use Rattle.hg_rule.specs.Views.{number, session, others, HasSession, then_has}
use Rattle.hg_rule.specs.Steps.{Seated}
use Rattle.hg_rule.specs.Holding.{bucket_number, bucket, writer, snapshot, tables, held}
use Rattle.hg_rule.specs.Writes.{with_log, MayAsk, AreShown, log_asked, asked}
use Rattle.hg_rule.proofs.Lists.{starts_same, ends_same}
use Rattle.hg_rule.proofs.Counts.{away_same}
use Rattle.hg_rule.proofs.Keeps.{Table, Changes, keep, keep_state, backs, backs_state}
use Rattle.hg_rule.proofs.Found.{inside_is}
use Rattle.hg_rule.proofs.Registers.{loaded_words}
use Rattle.hg_rule.proofs.Owned.{Leaves, leaves_only, not_first, log_put, own_second, held_versions, live_is, writer_is, snapshot_is}
use Rattle.hg_rule.proofs.Evidence.{own_session, history_at}
use Rattle.hg_rule.proofs.Turning.{in_range}
use Rattle.hg_rule.proofs.Ranges.{some_rows}
use Rattle.hg_rule.proofs.Reached.{steady, acted}

-- ---- a bucket has its own records alone

look_none : (buckets b : ℕ) (rid : Rid) (content : Content) → Each (λ e. bucket_of buckets e.0 ≡ b) content → (bucket_of buckets rid ≡ b → ⊥) → look rid content ≡ []
look_none buckets b rid [] h away = refl
look_none buckets b rid (e ∷ content) h away = go (same_rid rid e.0) refl (look_none buckets b rid content h.1 away)
  where
    go : (x : Bool) → same_rid rid e.0 ≡ x → look rid content ≡ [] → (if x then e.1 else look rid content) ≡ []
    go true t rest = absurd (away (ap (bucket_of buckets) (same_rid_equal rid e.0 t) ∙ h.0))
    go false t rest = rest

shown_there : (tables buckets b : ℕ) (bucket : ℕ → Content) (content : Content) (w : Writer) (at : ℕ) (table : TableId) (key : ℕ) → bucket b ≡ content → IsPlaced tables buckets b (bucket b)
    → read_by w at (look (record { table = table; key = key }) content) ≡ in_bucket buckets b table (λ rid. read_by w at (versions buckets bucket rid)) key
shown_there tables buckets b bucket content w at table key is placed = go (bucket_of buckets rid == b) refl
  where
    rid : Rid
    rid = record { table = table; key = key }

    go : (x : Bool) → (bucket_of buckets rid == b) ≡ x → read_by w at (look rid content) ≡ (if x then read_by w at (versions buckets bucket rid) else nothing)
    go true e = let same : bucket_of buckets rid ≡ b = grind (arith, nat_tests) in ap (λ c. read_by w at (look rid c)) (sym is) ∙ ap (λ n. read_by w at (look rid (bucket n))) (sym same)
    go false e = let other : bucket_of buckets rid ≡ b → ⊥ = grind (arith, nat_tests) in ap (λ c. read_by w at (look rid c)) (sym is) ∙
        ap (read_by w at) (look_none buckets b rid (bucket b) placed.bucket other)

-- ---- a look

refusal_ends : (rid : Rid) (answer : Option Answer) (log : List LogEntry) → EndsWith (with_refusal rid answer log) log
refusal_ends rid None log = ends_same log
refusal_ends rid (Some answer) log = (entries.Refused rid answer ∷ [], refl)

looked_ends : (c : CoreState) (j : ℕ) (ask : Ask) (b : ℕ) (rows : List (ℕ × List Value)) → EndsWith (looked c j ask b rows) (c.log j)
looked_ends c j (Read table low high) b rows = (entries.Saw table low high b rows ∷ [], refl)
looked_ends c j (Write rid) b rows = refusal_ends rid _ (c.log j)
looked_ends c j (Outside table) b rows = (entries.Outside table ∷ [], refl)

look_leaves : (c : CoreState) (j : ℕ) (ask : Ask) (b : ℕ) (rows : List (ℕ × List Value)) (old : SessionPart) → Leaves c (happens c (Look j ask b rows)) (OfSession j old ∷ [])
look_leaves c j ask b rows old = record {
  phase = λ k away. refl;
  log = λ k away. put_else c.log j k _ (not_first j k 0 away);
  stamped = λ k away. refl;
  bucket = λ b away. refl;
  counters = λ b away. refl;
  history = λ away. refl;
  list = λ away. refl;
  taken = λ away. refl;
  pass = λ p away. refl;
  visits = λ p away. refl;
  home = λ k part n away s. away_same c (happens c (Look j ask b rows)) k part n refl (put_else c.log j k _ (not_first j k 0 away)) (le_refl _) s;
}

-- ---- what is heard at a look

-- the logs of the first sessions
abbrev heards : (ℕ → List LogEntry) → ℕ → List Sight
heards logs zero = []
heards logs (suc k) = sights.Heard (suc k) (logs (suc k)) ∷ heards logs k

heards_known : (d : CoreState) (n : ℕ) → Each (Known d) (heards d.log n)
heards_known d zero = tt
heards_known d (suc k) = (ends_same (d.log (suc k)), heards_known d k)

heards_there : (logs : ℕ → List LogEntry) (n k : ℕ) → 0 < k → k ≤ n → IsAmong (sights.Heard k (logs k)) (heards logs n)
heards_there logs zero k first last = absurd (omega (arith, first, last))
heards_there logs (suc n) k first last = go (dec_le k n) (λ l. heards_there logs n k first l)
  where
    go : Dec (k ≤ n) → (k ≤ n → IsAmong (sights.Heard k (logs k)) (heards logs n)) → IsAmong (sights.Heard k (logs k)) (heards logs (suc n))
    go (yes l) there = inr (there l)
    go (no l) there = let same : suc n ≡ k = omega (arith, l, last) in inl (λ i. sights.Heard (same i) (logs (same i)))

-- and that of a number that no session has is empty
all_heard : (z : Sizes) (d : CoreState) → ((k : ℕ) → both (ltb 0 k) (ltb k (suc z.sessions)) ≡ false → d.log k ≡ []) → (k : ℕ) → IsHeard k (d.log k) (heards d.log z.sessions)
all_heard z d empty k = go (both (ltb 0 k) (ltb k (suc z.sessions))) refl
  where
    go : (b : Bool) → both (ltb 0 k) (ltb k (suc z.sessions)) ≡ b → IsHeard k (d.log k) (heards d.log z.sessions)
    go true e = let is = inside_is z k e in inr (heards_there d.log z.sessions k is.first is.last)
    go false e = inl (empty k e)

-- what is asked, as the state has it
record Found (c : CoreState) (v : View) (ask : Ask) (n : ℕ) : Type 0 where
  pub rows : List (ℕ × List Value)
  pub shown : AreShown v ask rows
  pub asks : Asks c (number v) (snapshot v) (tables v) ask (bucket_number v) rows
  pub log : looked c (number v) ask (bucket_number v) rows ≡ log_asked v ask n rows

finds : (z : Sizes) (t : Table) (r : Rule z t) (id : ℕ) (v : View) (ask : Ask) (n : ℕ) → get_elem? t.views id ≡ some v → HasSession v → r.state.mark ≡ n →
    IsSome (snapshot_in (session v).phase) → MayAsk z.buckets v ask → Found r.state v ask n
finds z t r id v (Outside table) n at is mark live may = record { rows = []; shown = refl; asks = may; log = ap (λ (l : List LogEntry). entries.Outside table ∷ l) (own_session z t r id v at is).1.0 }
finds z t r id v (Write rid) n at is mark live may =
    let c = r.state in
    let own = own_session z t r id v at is in
    let there : Shown c (OfBucket (bucket_number v) (bucket v)) = own_second z t r id v at _ _ _ is may.0 in
    let vs : versions c.buckets c.bucket rid ≡ held v rid = held_versions c 0 z.buckets (bucket_number v) (bucket v).content rid r.sized.buckets may.1.0 there.0 in
    let w = writer_is c v own.1.0 in
    let s = snapshot_is c v (steady r) own.0 live in
    record { rows = []; shown = refl; asks = may.1.1; log = λ i. with_refusal rid (refusal (mark i) (w i) (s i) (vs i)) (own.1.0 i) }
finds z t r id v (Read table low high) n at is mark live may =
    let c = r.state in
    let own = own_session z t r id v at is in
    let there : Shown c (OfBucket (bucket_number v) (bucket v)) = own_second z t r id v at _ _ _ is may.0 in
    let b : ℕ = bucket_number v in
    let some_ = some_rows (λ key. read_by (writer v) (snapshot v) (held v record { table = table; key = key })) low high in
    let same : (key : ℕ) → read_by (writer v) (snapshot v) (held v record { table = table; key = key }) ≡ in_bucket c.buckets b table
    (λ rid. read_by (writer v) (snapshot v) (versions c.buckets c.bucket rid)) key =
    λ key. shown_there c.tables c.buckets b c.bucket (bucket v).content (writer v) (snapshot v) table key there.0 ((steady r).contents_are_placed b) in
    record {
      rows = some_.0;
      shown = some_.1;
      asks = (
        may.1,
        subst (λ w. AreRows (in_bucket c.buckets b table (λ rid. read_by w (snapshot v) (versions c.buckets c.bucket rid))) low high some_.0)
            (sym (writer_is c v own.1.0)) (subst (λ f. AreRows f low high some_.0) (λ i key. same key i) some_.1),
      );
      log = ap (λ (l : List LogEntry). entries.Saw table low high b some_.0 ∷ l) own.1.0;
    }

pub asks : (z y : Sizes) (slots id : ℕ) (ask : Ask) (m : Seated) → y ≡ z → HasRoom z → HasSession m.0 → IsSome (snapshot_in (session m.0).phase) →
    IsTrue (is_plain (session m.0).log) → (session m.0).stamped ≡ false → MayAsk z.buckets m.0 ask
    → Allows (Rule z) slots id m 0 (λ n. n) (asked y ask (step slots 0 0 0 none) m)
asks z y slots id ask m same room is live plain unstamped may = subst (λ (y : Sizes). Allows (Rule z) slots id m 0 (λ n. n) (asked y ask (step slots 0 0 0 none) m)) (sym same) at_z
  where
    at_z : Allows (Rule z) slots id m 0 (λ n. n) (asked z ask (step slots 0 0 0 none) m)
    at_z t r deep at small =
        let v : View = m.0 in
        let c = r.state in
        let j : ℕ = number v in
        let n : ℕ = get_or t.words 0 0 in
        let own = own_session z t r id v at is in
        let f = finds z t r id v ask n at is (sym r.words.mark) live may in
        let log : List LogEntry = log_asked v ask n f.rows in
        let new : SessionPart = with_log log (session v) in
        let d : CoreState = happens c (Look j ask (bucket_number v) f.rows) in
        let w = loaded_words z c t.words 0 r.words in
        let put_log : d.log j ≡ log = put_here c.log j _ ∙ f.log in
        let all : List Sight = heards d.log z.sessions in
        let after : View = then_has v (OfSession j new ∷ others v) (sights.Saw (groups c.history) ∷ sights.Heard j log ∷ all) (events.Look j ask n) in
        let changes : Changes z c d (set t.words 0 n) (OfSession j (session v) ∷ []) (OfSession j new ∷ []) (sights.Saw (groups c.history) ∷ sights.Heard j log ∷ all) (events.Look j ask n) = record {
          reached = acted z c (Look j ask (bucket_number v) f.rows) r.reached (
            snapshot v,
            tables v,
            record {
              live = own.0 ∙ live_is (session v).phase live;
              plain = subst (λ l. IsTrue (is_plain l)) (sym own.1.0) plain;
              unstamped = own.1.1 ∙
                  unstamped;
              asks = f.asks;
            },
          );
          sized = record { sessions = r.sized.sessions; tables = r.sized.tables; buckets = r.sized.buckets; quota = r.sized.quota };
          passes = refl;
          shows = record { count = w.count; mark = w.mark; registers = w.registers; masks = w.masks };
          grows = record { history = starts_same c.history; logs = log_put c j _ (looked_ends c j ask (bucket_number v) f.rows); taken = omega arith };
          only = leaves_only c d (OfSession j (session v) ∷ []) (look_leaves c j ask (bucket_number v) f.rows (session v));
          counts = λ k. refl;
          shared = refl;
          shown = ((own.0, (put_log, own.1.1)), tt);
          known = (starts_same c.history, (subst (λ l. EndsWith l log) (sym put_log) (ends_same log), heards_known d z.sessions));
          stands = tt;
        } in
        let r' = keep z t r id v (OfSession j (session v) ∷ []) (OfSession j new ∷ []) (others v) (sights.Saw (groups c.history) ∷ sights.Heard j log ∷ all)
        (events.Look j ask n) 0 n d at is changes in
        let new_state : r'.state ≡ d = keep_state z t r id v (OfSession j (session v) ∷ []) (OfSession j new ∷ []) (others v)
        (sights.Saw (groups c.history) ∷ sights.Heard j log ∷ all) (events.Look j ask n) 0 n d at is changes in
        let here = set_here t.views id after (in_range 0 t.views id v at) in
        let mark : r'.state.mark ≡ n = sym r'.words.mark ∙ get_or-set_same t.words 0 n 0 (let l : ℕ = length t.words in let e : l ≡ words_for z.sessions = r.words.count in omega arith) in (
          after,
          keeps,
          tt,
          r',
          (
            record {
              looks = record {
                history = c.history;
                whole = history_at z t r id v room at;
                rows = f.rows;
                shown = f.shown;
                logs = d.log;
                heard = all;
                all = all_heard z d (λ k out. (subst (λ (s : CoreState). Shown s (new_part (session_key k))) new_state (r'.outside (session_key k) (ap one out))).1.0);
                after = refl;
              };
              backed = backs z (record { words = set t.words 0 n; homes = t.homes; views = set t.views id after }) r' id after n here mark;
              logs_are = λ k. (λ i. (backs_state z (record { words = set t.words 0 n; homes = t.homes; views = set t.views id after }) r' id after n here mark i).log k) ∙ (λ i. (new_state i).log k);
            },
            refl,
          ),
        )
