-- A conversation, statement by statement.
use Rattle.std.proofs.Common.{◌≡◌, ℕ, suc, ◌+◌, ◌<◌, ◌≤◌, ◌≢◌, List, [], ◌∷◌, ◌++◌, length, Bool, true, false, Option, Some, None, refl, sym, ap, ◌∙◌, subst, arith, length-append}
use Rattle.std.specs.Prelude.{cond, get_or, is_some, IfSome, ◌==◌, if◌then◌else◌}
use Rattle.std.proofs.lemmas.Bool.Decides.{Decides-eqb, nat_tests}
use Rattle.std.proofs.lemmas.List.Elements.{filter-append}
use Rattle.hg_base.specs.declared.statement.Statement.{Statement}
use Rattle.hg_base.specs.declared.statement.Record.{Record}
use Rattle.hg_base.specs.declared.scope.Snapshot.{Snapshot}
use Rattle.hg_base.specs.declared.line.Line.{Line}
use Rattle.hg_base.specs.declared.line.Reply.{Reply}
use Rattle.hg_base.specs.declared.report.Kind.{Kind}
use Rattle.hg_base.specs.declared.statement.Statement.TheVariants.{Gc}
use Rattle.hg_base.specs.Conflicts.{target}
use Rattle.hg_base.specs.Transcript.{Rest, of_session, rest_after}
use Rattle.hg_core.specs.declared.log.LogEntry.{LogEntry}
use Rattle.hg_core.specs.Logs.{current}
use Rattle.hg_core.specs.Events.{put}
use Rattle.hg_core.specs.Reading.{Follows, Unprinted, is_alone, left_after, log_after, log_with}
use Rattle.hg_core.specs.Shown.{ShowsFirst, ShowsFirsts, reads_at}
use Rattle.hg_script.specs.Lawful.{MayStand}
use Rattle.hg_script.specs.Rules.{is_open, is_reading, reading}
use Rattle.hg_headline.specs.Following.{IsFollowing, top_after}
use Rattle.hg_headline.proofs.Following.{following_more}
use Rattle.hg_headline.proofs.Growing.{put_same}
use Rattle.hg_headline.proofs.Loops.{follows_snoc}
use Rattle.hg_rule.specs.declared.view.Sizes.{Sizes}
use Rattle.hg_session.specs.declared.engine.Engine.{Engine}
use Rattle.hg_session.specs.declared.session.Session.{Session}
use Rattle.hg_session.specs.Engines.{engine_sizes}
use Rattle.hg_session.specs.Finished.{logs_of}
use Rattle.hg_session.specs.Sessions.{cursor_of, left_of, open_of, seen_by}
use Rattle.hg_exact.specs.Opening.{AreOpen}
use Rattle.hg_run.specs.Caught.{HasOwn, SeesAll}
use Rattle.hg_run.specs.Listed.{AreReady, HaveCursors, KeepCursors, SawAt, none_left, one_more}
use Rattle.hg_run.specs.Asked.{IsReplied, HasReplied, MayAsk}
use Rattle.hg_run.specs.Live.{IsLive, left_in}
use Rattle.hg_run.specs.Unsaid.{HasOnlyMet}
use Rattle.hg_run.proofs.Cursors.{cursors_kept, cursors_same, left_more, reading_more}
use Rattle.hg_run.proofs.Caught.{caught_before, caught_kept}
use Rattle.hg_run.proofs.Going.{ready_less}
use Rattle.hg_run.proofs.Hearing.{seen_among}
use Rattle.hg_run.proofs.Listing.{by_two, log_at}
use Rattle.hg_run.proofs.Turns.{some_of}
use Rattle.hg_exact.proofs.OpenAfter.{opened_more}

-- the session of the next statement has met the one that ran last
pub live_turned : (e : Engine) (old mid : List Session) (last i : ℕ) (records : List Record) (lines : List Line) →
    IsLive e old last records lines → logs_of mid ≡ logs_of old → KeepCursors old mid → ((seen : ℕ) → SawAt seen last old → SawAt seen i mid) →
    ((left : ℕ → ℕ) → AreReady e last left old → AreReady e i left mid) → SeesAll last old i mid → (i ≢ last → HasOwn i mid) → IsLive e mid i records lines
live_turned e old mid last i records lines g same kept saw ready sees own =
    let left : ℕ → ℕ = left_in (engine_sizes e) records in
    let many : length mid ≡ length old = (let a = g.ready.many in let b = (ready left g.ready).many in omega (arith, a, b)) in
    record {
      seen = g.seen;
      top = g.top;
      following = subst (λ logs. IsFollowing (engine_sizes e).buckets (engine_sizes e).sessions logs g.seen g.top records lines) (sym same) g.following;
      firsts = λ caught. subst (λ logs. Follows (engine_sizes e).buckets ShowsFirsts (λ j. []) (λ j. None) records lines logs) (sym same)
          (g.firsts (caught_before i last old mid many same sees own caught));
      opened = λ j. subst (λ (l : ℕ → List LogEntry). AreOpen (is_open j records) (is_reading j records) (is_some (current (l j)))) (sym same) (g.opened j);
      cursors = cursors_kept (λ j. is_reading j records) (left_after (λ j. None) records lines) old mid many kept g.cursors;
      ready = ready left g.ready;
      saw = saw g.seen g.saw;
    }

-- it answers the statement
pub live_on : (e : Engine) (old new : List Session) (i : ℕ) (records : List Record) (lines : List Line) (r : Record) (line : Line) → (g : IsLive e old i records lines) →
    suc i ≡ r.session → 1 ≤ r.session → r.session ≤ (engine_sizes e).sessions → MayStand (is_open r.session records) (is_reading r.session records) r.statement →
    line.session ≡ r.session → line.place ≡ r.place →
    HasReplied e g.seen (λ j. is_reading j records) (left_after (λ j. None) records lines) old i r.statement line.reply new →
    AreReady e i (left_in (engine_sizes e) (records ++ r ∷ [])) new → IsLive e new i (records ++ r ∷ []) (lines ++ line ∷ [])
live_on e old new i records lines r line g is some most stands session place h ready =
    let z = engine_sizes e in
    let reads : ℕ → Bool = λ j. is_reading j records in
    let left : ℕ → Option Rest = left_after (λ j. None) records lines in
    let a : IsReplied z.buckets z.sessions (logs_of old) g.seen h.later r.session (left r.session) r.statement line.reply (logs_of new) = subst
    (λ j. IsReplied z.buckets z.sessions (logs_of old) g.seen h.later j (left j) r.statement line.reply (logs_of new)) is h.replied in
    let cursors : HaveCursors (put reads r.session (reading (reads r.session) r.statement)) (put left r.session (rest_after r.statement line.reply.answer (left r.session))) new =
    subst (λ j. HaveCursors (put reads j (reading (reads j) r.statement)) (put left j (rest_after r.statement line.reply.answer (left j))) new) is h.cursors in
    let top : ℕ = top_after g.top r.statement line.reply in
    record {
      seen = h.later;
      top = top;
      following = subst (λ logs. IsFollowing z.buckets z.sessions logs h.later top (records ++ r ∷ []) (lines ++ line ∷ [])) (sym a.logs)
          (following_more z.buckets z.sessions (logs_of old) g.seen h.later g.top records lines r line a.u g.following some most session place a.fits a.rest_is a.met a.fresh);
      firsts = λ caught. subst (λ logs. Follows z.buckets ShowsFirsts (λ j. []) (λ j. None) (records ++ r ∷ []) (lines ++ line ∷ []) logs) (sym a.logs)
          (follows_snoc z.buckets ShowsFirsts (λ j. []) (logs_of old) (λ j. None) records lines r line a.u (g.firsts (h.caught caught))
          (subst (λ j. IfSome (target r.statement) (λ rid. ShowsFirst (logs_of old) j (reads_at (current (logs_of old j)) line.reply) rid line.reply.answer)) is (h.first caught)) a.fits a.rest_is);
      opened = opened_more z.buckets (logs_of old) (logs_of new) records r a.u line.reply a.logs a.fits stands g.opened;
      cursors = cursors_same _ (λ j. is_reading j (records ++ r ∷ [])) _ (left_after (λ j. None) (records ++ r ∷ []) (lines ++ line ∷ [])) new (reading_more records r)
          (λ j. ap (λ f. f j) (sym (left_more (λ j. None) records lines r line g.following.shape))) cursors;
      ready = ready;
      saw = h.saw;
    }

-- what the statement asks for
pub live_asks : (e : Engine) (list : List Session) (last i j : ℕ) (records : List Record) (lines : List Line) (statement : Statement) → IsLive e list last records lines →
    suc i ≡ j → i < length list → MayStand (is_open j records) (is_reading j records) statement → (d : Session) → MayAsk (get_or list i d) statement
live_asks e list last i j records lines statement g is within stands d =
    let reads : is_reading j records ≡ is_some (cursor_of (get_or list i d)) = ap (λ j. is_reading j records) (sym is) ∙ sym (g.cursors d i within).reads_is in
    let log : is_some (current (logs_of list j)) ≡ is_some (open_of (get_or list i d)) = ap (λ j. is_some (current (logs_of list j))) (sym is) ∙
    ap (λ l. is_some (current l)) (log_at d list i within) in
    record {
      within = is_open j records;
      opens = subst (λ p. p) (λ k. AreOpen (is_open j records) (reads k) (log k)) (g.opened j);
      may = subst (λ b. MayStand (is_open j records) b statement) reads stands;
    }

-- ---- what each session has left

-- a session that may run some statement more may run one now, and then what it has left
pub ready_for_one : (e : Engine) (i : ℕ) (list : List Session) (records : List Record) (r : Record) → suc i ≡ r.session → AreReady e i (left_in (engine_sizes e) records) list →
    ((d : Session) → 0 < left_of (get_or list i d)) → AreReady e i (one_more (suc i) (left_in (engine_sizes e) (records ++ r ∷ []))) list
ready_for_one e i list records r is ready some = record {
  many = ready.many;
  within = ready.within;
  placed = ready.placed;
  left_is = λ d k within. by_two i i k (λ k. k < length list → one_more (suc i) left (suc k) ≤ left_of (get_or list k d)) (here d) (here d) (λ apart _ below. there d k apart below) within;
  heard = ready.heard;
}
  where
    z : Sizes
    z = engine_sizes e

    left : ℕ → ℕ
    left = left_in z (records ++ r ∷ [])

    -- session j has one record more, or as many
    more : (j : ℕ) → length (of_session j (records ++ r ∷ [])) ≡ length (of_session j records) + (if r.session == j then 1 else 0)
    more j = ap (λ rs. length rs) (filter-append (λ (x : Record). x.session == j) records (r ∷ [])) ∙ length-append (of_session j records) (of_session j (r ∷ [])) ∙
        ap (λ n. length (of_session j records) + n) (one (r.session == j))
      where
        one : (b : Bool) → length (cond b (r ∷ []) []) ≡ (if b then 1 else 0)
        one true = refl
        one false = refl

    here : (d : Session) → i < length list → one_more (suc i) left (suc i) ≤ left_of (get_or list i d)
    here d below =
        let all = ready.left_is d i below in
        let has = some d in
        let same : (r.session == suc i) ≡ true = (Decides-eqb r.session (suc i)).1 (sym is) in
        let count : length (of_session (suc i) (records ++ r ∷ [])) ≡ length (of_session (suc i) records) + 1 = more (suc i) ∙ ap (λ b. length (of_session (suc i) records) + (if b then 1 else 0)) same in
        let one : one_more (suc i) left (suc i) ≡ suc (left (suc i)) = ap (λ b. cond b (suc (left (suc i))) (left (suc i))) ((Decides-eqb (suc i) (suc i)).1 refl) in
        omega (arith, all, has, count, one)

    there : (d : Session) (k : ℕ) → k ≢ i → k < length list → one_more (suc i) left (suc k) ≤ left_of (get_or list k d)
    there d k apart below =
        let all = ready.left_is d k below in
        let other : (suc i == suc k) ≡ false = grind (arith, nat_tests, apart) in
        let count = more (suc k) in
        let one : one_more (suc i) left (suc k) ≡ left (suc k) = ap (λ b. cond b (suc (left (suc k))) (left (suc k))) other in
        omega (arith, all, count, one)

-- which is one at least
pub ready_now : (e : Engine) (i : ℕ) (list : List Session) (records : List Record) (r : Record) → suc i ≡ r.session → AreReady e i (left_in (engine_sizes e) records) list →
    ((d : Session) → 0 < left_of (get_or list i d)) → AreReady e i (one_more (suc i) none_left) list
ready_now e i list records r is ready some =
    ready_less e i (one_more (suc i) none_left) (one_more (suc i) left) list (λ j. go j (suc i == j)) (ready_for_one e i list records r is ready some)
  where
    left : ℕ → ℕ
    left = left_in (engine_sizes e) (records ++ r ∷ [])

    go : (j : ℕ) (b : Bool) → cond b (suc (none_left j)) (none_left j) ≤ cond b (suc (left j)) (left j)
    go j true = omega arith
    go j false = omega arith

-- one that has run all that it may has as many records
pub all_spent : (e : Engine) (list : List Session) (i : ℕ) (records : List Record) → AreReady e i (left_in (engine_sizes e) records) list →
    ((d : Session) → left_of (get_or list i d) ≡ 0) → (engine_sizes e).quota ≤ length (of_session (suc i) records)
all_spent e list i records ready none =
    let d = some_of list i ready.within in
    let left = ready.left_is d i ready.within in
    let zero = none d in
    omega (arith, left, zero)

-- ---- a round that nobody asked for

gc_alone : (kind : Kind) (o : Option Snapshot) → is_alone o (Gc kind) ≡ false
gc_alone kind None = refl
gc_alone kind (Some snapshot) = refl

gc_log : (buckets : ℕ) (u : Unprinted) (kind : Kind) (reply : Reply) (log : List LogEntry) → log_after buckets u (Gc kind) reply log ≡ log
gc_log buckets u kind reply log = ap (λ b. log_with b buckets u (Gc kind) reply log) (gc_alone kind (current log))

put_at : {A : Type 0} (f : ℕ → A) (j : ℕ) (value : A) → value ≡ f j → (k : ℕ) → put f j value k ≡ f k
put_at f j value same k = by_bool (k == j) (λ e. (Decides-eqb k j).0 e)
  where
    by_bool : (b : Bool) → (b ≡ true → k ≡ j) → (if b then value else f k) ≡ f k
    by_bool true h = same ∙ ap f (sym (h refl))
    by_bool false h = refl

-- it changes no log and no cursor, and what was seen grows
pub live_round : (e : Engine) (old new : List Session) (i : ℕ) (records : List Record) (lines : List Line) (kind : Kind) (reply : Reply) → (g : IsLive e old i records lines) →
    HasReplied e g.seen (λ j. is_reading j records) (left_after (λ j. None) records lines) old i (Gc kind) reply new → AreReady e i (left_in (engine_sizes e) records) new → IsLive e new i records lines
live_round e old new i records lines kind reply g h ready =
    let z = engine_sizes e in
    let a = h.replied in
    let same : logs_of new ≡ logs_of old =
    a.logs ∙ ap (put (logs_of old) (suc i)) (gc_log z.buckets a.u kind reply (logs_of old (suc i))) ∙ put_same (logs_of old) (suc i) in
    record {
      seen = h.later;
      top = g.top;
      following = subst (λ logs. IsFollowing z.buckets z.sessions logs h.later g.top records lines) (sym same) (record {
        within = g.following.within;
        shape = g.following.shape;
        follows = g.following.follows;
        rises = g.following.rises;
        known = λ n over. g.following.known n (record { entries = over.entries; groups = (let more = over.groups in let grows = a.fresh.grows in omega (arith, more, grows)) });
      });
      firsts = λ caught. subst (λ logs. Follows z.buckets ShowsFirsts (λ j. []) (λ j. None) records lines logs) (sym same) (g.firsts (h.caught caught));
      opened = λ j. subst (λ (l : ℕ → List LogEntry). AreOpen (is_open j records) (is_reading j records) (is_some (current (l j)))) (sym same) (g.opened j);
      cursors = cursors_same _ (λ j. is_reading j records) _ (left_after (λ j. None) records lines) new (λ j. put_at (λ j. is_reading j records) (suc i) (is_reading (suc i) records) refl j)
          (λ j. put_at (left_after (λ j. None) records lines) (suc i) (left_after (λ j. None) records lines (suc i)) refl j) h.cursors;
      ready = ready;
      saw = h.saw;
    }

-- one for which there is no memory changes no log and no cursor either
pub live_met : (e : Engine) (old new : List Session) (i : ℕ) (records : List Record) (lines : List Line) → IsLive e old i records lines → HasOnlyMet e i old new → IsLive e new i records lines
live_met e old new i records lines g m =
    let ready = m.ready (left_in (engine_sizes e) records) g.ready in
    let many : length new ≡ length old = (let a = g.ready.many in let b = ready.many in omega (arith, a, b)) in
    record {
      seen = g.seen;
      top = g.top;
      following = subst (λ logs. IsFollowing (engine_sizes e).buckets (engine_sizes e).sessions logs g.seen g.top records lines) (sym m.logs) g.following;
      firsts = λ caught. subst (λ logs. Follows (engine_sizes e).buckets ShowsFirsts (λ j. []) (λ j. None) records lines logs) (sym m.logs)
          (g.firsts (caught_kept i old new many (λ k apart. ap (λ (logs : ℕ → List LogEntry). logs (suc k)) m.logs) m.sees caught));
      opened = λ j. subst (λ (l : ℕ → List LogEntry). AreOpen (is_open j records) (is_reading j records) (is_some (current (l j)))) (sym m.logs) (g.opened j);
      cursors = cursors_kept (λ j. is_reading j records) (left_after (λ j. None) records lines) old new many m.cursors g.cursors;
      ready = ready;
      saw = λ d. seen_among g.seen (seen_by (get_or old i d)) (seen_by (get_or new i d)) (m.sees d) (g.saw d);
    }
