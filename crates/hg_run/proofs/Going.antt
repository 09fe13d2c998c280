-- A replay amid a script that breaks no rule.
use Rattle.std.proofs.Common.{◌≡◌, ℕ, suc, ◌+◌, ◌<◌, ◌≤◌, ◌≢◌, inl, List, [], ◌∷◌, ◌++◌, length, Bool, true, false, Option, None, refl, sym, ap, ◌∙◌, subst, arith, append_assoc}
use Rattle.std.specs.Prelude.{cond, get_or, map, max, is_some, IfSome, ⊤, ◌==◌}
use Rattle.std.proofs.lemmas.List.Sums.{sum_by-cons, sum_by-append}
use Rattle.hg_base.specs.declared.statement.Statement.{Statement}
use Rattle.hg_base.specs.declared.statement.Statement.TheVariants.{Begin, Get, Put, Del, Scan, CursorOpen, Fetch, CursorClose, Commit, Rollback, Gc}
use Rattle.hg_base.specs.declared.report.Kind.{Kind}
use Rattle.hg_base.specs.declared.scope.Scope.{Scope}
use Rattle.hg_base.specs.declared.scope.Scope.TheVariants.{All, Declared}
use Rattle.hg_base.specs.declared.statement.Record.{Record}
use Rattle.hg_base.specs.declared.line.Line.{Line}
use Rattle.hg_base.specs.Lists.{Each, greatest}
use Rattle.hg_base.specs.Script.{Declaration, Script}
use Rattle.hg_base.specs.Conflicts.{target}
use Rattle.hg_base.specs.Transcript.{Rest, of_session, rest_after}
use Rattle.hg_base.proofs.ListFacts.{append_nil}
use Rattle.hg_core.specs.declared.log.LogEntry.{LogEntry}
use Rattle.hg_core.specs.Logs.{current}
use Rattle.hg_core.specs.Events.{put}
use Rattle.hg_core.specs.Reading.{Follows, left_after}
use Rattle.hg_core.specs.Shown.{ShowsFirst, ShowsFirsts, reads_at}
use Rattle.hg_core.specs.Words.{IsBelow}
use Rattle.hg_script.specs.Lawful.{AreInOrder, FitsTables, HasWidths, IsScope, IsLawful, IsStatement, MayStand}
use Rattle.hg_script.specs.Rules.{is_open, is_reading, reading}
use Rattle.hg_headline.specs.Counted.{Closes}
use Rattle.hg_headline.specs.Met.{IsMet}
use Rattle.hg_headline.specs.Following.{IsFollowing, top_after, told_by, told_removed}
use Rattle.hg_headline.proofs.Following.{following_opened, following_more}
use Rattle.hg_headline.proofs.Loops.{follows_snoc}
use Rattle.hg_session.specs.declared.engine.Engine.{Engine}
use Rattle.hg_session.specs.declared.session.Session.{Session}
use Rattle.hg_session.specs.Engines.{engine_sizes}
use Rattle.hg_session.specs.Finished.{logs_of}
use Rattle.hg_session.specs.Sessions.{cursor_of, open_of}
use Rattle.hg_session.proofs.Cursors.{no_cursor}
use Rattle.hg_exact.specs.Opening.{AreOpen}
use Rattle.hg_run.specs.Caught.{HasCaughtUp, HasOwn, SeesAll}
use Rattle.hg_run.specs.Listed.{ArePlaced, AreReady, HaveCursors, KeepCursors, SawAt, none_left, one_more}
use Rattle.hg_run.specs.Asked.{IsOnTables, IsReplied, HasReplied, MayAsk}
use Rattle.hg_collectors.specs.Swept.{told_of}
use Rattle.hg_run.specs.Few.{KeepsFew}
use Rattle.hg_run.specs.Played.{HasPlayed, HasPlayedOut}
use Rattle.hg_collectors.specs.declared.collectors.Collectors.{Collectors}
use Rattle.hg_collectors.specs.Collecting.{HaveMade, removed_of}
use Rattle.hg_run.specs.Driven.{HasDrivenOne}
use Rattle.hg_collectors.specs.Telling.{sweeps_in, sweeps_of}
use Rattle.hg_run.proofs.Cursors.{cursors_kept, cursors_same, left_more, no_cursors, reading_more}
use Rattle.hg_collectors.proofs.Driving.{made_first, made_more}
use Rattle.hg_run.proofs.Caught.{caught_before}
use Rattle.hg_run.proofs.Listing.{log_at}
use Rattle.hg_exact.proofs.OpenAfter.{opened_more}

-- of a record that is still to come: a statement of a session that there is
pub record IsToCome (script : Script) (sessions : ℕ) (r : Record) : Type 0 where
  pub stands : IsStatement script.tables r
  pub most : r.session ≤ sessions

-- The records that were answered, and those that are left; and what the collectors have made of what they were. Each write's line shows
-- its first cause, once the session that ran last has heard no log further than it stands.
pub record Going (e : Engine) (long : ℕ) (before now : Collectors) (list : List Session) (last : ℕ) (lines : List Line) (rest : List Record) (script : Script) : Type 0 where
  pub done : List Record
  pub seen : ℕ
  pub top : ℕ
  pub all : script.records ≡ done ++ rest
  pub following : IsFollowing (engine_sizes e).buckets (engine_sizes e).sessions (logs_of list) seen top done lines
  pub firsts : HasCaughtUp last list → Follows (engine_sizes e).buckets ShowsFirsts (λ j. []) (λ j. None) done lines (logs_of list)
  pub opened : (j : ℕ) → AreOpen (is_open j done) (is_reading j done) (is_some (current (logs_of list j)))
  pub cursors : HaveCursors (λ j. is_reading j done) (left_after (λ j. None) done lines) list
  pub ready : AreReady e last (λ j. length (of_session j rest)) list
  pub saw : SawAt seen last list
  pub told : (k : Kind) → removed_of k now ≡ removed_of k before + told_removed k lines
  pub rounds : HaveMade (engine_sizes e) long before (λ k. sweeps_of k lines) now
  pub order : AreInOrder done rest
  pub coming : Each (IsToCome script (engine_sizes e).sessions) rest

-- ---- the sessions of a script

pub to_come : (script : Script) (n : ℕ) (rs : List Record) → Each (IsStatement script.tables) rs → greatest (map (λ r. r.session) rs) ≤ n → Each (IsToCome script n) rs
to_come script n [] h most = tt
to_come script n (r ∷ rs) h most =
    let here : r.session ≤ n = omega (arith, most) in
    let later : greatest (map (λ (r : Record). r.session) rs) ≤ n = omega (arith, most) in
    (record { stands = h.0; most = here }, to_come script n rs h.1 later)

-- ---- what a session may run

pub are_placed : (e : Engine) (last : ℕ) (left : ℕ → ℕ) (list : List Session) → AreReady e last left list → ArePlaced e list
are_placed e last left list r = record { many = r.many; placed = r.placed }

pub ready_less : (e : Engine) (last : ℕ) (left more : ℕ → ℕ) (list : List Session) → ((j : ℕ) → left j ≤ more j) → AreReady e last more list → AreReady e last left list
ready_less e last left more list less r = record {
  many = r.many;
  within = r.within;
  placed = r.placed;
  left_is = λ d k within. (let more = r.left_is d k within in let l = less (suc k) in omega (arith, l, more));
  heard = r.heard;
}

-- the session of the next record may run one statement more than it has to run then
more_left : (e : Engine) (i : ℕ) (list : List Session) (r : Record) (rest : List Record) → suc i ≡ r.session → AreReady e i (λ j. length (of_session j (r ∷ rest))) list →
    AreReady e i (one_more (suc i) (λ j. length (of_session j rest))) list
more_left e i list r rest is ready =
    ready_less e i (one_more (suc i) (λ j. length (of_session j rest))) (λ j. length (of_session j (r ∷ rest))) list
    (subst (λ s. (j : ℕ) → one_more s (λ j. length (of_session j rest)) j ≤ length (of_session j (r ∷ rest))) (sym is) (λ j. go j (r.session == j))) ready
  where
    go : (j : ℕ) (b : Bool) → cond b (suc (length (of_session j rest))) (length (of_session j rest)) ≤ length (cond b (r ∷ of_session j rest) (of_session j rest))
    go j true = omega arith
    go j false = omega arith

-- which is one at least
pub ready_one_more : (e : Engine) (i : ℕ) (list : List Session) (r : Record) (rest : List Record) → suc i ≡ r.session → AreReady e i (λ j. length (of_session j (r ∷ rest))) list →
    AreReady e i (one_more (suc i) none_left) list
ready_one_more e i list r rest is ready =
    ready_less e i (one_more (suc i) none_left) (one_more (suc i) (λ j. length (of_session j rest))) list (λ j. go j (suc i == j)) (more_left e i list r rest is ready)
  where
    go : (j : ℕ) (b : Bool) → cond b (suc (none_left j)) (none_left j) ≤ cond b (suc (length (of_session j rest))) (length (of_session j rest))
    go j true = omega arith
    go j false = omega arith

-- ---- one turn

pub going_first : (e : Engine) (long : ℕ) (c : Collectors) (list : List Session) (script : Script) →
    (engine_sizes e).sessions ≡ max 1 (greatest (map (λ r. r.session) script.records)) → IsLawful script → AreReady e 0 (λ j. length (of_session j script.records)) list →
    ((j : ℕ) → logs_of list j ≡ []) → Going e long c c list 0 [] script.records script
going_first e long c list script sessions h ready none =
    let most : greatest (map (λ (r : Record). r.session) script.records) ≤ (engine_sizes e).sessions = omega (arith, sessions) in
    let same : (λ j. []) ≡ logs_of list = (λ p j. sym (none j) p) in
    record {
      done = [];
      seen = 0;
      top = 0;
      all = refl;
      following = subst (λ logs. IsFollowing (engine_sizes e).buckets (engine_sizes e).sessions logs 0 0 [] []) same (following_opened (engine_sizes e).buckets (engine_sizes e).sessions);
      firsts = λ caught. none;
      opened = λ j. ap (λ l. is_some (current l)) (none j);
      cursors = no_cursors list (λ j. None) (λ d k within. no_cursor e (get_or list k d) (ready.placed d k within).own (ap current (sym (log_at d list k within) ∙ none (suc k))));
      ready = ready;
      saw = λ d. inl refl;
      told = λ k. (let nothing : told_removed k [] ≡ 0 = refl in omega (arith, nothing));
      rounds = made_first (engine_sizes e) long c;
      order = h.order;
      coming = to_come script (engine_sizes e).sessions script.records h.statements most;
    }

-- the session of the next record has met the one that ran last
pub going_turned : (e : Engine) (long : ℕ) (before now : Collectors) (old mid : List Session) (last i : ℕ) (lines : List Line) (rest : List Record) (script : Script) →
    Going e long before now old last lines rest script → logs_of mid ≡ logs_of old → KeepCursors old mid → ((seen : ℕ) → SawAt seen last old → SawAt seen i mid) →
    ((left : ℕ → ℕ) → AreReady e last left old → AreReady e i left mid) → SeesAll last old i mid → (i ≢ last → HasOwn i mid) → Going e long before now mid i lines rest script
going_turned e long before now old mid last i lines rest script g same kept saw ready sees own = record {
  done = g.done;
  seen = g.seen;
  top = g.top;
  all = g.all;
  following = subst (λ logs. IsFollowing (engine_sizes e).buckets (engine_sizes e).sessions logs g.seen g.top g.done lines) (sym same) g.following;
  firsts = λ caught. subst (λ logs. Follows (engine_sizes e).buckets ShowsFirsts (λ j. []) (λ j. None) g.done lines logs) (sym same)
      (g.firsts (caught_before i last old mid (let a = g.ready.many in let b = (ready (λ j. length (of_session j rest)) g.ready).many in omega (arith, a, b)) same sees own caught));
  opened = λ j. subst (λ (l : ℕ → List LogEntry). AreOpen (is_open j g.done) (is_reading j g.done) (is_some (current (l j)))) (sym same) (g.opened j);
  cursors = cursors_kept (λ j. is_reading j g.done) (left_after (λ j. None) g.done lines) old mid (let a = g.ready.many in
      let b = (ready (λ j. length (of_session j rest)) g.ready).many in omega (arith, a, b)) kept g.cursors;
  ready = ready (λ j. length (of_session j rest)) g.ready;
  saw = saw g.seen g.saw;
  told = g.told;
  rounds = g.rounds;
  order = g.order;
  coming = g.coming;
}

pub told_more : (k : Kind) (lines : List Line) (line : Line) → told_removed k (lines ++ line ∷ []) ≡ told_removed k lines + told_of k line.reply
told_more k lines line =
    let all = sum_by-append (told_by k) lines (line ∷ []) in
    let one = sum_by-cons (told_by k) line [] in
    let none : told_removed k [] ≡ 0 = refl in
    let same : told_by k line ≡ told_of k line.reply = refl in
    omega (arith, all, one, none, same)

pub going_on : (e : Engine) (long : ℕ) (before now later : Collectors) (old new : List Session) (i : ℕ) (lines : List Line) (r : Record) (rest : List Record) (script : Script)
    (line : Line) → (g : Going e long before now old i lines (r ∷ rest) script) → suc i ≡ r.session → line.session ≡ r.session → line.place ≡ r.place →
    HasReplied e g.seen (λ j. is_reading j g.done) (left_after (λ j. None) g.done lines) old i r.statement line.reply new →
    ((left : ℕ → ℕ) → AreReady e i (one_more (suc i) left) old → AreReady e i left new) → ((k : Kind) → removed_of k later ≡ removed_of k now + told_of k line.reply) →
    HaveMade (engine_sizes e) long now (λ k. sweeps_in k line.reply) later →
    Going e long before later new i (lines ++ line ∷ []) rest script
going_on e long before now later old new i lines r rest script line g is session place h ready gone made =
    let z = engine_sizes e in
    let reads : ℕ → Bool = λ j. is_reading j g.done in
    let left : ℕ → Option Rest = left_after (λ j. None) g.done lines in
    let a : IsReplied z.buckets z.sessions (logs_of old) g.seen h.later r.session (left r.session) r.statement line.reply (logs_of new) = subst
    (λ j. IsReplied z.buckets z.sessions (logs_of old) g.seen h.later j (left j) r.statement line.reply (logs_of new)) is h.replied in
    let cursors : HaveCursors (put reads r.session (reading (reads r.session) r.statement)) (put left r.session (rest_after r.statement line.reply.answer (left r.session))) new =
    subst (λ j. HaveCursors (put reads j (reading (reads j) r.statement)) (put left j (rest_after r.statement line.reply.answer (left j))) new) is h.cursors in
    let top : ℕ = top_after g.top r.statement line.reply in
    record {
      done = g.done ++ r ∷ [];
      seen = h.later;
      top = top;
      all = g.all ∙ sym (append_assoc g.done (r ∷ []) rest);
      following = subst (λ logs. IsFollowing z.buckets z.sessions logs h.later top (g.done ++ r ∷ []) (lines ++ line ∷ [])) (sym a.logs)
          (following_more z.buckets z.sessions (logs_of old) g.seen h.later g.top g.done lines r line a.u g.following g.coming.0.stands.some g.coming.0.most session place a.fits
          a.rest_is a.met a.fresh);
      firsts = λ caught. subst (λ logs. Follows z.buckets ShowsFirsts (λ j. []) (λ j. None) (g.done ++ r ∷ []) (lines ++ line ∷ []) logs) (sym a.logs)
          (follows_snoc z.buckets ShowsFirsts (λ j. []) (logs_of old) (λ j. None) g.done lines r line a.u (g.firsts (h.caught caught))
          (subst (λ j. IfSome (target r.statement) (λ rid. ShowsFirst (logs_of old) j (reads_at (current (logs_of old j)) line.reply) rid line.reply.answer)) is (h.first caught)) a.fits a.rest_is);
      opened = opened_more z.buckets (logs_of old) (logs_of new) g.done r a.u line.reply a.logs a.fits g.order.0 g.opened;
      cursors = cursors_same _ (λ j. is_reading j (g.done ++ r ∷ [])) _ (left_after (λ j. None) (g.done ++ r ∷ []) (lines ++ line ∷ [])) new (reading_more g.done r)
          (λ j. ap (λ f. f j) (sym (left_more (λ j. None) g.done lines r line g.following.shape))) cursors;
      ready = ready (λ j. length (of_session j rest)) (more_left e i old r rest is g.ready);
      saw = h.saw;
      told = λ k. let first = g.told k in let here = gone k in let more = told_more k lines line in omega (arith, first, here, more);
      rounds = made_more z long before now later lines line g.rounds made;
      order = g.order.1;
      coming = g.coming.1;
    }

-- all records are answered, and each session has met in turn the one that ran last
pub going_last : (e : Engine) (long : ℕ) (before now : Collectors) (old list : List Session) (first last : ℕ) (lines : List Line) (script : Script) →
    Going e long before now old first lines [] script → logs_of list ≡ logs_of old → ((seen : ℕ) → SawAt seen first old → SawAt seen last list) → AreReady e last none_left list →
    HasCaughtUp first old → (((k : Kind) → removed_of k before ≡ 0) → KeepsFew script lines) → HasPlayed e long before now list script lines
going_last e long before now old list first last lines script g same saw ready caught few =
    let done : g.done ≡ script.records = sym (g.all ∙ append_nil g.done) in
    record {
      seen = g.seen;
      top = g.top;
      following = (subst (λ p. p) (λ i. IsFollowing (engine_sizes e).buckets (engine_sizes e).sessions (sym same i) g.seen g.top (done i) lines) g.following);
      firsts = (subst (λ p. p) (λ i. Follows (engine_sizes e).buckets ShowsFirsts (λ j. []) (λ j. None) (done i) lines (sym same i)) (g.firsts caught));
      last = last;
      ready = ready;
      saw = saw g.seen g.saw;
      told = g.told;
      rounds = g.rounds;
      few = few;
    }

-- ---- what is known at the end

-- whatever holds of each record besides
follows_any : (buckets : ℕ) (P : (ℕ → List LogEntry) → Record → Line → Type 0) (final : ℕ → List LogEntry) (rs : List Record) (lines : List Line) (logs : ℕ → List LogEntry)
    (left : ℕ → Option Rest) → Follows buckets P logs left rs lines final → Follows buckets (λ _ _ _. ⊤) logs left rs lines final
follows_any buckets P final [] [] logs left h = h
follows_any buckets P final [] (line ∷ lines) logs left h = absurd h
follows_any buckets P final (r ∷ rs) [] logs left h = absurd h
follows_any buckets P final (r ∷ rs) (line ∷ lines) logs left h = (tt, (h.1.0, h.1.1, follows_any buckets P final rs lines _ _ h.1.2, h.1.3))

pub driven_one : (e : Engine) (long : ℕ) (before after : Collectors) (old played closed : List Session) (script : Script) (lines : List Line) → ((j : ℕ) → logs_of old j ≡ []) →
    HasPlayed e long before after played script lines → ((j : ℕ) → Closes (logs_of played j) (logs_of closed j)) →
    HasDrivenOne (engine_sizes e) long script.records old before lines closed after
driven_one e long before after old played closed script lines none p closes = record {
  logs = logs_of played;
  shape = p.following.shape;
  follows = subst (λ logs. Follows (engine_sizes e).buckets (λ _ _ _. ⊤) logs (λ j. None) script.records lines (logs_of played)) same
      (follows_any (engine_sizes e).buckets (IsMet (engine_sizes e).sessions) (logs_of played) script.records lines (λ j. []) (λ j. None) p.following.follows);
  closes = closes;
  rounds = p.rounds;
}
  where
    same : (λ j. []) ≡ logs_of old
    same = λ i j. sym (none j) i

pub played_out : (e : Engine) (long : ℕ) (before after : Collectors) (played closed : List Session) (script : Script) (lines : List Line)
    (p : HasPlayed e long before after played script lines) → ((j : ℕ) → Closes (logs_of played j) (logs_of closed j)) → length closed ≡ length played →
    ((seen : ℕ) → SawAt seen p.last played → SawAt seen p.last closed) → HasPlayedOut e before after closed script lines
played_out e long before after played closed script lines p closes many saw = record {
  logs = logs_of played;
  closes = closes;
  seen = p.seen;
  top = p.top;
  following = p.following;
  firsts = p.firsts;
  last = p.last;
  within = (let within = p.ready.within in omega (arith, within, many));
  saw = saw p.seen p.saw;
  told = p.told;
  few = p.few;
}

-- ---- what the next record asks for

pub may_ask : (e : Engine) (long : ℕ) (before now : Collectors) (list : List Session) (last i : ℕ) (lines : List Line) (r : Record) (rest : List Record) (script : Script) →
    Going e long before now list last lines (r ∷ rest) script → suc i ≡ r.session → i < length list → (d : Session) → MayAsk (get_or list i d) r.statement
may_ask e long before now list last i lines r rest script g is within d =
    let reads : is_reading r.session g.done ≡ is_some (cursor_of (get_or list i d)) = ap (λ j. is_reading j g.done) (sym is) ∙ sym (g.cursors d i within).reads_is in
    let log : is_some (current (logs_of list r.session)) ≡ is_some (open_of (get_or list i d)) = ap (λ j. is_some (current (logs_of list j))) (sym is) ∙
    ap (λ l. is_some (current l)) (log_at d list i within) in
    record {
      within = is_open r.session g.done;
      opens = subst (λ p. p) (λ k. AreOpen (is_open r.session g.done) (reads k) (log k)) (g.opened r.session);
      may = subst (λ b. MayStand (is_open r.session g.done) b r.statement) reads g.order.0;
    }

scope_below : (tables : List Declaration) (scope : Scope) → IsScope tables scope → IsBelow (length tables) scope
scope_below tables All h = tt
scope_below tables (Declared mask) h = h.1

pub on_tables : (tables : List Declaration) (s : Statement) → FitsTables tables s → HasWidths s → IsOnTables (length tables) s
on_tables tables (Begin scope) fits wide = scope_below tables scope fits
on_tables tables (Get r) fits wide = fits
on_tables tables (Put r row) fits wide = fits.0
on_tables tables (Del r) fits wide = fits
on_tables tables (Scan table low high) fits wide = fits
on_tables tables (CursorOpen table low high) fits wide = fits
on_tables tables (Fetch n) fits wide = wide.0
on_tables tables CursorClose fits wide = tt
on_tables tables Commit fits wide = tt
on_tables tables Rollback fits wide = tt
on_tables tables (Gc kind) fits wide = tt
