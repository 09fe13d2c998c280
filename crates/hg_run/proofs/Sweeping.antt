-- A round of a collector between meetings of its pass with the sessions, as a reply.
use Rattle.std.proofs.Common.{◌≡◌, inl, inr, ℕ, zero, suc, ◌<◌, ◌≤◌, List, [], length, map, Bool, true, false, Option, Some, None, refl, sym, ap, ◌∙◌, subst, arith}
use Rattle.std.specs.Prelude.{get_or, is_some, IfSome, ◌&&◌}
use Rattle.hg_base.specs.declared.scope.Snapshot.{Snapshot}
use Rattle.hg_base.specs.declared.report.Kind.{Kind}
use Rattle.hg_base.specs.declared.report.Kind.TheVariants as kinds
use Rattle.hg_base.specs.declared.report.Sweep.{Sweep}
use Rattle.hg_base.specs.declared.statement.Statement.TheVariants.{Gc}
use Rattle.hg_base.specs.declared.line.Answer.TheVariants.{Swept}
use Rattle.hg_base.specs.Shape.{same_kind}
use Rattle.hg_base.specs.Transcript.{Rest, stored_by}
use Rattle.hg_core.specs.declared.log.LogEntry.{LogEntry}
use Rattle.hg_core.specs.declared.loaded.Loaded.{Loaded}
use Rattle.hg_core.specs.Events.{put}
use Rattle.hg_core.specs.Logs.{current}
use Rattle.hg_core.specs.Passes.{found}
use Rattle.hg_core.specs.Phases.{IsEntering}
use Rattle.hg_core.specs.Reach.{StandsIn}
use Rattle.hg_core.specs.Reading.{Unprinted, Fits, FitsIn, FitsScope, is_alone, log_with, log_after}
use Rattle.hg_rule.specs.declared.view.View.{View}
use Rattle.hg_rule.specs.Agreed.{RecordAgrees}
use Rattle.hg_rule.specs.Facts.{IsAmong, heard, IsHeard}
use Rattle.hg_rule.specs.Rounds.{round_record, round_told}
use Rattle.hg_rule.specs.Views.{session, pass}
use Rattle.hg_rule.proofs.Lists.{among_left}
use Rattle.hg_tracker.specs.Entries.{down_from}
use Rattle.hg_headline.specs.Met.{IsMetReport}
use Rattle.hg_core.proofs.Answering.{not_alone}
use Rattle.hg_headline.proofs.Growing.{put_same}
use Rattle.hg_session.specs.declared.engine.Engine.{Engine}
use Rattle.hg_session.specs.declared.session.Session.{Session}
use Rattle.hg_session.specs.Engines.{engine_sizes}
use Rattle.hg_session.specs.Finished.{logs_of, AreAmong}
use Rattle.hg_session.specs.Replies.{inside}
use Rattle.hg_session.specs.Sessions.{view_of, log_of, cursor_of, opened_of}
use Rattle.hg_session.proofs.Quiet.{heard_whole}
use Rattle.hg_run.specs.Asked.{HasReplied}
use Rattle.hg_run.specs.Heard.{HasHeard, HasSeen}
use Rattle.hg_run.specs.Caught.{SeesAll}
use Rattle.hg_run.specs.Listed.{AreReady, HaveCursors, KeepCursors, SawAt, none_left}
use Rattle.hg_collectors.specs.Swept.{HasSwept}
use Rattle.hg_run.proofs.Cursors.{cursors_kept, cursors_same, put_still}
use Rattle.hg_run.proofs.Gathering.{ShowsLog, ShowLogs, reached, at_rest, all_show, none_enters, held_are, moved_are}
use Rattle.hg_run.proofs.Hearing.{over_at_most, seen_among}
use Rattle.hg_run.proofs.Listing.{by_two, log_at}
use Rattle.hg_run.proofs.Caught.{caught_kept}
use Rattle.hg_run.proofs.Turns.{some_of}
use Rattle.hg_run.proofs.MeetingAll.{HasOneMet, HaveAllMet, logs_one, logs_all, ready_one, ready_all}

kind_is_itself : (k : Kind) → same_kind k k ≡ true
kind_is_itself kinds.Group = refl
kind_is_itself kinds.Table = refl
kind_is_itself kinds.Interval = refl

-- ---- what the round found

heard_there : (logs : ℕ → List LogEntry) (v w : View) → AreAmong v.sights w.sights → HasHeard logs v → HasHeard logs w
heard_there logs v w all h k = go (h k)
  where
    go : IsHeard k (logs k) v.sights → IsHeard k (logs k) w.sights
    go (inl e) = inl e
    go (inr i) = inr (all _ i)

module _ (e : Engine) (kind : Kind) (i : ℕ) (v v1 w : View) (sweep : Sweep) (old mid new : List Session) (one : HasOneMet e v v1 i old mid)
    (round : HasSwept kind (engine_sizes e).sessions v1 sweep w) (all : HaveAllMet e w mid new) (ready : AreReady e i none_left old) where
  abbrev sessions : ℕ
  sessions = (engine_sizes e).sessions

  abbrev logs : ℕ → List LogEntry
  logs = logs_of old

  abbrev d : Session
  d = some_of old i ready.within

  there : AreReady e i none_left mid
  there = ready_one e v v1 i none_left old mid one ready

  pass_heard : HasHeard logs v1
  pass_heard = heard_there logs (view_of (get_or old i d)) v1 (one.heard d) (ready.heard d)

  -- the record reaches to the end of each log, which its session has
  whole : (j : ℕ) → length (logs j) ≤ heard j (pass w).seen
  whole j = subst (λ sights. length (logs j) ≤ heard j sights) (sym round.seen) (heard_whole j (logs j) v1.sights (pass_heard j))

  shows : (j : ℕ) → 0 < j → j ≤ sessions → IfSome (found j (pass w).loaded) (λ r. ShowsLog r.register (logs j))
  shows zero low high = absurd (omega (arith, low))
  shows (suc k) low high =
      let many = there.many in
      let below : k < length mid = omega (arith, many, high) in
      let s = get_or mid k d in
      let placed = there.placed d k below in
      let log : log_of s ≡ logs (suc k) = sym (log_at d mid k below) ∙ ap (λ (l : ℕ → List LogEntry). l (suc k)) (logs_one e v v1 i old mid ready.within one) in
      let agrees : RecordAgrees (suc k) (session (view_of s)) (pass w) = subst (λ j. RecordAgrees j (session (view_of s)) (pass w)) placed.number_is (all.met d k below).agrees in
      go (found (suc k) (pass w).loaded) s log (λ p. at_rest (opened_of s) (subst IsEntering placed.own.ties.phase p)) agrees.reaches
    where
      go : (o : Option Loaded) (s : Session) → log_of s ≡ logs (suc k) → (IsEntering (session (view_of s)).phase → ⊥) →
          IfSome o (λ r. StandsIn (heard (suc k) (pass w).seen) r.register (session (view_of s)).log (session (view_of s)).phase) → IfSome o (λ r. ShowsLog r.register (logs (suc k)))
      go None s log rests h = tt
      go (Some r) s log rests h =
          let long : length (log_of s) ≤ heard (suc k) (pass w).seen = subst (λ l. length l ≤ heard (suc k) (pass w).seen) (sym log) (whole (suc k)) in
          subst (ShowsLog r.register) log (reached (heard (suc k) (pass w).seen) r.register (log_of s) (session (view_of s)).phase long rests h)

  all_shown : ShowLogs logs (pass w).loaded
  all_shown = all_show logs sessions (pass w).loaded round.keys shows

  report : IsMetReport sessions logs kind (round_told kind round.steps)
  report =
      let is : (pass w).loaded ≡ (round_record round.steps).loaded = round.round.loaded_is in
      let shown : ShowLogs logs (round_record round.steps).loaded = subst (ShowLogs logs) is all_shown in
      let keys : map (λ (x : ℕ × Loaded). x.0) (round_record round.steps).loaded ≡ down_from sessions = subst
      (λ (l : List (ℕ × Loaded)). map (λ (x : ℕ × Loaded). x.0) l ≡ down_from sessions) is round.keys in
      record {
        same = kind_is_itself kind;
        horizon = none_enters logs (round_record round.steps).mark (round_record round.steps).loaded shown;
        held = held_are logs sessions (round_record round.steps).loaded keys shown;
        moved = moved_are logs (round_record round.steps).loaded shown;
      }

  pub met_report : IsMetReport sessions logs kind sweep
  met_report = subst (IsMetReport sessions logs kind) (sym round.told) report

  -- ---- as a reply

  abbrev none : Unprinted
  none = record { found = []; part = λ b. []; undone = []; rest = None; looked = 0 }

  alone : is_alone (current (logs (suc i))) (Gc kind) ≡ false
  alone = not_alone (current (logs (suc i))) (Gc kind) refl

  fits : Fits (engine_sizes e).buckets none (logs (suc i)) (Gc kind) (inside (Swept sweep))
  fits = record {
    at = sym alone;
    number = sym (ap (λ b. b && is_some (stored_by (Gc kind) (Swept sweep))) alone);
    answer = tt;
    scope = go (current (logs (suc i)));
    inside = no_fetch (current (logs (suc i)));
  }
    where
      no_fetch : (o : Option Snapshot) → FitsIn o (Gc kind)
      no_fetch o = tt

      go : (o : Option Snapshot) → IfSome o (λ snapshot. FitsScope snapshot.scope (Gc kind) (Swept sweep))
      go None = tt
      go (Some snapshot) = tt

  log_stays : log_after (engine_sizes e).buckets none (Gc kind) (inside (Swept sweep)) (logs (suc i)) ≡ logs (suc i)
  log_stays = ap (λ b. log_with b (engine_sizes e).buckets none (Gc kind) (inside (Swept sweep)) (logs (suc i))) alone

  same_logs : logs_of new ≡ put logs (suc i) (log_after (engine_sizes e).buckets none (Gc kind) (inside (Swept sweep)) (logs (suc i)))
  same_logs =
      logs_all e w i mid new there.within all ∙ (logs_one e v v1 i old mid ready.within one
      ∙ (sym (put_same logs (suc i)) ∙ ap (put logs (suc i)) (sym log_stays)))

  bare_logs : logs_of new ≡ logs_of old
  bare_logs = logs_all e w i mid new there.within all ∙ logs_one e v v1 i old mid ready.within one

  -- the session keeps all that it had seen
  still_sees : SeesAll i old i new
  still_sees d x seen =
      let first = (one.met d).kept in
      let later = (all.met d i there.within).kept in
      let at_mid : IsAmong x (view_of (get_or mid i d)).sights = subst (IsAmong x) (sym first.1) (among_left x (view_of (get_or old i d)).sights first.0 seen) in
      subst (IsAmong x) (sym later.1) (among_left x (view_of (get_or mid i d)).sights later.0 at_mid)

  -- each session keeps its cursor
  kept_one : KeepCursors old mid
  kept_one d k within = by_two i i k (λ k. cursor_of (get_or mid k d) ≡ cursor_of (get_or old k d)) (one.met d).cursor (one.met d).cursor (λ p q. ap cursor_of (one.rest d k p))

  kept_all : KeepCursors mid new
  kept_all d k within = (all.met d k within).cursor

  cursors : (reads : ℕ → Bool) (rest : ℕ → Option Rest) → HaveCursors reads rest old → HaveCursors (put reads (suc i) (reads (suc i))) (put rest (suc i) (rest (suc i))) new
  cursors reads rest have =
      cursors_same reads (put reads (suc i) (reads (suc i))) rest (put rest (suc i) (rest (suc i))) new (put_still reads (suc i)) (put_still rest (suc i))
      (cursors_kept reads rest mid new all.many kept_all (cursors_kept reads rest old mid one.many kept_one have))

  pub swept_reply : (seen : ℕ) (reads : ℕ → Bool) (rest : ℕ → Option Rest) → SawAt seen i old → HaveCursors reads rest old → HasReplied e seen reads rest old i (Gc kind) (inside (Swept sweep)) new
  swept_reply seen reads rest saw have =
      let before : HasSeen seen v1.sights = seen_among seen (view_of (get_or old i d)).sights v1.sights (one.heard d) (saw d) in
      let over = over_at_most logs seen v1 sweep.mark pass_heard before round.most in
      record {
        later = sweep.mark;
        replied = record {
          u = none;
          fits = fits;
          rest_is = tt;
          met = met_report;
          fresh = record { grows = over.groups; snapshot = tt; mark = (over, omega arith); newer = tt; commit = tt };
          logs = same_logs;
        };
        cursors = cursors reads rest have;
        saw = λ d. seen_among sweep.mark w.sights (view_of (get_or new i d)).sights (all.met d i there.within).seen (inr round.saw);
        caught = caught_kept i old new (let a = one.many in let b = all.many in omega (arith, a, b)) (λ k apart. ap (λ (ls : ℕ → List LogEntry). ls (suc k)) bare_logs) still_sees;
        first = λ caught. tt;
      }

  pub swept_ready : (left : ℕ → ℕ) → AreReady e i left old → AreReady e i left new
  swept_ready left r = ready_all e w i left mid new all (ready_one e v v1 i left old mid one r)
