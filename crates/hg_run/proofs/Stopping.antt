-- A conversation that is over: where it was stopped, and that what was answered is what a replay prints.
use Rattle.std.proofs.Common.{◌≡◌, ℕ, zero, suc, ◌<◌, ◌≤◌, inl, List, [], length, map, refl, ap, subst, arith}
use Rattle.std.specs.Prelude.{get_or}
use Rattle.hg_base.specs.declared.statement.Record.{Record}
use Rattle.hg_base.specs.declared.line.Line.{Line}
use Rattle.hg_headline.proofs.Following.{following_ends}
use Rattle.hg_headline.proofs.Before.{logged_before}
use Rattle.hg_headline.proofs.Replaying.{replay_sound}
use Rattle.hg_headline.specs.Counted.{Closes}
use Rattle.hg_headline.specs.Logged.{Logged}
use Rattle.hg_exact.specs.Lawful.{AreAnswered}
use Rattle.hg_exact.specs.Replayed.{plain, replayed}
use Rattle.hg_exact.specs.State.{start}
use Rattle.hg_exact.proofs.Exact.{sound_exact}
use Rattle.hg_exact.proofs.Shown.{shown_first}
use Rattle.hg_base.specs.History.{History}
use Rattle.hg_base.specs.Lists.{greatest}
use Rattle.hg_base.specs.Script.{Script}
use Rattle.hg_core.proofs.Indices.{at_index}
use Rattle.hg_session.specs.declared.engine.Engine.{Engine}
use Rattle.hg_session.specs.declared.session.Session.{Session}
use Rattle.hg_session.specs.Engines.{engine_sizes}
use Rattle.hg_session.specs.Finished.{logs_of}
use Rattle.hg_session.specs.Sessions.{seen_by}
use Rattle.hg_run.specs.Caught.{HasCaughtUp}
use Rattle.hg_run.specs.Listed.{AreReady, SawAt, none_left}
use Rattle.hg_run.specs.Live.{HasStopped, IsLive, left_in}
use Rattle.hg_run.specs.Unsaid.{HasRunOutAt, LeavesUnsaid}
use Rattle.hg_run.proofs.Caught.{caught_kept}
use Rattle.hg_run.proofs.Going.{ready_less}
use Rattle.hg_run.proofs.Hearing.{seen_among}
use Rattle.hg_run.proofs.Unsaid.{logged_unsaid}

-- where nothing was refused, no log has more than the lines say
pub live_stopped : (e : Engine) (list : List Session) (last : ℕ) (records : List Record) (lines : List Line) → IsLive e list last records lines → HasStopped e list last records lines
live_stopped e list last records lines g = record {
  logs = logs_of list;
  unsaid = λ j. inl (record { looks = []; only = tt; log = refl });
  seen = g.seen;
  top = g.top;
  following = g.following;
  firsts = g.firsts;
  ready = ready_less e last none_left (left_in (engine_sizes e) records) list (λ j. omega arith) g.ready;
  saw = g.saw;
}

-- memory ran out at the next statement
pub live_ran_out : (e : Engine) (old new : List Session) (i : ℕ) (records : List Record) (lines : List Line) → IsLive e old i records lines → HasRunOutAt e i old new →
    AreReady e i none_left new → HasStopped e new i records lines
live_ran_out e old new i records lines g h ready = record {
  logs = logs_of old;
  unsaid = at_index (suc i) (λ j. LeavesUnsaid (logs_of old j) (logs_of new j)) h.log others;
  seen = g.seen;
  top = g.top;
  following = g.following;
  firsts = λ caught. g.firsts (caught_kept i old new (let a = g.ready.many in let b = ready.many in omega (arith, a, b)) h.rest h.sees caught);
  ready = ready;
  saw = λ d. seen_among g.seen (seen_by (get_or old i d)) (seen_by (get_or new i d)) (h.sees d) (g.saw d);
}
  where
    others : (j : ℕ) → (j ≡ suc i → ⊥) → LeavesUnsaid (logs_of old j) (logs_of new j)
    others zero apart = inl (record { looks = []; only = tt; log = refl })
    others (suc k) apart = inl (record { looks = []; only = tt; log = h.rest k (λ q. apart (ap suc q)) })

-- ---- the end

-- where each session has met in turn the one that ran last, and what was open was closed, in a history that the logs have then
pub stopped_exact : (e : Engine) (old caught closed : List Session) (last seer : ℕ) (h : History) (script : Script) (lines : List Line) → HasStopped e old last script.records lines →
    logs_of caught ≡ logs_of old → HasCaughtUp last old → ((seen : ℕ) → SawAt seen last old → SawAt seen seer caught) → seer < length caught →
    ((j : ℕ) → Closes (logs_of caught j) (logs_of closed j)) → length closed ≡ length caught → ((seen : ℕ) → SawAt seen seer caught → SawAt seen seer closed) →
    Logged (engine_sizes e).buckets h (logs_of closed) → ((seen last : ℕ) → last < length closed → SawAt seen last closed → seen ≤ length h) →
    AreAnswered (start (greatest (map (λ (r : Record). r.session) script.records))) script.records → map plain lines ≡ replayed script
stopped_exact e old caught closed last seer h script lines g same up saw within closes many kept logged seen answered =
    let z = engine_sizes e in
    let inside : seer < length closed = omega (arith, within, many) in
    let most : g.seen ≤ length h = seen g.seen seer inside (kept g.seen (saw g.seen g.saw)) in
    let opened : Logged z.buckets h (logs_of old) = subst (Logged z.buckets h) same (logged_before z.buckets h (logs_of caught) (logs_of closed) closes logged) in
    let before : Logged z.buckets h g.logs = logged_unsaid z.buckets z.sessions h g.logs (logs_of old) script.records lines g.following.follows g.unsaid opened in
    let r = following_ends z.buckets z.sessions h g.logs g.seen g.top script.records lines g.following before most in
    sound_exact script lines (replay_sound z.buckets z.sessions g.top h g.logs script lines r)
    (shown_first z.buckets z.sessions g.top h g.logs script lines r (g.firsts up)) answered
