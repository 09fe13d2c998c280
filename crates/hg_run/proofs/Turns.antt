-- Sessions of a list that meet, and one that answers.
use Rattle.std.proofs.Common.{◌≡◌, ℕ, suc, ◌+◌, ◌-◌, ◌<◌, ◌≤◌, ◌≢◌, List, [], ◌∷◌, length, Bool, true, false, Option, Some, None, refl, sym, ap, ◌∙◌, subst, arith}
use Rattle.std.specs.Prelude.{cond, get_or, ◌==◌, IfSome, IsFalse}
use Rattle.std.proofs.lemmas.Bool.Decides.{Decides-eqb}
use Rattle.hg_base.specs.declared.writer.Writer.{Writer}
use Rattle.hg_base.specs.declared.statement.Statement.{Statement}
use Rattle.hg_base.specs.declared.statement.Statement.TheVariants.{Begin, Get, Put, Del, Scan, CursorOpen, Fetch, CursorClose, Commit as CommitIt, Rollback, Gc}
use Rattle.hg_base.specs.declared.line.Answer.{Answer}
use Rattle.hg_base.specs.declared.line.Answer.TheVariants.{OpenBy}
use Rattle.hg_base.specs.declared.line.Reply.{Reply}
use Rattle.hg_core.specs.declared.log.LogEntry.{LogEntry}
use Rattle.hg_core.specs.Phases.{IsSession}
use Rattle.hg_core.specs.Events.{put}
use Rattle.hg_base.specs.Conflicts.{target}
use Rattle.hg_base.specs.Transcript.{Rest}
use Rattle.hg_core.specs.Shown.{reads_at}
use Rattle.hg_core.specs.Reading.{Fits, HasRest, log_after}
use Rattle.hg_rule.specs.declared.view.View.{View}
use Rattle.hg_rule.specs.Moves.{joined}
use Rattle.hg_rule.specs.Agreed.{IsMet}
use Rattle.hg_rule.specs.Facts.{IsAmong, IsHeard, StartsWith}
use Rattle.hg_rule.specs.Views.{number, session}
use Rattle.hg_headline.specs.Following.{KnowsOpen, IsMetIfGc}
use Rattle.hg_headline.proofs.OpenWrites.{met_answer}
use Rattle.hg_session.specs.declared.engine.Engine.{Engine}
use Rattle.hg_session.specs.declared.session.Session.{Session}
use Rattle.hg_session.specs.Cursors.{HasLeft}
use Rattle.hg_session.specs.Engines.{engine_sizes}
use Rattle.hg_session.specs.Firsts.{HasFirst}
use Rattle.hg_session.specs.Sessions.{IsOf, open_of, view_of, number_of, log_of, left_of, cursor_of, seen_by}
use Rattle.hg_session.specs.Replies.{Answers, GoesOn}
use Rattle.hg_run.specs.Heard.{HasHeard}
use Rattle.hg_session.specs.Finished.{logs_of}
use Rattle.hg_run.specs.Listed.{HasChangedAt, HasRunOne, IsPlaced, AreReady, KeepCursors, SawAt, one_more}
use Rattle.hg_run.specs.Meeting.{HaveMet}
use Rattle.hg_run.specs.Asked.{IsAnswered, IsReplied, collector_asked}
use Rattle.hg_rule.proofs.Growing.{among_later}
use Rattle.hg_run.proofs.Hearing.{heard_met, heard_kept, heard_more, heard_goes, met_open, seen_among, seen_kept}
use Rattle.hg_run.proofs.Listing.{by_two, log_at, logs_same, logs_put}
use Rattle.hg_run.proofs.FreshNumbers.{fresh_heard}

-- one of a list that is not empty
pub some_of : {X : Type 0} (xs : List X) (i : ℕ) → i < length xs → X
some_of [] i h = absurd (omega (arith, h))
some_of (x ∷ xs) i h = x

-- ---- a meeting

pub logs_met : (e : Engine) (i j : ℕ) (old new : List Session) → i < length old → HaveMet e i j old new → logs_of new ≡ logs_of old
logs_met e i j old new within m =
    let d = some_of old i within in
    logs_same d old new m.many (λ k below. by_two i j k (λ k. log_of (get_or new k d) ≡ log_of (get_or old k d))
    (ap (λ v. (session v).log) (m.this d)) (ap (λ v. (session v).log) (m.other d)) (λ p q. ap log_of (m.rest d k p q)))

pub cursors_met : (e : Engine) (i j : ℕ) (old new : List Session) → HaveMet e i j old new → KeepCursors old new
cursors_met e i j old new m d k within = by_two i j k (λ k. cursor_of (get_or new k d) ≡ cursor_of (get_or old k d)) (m.cursor d).0 (m.cursor d).1 (λ p q. ap cursor_of (m.rest d k p q))

-- all are ready, where the one at i has heard every log
pub ready_met : (e : Engine) (a i j : ℕ) (left : ℕ → ℕ) (old new : List Session) → i < length old → j < length old → HaveMet e i j old new → AreReady e a left old →
    ((d : Session) → HasHeard (logs_of old) (view_of (get_or new i d))) → AreReady e i left new
ready_met e a i j left old new first second m r heard = record {
  many = m.many ∙ r.many;
  within = (let e = m.many in omega (arith, e, first));
  placed = λ d k within. by_two i j k (λ k. IsPlaced e k (get_or new k d))
      (record { own = (m.own d).0; number_is = ap number (m.this d) ∙ (r.placed d i first).number_is })
      (record { own = (m.own d).1; number_is = ap number (m.other d) ∙ (r.placed d j second).number_is })
      (λ p q. subst (IsPlaced e k) (sym (m.rest d k p q)) (r.placed d k (let e = m.many in omega (arith, e, within))));
  left_is = λ d k within. by_two i j k (λ k. left (suc k) ≤ left_of (get_or new k d))
      (subst (λ n. left (suc i) ≤ n) (sym (m.left d).0) (r.left_is d i first))
      (subst (λ n. left (suc j) ≤ n) (sym (m.left d).1) (r.left_is d j second))
      (λ p q. subst (λ s. left (suc k) ≤ left_of s) (sym (m.rest d k p q)) (r.left_is d k (let e = m.many in omega (arith, e, within))));
  heard = λ d. subst (λ logs. HasHeard logs (view_of (get_or new i d))) (sym (logs_met e i j old new first m)) (heard d);
}

-- the session of a record meets the one that ran last
pub ready_turned : (e : Engine) (i last : ℕ) (left : ℕ → ℕ) (old new : List Session) → i < length old → HaveMet e i last old new → AreReady e last left old → AreReady e i left new
ready_turned e i last left old new first m r = ready_met e last i last left old new first r.within m r
    (λ d. subst (HasHeard (logs_of old)) (sym (m.this d)) (heard_met (logs_of old) (view_of (get_or old i d)) (view_of (get_or old last d)) (r.heard d)))

-- it meets another one besides
pub ready_shown : (e : Engine) (i j : ℕ) (left : ℕ → ℕ) (old new : List Session) → j < length old → HaveMet e i j old new → AreReady e i left old → AreReady e i left new
ready_shown e i j left old new second m r = ready_met e i i j left old new r.within second m r
    (λ d. heard_kept (logs_of old) (view_of (get_or old i d)) (view_of (get_or new i d)) (r.heard d) ((view_of (get_or old j d)).sights, ap (λ v. v.sights) (m.this d)))

-- ---- an answer

-- one statement more is at least as many
pub more_than : (i j : ℕ) (left : ℕ → ℕ) → left j ≤ one_more i left j
more_than i j left = go (i == j)
  where
    go : (b : Bool) → left j ≤ cond b (suc (left j)) (left j)
    go true = omega arith
    go false = omega arith

-- and one more for that session
pub more_here : (i : ℕ) (left : ℕ → ℕ) → one_more i left i ≡ suc (left i)
more_here i left = ap (λ b. cond b (suc (left i)) (left i)) ((Decides-eqb i i).1 refl)

-- what the answer of the session at i says, whose cursor had this left
pub record HasAsked (e : Engine) (i : ℕ) (x : Option Rest) (s : Statement) (reply : Reply) (old new : List Session) : Type 0 where
  pub many : length new ≡ length old
  pub answers : (d : Session) → Answers (engine_sizes e) (view_of (get_or old i d)) s reply (view_of (get_or new i d))
  pub rest_is : (d : Session) → HasRest s (answers d).u.rest x
  pub first : (d : Session) → IfSome (target s) (λ r. HasFirst (view_of (get_or old i d)) r (reads_at (open_of (get_or old i d)) reply) reply.answer (view_of (get_or new i d)))
  pub left : (d : Session) → left_of (get_or old i d) ≤ left_of (get_or new i d) + 1
  pub rest : (d : Session) (k : ℕ) → k ≢ i → get_or new k d ≡ get_or old k d
  pub own : (d : Session) → IsOf e (get_or new i d)

-- which its cursor says
pub has_asked : (e : Engine) (i : ℕ) (x : Option Rest) (s : Statement) (reply : Reply) (old new : List Session) → length new ≡ length old →
    ((d : Session) → IsAnswered (engine_sizes e) (get_or old i d) s reply (get_or new i d)) → ((d : Session) → left_of (get_or old i d) ≤ left_of (get_or new i d) + 1) →
    ((d : Session) (k : ℕ) → k ≢ i → get_or new k d ≡ get_or old k d) → ((d : Session) → IsOf e (get_or new i d)) → ((d : Session) → HasLeft (get_or old i d) x) → HasAsked e i x s reply old new
has_asked e i x s reply old new many answers left rest own had = record {
  many = many;
  answers = λ d. ((answers d).answers x (had d)).answers;
  rest_is = λ d. ((answers d).answers x (had d)).rest_is;
  first = λ d. (answers d).first;
  left = left;
  rest = rest;
  own = own;
}

pub logs_asked : (e : Engine) (i : ℕ) (x : Option Rest) (s : Statement) (reply : Reply) (old new : List Session) (d : Session) (within : i < length old)
    (h : HasAsked e i x s reply old new) → logs_of new ≡ put (logs_of old) (suc i) (log_after (engine_sizes e).buckets (h.answers d).u s reply (logs_of old (suc i)))
logs_asked e i x s reply old new d within h =
    logs_put d old new i (log_after (engine_sizes e).buckets (h.answers d).u s reply (logs_of old (suc i))) h.many within
    ((h.answers d).log ∙ ap (λ l. log_after (engine_sizes e).buckets (h.answers d).u s reply l) (sym (log_at d old i within))) (h.rest d)

-- one that ran and kept what it had seen has heard its own log, whatever that is now
pub logs_ran : (i : ℕ) (old new : List Session) (d : Session) → HasChangedAt i old new → i < length old → logs_of new ≡ put (logs_of old) (suc i) (log_of (get_or new i d))
logs_ran i old new d others within = logs_put d old new i (log_of (get_or new i d)) others.many within refl (others.rest d)

pub ready_ran : (e : Engine) (i : ℕ) (left : ℕ → ℕ) (old new : List Session) → HasChangedAt i old new → ((d : Session) → HasRunOne e (get_or old i d) (get_or new i d)) →
    ((d : Session) → StartsWith (seen_by (get_or new i d)) (seen_by (get_or old i d))) → AreReady e i (one_more (suc i) left) old → AreReady e i left new
ready_ran e i left old new others ran kept r = record {
  many = others.many ∙ r.many;
  within = (let e = others.many in let w = r.within in omega (arith, e, w));
  placed = λ d k within. by_two i i k (λ k. IsPlaced e k (get_or new k d)) (here d) (here d)
      (λ p q. subst (IsPlaced e k) (sym (others.rest d k p)) (r.placed d k (let e = others.many in omega (arith, e, within))));
  left_is = λ d k within. by_two i i k (λ k. left (suc k) ≤ left_of (get_or new k d)) (less d) (less d)
      (λ p q. subst (λ s. left (suc k) ≤ left_of s) (sym (others.rest d k p)) (let z = r.left_is d k (let e = others.many in omega (arith, e, within)) in
      let m = more_than (suc i) (suc k) left in omega (arith, m, z)));
  heard = λ d. subst (λ logs. HasHeard logs (view_of (get_or new i d))) (sym (logs_ran i old new d others r.within))
      (heard_more (logs_of old) (view_of (get_or old i d)) (view_of (get_or new i d)) (suc i) (log_of (get_or new i d)) (r.heard d) (kept d)
      (subst (λ j. IsHeard j (log_of (get_or new i d)) (seen_by (get_or new i d))) (here d).number_is (ran d).own.heard));
}
  where
    here : (d : Session) → IsPlaced e i (get_or new i d)
    here d = record { own = (ran d).own; number_is = (ran d).number_is ∙ (r.placed d i r.within).number_is }

    less : (d : Session) → left (suc i) ≤ left_of (get_or new i d)
    less d = let a = r.left_is d i r.within in let b = (ran d).left in let m = more_here (suc i) left in omega (arith, a, b, m)

pub ready_asked : (e : Engine) (i : ℕ) (x : Option Rest) (left : ℕ → ℕ) (s : Statement) (reply : Reply) (old new : List Session) → HasAsked e i x s reply old new →
    AreReady e i (one_more (suc i) left) old → AreReady e i left new
ready_asked e i x left s reply old new h r = ready_ran e i left old new (record { many = h.many; rest = h.rest })
    (λ d. record { number_is = (h.answers d).number_is; left = h.left d; own = h.own d }) (λ d. (h.answers d).kept) r

-- whom an answer names that has the record open
pub other_asked : (e : Engine) (i : ℕ) (x : Option Rest) (s : Statement) (reply : Reply) (old new : List Session) (left : ℕ → ℕ) → HasAsked e i x s reply old new →
    AreReady e i left old → (w : Writer) → reply.answer ≡ OpenBy w → IsSession (engine_sizes e).sessions w.session × (w.session ≢ suc i)
other_asked e i x s reply old new left h r w is =
    let d = some_of old i r.within in
    let on : GoesOn (engine_sizes e) (view_of (get_or old i d)) (OpenBy w) = subst (GoesOn (engine_sizes e) (view_of (get_or old i d))) is (h.answers d).goes_on in
    (on.0, λ same. differs w.session (number_of (get_or old i d)) on.1.0 (same ∙ sym (r.placed d i r.within).number_is))
  where
    differs : (a b : ℕ) → IsFalse (a == b) → a ≡ b → ⊥
    differs a b apart same = let yes = (Decides-eqb a b).1 same in let z : true ≡ false = sym yes ∙ apart in cc

-- ---- what is shown

gc_none : (sessions : ℕ) (logs : ℕ → List LogEntry) (s : Statement) (a : Answer) → collector_asked s ≡ None → IsMetIfGc sessions logs s a
gc_none sessions logs (Gc kind) a h = absurd (let z : Some kind ≡ None = h in cc)
gc_none sessions logs (Begin scope) a h = tt
gc_none sessions logs (Get r) a h = tt
gc_none sessions logs (Put r row) a h = tt
gc_none sessions logs (Del r) a h = tt
gc_none sessions logs (Scan t low high) a h = tt
gc_none sessions logs (CursorOpen t low high) a h = tt
gc_none sessions logs (Fetch n) a h = tt
gc_none sessions logs CursorClose a h = tt
gc_none sessions logs CommitIt a h = tt
gc_none sessions logs Rollback a h = tt

-- the session that answered has met the one that it names
pub knows_other : (e : Engine) (i : ℕ) (x : Option Rest) (left : ℕ → ℕ) (s : Statement) (reply : Reply) (old new : List Session) (d : Session) → 0 < (engine_sizes e).buckets →
    (h : HasAsked e i x s reply old new) → AreReady e i (one_more (suc i) left) old → (w : Writer) → reply.answer ≡ OpenBy w →
    IsMet (engine_sizes e) (joined (view_of (get_or new i d)) (view_of (get_or new (w.session - 1) d))) →
    KnowsOpen (engine_sizes e).buckets (logs_of old) (suc i) (log_after (engine_sizes e).buckets (h.answers d).u s reply (logs_of old (suc i))) w
knows_other e i x left s reply old new d some h r w is met =
    let z = engine_sizes e in
    let k : ℕ = w.session - 1 in
    let v : View = view_of (get_or new i d) in
    let u : View = view_of (get_or new k d) in
    let other = other_asked e i x s reply old new (one_more (suc i) left) h r w is in
    let first = other.0.first in
    let last = other.0.last in
    let many = r.many in
    let next : suc k ≡ w.session = omega (arith, first) in
    let apart : k ≢ i = λ same. other.1 (sym next ∙ ap suc same) in
    let below : k < length old = omega (arith, first, last, many) in
    let there : get_or new k d ≡ get_or old k d = h.rest d k apart in
    let placed : IsPlaced e k (get_or new k d) = subst (IsPlaced e k) (sym there) (r.placed d k below) in
    let on : GoesOn z (view_of (get_or old i d)) (OpenBy w) = subst (GoesOn z (view_of (get_or old i d))) is (h.answers d).goes_on in
    let log : (session u).log ≡ logs_of old (number u) = ap log_of there ∙ sym (log_at d old k below) ∙ ap (logs_of old) (sym placed.number_is) in
    let mine : number v ≡ suc i = (h.answers d).number_is ∙ (r.placed d i r.within).number_is in
    let after : List LogEntry = log_after z.buckets (h.answers d).u s reply (logs_of old (suc i)) in
    let own : (session v).log ≡ after = (h.answers d).log ∙ ap (λ l. log_after z.buckets (h.answers d).u s reply l) (sym (log_at d old i r.within)) in
    subst (λ j. KnowsOpen z.buckets (logs_of old) j after w) mine
    (met_open z (logs_of old) v u after w some met (h.own d).only own (record { only = placed.own.only; own = log }) (placed.number_is ∙ next)
    (heard_goes (logs_of old) (view_of (get_or old i d)) w (r.heard d) on.1.1))

pub replied : (e : Engine) (i : ℕ) (x : Option Rest) (left : ℕ → ℕ) (seen : ℕ) (s : Statement) (reply : Reply) (old new : List Session) (d : Session) →
    0 < (engine_sizes e).buckets → collector_asked s ≡ None → (h : HasAsked e i x s reply old new) → AreReady e i (one_more (suc i) left) old → SawAt seen i old →
    ((w : Writer) → reply.answer ≡ OpenBy w → IsMet (engine_sizes e) (joined (view_of (get_or new i d)) (view_of (get_or new (w.session - 1) d)))) →
    IsReplied (engine_sizes e).buckets (engine_sizes e).sessions (logs_of old) seen seen (suc i) x s reply (logs_of new)
replied e i x left seen s reply old new d some other h r saw met =
    let z = engine_sizes e in
    let a = h.answers d in
    let v : View = view_of (get_or old i d) in
    let fits : Fits z.buckets a.u (logs_of old (suc i)) s reply = subst (λ l. Fits z.buckets a.u l s reply) (sym (log_at d old i r.within)) a.fits in
    record {
      u = a.u;
      fits = fits;
      rest_is = h.rest_is d;
      met = met_answer z.buckets z.sessions (logs_of old) (suc i) a.u s reply (gc_none z.sessions (logs_of old) s reply.answer other)
          (λ w is. knows_other e i x left s reply old new d some h r w is (met w is));
      fresh = fresh_heard z.buckets a.u (logs_of old) (logs_of old (suc i)) seen v s reply other fits (r.heard d) (saw d) a.snapshot a.commit a.newer;
      logs = logs_asked e i x s reply old new d r.within h;
    }

-- ---- what it has seen of the history

pub saw_turned : (e : Engine) (i last seen : ℕ) (old new : List Session) → HaveMet e i last old new → SawAt seen last old → SawAt seen i new
saw_turned e i last seen old new m saw d =
    let v : View = view_of (get_or old i d) in
    let w : View = view_of (get_or old last d) in
    seen_among seen w.sights (view_of (get_or new i d)).sights (λ x k. subst (IsAmong x) (sym (ap (λ (u : View). u.sights) (m.this d))) (among_later x v.sights w.sights k)) (saw d)

pub saw_shown : (e : Engine) (i j seen : ℕ) (old new : List Session) → HaveMet e i j old new → SawAt seen i old → SawAt seen i new
saw_shown e i j seen old new m saw d = seen_kept seen (view_of (get_or old i d)).sights (view_of (get_or new i d)).sights
    ((view_of (get_or old j d)).sights, ap (λ (v : View). v.sights) (m.this d)) (saw d)

pub saw_asked : (e : Engine) (i seen : ℕ) (x : Option Rest) (s : Statement) (reply : Reply) (old new : List Session) → HasAsked e i x s reply old new → SawAt seen i old → SawAt seen i new
saw_asked e i seen x s reply old new h saw d = seen_kept seen (view_of (get_or old i d)).sights (view_of (get_or new i d)).sights (h.answers d).kept (saw d)
