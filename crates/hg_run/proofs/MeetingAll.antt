-- The sessions of a list meet a collector's pass, each in turn: what that leaves.
use Rattle.std.proofs.Common.{◌≡◌, ℕ, suc, ◌+◌, ◌<◌, ◌≤◌, ◌≢◌, List, length, refl, sym, ap, ◌∙◌, subst, arith}
use Rattle.std.specs.Prelude.{get_or}
use Rattle.hg_rule.specs.declared.view.Part.{Part}
use Rattle.hg_rule.specs.declared.view.View.{View}
use Rattle.hg_rule.specs.Agreed.{RecordAgrees}
use Rattle.hg_rule.specs.Facts.{IsAmong}
use Rattle.hg_rule.specs.Views.{part_number, session, session_there, first_in, pass_there}
use Rattle.hg_session.specs.declared.engine.Engine.{Engine}
use Rattle.hg_session.specs.declared.session.Session.{Session}
use Rattle.hg_session.specs.Finished.{logs_of, AreAmong}
use Rattle.hg_session.specs.Sessions.{IsOf, view_of, number_of, log_of, left_of}
use Rattle.hg_run.specs.Heard.{HasHeard}
use Rattle.hg_run.specs.Listed.{IsPlaced, AreReady}
use Rattle.hg_collectors.specs.Swept.{HasMetSessions}
use Rattle.hg_run.specs.Meeting.{HasMetPass}
use Rattle.hg_run.proofs.Hearing.{heard_kept}
use Rattle.hg_rule.proofs.Lists.{among_left}
use Rattle.hg_run.proofs.Listing.{by_two, logs_same}
use Rattle.hg_collectors.proofs.Meetings.{met_none, met_more}
use Rattle.hg_run.proofs.Turns.{some_of}

-- each session is as it was, but for what it has seen
pub record HaveAllMet (e : Engine) (w : View) (old new : List Session) : Type 0 where
  pub many : length new ≡ length old
  pub met : (d : Session) (k : ℕ) → k < length old → HasMetPass w (get_or old k d) (get_or new k d)
  pub own : (d : Session) (k : ℕ) → k < length old → IsOf e (get_or new k d)

-- one of them is
pub record HasOneMet (e : Engine) (v v1 : View) (i : ℕ) (old new : List Session) : Type 0 where
  pub many : length new ≡ length old
  pub met : (d : Session) → HasMetPass v (get_or old i d) (get_or new i d)
  pub rest : (d : Session) (k : ℕ) → k ≢ i → get_or new k d ≡ get_or old k d
  pub own : (d : Session) → IsOf e (get_or new i d)
  pub pass : HasMetSessions v v1
  pub heard : (d : Session) → AreAmong (view_of (get_or old i d)).sights v1.sights

-- those below n have met it, and the others are as they were
pub record HavePartlyMet (e : Engine) (v u : View) (old now : List Session) (n : ℕ) : Type 0 where
  pub many : length now ≡ length old
  pub pass : HasMetSessions v u
  pub below : (d : Session) (k : ℕ) → k < n → k < length old → HasMetPass v (get_or old k d) (get_or now k d) × IsOf e (get_or now k d)
  pub above : (d : Session) (k : ℕ) → n ≤ k → get_or now k d ≡ get_or old k d

pub partly_none : (e : Engine) (v : View) (old : List Session) → HavePartlyMet e v v old old 0
partly_none e v old = record {
  many = refl;
  pass = met_none v;
  below = λ d k less within. absurd (omega (arith, less));
  above = λ d k more. refl;
}

pub partly_own : (e : Engine) (v u : View) (i : ℕ) (old now : List Session) → HavePartlyMet e v u old now i → i < length old →
    ((d : Session) (k : ℕ) → k < length old → IsOf e (get_or old k d)) → (d : Session) → IsOf e (get_or now i d)
partly_own e v u i old now p within own d = let same : i ≤ i = omega arith in subst (IsOf e) (sym (p.above d i same)) (own d i within)

-- what is met of a pass that has met others meanwhile
met_back : (v u : View) (s t : Session) → HasMetSessions v u → HasMetPass u s t → HasMetPass v s t
met_back v u s t h m = record {
  parts = m.parts;
  kept = m.kept;
  seen = λ a i. m.seen a (subst (IsAmong a) (sym h.kept.1) (among_left a v.sights h.kept.0 i));
  left = m.left;
  cursor = m.cursor;
  agrees = subst (λ (ps : List Part). RecordAgrees (number_of s) (session (view_of s)) (pass_there (first_in ps))) h.parts m.agrees;
}

pub partly_next : (e : Engine) (v u w : View) (i n : ℕ) (old now new : List Session) → n ≡ i + 1 → i < length old → HasOneMet e u w i now new → HavePartlyMet e v u old now i →
    HavePartlyMet e v w old new n
partly_next e v u w i n old now new is within h p = record {
  many = h.many ∙ p.many;
  pass = met_more v u w p.pass h.pass;
  below = λ d k less inside. by_two i i k (λ k. k < n → k < length old → HasMetPass v (get_or old k d) (get_or new k d) × IsOf e (get_or new k d)) (here d) (here d)
      (λ apart _ less inside. let lower : k < i = omega (arith, less, is, apart) in
      subst (λ s. HasMetPass v (get_or old k d) s × IsOf e s) (sym (h.rest d k apart)) (p.below d k lower inside)) less inside;
  above = λ d k more. let over : i ≤ k = omega (arith, more, is) in h.rest d k (λ same. omega (arith, more, is, same)) ∙ p.above d k over;
}
  where
    here : (d : Session) → i < n → i < length old → HasMetPass v (get_or old i d) (get_or new i d) × IsOf e (get_or new i d)
    here d less inside =
        let same : i ≤ i = omega arith in
        (subst (λ s. HasMetPass v s (get_or new i d)) (p.above d i same) (met_back v u (get_or now i d) (get_or new i d) p.pass (h.met d)), h.own d)

pub partly_all : (e : Engine) (v u : View) (n : ℕ) (old now : List Session) → length old ≤ n → HavePartlyMet e v u old now n → (d : Session) (k : ℕ) → k < length old →
    HasMetPass v (get_or old k d) (get_or now k d) × IsOf e (get_or now k d)
partly_all e v u n old now most p d k within = let less : k < n = omega (arith, most, within) in p.below d k less within

log_met : (w : View) (s t : Session) → HasMetPass w s t → log_of t ≡ log_of s
log_met w s t m = ap (λ (ps : List Part). (session_there (first_in ps)).log) m.parts

pub logs_one : (e : Engine) (v v1 : View) (i : ℕ) (old mid : List Session) → i < length old → HasOneMet e v v1 i old mid → logs_of mid ≡ logs_of old
logs_one e v v1 i old mid within h =
    let d = some_of old i within in
    logs_same d old mid h.many (λ k below. by_two i i k (λ k. log_of (get_or mid k d) ≡ log_of (get_or old k d))
    (log_met v (get_or old i d) (get_or mid i d) (h.met d)) (log_met v (get_or old i d) (get_or mid i d) (h.met d)) (λ p q. ap log_of (h.rest d k p)))

pub logs_all : (e : Engine) (w : View) (i : ℕ) (mid new : List Session) → i < length mid → HaveAllMet e w mid new → logs_of new ≡ logs_of mid
logs_all e w i mid new within h =
    let d = some_of mid i within in
    logs_same d mid new h.many (λ k below. log_met w (get_or mid k d) (get_or new k d) (h.met d k below))

pub ready_one : (e : Engine) (v v1 : View) (i : ℕ) (left : ℕ → ℕ) (old mid : List Session) → HasOneMet e v v1 i old mid → AreReady e i left old → AreReady e i left mid
ready_one e v v1 i left old mid h r = record {
  many = h.many ∙ r.many;
  within = (let e = h.many in let w = r.within in omega (arith, e, w));
  placed = λ d k within. by_two i i k (λ k. IsPlaced e k (get_or mid k d)) (here d) (here d)
      (λ p q. subst (IsPlaced e k) (sym (h.rest d k p)) (r.placed d k (let e = h.many in omega (arith, e, within))));
  left_is = λ d k within. by_two i i k (λ k. left (suc k) ≤ left_of (get_or mid k d)) (less d) (less d)
      (λ p q. subst (λ s. left (suc k) ≤ left_of s) (sym (h.rest d k p)) (r.left_is d k (let e = h.many in omega (arith, e, within))));
  heard = λ d. subst (λ logs. HasHeard logs (view_of (get_or mid i d))) (sym (logs_one e v v1 i old mid r.within h))
      (heard_kept (logs_of old) (view_of (get_or old i d)) (view_of (get_or mid i d)) (r.heard d) (h.met d).kept);
}
  where
    here : (d : Session) → IsPlaced e i (get_or mid i d)
    here d = record { own = h.own d; number_is = ap part_number (h.met d).parts ∙ (r.placed d i r.within).number_is }

    less : (d : Session) → left (suc i) ≤ left_of (get_or mid i d)
    less d = let a = r.left_is d i r.within in let b = (h.met d).left in omega (arith, a, b)

pub ready_all : (e : Engine) (w : View) (i : ℕ) (left : ℕ → ℕ) (mid new : List Session) → HaveAllMet e w mid new → AreReady e i left mid → AreReady e i left new
ready_all e w i left mid new h r = record {
  many = h.many ∙ r.many;
  within = (let e = h.many in let w = r.within in omega (arith, e, w));
  placed = λ d k within.
      let below : k < length mid = (let e = h.many in omega (arith, e, within)) in
      record { own = h.own d k below; number_is = ap part_number (h.met d k below).parts ∙ (r.placed d k below).number_is };
  left_is = λ d k within.
      let below : k < length mid = (let e = h.many in omega (arith, e, within)) in
      let a = r.left_is d k below in let b = (h.met d k below).left in omega (arith, a, b);
  heard = λ d. subst (λ logs. HasHeard logs (view_of (get_or new i d))) (sym (logs_all e w i mid new r.within h))
      (heard_kept (logs_of mid) (view_of (get_or mid i d)) (view_of (get_or new i d)) (r.heard d) (h.met d i r.within).kept);
}
