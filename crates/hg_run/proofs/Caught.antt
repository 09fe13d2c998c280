-- One thread catches up on its sessions' logs, and so knows that each write's line shows its first cause.
use Rattle.std.proofs.Common.{◌≡◌, ◌⊎◌, inl, inr, ℕ, suc, ◌+◌, ◌<◌, ◌≤◌, ◌≢◌, List, [], ◌∷◌, ◌++◌, length, Option, refl, sym, ap, ◌∙◌, subst, arith}
use Rattle.std.specs.Prelude.{get_or, IfSome, IsTrue}
use Rattle.hg_base.specs.declared.rid.Rid.{Rid}
use Rattle.hg_base.specs.declared.statement.Statement.{Statement}
use Rattle.hg_base.specs.declared.line.Answer.{Answer}
use Rattle.hg_base.specs.declared.line.Answer.TheVariants.{Stored, Gone, Newer}
use Rattle.hg_base.specs.declared.line.Reply.{Reply}
use Rattle.hg_base.specs.Conflicts.{target}
use Rattle.hg_base.specs.Lists.{Each}
use Rattle.hg_base.proofs.ListFacts.{if_some_keeps}
use Rattle.hg_base.specs.Transcript.{Rest}
use Rattle.hg_core.specs.declared.log.LogEntry.{LogEntry}
use Rattle.hg_core.specs.Logs.{current, is_plain}
use Rattle.hg_core.proofs.Indices.{put_else}
use Rattle.hg_core.specs.Shown.{IsFirstAt, ShowsFirst, reads_at}
use Rattle.hg_core.specs.State.{CoreState}
use Rattle.hg_rule.specs.declared.view.Part.TheVariants.{OfSession}
use Rattle.hg_rule.specs.declared.view.Sight.TheVariants.{Heard}
use Rattle.hg_rule.specs.declared.view.View.{View}
use Rattle.hg_rule.specs.Agreed.{IsMet}
use Rattle.hg_rule.specs.Facts.{EndsWith, IsAmong, IsHeard, Shown}
use Rattle.hg_rule.specs.Moves.{joined, put_in}
use Rattle.hg_rule.specs.Views.{number, session}
use Rattle.hg_rule.proofs.Lists.{among_left}
use Rattle.hg_store.proofs.Firsts.{known_at}
use Rattle.hg_rule.proofs.Growing.{among_later}
use Rattle.hg_session.specs.declared.engine.Engine.{Engine}
use Rattle.hg_session.specs.declared.session.Session.{Session}
use Rattle.hg_session.specs.Engines.{engine_sizes}
use Rattle.hg_session.specs.Finished.{logs_of}
use Rattle.hg_session.specs.Firsts.{HasFirst, ShownFirst}
use Rattle.hg_session.specs.Sessions.{log_of, view_of}
use Rattle.hg_run.specs.Caught.{HasCaughtUp, HasOwn, IsHeardUpTo, IsStill, SeesAll}
use Rattle.hg_run.specs.Listed.{AreReady, IsPlaced, SawAt, none_left, one_more}
use Rattle.hg_run.specs.Meeting.{HaveMet}
use Rattle.hg_run.proofs.Closes.{by_place}
use Rattle.hg_run.proofs.Firsts.{first_still, still_heard}
use Rattle.hg_run.proofs.Listing.{by_two, log_at, map_over}
use Rattle.hg_run.proofs.Turns.{HasAsked, logs_asked, some_of}

-- ---- a meeting

pub sees_met : (e : Engine) (i j : ℕ) (old new : List Session) → HaveMet e i j old new → SeesAll j old i new
sees_met e i j old new m d x there = subst (λ (v : View). IsAmong x v.sights) (sym (m.this d)) (among_later x (view_of (get_or old i d)).sights (view_of (get_or old j d)).sights there)

pub still_sees_met : (e : Engine) (i j : ℕ) (old new : List Session) → HaveMet e i j old new → SeesAll i old i new
still_sees_met e i j old new m d x there = subst (λ (v : View). IsAmong x v.sights) (sym (m.this d)) (among_left x (view_of (get_or old i d)).sights (view_of (get_or old j d)).sights there)

-- the state of the meeting has the session's log as it stands, and all that was heard of it
pub own_met : (e : Engine) (i j : ℕ) (old new : List Session) → i < length old → ((d : Session) → IsPlaced e i (get_or old i d)) → HaveMet e i j old new →
    ((d : Session) → IsMet (engine_sizes e) (joined (view_of (get_or old i d)) (view_of (get_or old j d)))) → HasOwn i new
own_met e i j old new within placed m met d l there =
    let v : View = view_of (get_or old i d) in
    let w : View = view_of (get_or old j d) in
    let s : CoreState = (met d).backed.state in
    let many = m.many in
    let parts : Each (Shown s) (OfSession (number v) (session v) ∷ (w.parts ++ [])) = subst (λ ps. Each (Shown s) (put_in ps w.parts)) (placed d).own.only (met d).backed.true_of.parts in
    let mine : s.log (suc i) ≡ (session v).log = (λ k. s.log (sym (placed d).number_is k)) ∙ parts.0.1.0 in
    let all : IsAmong (Heard (suc i) l) (v.sights ++ w.sights) = subst (λ (x : View). IsAmong (Heard (suc i) l) x.sights) (m.this d) there in
    let log : logs_of new (suc i) ≡ (session v).log = log_at d new i (omega (arith, within, many)) ∙ ap (λ (x : View). (session x).log) (m.this d) in
    subst (λ x. EndsWith x l) (mine ∙ sym log) (known_at s (v.sights ++ w.sights) (suc i) l (met d).backed.true_of.sights all)

-- ---- a turn: who has caught up after it had before, or meets the session itself

pub caught_before : (i last : ℕ) (old new : List Session) → length new ≡ length old → logs_of new ≡ logs_of old → SeesAll last old i new → (i ≢ last → HasOwn i new) →
    HasCaughtUp i new → HasCaughtUp last old
caught_before i last old new many same sees own caught d k within apart l there =
    subst (λ (logs : ℕ → List LogEntry). EndsWith (logs (suc k)) l) same
    (by_two i i k (λ k. k ≢ last → k < length new → IsAmong (Heard (suc k) l) (view_of (get_or new i d)).sights → EndsWith (logs_of new (suc k)) l) here here
    (λ p q apart within seen. caught d k within p l seen) apart (omega (arith, within, many)) (sees d (Heard (suc k) l) there))
  where
    here : i ≢ last → i < length new → IsAmong (Heard (suc i) l) (view_of (get_or new i d)).sights → EndsWith (logs_of new (suc i)) l
    here apart within seen = own apart d l seen

-- where a list keeps its logs, and the session at i all that it had seen
pub caught_kept : (i : ℕ) (old new : List Session) → length new ≡ length old → ((k : ℕ) → k ≢ i → logs_of new (suc k) ≡ logs_of old (suc k)) → SeesAll i old i new →
    HasCaughtUp i new → HasCaughtUp i old
caught_kept i old new many same sees caught d k within apart l there =
    subst (λ x. EndsWith x l) (same k apart) (caught d k (omega (arith, within, many)) apart l (sees d (Heard (suc k) l) there))

-- ---- an answer

module _ (e : Engine) (i : ℕ) (x : Option Rest) (left : ℕ → ℕ) (s : Statement) (reply : Reply) (old new : List Session) (h : HasAsked e i x s reply old new)
    (r : AreReady e i (one_more (suc i) left) old) where
  other_logs : (k : ℕ) → k ≢ i → logs_of new (suc k) ≡ logs_of old (suc k)
  other_logs k apart =
      let d = some_of old i r.within in
      ap (λ (logs : ℕ → List LogEntry). logs (suc k)) (logs_asked e i x s reply old new d r.within h) ∙ put_else (logs_of old) (suc i) (suc k) _ (λ q. apart (omega (arith, q)))

  pub caught_asked : HasCaughtUp i new → HasCaughtUp i old
  caught_asked = caught_kept i old new h.many other_logs (λ d y there. subst (IsAmong y) (sym (h.answers d).kept.1) (among_left y (view_of (get_or old i d)).sights (h.answers d).kept.0 there))

  module _ (d : Session) (rid : Rid) (at : ℕ) (answer : Answer) (f : ShownFirst (view_of (get_or old i d)) rid at answer (view_of (get_or new i d))) (caught : HasCaughtUp i new) where
    v : View
    v = view_of (get_or old i d)

    w : View
    w = view_of (get_or new i d)

    -- what the look heard goes on from what the thread knows
    ends : (k : ℕ) → EndsWith (f.logs k) (logs_of old k)
    ends k = go (r.heard d k)
      where
        go : IsHeard k (logs_of old k) (view_of (get_or old i d)).sights → EndsWith (f.logs k) (logs_of old k)
        go (inl empty) = (f.logs k, sym (nothing_after (f.logs k)) ∙ ap (λ l. f.logs k ++ l) (sym empty))
          where
            nothing_after : (l : List LogEntry) → l ++ [] ≡ l
            nothing_after [] = refl
            nothing_after (y ∷ l) = ap (λ m. y ∷ m) (nothing_after l)
        go (inr there) = f.goes k (logs_of old k) there

    still : (j : ℕ) → (j ≡ suc i → ⊥) → IsStill (f.logs j) (logs_of old j)
    still = by_place (λ j. (j ≡ suc i → ⊥) → IsStill (f.logs j) (logs_of old j)) old (λ p. inl refl)
        (λ k within p. let many = h.many in let apart : k ≢ i = (λ q. p (ap suc q)) in
        with_plain k (subst (λ l. IsTrue (is_plain l)) (sym (log_at d old k within)) (r.placed d k within).own.ties.plain)
        (still_heard (suc k) (f.logs (suc k)) (logs_of old (suc k)) (view_of (get_or old i d)).sights (view_of (get_or new i d)).sights (r.heard d (suc k)) (f.goes (suc k)) (f.heard (suc k))
        (subst (λ l. IsHeardUpTo (suc k) l (view_of (get_or new i d)).sights) (other_logs k apart) (caught d k (omega (arith, within, many)) apart))))
        (λ k over p. inl (map_over log_of old k over))
      where
        with_plain : (k : ℕ) → IsTrue (is_plain (logs_of old (suc k))) → (logs_of old (suc k) ≡ []) ⊎ (f.logs (suc k) ≡ logs_of old (suc k)) → IsStill (f.logs (suc k)) (logs_of old (suc k))
        with_plain k plain (inl empty) = inl empty
        with_plain k plain (inr same) = inr (same, plain)

    pub shown_first : ShowsFirst (logs_of old) (suc i) at rid answer
    shown_first =
        let own : (session (view_of (get_or old i d))).log ≡ logs_of old (suc i) = sym (log_at d old i r.within) in
        let mine : number (view_of (get_or old i d)) ≡ suc i = (r.placed d i r.within).number_is in
        first_still f.logs (logs_of old) (suc i) at rid answer still ends
        (subst (λ j. IsFirstAt f.logs (logs_of old (suc i)) j at rid answer) mine (subst (λ l. IsFirstAt f.logs l (number (view_of (get_or old i d))) at rid answer) own f.first))

  -- of each answer
  pub answer_first : (d : Session) (rid : Rid) (at : ℕ) (answer : Answer) → HasFirst (view_of (get_or old i d)) rid at answer (view_of (get_or new i d)) → HasCaughtUp i new →
      ShowsFirst (logs_of old) (suc i) at rid answer
  answer_first d rid at Stored f caught = shown_first d rid at Stored f caught
  answer_first d rid at Gone f caught = shown_first d rid at Gone f caught
  answer_first d rid at (Newer c) f caught = shown_first d rid at (Newer c) f caught
  answer_first d rid at _ f caught = tt

  pub replied_first : (d : Session) → HasCaughtUp i new → IfSome (target s) (λ rid. ShowsFirst (logs_of old) (suc i) (reads_at (current (logs_of old (suc i))) reply) rid reply.answer)
  replied_first d caught = if_some_keeps (target s) _ _
      (λ rid f. answer_first d rid (reads_at (current (logs_of old (suc i))) reply) reply.answer
      (subst (λ l. HasFirst (view_of (get_or old i d)) rid (reads_at (current l) reply) reply.answer (view_of (get_or new i d))) (sym (log_at d old i r.within)) f) caught) (h.first d)

-- ---- at the end each session meets the one that ran last, in turn

-- The sessions below i have met a session that saw all that the one which ran last had seen at first.
pub record IsCatchingUp (e : Engine) (first last i : ℕ) (old now : List Session) : Type 0 where
  pub many : length now ≡ length old
  pub logs : logs_of now ≡ logs_of old
  pub saw : (seen : ℕ) → SawAt seen first old → SawAt seen last now
  pub ready : AreReady e last none_left now
  pub sees : SeesAll first old last now
  pub below : (d : Session) (k : ℕ) → k < i → k ≢ first → IsHeardUpTo (suc k) (logs_of old (suc k)) (view_of (get_or old first d)).sights
  pub next : ((i ≡ 0) × (last ≡ first)) ⊎ (suc last ≡ i)

pub catching_first : (e : Engine) (first : ℕ) (old : List Session) → AreReady e first none_left old → IsCatchingUp e first first 0 old old
catching_first e first old r = record {
  many = refl;
  logs = refl;
  saw = λ seen k. k;
  ready = r;
  sees = λ d x there. there;
  below = λ d k less. absurd (omega (arith, less));
  next = inl (refl, refl);
}

pub catching_more : (e : Engine) (first last i n : ℕ) (old now new : List Session) → n ≡ i + 1 → IsCatchingUp e first last i old now → length new ≡ length now →
    logs_of new ≡ logs_of now → ((seen : ℕ) → SawAt seen last now → SawAt seen i new) → AreReady e i none_left new → SeesAll last now i new → (i ≢ last → HasOwn i new) →
    IsCatchingUp e first i n old new
catching_more e first last i n old now new is p many logs saw ready sees own = record {
  many = many ∙ p.many;
  logs = logs ∙ p.logs;
  saw = λ seen k. saw seen (p.saw seen k);
  ready = ready;
  sees = λ d x there. sees d x (p.sees d x there);
  below = λ d k less apart. by_two i i k (λ k. k < n → k ≢ first → IsHeardUpTo (suc k) (logs_of old (suc k)) (view_of (get_or old first d)).sights) (here d) (here d)
      (λ q _ less apart. p.below d k (omega (arith, less, is, q)) apart) less apart;
  next = inr (omega (arith, is));
}
  where
    here : (d : Session) → i < n → i ≢ first → IsHeardUpTo (suc i) (logs_of old (suc i)) (view_of (get_or old first d)).sights
    here d less apart l there =
        subst (λ (ls : ℕ → List LogEntry). EndsWith (ls (suc i)) l) (logs ∙ p.logs) (own (λ q. other p.next q) d l (sees d (Heard (suc i) l) (p.sees d (Heard (suc i) l) there)))
      where
        other : ((i ≡ 0) × (last ≡ first)) ⊎ (suc last ≡ i) → i ≡ last → ⊥
        other (inl q) e = apart (e ∙ q.1)
        other (inr q) e = omega (arith, q, e)

pub caught_up : (e : Engine) (first last i : ℕ) (old now : List Session) → length old ≤ i → IsCatchingUp e first last i old now → HasCaughtUp first old
caught_up e first last i old now most p d k within apart = p.below d k (omega (arith, within, most)) apart
