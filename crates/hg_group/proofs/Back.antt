-- A batch is handed back, one transaction after the other.
use Rattle.std.proofs.Common.{◌≡◌, ℕ, List, [], ◌∷◌, ◌++◌, refl, sym, ap, ◌∙◌, subst, append_assoc, append-nil}
use Rattle.std.proofs.lemmas.List.{map-append}
use Rattle.hg_core.specs.Phases.{IsSession}
use Rattle.hg_rule.specs.declared.view.SessionPart.{SessionPart}
use Rattle.hg_rule.specs.declared.view.Part.{Part}
use Rattle.hg_rule.specs.declared.view.Part.TheVariants.{Away, Lent}
use Rattle.hg_rule.specs.declared.view.Event.TheVariants.{HandBack}
use Rattle.hg_rule.specs.declared.view.View.{View}
use Rattle.hg_rule.specs.Views.{number, session, since, others, seeing}
use Rattle.hg_rule.specs.Holding.{beyond}
use Rattle.hg_rule.specs.Handing.{Members, lent, next_lent, lent_alone, hands_back}
use Rattle.hg_rule.specs.Seats.{BoardId, tx_view, IsTxOf}
use Rattle.hg_queue.specs.declared.open_tx.OpenTx.{OpenTx}
use Rattle.hg_queue.specs.Handing.{seat_number, seat_part}
use Rattle.hg_group.specs.declared.book.Outcome.TheVariants.{Refused}
use Rattle.hg_group.specs.declared.book.Laid.{Laid}
use Rattle.hg_group.specs.Batch.{IsTaken, AreTaken, IsOutcome, IsLaid, HasBatch, LaysAll, sessions_of, backs}

-- the pass's own place is as it was, and these sessions have their parts back
pub record Same (v : View) (js : List ℕ) (w : View) : Type 0 where
  pub number_is : number w ≡ number v
  pub session_is : session w ≡ session v
  pub since_is : since w ≡ since v
  pub sights : w.sights ≡ v.sights
  pub events : w.events ≡ v.events ++ backs js

pub same_none : (v : View) → Same v [] v
same_none v = record { number_is = refl; session_is = refl; since_is = refl; sights = refl; events = sym (append-nil v.events) }

-- the next one, and what is left after it
pub record Next (sessions : ℕ) (v : View) (tx : OpenTx) (txs : List OpenTx) : Type 0 where
  pub is : others v ≡ Lent tx.writer.session (next_lent v) ∷ beyond v
  pub taken : IsTaken tx (tx.writer.session, next_lent v)
  pub inside : IsSession sessions tx.writer.session
  pub rest : HasBatch sessions (hands_back v) txs
  pub same : Same v (tx.writer.session ∷ []) (hands_back v)

pub next_of : (sessions : ℕ) (v : View) (tx : OpenTx) (txs : List OpenTx) → HasBatch sessions v (tx ∷ txs) → Next sessions v tx txs
next_of sessions v tx txs b = go b.ms b.taken v.parts b.parts v.sights v.events
  where
    go : (ms : Members) → AreTaken (tx ∷ txs) ms → (ps : List Part) → ps ≡ Away (number v) (session v) (since v) ∷ lent ms → (sights : _) (events : _) → Next sessions (seeing ps sights events) tx txs
    go [] h ps e sights events = absurd h
    go (m ∷ ms) h ps e sights events = subst (λ (qs : List Part). Next sessions (seeing qs sights events) tx txs) (sym (e ∙ whose)) record {
      is = refl;
      taken = subst (λ j. IsTaken tx (j, m.1)) at h.0;
      inside = b.inside.0;
      rest = record { ms = ms; taken = h.1; inside = b.inside.1; parts = refl };
      same = record { number_is = refl; session_is = refl; since_is = refl; sights = refl; events = refl };
    }
      where
        at : m.0 ≡ tx.writer.session
        at = ap (λ w. w.session) (sym h.0.tx_is.writer_is)

        whose : Away (number v) (session v) (since v) ∷ Lent m.0 m.1 ∷ lent ms ≡ Away (number v) (session v) (since v) ∷ Lent tx.writer.session m.1 ∷ lent ms
        whose = ap (λ (j : ℕ). Away (number v) (session v) (since v) ∷ Lent j m.1 ∷ lent ms) at

pub same_on : (v w x : View) (js ks : List ℕ) → Same v js w → Same w ks x → Same v (js ++ ks) x
same_on v w x js ks a b = record {
  number_is = b.number_is ∙ a.number_is;
  session_is = b.session_is ∙ a.session_is;
  since_is = b.since_is ∙ a.since_is;
  sights = b.sights ∙ a.sights;
  events = b.events ∙ (ap (λ l. l ++ backs ks) a.events ∙ (append_assoc v.events (backs js) (backs ks) ∙ ap (λ l. v.events ++ l) (sym (map-append (λ j. HandBack j) js ks))));
}

-- those that were handed back, and those that are left
pub record Parted (v : View) (all : List OpenTx) (w : View) (left : List OpenTx) : Type 0 where
  pub done : List OpenTx
  pub all_is : all ≡ done ++ left
  pub same : Same v (sessions_of done) w

pub parted_none : (v : View) (all : List OpenTx) → Parted v all v all
parted_none v all = record { done = []; all_is = refl; same = same_none v }

pub parted_more : (v w x : View) (all rest : List OpenTx) (tx : OpenTx) → Parted v all w (tx ∷ rest) → Same w (tx.writer.session ∷ []) x → Parted v all x rest
parted_more v w x all rest tx p s = record {
  done = p.done ++ tx ∷ [];
  all_is = p.all_is ∙ sym (append_assoc p.done (tx ∷ []) rest);
  same = subst (λ js. Same v js x) (sym (map-append (λ (y : OpenTx). y.writer.session) p.done (tx ∷ []))) (same_on v w x (sessions_of p.done) (tx.writer.session ∷ []) p.same s);
}

pub refused_one : (sessions : ℕ) (v : View) (tx : OpenTx) (txs : List OpenTx) (t : BoardId) (x : Laid) → Next sessions v tx txs → x.outcome ≡ Refused tx → IsTxOf t x.seat →
    seat_number x.seat ≡ tx.writer.session → tx_view x.seat ≡ lent_alone tx.writer.session (next_lent v) v → IsLaid t tx.writer.session x
refused_one sessions v tx txs t x n out seat number_is view =
    let part : seat_part x.seat ≡ next_lent v = ap session view in record {
      seat = seat;
      number_is = number_is;
      unstamped = ap (λ (p : SessionPart). p.stamped) part ∙ n.taken.may.unstamped;
      outcome = subst (λ o. IsOutcome tx.writer.session (seat_part x.seat) (tx_view x.seat).sights o) (sym out)
          (subst (λ p. IsOutcome tx.writer.session p (tx_view x.seat).sights (Refused tx)) (sym part) (n.taken.tx_is, n.taken.may));
    }

pub back_end : (sessions : ℕ) (v w : View) (all txs : List OpenTx) → txs ≡ [] → HasBatch sessions w txs → Parted v all w txs → LaysAll v all w
back_end sessions v w all txs none b p =
    let s = p.same in
    let every : p.done ≡ all = sym (append-nil p.done) ∙ (ap (λ l. p.done ++ l) (sym none) ∙ sym p.all_is) in
    record {
      parts = b.parts ∙ (λ i. Away (s.number_is i) (s.session_is i) (s.since_is i) ∷ lent (nobody b.ms (subst (λ l. AreTaken l b.ms) none b.taken) i));
      sights = s.sights;
      events = s.events ∙ ap (λ l. v.events ++ backs (sessions_of l)) every;
    }
  where
    nobody : (ms : Members) → AreTaken [] ms → ms ≡ []
    nobody [] h = refl
    nobody (m ∷ ms) h = absurd h
