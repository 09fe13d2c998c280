-- What was laid down for a session is of the transaction that it handed over.
use Rattle.std.proofs.Common.{◌≡◌, inl, inr, ℕ, ◌<◌, false, List, [], ◌∷◌, ◌++◌, refl, sym, ap, ◌∙◌, subst, append-nil, true≢false}
use Rattle.std.specs.Prelude.{IsTrue}
use Rattle.hg_core.specs.declared.log.LogEntry.{LogEntry}
use Rattle.hg_core.specs.declared.log.LogEntry.TheVariants.{Published}
use Rattle.hg_core.specs.Logs.{is_plain, commit_in}
use Rattle.hg_rule.specs.declared.view.SessionPart.{SessionPart}
use Rattle.hg_rule.specs.declared.view.Part.TheVariants.{OfSession, Away}
use Rattle.hg_rule.specs.declared.view.Sight.TheVariants.{Saw, Heard}
use Rattle.hg_rule.specs.declared.view.View.{View}
use Rattle.hg_rule.specs.Facts.{IsAmong, IsLeft, groups}
use Rattle.hg_rule.specs.Views.{number, session, since, others, seeing, HasAway}
use Rattle.hg_rule.specs.declared.view.Part.{Part}
use Rattle.hg_rule.proofs.Lists.{starts_same, starts_on}
use Rattle.hg_rule.proofs.Growing.{among_later}
use Rattle.hg_group.specs.Leading.{Leads}
use Rattle.hg_rule.specs.Writes.{with_published}
use Rattle.hg_rule.specs.Handing.{IsBack, resuming}
use Rattle.hg_queue.specs.declared.open_tx.OpenTx.{OpenTx}
use Rattle.hg_queue.specs.Handing.{IsOpenTxOf, MayCommit}
use Rattle.hg_group.specs.declared.receipt.Receipt.{Receipt}
use Rattle.hg_group.specs.declared.book.Outcome.TheVariants.{Committed, Refused}
use Rattle.hg_group.specs.Order.{StandsIn}
use Rattle.hg_group.specs.Batch.{IsOutcome, HasFinished, IsRefused}

-- the number and the rest of a log that begins with a commit number
abbrev first_number : List LogEntry → ℕ
first_number [] = 0
first_number (Published n ∷ log) = n
first_number (_ ∷ log) = 0

abbrev rest : List LogEntry → List LogEntry
rest [] = []
rest (e ∷ log) = log

-- a log that went on, where the one before was plain
went_on : (n c : ℕ) (was log now : List LogEntry) → IsTrue (is_plain was) → now ≡ Published c ∷ log → IsLeft n was now → (n < c) × (log ≡ was)
went_on n c was log now plain is (inl e) = absurd (true≢false (sym plain ∙ ap is_plain (sym e ∙ is)))
went_on n c was log now plain is (inr h) = let e = sym is ∙ h.2 in (subst (λ m. n < m) (sym (ap first_number e)) h.1, ap rest e)

stayed : (n : ℕ) (was now : List LogEntry) → IsTrue (is_plain now) → IsLeft n was now → now ≡ was
stayed n was now plain (inl e) = e
stayed n was now plain (inr h) = absurd (true≢false (sym plain ∙ ap is_plain h.2))

module _ (v u w : View) (j : ℕ) (same : number v ≡ j) (alone : others v ≡ []) (may : MayCommit (session v)) (back : IsBack (since v) (session v) (session w))
    (is : u ≡ resuming v w) (unstamped : (session w).stamped ≡ false) where
  parts_are : (p : SessionPart) → session w ≡ p → u.parts ≡ OfSession (number v) p ∷ []
  parts_are p e = ap (λ (y : View). y.parts) is ∙ (λ i. OfSession (number v) (e i) ∷ alone i)

  pub finished : (receipt : Receipt) → IsOutcome j (session w) w.sights (Committed receipt) → HasFinished v receipt u
  finished receipt o =
      let on = went_on (since v) receipt.number (session v).log o.0 (session w).log may.plain o.1.1.0 back.log in
      let part : session w ≡ with_published receipt.number (session v) = (λ i. record {
        phase = back.phase i;
        log = (o.1.1.0 ∙ ap (λ l. Published receipt.number ∷ l) on.1) i;
        stamped = unstamped i;
      }) in
      let sights : u.sights ≡ v.sights ++ w.sights = ap (λ (y : View). y.sights) is in record {
        over = on.0;
        history = o.1.0;
        saw = subst (IsAmong (Saw (groups o.1.0))) (sym sights) (among_later _ v.sights w.sights o.1.1.1.0.0);
        stands = subst (λ c. StandsIn o.1.0 receipt c) (λ i. commit_in (sym same i) (on.1 i)) o.1.1.1.1;
        heard = subst (λ x. IsAmong x u.sights) (λ i. Heard (sym same i) (part i).log) (subst (IsAmong (Heard j (session w).log)) (sym sights) (among_later _ v.sights w.sights o.1.1.1.0.1));
        parts = parts_are _ part;
        kept = (w.sights, sights);
        events = ([], ap (λ (y : View). y.events) is ∙ sym (append-nil v.events));
      }

  pub refused : (tx : OpenTx) → IsOutcome j (session w) w.sights (Refused tx) → IsRefused v tx u
  refused tx o =
      let log = stayed (since v) (session v).log (session w).log o.1.plain back.log in
      let part : session w ≡ session v = (λ i. record { phase = back.phase i; log = log i; stamped = (unstamped ∙ sym may.unstamped) i }) in record {
        tx_is = subst (λ k. IsOpenTxOf k (session v) tx) (sym same) (subst (λ p. IsOpenTxOf j p tx) part o.0);
        parts = parts_are _ part;
        kept = (w.sights, ap (λ (y : View). y.sights) is);
        events = ([], ap (λ (y : View). y.events) is ∙ sym (append-nil v.events));
      }

-- ---- while it waits

pub leads_none : (v : View) → HasAway v → others v ≡ [] → Leads v v
leads_none v own alone = record { parts = own ∙ ap (λ (l : List Part). Away (number v) (session v) (since v) ∷ l) alone; kept = starts_same v.sights; events = starts_same v.events }

-- what is so of its own place still
pub record Waits (v w : View) : Type 0 where
  pub number_is : number w ≡ number v
  pub session_is : session w ≡ session v
  pub since_is : since w ≡ since v
  pub alone : others w ≡ []

pub waits : (v w : View) → Leads v w → Waits v w
waits v w l = go w.parts l.parts w.sights w.events
  where
    go : (ps : List Part) → ps ≡ Away (number v) (session v) (since v) ∷ [] → (sights : _) (events : _) → Waits v (seeing ps sights events)
    go ps e sights events = subst (λ (qs : List Part). Waits v (seeing qs sights events)) (sym e) record { number_is = refl; session_is = refl; since_is = refl; alone = refl }

pub leads_on : (v w x : View) → Leads v w → Leads w x → Leads v x
leads_on v w x a b =
    let t = waits v w a in
    record {
      parts = b.parts ∙ (λ i. Away (t.number_is i) (t.session_is i) (t.since_is i) ∷ []);
      kept = starts_on x.sights w.sights v.sights a.kept b.kept;
      events = starts_on x.events w.events v.events a.events b.events;
    }

pub finished_on : (v w x : View) (receipt : Receipt) → Leads v w → HasFinished w receipt x → HasFinished v receipt x
finished_on v w x receipt a f =
    let t = waits v w a in
    record {
      over = subst (λ n. n < receipt.number) t.since_is f.over;
      history = f.history;
      saw = f.saw;
      stands = subst (λ c. StandsIn f.history receipt c) (λ i. commit_in (t.number_is i) (t.session_is i).log) f.stands;
      heard = subst (λ y. IsAmong y x.sights) (λ i. Heard (t.number_is i) (Published receipt.number ∷ (t.session_is i).log)) f.heard;
      parts = f.parts ∙ (λ i. OfSession (t.number_is i) (with_published receipt.number (t.session_is i)) ∷ []);
      kept = starts_on x.sights w.sights v.sights a.kept f.kept;
      events = starts_on x.events w.events v.events a.events f.events;
    }

pub refused_on : (v w x : View) (tx : OpenTx) → Leads v w → IsRefused w tx x → IsRefused v tx x
refused_on v w x tx a f =
    let t = waits v w a in
    record {
      tx_is = subst (λ (p : ℕ × SessionPart). IsOpenTxOf p.0 p.1 tx) (λ i. (t.number_is i, t.session_is i)) f.tx_is;
      parts = f.parts ∙ (λ i. OfSession (t.number_is i) (t.session_is i) ∷ []);
      kept = starts_on x.sights w.sights v.sights a.kept f.kept;
      events = starts_on x.events w.events v.events a.events f.events;
    }
