-- A transaction that was handed over and came back.
use Rattle.std.proofs.Common.{◌≡◌, ℕ, ◌<◌, ◌≤◌, List, [], ◌∷◌, refl, sym, ap, ◌∙◌, subst, arith, append-nil}
use Rattle.std.specs.Prelude.{Result, Ok, Err, IfOk, IfErr}
use Rattle.hg_core.specs.declared.log.LogEntry.TheVariants.{Published}
use Rattle.hg_core.specs.Logs.{commit_in}
use Rattle.hg_rule.specs.declared.view.SessionPart.{SessionPart}
use Rattle.hg_rule.specs.declared.view.Part.{Part}
use Rattle.hg_rule.specs.declared.view.Part.TheVariants.{OfSession, Away}
use Rattle.hg_rule.specs.declared.view.Sight.TheVariants.{Heard}
use Rattle.hg_rule.specs.declared.view.View.{View}
use Rattle.hg_rule.specs.Facts.{StartsWith, IsAmong}
use Rattle.hg_rule.specs.Views.{number, session, since, seeing, others, after_first}
use Rattle.hg_rule.specs.Holding.{snapshot}
use Rattle.hg_rule.specs.Handing.{resuming}
use Rattle.hg_rule.specs.Writes.{with_published}
use Rattle.hg_rule.proofs.Lists.{starts_on}
use Rattle.hg_queue.specs.declared.open_tx.OpenTx.{OpenTx}
use Rattle.hg_queue.specs.Handing.{IsOpenTxOf}
use Rattle.hg_group.specs.declared.receipt.Receipt.{Receipt}
use Rattle.hg_group.specs.Order.{StandsIn}
use Rattle.hg_group.specs.Batch.{HasFinished, IsRefused}
use Rattle.hg_group.specs.Submitting.{HasSubmitted, IsBackAgain, HasCommitted}

-- whose place it is
record Sent (v : View) (mark : ℕ) (u : View) : Type 0 where
  pub number_is : number u ≡ number v
  pub session_is : session u ≡ session v
  pub since_is : since u ≡ mark

sent : (v u : View) (mark : ℕ) → u.parts ≡ Away (number v) (session v) mark ∷ [] → Sent v mark u
sent v u mark e = go u.parts e u.sights u.events
  where
    go : (ps : List Part) → ps ≡ Away (number v) (session v) mark ∷ [] → (sights : _) (events : _) → Sent v mark (seeing ps sights events)
    go ps e sights events = subst (λ (qs : List Part). Sent v mark (seeing qs sights events)) (sym e) record { number_is = refl; session_is = refl; since_is = refl }

kept : (v u : View) (mark : ℕ) → HasSubmitted v mark u → StartsWith u.sights v.sights
kept v u mark s = (_, ap (λ (y : View). y.sights) s.step.1.1)

done : (v u : View) (mark : ℕ) → HasSubmitted v mark u → StartsWith u.events v.events
done v u mark s = (_, ap (λ (y : View). y.events) s.step.1.1)

pub published : (v u w : View) (mark : ℕ) (receipt : Receipt) → HasSubmitted v mark u → HasFinished u receipt w → HasCommitted v receipt w
published v u w mark receipt s f =
    let t = sent v u mark s.parts in
    let over : mark < receipt.number = subst (λ n. n < receipt.number) t.since_is f.over in
    record {
      seen = s.step.0;
      most = s.step.1.0.within;
      over = subst (λ n. n < receipt.number) (sym s.step.1.0.is_length) over;
      begun = below (snapshot v) mark receipt.number s.over over;
      history = f.history;
      saw = f.saw;
      stands = subst (λ c. StandsIn f.history receipt c) (λ i. commit_in (t.number_is i) (t.session_is i).log) f.stands;
      heard = subst (λ y. IsAmong y w.sights) (λ i. Heard (t.number_is i) (Published receipt.number ∷ (t.session_is i).log)) f.heard;
      parts = f.parts ∙ (λ i. OfSession (t.number_is i) (with_published receipt.number (t.session_is i)) ∷ []);
      kept = starts_on w.sights u.sights v.sights (kept v u mark s) f.kept;
      events = starts_on w.events u.events v.events (done v u mark s) f.events;
    }
  where
    below : (a m n : ℕ) → a ≤ m → m < n → a < n
    below a m n l k = omega (arith, l, k)

pub back_again : (v u w : View) (mark : ℕ) (tx : OpenTx) → HasSubmitted v mark u → IsRefused u tx w → IsOpenTxOf (number v) (session v) tx × IsBackAgain v w
back_again v u w mark tx s f =
    let t = sent v u mark s.parts in (
      subst (λ (p : ℕ × SessionPart). IsOpenTxOf p.0 p.1 tx) (λ i. (t.number_is i, t.session_is i)) f.tx_is,
      record {
        parts = f.parts ∙ (λ i. OfSession (t.number_is i) (t.session_is i) ∷ []);
        kept = starts_on w.sights u.sights v.sights (kept v u mark s) f.kept;
        events = starts_on w.events u.events v.events (done v u mark s) f.events;
      },
    )

-- what was handed over came back as it was
pub back_home : (v u w x : View) (mark : ℕ) → HasSubmitted v mark u → session x ≡ session v → w ≡ resuming u x → IsBackAgain v w
back_home v u w x mark s same is =
    let t = sent v u mark s.parts in
    let none : others u ≡ [] = ap after_first s.parts in
    record {
      parts = ap (λ (y : View). y.parts) is ∙ (λ i. OfSession (t.number_is i) (same i) ∷ none i);
      kept = starts_on w.sights u.sights v.sights (kept v u mark s) (x.sights, ap (λ (y : View). y.sights) is);
      events = starts_on w.events u.events v.events (done v u mark s) ([], ap (λ (y : View). y.events) is ∙ sym (append-nil u.events));
    }

pub if_ok : {A B : Type 0} (P Q : A → Type 0) (r : Result A B) → ((a : A) → P a → Q a) → IfOk r P → IfOk r Q
if_ok P Q (Ok a) f h = f a h
if_ok P Q (Err e) f h = h

pub if_err : {A B : Type 0} (P Q : B → Type 0) (r : Result A B) → ((b : B) → P b → Q b) → IfErr r P → IfErr r Q
if_err P Q (Ok a) f h = h
if_err P Q (Err e) f h = f e h
