-- A transaction that ends.
use Rattle.std.proofs.Common.{◌≡◌, inl, inr, ℕ, suc, ◌-◌, ◌≤◌, List, [], ◌∷◌, true, false, length, Some, None, refl, sym, ap, ◌∙◌, subst, arith, ◌<◌}
use Rattle.std.specs.Prelude.{is_some, IsTrue, ◌||◌, ◌==◌, if◌then◌else◌}
use Rattle.std.proofs.lemmas.Bool.Decides.{nat_tests}
use Rattle.hg_base.specs.declared.rid.Rid.{Rid}
use Rattle.hg_base.specs.History.{Write, image_in, is_among}
use Rattle.hg_base.specs.Replies.{is_written}
use Rattle.hg_base.proofs.HistoryFacts.{same_rid_itself}
use Rattle.hg_core.specs.declared.log.LogEntry.{LogEntry}
use Rattle.hg_core.specs.declared.log.LogEntry.TheVariants.{Published, Over}
use Rattle.hg_core.specs.declared.phase.Phase.TheVariants.{Idle}
use Rattle.hg_core.specs.Logs.{is_plain, own_writes}
use Rattle.hg_core.proofs.NewGroup.{image_open}
use Rattle.hg_rule.specs.declared.view.Part.TheVariants.{OfSession}
use Rattle.hg_rule.specs.declared.view.Sight.TheVariants.{Saw, Heard, Took, Did}
use Rattle.hg_rule.specs.declared.view.Sight.{Sight}
use Rattle.hg_rule.specs.declared.view.SessionPart.{SessionPart}
use Rattle.hg_rule.specs.Seats.{IsSessionOf}
use Rattle.hg_base.specs.declared.scope.Snapshot.{Snapshot}
use Rattle.hg_core.proofs.Groups.{wider}
use Rattle.hg_queue.specs.declared.open_tx.OpenTx.{OpenTx}
use Rattle.hg_queue.specs.Handing.{IsOpenTxOf}
use Rattle.hg_session.specs.declared.engine.Engine.{Engine}
use Rattle.hg_session.specs.declared.session.Session.{Session}
use Rattle.hg_session.specs.Engines.{engine_board_id, engine_sizes}
use Rattle.hg_session.specs.Sessions.{pass_of, view_of, seen_by, opened_of, written_of, cursor_of, left_of, IsIn}
use Rattle.hg_session.proofs.Settling.{gained}
use Rattle.hg_rule.specs.declared.view.View.{View}
use Rattle.hg_rule.specs.Facts.{IsAmong, IsHeard}
use Rattle.hg_rule.specs.Views.{number, session}
use Rattle.hg_rule.specs.Steps.{Within, logging, Ends}
use Rattle.hg_rule.specs.Holding.{snapshot}
use Rattle.hg_rule.specs.Writes.{with_published}
use Rattle.hg_rule.proofs.Lists.{starts_on, each_map, among_left}
use Rattle.hg_tracker.specs.Begun.{AtMost}
use Rattle.hg_tracker.proofs.After.{within_most}
use Rattle.hg_group.specs.declared.receipt.Receipt.{Receipt}
use Rattle.hg_group.specs.Submitting.{HasCommitted, IsBackAgain}
use Rattle.hg_session.specs.Ties.{AreWritten, Ties}
use Rattle.hg_session.specs.Gains.{Alone, Gains, IsAfter}
use Rattle.hg_session.proofs.Trips.{alone_only, ended}
use Rattle.hg_cursor.proofs.Trips.{first_number, first_session}

-- ---- what a transaction wrote

-- it lists none exactly where it stored none
none_listed : (own : List Write) → ((r : Rid) → is_some (image_in r own) ≡ false) → is_written own ≡ false
none_listed [] h = refl
none_listed (w ∷ own) h = absurd (let k = sym (ap is_some (first w own)) ∙ h w.rid in cc)
  where
    first : (w : Write) (own : List Write) → image_in w.rid (w ∷ own) ≡ Some w.image
    first w own = ap (λ b. if b then Some w.image else image_in w.rid own) (same_rid_itself w.rid)

pub unwritten : (rids : List Rid) (log : List LogEntry) → IsTrue (is_plain log) → AreWritten rids log → rids ≡ [] → is_written (own_writes log) ≡ false
unwritten rids log plain a none = none_listed (own_writes log) (λ r. ap is_some (image_open r log plain) ∙ (sym (a.each r) ∙ ap (is_among r) none))

pub written_some : (rids : List Rid) (log : List LogEntry) → IsTrue (is_plain log) → AreWritten rids log → 0 < length rids → is_written (own_writes log) ≡ true
written_some [] log plain a some = absurd (omega (arith, some))
written_some (r ∷ rids) log plain a some = go (own_writes log) (ap is_some (image_open r log plain) ∙ (sym (a.each r) ∙ ap (λ b. b || is_among r rids) (same_rid_itself r)))
  where
    go : (own : List Write) → is_some (image_in r own) ≡ true → is_written own ≡ true
    go [] e = absurd (let k = e in cc)
    go (w ∷ own) e = refl

-- ---- a commit, and the end behind it

pub record Closed (v : View) (receipt : Receipt) (w : View) : Type 0 where
  pub alone : Alone (number v) (logging Over Idle (with_published receipt.number (session v))) v.sights w
  pub heard : IsAmong (Heard (number v) (Over ∷ Published receipt.number ∷ (session v).log)) w.sights

pub closed : (v u w : View) (receipt : Receipt) → HasCommitted v receipt u → Ends u w → Closed v receipt w
closed v u w receipt h k =
    let n = first_number u (number v) (with_published receipt.number (session v)) [] h.parts in
    let s = first_session u (number v) (with_published receipt.number (session v)) [] h.parts in
    let only = alone_only u (number v) (with_published receipt.number (session v)) v.sights (record { parts = h.parts; kept = h.kept }) in
    let e = ended u w only k in record {
      alone = record {
        parts = e.0.parts ∙ (λ i. OfSession (n i) (logging Over Idle (s i)) ∷ []);
        kept = starts_on w.sights u.sights v.sights h.kept e.0.kept;
      };
      heard = subst (λ x. IsAmong x w.sights) (λ i. Heard (n i) (Over ∷ (s i).log)) e.1;
    }

most_more : (n m : ℕ) → n ≤ m → (x : Sight) → AtMost n x → AtMost m x
most_more n m l (Saw h) b = omega (arith, b, l)
most_more n m l (Heard j log) b = wider n m log l b
most_more n m l (Took k) b = omega (arith, b, l)
most_more n m l (Did e) b = tt

pub after : (v u : View) (receipt : Receipt) (at : ℕ) → HasCommitted v receipt u → at ≡ snapshot v → IsAfter v.sights at receipt.number
after v u receipt at h e = record {
  before = receipt.number - 1;
  next = up receipt.number (length h.seen) h.over;
  over = each_map (Within h.seen) (AtMost (receipt.number - 1)) (λ x b. most_more (length h.seen) (receipt.number - 1) (below (length h.seen) receipt.number h.over) x
      (within_most h.seen (length h.seen) refl x b)) v.sights h.most;
  begun = below at receipt.number (subst (λ n. n < receipt.number) (sym e) h.begun);
}
  where
    up : (n m : ℕ) → m < n → n ≡ suc (n - 1)
    up n m l = omega (arith, l)

    below : (m n : ℕ) → m < n → m ≤ n - 1
    below m n l = omega (arith, l)

-- ---- a refusal, after which the transaction is open still

pub back_gains : (v w : View) → IsBackAgain v w → Gains v [] w
back_gains v w b = gained v w (session v) [] (record { parts = b.parts; kept = b.kept }) refl

pub back_in : (e : Engine) (v : View) (s : Session) → IsSessionOf (engine_board_id e) (engine_sizes e) (pass_of s) → IsBackAgain v (view_of s) →
    Ties (engine_sizes e).quota (opened_of s) (written_of s) (left_of s) 0 0 (session v) → IsHeard (number v) (session v).log v.sights → cursor_of s ≡ None → IsIn e 0 0 s
back_in e v s own b ties heard closed =
    let a : Alone (number v) (session v) v.sights (view_of s) = record { parts = b.parts; kept = b.kept } in
    let n = first_number (view_of s) (number v) (session v) [] b.parts in
    let p = first_session (view_of s) (number v) (session v) [] b.parts in record {
      pass = own;
      only = alone_only (view_of s) (number v) (session v) v.sights a;
      ties = subst (Ties (engine_sizes e).quota (opened_of s) (written_of s) (left_of s) 0 0) (sym p) ties;
      heard = subst (λ (q : ℕ × SessionPart). IsHeard q.0 q.1.log (seen_by s)) (λ i. (sym n i, sym p i)) (later heard);
      closed = closed;
    }
  where
    later : IsHeard (number v) (session v).log v.sights → IsHeard (number v) (session v).log (seen_by s)
    later (inl f) = inl f
    later (inr m) = inr (subst (IsAmong (Heard (number v) (session v).log)) (sym b.kept.1) (among_left (Heard (number v) (session v).log) v.sights b.kept.0 m))

-- what it lists is what it wrote
pub ties_back : (quota left : ℕ) (opened : Snapshot) (old new : List Rid) (j : ℕ) (part : SessionPart) (tx : OpenTx) → new ≡ tx.records.list → IsOpenTxOf j part tx →
    Ties quota (Some opened) old left 0 0 part → Ties quota (Some opened) new left 0 0 part
ties_back quota left opened old new j part tx same o t = record {
  phase = t.phase;
  unstamped = t.unstamped;
  opens = t.opens;
  plain = t.plain;
  written_is = subst (λ l. AreWritten l part.log) (sym same) record { once = o.once; each = o.exact };
  rests = λ z. absurd (let q = z in cc);
  begun = t.begun;
  wrote = t.wrote;
}

-- ---- an empty list

pub none_of : (rids : List Rid) → (length rids == 0) ≡ true → rids ≡ []
none_of [] e = refl
none_of (r ∷ rids) e = absurd (let k : length (r ∷ rids) ≡ 0 = grind (arith, nat_tests, e) in omega (arith, k))
