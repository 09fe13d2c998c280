-- What was popped comes to the pass, one after the other.
use Rattle.std.proofs.Common.{◌≡◌, ℕ, List, [], ◌∷◌, ◌++◌, map, refl, sym, ap, ◌∙◌, append_assoc, append-nil}
use Rattle.std.proofs.lemmas.List.{map-append}
use Rattle.hg_rule.specs.declared.view.Part.{Part}
use Rattle.hg_rule.specs.declared.view.Part.TheVariants.{Away, Lent}
use Rattle.hg_rule.specs.declared.view.SessionPart.{SessionPart}
use Rattle.hg_rule.specs.declared.view.View.{View}
use Rattle.hg_rule.specs.Views.{number, session, since, others, HasAway}
use Rattle.hg_rule.specs.Handing.{Members, lent, received}
use Rattle.hg_rule.specs.Seats.{BoardId, tx_view, session_view, session_rest, IsSeatOf, IsAwayOf}
use Rattle.hg_rule.specs.declared.passes.SessionPass.{SessionPass}
use Rattle.hg_rule.specs.declared.view.Sizes.{Sizes}
use Rattle.hg_rule.proofs.Holders.{still_away}
use Rattle.hg_queue.specs.declared.open_tx.OpenTx.{OpenTx}
use Rattle.hg_queue.specs.declared.handed.Handed.{Handed}
use Rattle.hg_queue.specs.Handing.{IsHandedOf, seat_number, seat_part}
use Rattle.hg_queue.specs.Lines.{pair_of}
use Rattle.hg_group.specs.Order.{Pairs}
use Rattle.hg_group.specs.Batch.{pair_in, IsTaken, AreTaken, Gathers}

lent_more : (ms : Members) (j : ℕ) (s : SessionPart) → lent (ms ++ (j, s) ∷ []) ≡ lent ms ++ Lent j s ∷ []
lent_more [] j s = refl
lent_more (m ∷ ms) j s = ap (λ l. Lent m.0 m.1 ∷ l) (lent_more ms j s)

taken_more : (txs : List OpenTx) (ms : Members) (tx : OpenTx) (m : ℕ × SessionPart) → AreTaken txs ms → IsTaken tx m → AreTaken (txs ++ tx ∷ []) (ms ++ m ∷ [])
taken_more [] [] tx m h t = (t, tt)
taken_more [] (n ∷ ms) tx m h t = absurd h
taken_more (x ∷ txs) [] tx m h t = absurd h
taken_more (x ∷ txs) (n ∷ ms) tx m h t = (h.0, taken_more txs ms tx m h.1 t)

pub gathers_none : (v : View) (old : Pairs) → HasAway v → others v ≡ [] → Gathers v old [] old v
gathers_none v old is alone = record {
  ms = [];
  taken = tt;
  parts = is ∙ ap (λ (l : List Part). Away (number v) (session v) (since v) ∷ l) alone;
  kept = ([], sym (append-nil v.sights));
  events = refl;
  pairs = sym (append-nil old);
}

pub gathers_more : (t : BoardId) (v w u : View) (old mid new : Pairs) (txs : List OpenTx) (x : Handed) → Gathers v old txs mid w → IsHandedOf t x → new ≡ mid ++ pair_of x ∷ [] →
    u ≡ received w (tx_view x.seat) → Gathers v old (txs ++ x.tx ∷ []) new u
gathers_more t v w u old mid new txs x g h next is = record {
  ms = g.ms ++ (seat_number x.seat, seat_part x.seat) ∷ [];
  taken = taken_more txs g.ms x.tx (seat_number x.seat, seat_part x.seat) g.taken record { tx_is = h.tx; some = h.some; may = h.may };
  parts = ap (λ (y : View). y.parts) is ∙ (λ i. g.parts i ++ h.seat.1 i) ∙
      ap (λ (l : List Part). Away (number v) (session v) (since v) ∷ l) (sym (lent_more g.ms (seat_number x.seat) (seat_part x.seat)));
  kept = (g.kept.0 ++ (tx_view x.seat).sights, ap (λ (y : View). y.sights) is ∙ (ap (λ l. l ++ (tx_view x.seat).sights) g.kept.1 ∙ append_assoc v.sights g.kept.0 (tx_view x.seat).sights));
  events = ap (λ (y : View). y.events) is ∙ g.events;
  pairs = next ∙ (ap (λ l. l ++ pair_of x ∷ []) g.pairs ∙ (append_assoc old (map pair_in txs) (pair_of x ∷ []) ∙ ap (λ l. old ++ l) (sym (map-append pair_in txs (x.tx ∷ [])))));
}

-- the pass's own part is away still
pub away_on : (t : BoardId) (z : Sizes) (p q : SessionPass) (w : View) → IsAwayOf t z p → IsSeatOf t q.seat → session_rest q ≡ session_rest p →
    session_view q ≡ received (session_view p) w → IsAwayOf t z q
away_on t z p q w own seat rest is = still_away t z p q (others (session_view p) ++ w.parts) own seat rest (ap (λ (y : View). y.parts) is ∙ ap (λ (l : List Part). l ++ w.parts) own.3)
