-- What became of a batch is laid down, one after the other.
use Rattle.std.proofs.Common.{◌≡◌, ℕ, zero, suc, ◌+◌, ◌<◌, List, [], ◌∷◌, ◌++◌, length, map, take, drop, get_or, set, Option, Some, None, refl, sym, ap, ◌∙◌, subst, arith, append_assoc, append-nil}
use Rattle.std.proofs.lemmas.List.{map-append}
use Rattle.std.specs.Prelude.{IfSome}
use Rattle.hg_base.specs.Lists.{Each}
use Rattle.hg_core.specs.declared.log.LogEntry.TheVariants.{Published}
use Rattle.hg_core.specs.Logs.{commit_in}
use Rattle.hg_rule.specs.declared.view.SessionPart.{SessionPart}
use Rattle.hg_rule.specs.declared.view.Part.{Part}
use Rattle.hg_rule.specs.declared.view.Part.TheVariants.{Away, Lent}
use Rattle.hg_rule.specs.declared.view.Sight.TheVariants.{Saw, Heard}
use Rattle.hg_rule.specs.declared.view.Event.TheVariants.{HandBack}
use Rattle.hg_rule.specs.declared.view.View.{View}
use Rattle.hg_rule.specs.Facts.{IsAmong, groups, new_session}
use Rattle.hg_rule.specs.Views.{number, part_number, session, since, others, seeing}
use Rattle.hg_rule.specs.Holding.{beyond}
use Rattle.hg_rule.specs.Writes.{with_published}
use Rattle.hg_rule.specs.Handing.{Members, lent, who, numbered, group_of, next_lent, lent_alone, hands_back}
use Rattle.hg_rule.specs.Seats.{BoardId, tx_view, IsTxOf}
use Rattle.hg_queue.specs.declared.open_tx.OpenTx.{OpenTx}
use Rattle.hg_queue.specs.Handing.{seat_number, seat_part}
use Rattle.hg_group.specs.declared.receipt.Receipt.{Receipt}
use Rattle.hg_group.specs.declared.book.Outcome.TheVariants.{Committed}
use Rattle.hg_group.specs.declared.book.Laid.{Laid}
use Rattle.hg_group.specs.Order.{StandsIn}
use Rattle.hg_group.specs.Batch.{IsOutcome, IsLaid, AreLaid, HasGroup, LaysAll, sessions_of, backs}
use Rattle.hg_group.proofs.Grouped.{stands}
use Rattle.hg_group.proofs.Stamped.{take_all}

-- ---- lists

abbrev pub nobody : ℕ × SessionPart
nobody = (0, new_session)

drop_at : (ms : Members) (i : ℕ) → i < length ms → drop i ms ≡ get_or ms i nobody ∷ drop (i + 1) ms
drop_at [] i l = absurd (omega (arith, l))
drop_at (m ∷ ms) zero l = refl
drop_at (m ∷ ms) (suc i) l = drop_at ms i (omega (arith, l)) ∙ ap (λ n. get_or ms i nobody ∷ drop n (m ∷ ms)) (up i)
  where
    up : (i : ℕ) → suc (i + 1) ≡ suc i + 1
    up i = omega arith

parted : (ms : Members) (i : ℕ) → i < length ms → ms ≡ take i ms ++ get_or ms i nobody ∷ drop (i + 1) ms
parted [] i l = absurd (omega (arith, l))
parted (m ∷ ms) zero l = refl
parted (m ∷ ms) (suc i) l = ap (λ k. m ∷ k) (parted ms i (omega (arith, l)) ∙ ap (λ n. take i ms ++ get_or ms i nobody ∷ drop n (m ∷ ms)) (up i))
  where
    up : (i : ℕ) → suc (i + 1) ≡ suc i + 1
    up i = omega arith

take_length : (ms : Members) (i : ℕ) → i < length ms → length (take i ms) ≡ i
take_length [] i l = absurd (omega (arith, l))
take_length (m ∷ ms) zero l = refl
take_length (m ∷ ms) (suc i) l = ap suc (take_length ms i (omega (arith, l)))

drop_end : (ms : Members) → drop (length ms) ms ≡ []
drop_end [] = refl
drop_end (m ∷ ms) = drop_end ms

numbered_at : (n : ℕ) (ms : Members) (i : ℕ) → i < length ms → get_or (numbered n ms) i nobody ≡ ((get_or ms i nobody).0, with_published n (get_or ms i nobody).1)
numbered_at n [] i l = absurd (omega (arith, l))
numbered_at n (m ∷ ms) zero l = refl
numbered_at n (m ∷ ms) (suc i) l = numbered_at n ms i (omega (arith, l))

pub numbered_length : (n : ℕ) (ms : Members) → length (numbered n ms) ≡ length ms
numbered_length n [] = refl
numbered_length n (m ∷ ms) = ap suc (numbered_length n ms)

whose_at : (txs : List OpenTx) (ms : Members) (i : ℕ) (d : OpenTx) → who ms ≡ map (λ tx. tx.writer.session) txs → i < length txs →
    ((get_or ms i nobody).0 ≡ (get_or txs i d).writer.session) × (i < length ms)
whose_at [] ms i d e l = absurd (omega (arith, l))
whose_at (tx ∷ txs) [] i d e l = absurd (let n : ℕ = length txs in let f : 0 ≡ suc (length (map (λ tx. tx.writer.session) txs)) = ap length e in omega (arith, f))
whose_at (tx ∷ txs) (m ∷ ms) zero d e l = (ap (λ xs. get_or xs 0 0) e, omega arith)
whose_at (tx ∷ txs) (m ∷ ms) (suc i) d e l = let r = whose_at txs ms i d (ap (drop 1) e) (omega (arith, l)) in (r.0, omega (arith, r.1))

pub whose_length : (txs : List OpenTx) (ms : Members) → who ms ≡ map (λ tx. tx.writer.session) txs → length ms ≡ length txs
whose_length [] [] e = refl
whose_length [] (m ∷ ms) e = absurd (let f : suc (length (who ms)) ≡ 0 = ap length e in omega (arith, f))
whose_length (tx ∷ txs) [] e = absurd (let f : 0 ≡ suc (length (map (λ tx. tx.writer.session) txs)) = ap length e in omega (arith, f))
whose_length (tx ∷ txs) (m ∷ ms) e = ap suc (whose_length txs ms (ap (drop 1) e))

pub each_at : {A : Type 0} (P : A → Type 0) (xs : List A) (i : ℕ) (d : A) → i < length xs → Each P xs → P (get_or xs i d)
each_at P [] i d l h = absurd (omega (arith, l))
each_at P (x ∷ xs) zero d l h = h.0
each_at P (x ∷ xs) (suc i) d l h = each_at P xs i d (omega (arith, l)) h.1

pub laid_set : (t : BoardId) (k i : ℕ) (xs : List (Option Laid)) (x : Laid) → i < length xs → AreLaid t k xs → IsLaid t (k + i) x → AreLaid t k (set xs i (Some x))
laid_set t k i [] x l h y = absurd (omega (arith, l))
laid_set t k zero (z ∷ xs) x l h y = (subst (λ n. IsLaid t n x) (plain k) y, h.1)
  where
    plain : (k : ℕ) → k + 0 ≡ k
    plain k = omega arith
laid_set t k (suc i) (z ∷ xs) x l h y = (h.0, laid_set t (suc k) i xs x (omega (arith, l)) h.1 (subst (λ n. IsLaid t n x) (up k i) y))
  where
    up : (k i : ℕ) → k + suc i ≡ suc k + i
    up k i = omega arith

take_more : (txs : List OpenTx) (i : ℕ) (d : OpenTx) → i < length txs → take (i + 1) txs ≡ take i txs ++ get_or txs i d ∷ []
take_more [] i d l = absurd (omega (arith, l))
take_more (tx ∷ txs) zero d l = refl
take_more (tx ∷ txs) (suc i) d l = let up : suc i + 1 ≡ suc (i + 1) = omega arith in ap (λ n. take n (tx ∷ txs)) up ∙ ap (λ ys. tx ∷ ys) (take_more txs i d (omega (arith, l)))

-- ---- one more

-- what the pass has while so many were laid down
pub record Laying (sessions : ℕ) (v : View) (txs : List OpenTx) (n place : ℕ) (g : HasGroup sessions v txs n place) (i : ℕ) (w : View) : Type 0 where
  pub parts : w.parts ≡ Away (number v) (session v) (since v) ∷ lent (drop i (numbered n g.ms))
  pub sights : w.sights ≡ v.sights
  pub events : w.events ≡ v.events ++ backs (sessions_of (take i txs))

pub laying_none : (sessions : ℕ) (v : View) (txs : List OpenTx) (n place : ℕ) (g : HasGroup sessions v txs n place) → Laying sessions v txs n place g 0 v
laying_none sessions v txs n place g = record { parts = g.parts; sights = refl; events = sym (append-nil v.events) }

module _ (sessions : ℕ) (v : View) (txs : List OpenTx) (n place : ℕ) (g : HasGroup sessions v txs n place) (i : ℕ) (w : View) (d : OpenTx) (s : Laying sessions v txs n place g i w)
    (l : i < length txs) where
  abbrev pub m : ℕ × SessionPart
  m = get_or g.ms i nobody

  whose : m.0 ≡ (get_or txs i d).writer.session
  whose = (whose_at txs g.ms i d g.whose l).0

  there : i < length g.ms
  there = (whose_at txs g.ms i d g.whose l).1

  now : w.parts ≡ Away (number v) (session v) (since v) ∷ Lent (get_or txs i d).writer.session (with_published n m.1) ∷ lent (drop (i + 1) (numbered n g.ms))
  now = s.parts ∙ ap (λ (ps : Members). Away (number v) (session v) (since v) ∷ lent ps) (drop_at (numbered n g.ms) i (subst (λ x. i < x) (sym (numbered_length n g.ms)) there))
      ∙ ap (λ (q : ℕ × SessionPart). Away (number v) (session v) (since v) ∷ Lent q.0 q.1 ∷ lent (drop (i + 1) (numbered n g.ms))) (numbered_at n g.ms i there)
      ∙ ap (λ (j : ℕ). Away (number v) (session v) (since v) ∷ Lent j (with_published n m.1) ∷ lent (drop (i + 1) (numbered n g.ms))) whose

  pub next_is : (others w ≡ Lent (get_or txs i d).writer.session (next_lent w) ∷ beyond w) × (next_lent w ≡ with_published n m.1)
  next_is = go w.parts now w.sights w.events
    where
      go : (ps : List Part) → ps ≡ Away (number v) (session v) (since v) ∷ Lent (get_or txs i d).writer.session (with_published n m.1) ∷ lent (drop (i + 1) (numbered n g.ms)) →
          (sights : _) (events : _)
          → (others (seeing ps sights events) ≡ Lent (get_or txs i d).writer.session (next_lent (seeing ps sights events)) ∷ beyond (seeing ps sights events)) ×
          (next_lent (seeing ps sights events) ≡ with_published n m.1)
      go ps e sights events = subst (λ (qs : List Part). (others (seeing qs sights events) ≡ Lent (get_or txs i d).writer.session (next_lent (seeing qs sights events)) ∷ beyond
          (seeing qs sights events)) × (next_lent (seeing qs sights events) ≡ with_published n m.1)) (sym e) (refl, refl)

  pub laying_more : (x : View) → x ≡ hands_back w → Laying sessions v txs n place g (i + 1) x
  laying_more x is = record {
    parts = ap (λ (y : View). y.parts) is ∙ ap (λ (ps : List Part). (hands_back (seeing ps w.sights w.events)).parts) now;
    sights = ap (λ (y : View). y.sights) is ∙ s.sights;
    events =
        let js = sessions_of (take i txs) in
        let j = (get_or txs i d).writer.session in
        ap (λ (y : View). y.events) is ∙ ((λ q. s.events q ++ HandBack (part_number (next_is.0 q)) ∷ []) ∙
        (append_assoc v.events (backs js) (HandBack j ∷ []) ∙
        ap (λ l. v.events ++ l) (sym (map-append (λ k. HandBack k) js (j ∷ [])) ∙
        ap backs (sym (map-append (λ (tx : OpenTx). tx.writer.session) (take i txs) (get_or txs i d ∷ [])) ∙ ap sessions_of (sym (take_more txs i d l))))));
  }

  pub laid_one : (t : BoardId) (x : Laid) (receipt : Receipt) → x.outcome ≡ Committed receipt → IsTxOf t x.seat → seat_number x.seat ≡ (get_or txs i d).writer.session →
      tx_view x.seat ≡ lent_alone (get_or txs i d).writer.session (next_lent w) w → receipt.number ≡ n → receipt.place ≡ place + i → IsLaid t (get_or txs i d).writer.session x
  laid_one t x receipt out seat number_is view is at =
      let part : seat_part x.seat ≡ with_published n m.1 = ap session view ∙ next_is.1 in
      let sights : (tx_view x.seat).sights ≡ v.sights = ap (λ (y : View). y.sights) view ∙ s.sights in
      let h = g.history ++ group_of g.ms ∷ [] in record {
        seat = seat;
        number_is = number_is;
        unstamped = ap (λ (p : SessionPart). p.stamped) part;
        outcome = subst (λ o. IsOutcome (get_or txs i d).writer.session (seat_part x.seat) (tx_view x.seat).sights o) (sym out) (
          m.1.log,
          (
            h,
            (
              ap (λ (p : SessionPart). p.log) part ∙ ap (λ k. Published k ∷ m.1.log) (sym is),
              (
                (
                  subst (IsAmong (Saw (groups h))) (sym sights) g.saw,
                  subst (IsAmong (Heard (get_or txs i d).writer.session (seat_part x.seat).log)) (sym sights)
                      (subst (λ y. IsAmong y v.sights) (λ q. Heard (whose q) (sym (ap (λ (p : SessionPart). p.log) part) q))
                      (each_at (λ m. IsAmong (Heard m.0 (Published n ∷ m.1.log)) v.sights) g.ms i nobody there g.heard)),
                ),
                subst (λ j. StandsIn (g.history ++ group_of g.ms ∷ []) receipt (commit_in j m.1.log)) whose
                    (subst (λ ms. StandsIn (g.history ++ group_of ms ∷ []) receipt (commit_in m.0 m.1.log)) (sym (parted g.ms i there))
                    (stands g.history (take i g.ms) m.0 m.1 (drop (i + 1) g.ms) receipt (is ∙ g.number_is) (at ∙ (λ q. g.place_is q + sym (take_length g.ms i there) q)))),
              ),
            ),
          ),
        );
      }

pub laid_end : (sessions : ℕ) (v : View) (txs : List OpenTx) (n place : ℕ) (g : HasGroup sessions v txs n place) (i : ℕ) (w : View) → i ≡ length txs →
    Laying sessions v txs n place g i w → LaysAll v txs w
laid_end sessions v txs n place g i w end s = record {
  parts = s.parts ∙ ap (λ (ms : Members). Away (number v) (session v) (since v) ∷ lent ms)
      (ap (λ k. drop k (numbered n g.ms)) (end ∙ sym (numbered_length n g.ms ∙ whose_length txs g.ms g.whose)) ∙ drop_end (numbered n g.ms));
  sights = s.sights;
  events = s.events ∙ ap (λ l. v.events ++ backs (sessions_of l)) (ap (λ k. take k txs) end ∙ take_all txs);
}

-- ---- what is laid at a place

pub laid_at : (t : BoardId) (k i : ℕ) (xs : List (Option Laid)) (d : Option Laid) → i < length xs → AreLaid t k xs → IfSome (get_or xs i d) (IsLaid t (k + i))
laid_at t k i [] d l h = absurd (omega (arith, l))
laid_at t k zero (x ∷ xs) d l h = subst (λ n. IfSome x (IsLaid t n)) (plain k) h.0
  where
    plain : (k : ℕ) → k ≡ k + 0
    plain k = omega arith
laid_at t k (suc i) (x ∷ xs) d l h = subst (λ n. IfSome (get_or xs i d) (IsLaid t n)) (up k i) (laid_at t (suc k) i xs d (omega (arith, l)) h.1)
  where
    up : (k i : ℕ) → suc k + i ≡ k + suc i
    up k i = omega arith

pub laid_none : (t : BoardId) (k i : ℕ) (xs : List (Option Laid)) → AreLaid t k xs → AreLaid t k (set xs i None)
laid_none t k i [] h = h
laid_none t k zero (x ∷ xs) h = (tt, h.1)
laid_none t k (suc i) (x ∷ xs) h = (h.0, laid_none t (suc k) i xs h.1)
