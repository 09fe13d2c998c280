-- A part may be handed over, and come back.
use Rattle.std.proofs.Common.{◌≡◌, inl, inr, ℕ, eqb, ◌+◌, ◌≤◌, List, [], ◌∷◌, ◌++◌, get_or, refl, sym, ap, ◌∙◌, subst, arith}
use mathlib.Core.Option.{none}
use Rattle.atomic_table.specs.Table.{step, keeps, Allows, Splits, Joins}
use Rattle.hg_base.specs.Lists.{Each}
use Rattle.hg_core.specs.declared.phase.Phase.{Phase}
use Rattle.hg_core.specs.declared.phase.Phase.TheVariants.{Idle, Declared, Probed, Entered, Fixed, Live}
use Rattle.hg_core.specs.Marks.{PhaseUpTo}
use Rattle.hg_core.specs.Logs.{begans}
use Rattle.hg_core.specs.declared.log.LogEntry.{LogEntry}
use Rattle.hg_rule.specs.declared.view.SessionPart.{SessionPart}
use Rattle.hg_rule.specs.declared.view.Part.{Part}
use Rattle.hg_rule.specs.declared.view.Part.TheVariants.{OfSession, Away, Lent}
use Rattle.hg_rule.specs.declared.view.Sight.TheVariants as sights
use Rattle.hg_rule.specs.declared.view.Event.TheVariants as events
use Rattle.hg_rule.specs.declared.view.View.{View}
use Rattle.hg_rule.specs.declared.view.Sizes.{Sizes}
use Rattle.hg_rule.specs.Keys.{Key, session_key, bucket_key, commit_key, pass_key, home_key, one, count, shares}
use Rattle.hg_rule.specs.Facts.{Shown, Known, Stands, IsLeft, groups}
use Rattle.hg_rule.specs.Rules.{HasRoom, Rule}
use Rattle.hg_rule.specs.Views.{number, session, since, others, seeing, then_has, HasSession, HasAway}
use Rattle.hg_rule.specs.Moves.{put_in, joined, spent, right_second}
use Rattle.hg_rule.specs.Steps.{Seated, loaded_in}
use Rattle.hg_rule.specs.Holding.{beyond}
use Rattle.hg_rule.specs.Handing.{next_lent, lends, retakes, Retakes, received, hands_back, resuming, IsBack}
use Rattle.hg_rule.proofs.Counts.{count_append, shares_append}
use Rattle.hg_rule.proofs.Lists.{starts_same, each_append}
use Rattle.hg_rule.proofs.Keeps.{keep, turn, true_on, may_split, may_join}
use Rattle.hg_rule.proofs.Registers.{loaded_words}
use Rattle.hg_rule.proofs.Shifts.{second_count, second_shares, second_each}
use Rattle.hg_rule.proofs.Evidence.{own_session, history_at, log_stays}
use Rattle.hg_rule.proofs.Reached.{steady}

-- the two halves of a session's part count as the part does
pub halves : (k : Key) (j : ℕ) (a b s : SessionPart) (n : ℕ) → count k (Away j a n ∷ Lent j b ∷ []) ≡ count k (OfSession j s ∷ [])
halves (session_key i) j a b s n = let x : ℕ = one (eqb j i) in let e : 0 + (x + 0) ≡ x + 0 = omega arith in e
halves (home_key i) j a b s n = let x : ℕ = one (eqb j i) in let e : x + (0 + 0) ≡ x + 0 = omega arith in e
halves (bucket_key i) j a b s n = refl
halves commit_key j a b s n = refl
halves (pass_key i) j a b s n = refl

-- a number that was loaded is at or below the mark
loaded_most : (m : ℕ) (p : Phase) → PhaseUpTo m p → loaded_in p ≤ m
loaded_most m Idle u = omega arith
loaded_most m (Declared scope) u = omega arith
loaded_most m (Probed scope f) u = u
loaded_most m (Entered scope f) u = u
loaded_most m (Fixed scope f n) u = u.1
loaded_most m (Live at scope) u = u

pub may_lend : (z : Sizes) (slots id : ℕ) (m : Seated) → HasRoom z → HasSession m.0 → Allows (Rule z) slots id m 0 (λ n. n) (lends (step slots 0 0 0 none) m)
may_lend z slots id m room is t r deep at small =
    let v : View = m.0 in
    let c = r.state in
    let j : ℕ = number v in
    let n : ℕ = get_or t.words 0 0 in
    let own = own_session z t r id v at is in
    let w = loaded_words z c t.words 0 r.words in
    let grows = log_stays c in
    let mark : n ≡ c.mark = r.words.mark in (
      then_has v (Away j (session v) n ∷ Lent j (session v) ∷ others v) (sights.Saw (groups c.history) ∷ []) (events.HandOver j n),
      keeps,
      tt,
      keep z t r id v (OfSession j (session v) ∷ []) (Away j (session v) n ∷ Lent j (session v) ∷ []) (others v) (sights.Saw (groups c.history) ∷ []) (events.HandOver j n) 0 n c at is record {
        reached = r.reached;
        sized = r.sized;
        passes = refl;
        shows = w;
        grows = grows;
        only = λ p away s. s;
        counts = λ k. halves k j (session v) (session v) (session v) n;
        shared = refl;
        shown = ((own.0, (omega (arith, mark), inl own.1.0)), (own, tt));
        known = (starts_same c.history, tt);
        stands = tt;
      },
      (
        (
          c.history,
          (
            history_at z t r id v room at,
            (
              subst (λ x. loaded_in (session v).phase ≤ x) (sym mark)
                  (loaded_most c.mark (session v).phase (subst (PhaseUpTo c.mark) own.0 ((steady r).mark_is_length.sessions j))),
              refl,
            ),
          ),
        ),
        refl,
      ),
    )

pub may_retake : (z : Sizes) (slots id : ℕ) (m : Seated) → HasAway m.0 → others m.0 ≡ Lent (number m.0) (next_lent m.0) ∷ beyond m.0 →
    Allows (Rule z) slots id m 0 (λ n. n) (retakes (step slots 0 0 0 none) m)
may_retake z slots id m is next t r deep at small =
    let v : View = m.0 in
    let c = r.state in
    let j : ℕ = number v in
    let n : ℕ = get_or t.words 0 0 in
    let u : View = seeing (OfSession j (next_lent v) ∷ beyond v) v.sights v.events in
    let parts : v.parts ≡ Away j (session v) (since v) ∷ Lent j (next_lent v) ∷ beyond v = is ∙ ap (λ (l : List Part). Away j (session v) (since v) ∷ l) next in
    let own : Each (Shown c) (Away j (session v) (since v) ∷ Lent j (next_lent v) ∷ beyond v) = subst (Each (Shown c)) parts (r.shown id v at).parts in
    let w = loaded_words z c t.words 0 r.words in
    let grows = log_stays c in (
      u,
      keeps,
      tt,
      turn z t r id v u (Away j (session v) (since v) ∷ Lent j (next_lent v) ∷ []) (OfSession j (next_lent v) ∷ []) (beyond v) _ c at parts refl
          (record {
            reached = r.reached;
            sized = r.sized;
            passes = refl;
            shows = w;
            grows = grows;
            only = λ p away s. s;
            counts = λ k. sym (halves k j (session v) (next_lent v) (next_lent v) (since v));
            shared = refl;
          })
          (λ rest. true_on c c v (OfSession j (next_lent v) ∷ beyond v) grows (own.1.0, rest) (r.shown id v at)),
      ((refl, record { phase = sym own.1.0.0 ∙ own.0.0; log = subst (IsLeft (since v) (session v).log) own.1.0.1.0 own.0.1.1 }), refl),
    )

-- ---- moves

pub receives : (z : Sizes) (id : ℕ) (v : View) (other : ℕ) (w : View) → Joins (Rule z) id v other w (received v w) spent
receives z id v other w = may_join z id v other w (received v w) spent record {
  counts = λ k. let a : ℕ = count k (v.parts ++ w.parts) in let b : ℕ = count k v.parts in let c : ℕ = count k w.parts in let h : a ≡ b + c = count_append k v.parts w.parts in omega arith;
  shared = let a : ℕ = shares (v.parts ++ w.parts) in let b : ℕ = shares v.parts in let c : ℕ = shares w.parts in let h : a ≡ b + c = shares_append v.parts w.parts in omega arith;
  left = λ s a b. record { parts = each_append (Shown s) v.parts w.parts a.parts b.parts; sights = each_append (Known s) v.sights w.sights a.sights b.sights; events = a.events };
  right = λ s a b. record { parts = tt; sights = tt; events = tt };
}

pub may_hand_back : (z : Sizes) (id : ℕ) (v : View) → Splits (Rule z) id v (hands_back v) (right_second v)
may_hand_back z id v = may_split z id v (hands_back v) (right_second v) record {
  counts = λ k. second_count k v.parts;
  shared = second_shares v.parts;
  left = λ s h. record { parts = (second_each (Shown s) v.parts h.parts).0; sights = h.sights; events = each_append (Stands s) v.events _ h.events (tt, tt) };
  right = λ s h. record { parts = (second_each (Shown s) v.parts h.parts).1; sights = h.sights; events = tt };
}

-- ---- how many transactions were begun stays

pub begans_left : (n : ℕ) (was log : List LogEntry) → IsLeft n was log → begans log ≡ begans was
begans_left n was log (inl e) = ap begans e
begans_left n was log (inr h) = ap begans h.2

-- ---- a part that is joined to its place

pub record Awaiting (v w u : View) : Type 0 where
  pub number_is : number u ≡ number v
  pub session_is : session u ≡ session v
  pub since_is : since u ≡ since v
  pub lent_is : next_lent u ≡ session w
  pub beyond_is : beyond u ≡ others v
  pub sights_are : u.sights ≡ v.sights ++ w.sights
  pub events_are : u.events ≡ v.events
  pub has : HasAway u
  pub next : others u ≡ Lent (number u) (next_lent u) ∷ beyond u

pub awaits : (v w u : View) (k : ℕ) → HasAway v → w.parts ≡ Lent k (session w) ∷ [] → k ≡ number v → u ≡ joined v w → Awaiting v w u
awaits v w u k is only same e =
    let all : u ≡ seeing (Away (number v) (session v) (since v) ∷ Lent (number v) (session w) ∷ others v) (v.sights ++ w.sights) v.events =
    e ∙ (λ i. seeing (put_in (is i) ((only ∙ ap (λ n. Lent n (session w) ∷ []) same) i)) (v.sights ++ w.sights) v.events) in
    subst (Awaiting v w) (sym all) record { number_is = refl; session_is = refl; since_is = refl; lent_is = refl; beyond_is = refl; sights_are = refl; events_are = refl; has = refl; next = refl }

-- and then is back
pub resumed : (v w u x : View) → Awaiting v w u → Retakes u x → (x ≡ resuming v w) × IsBack (since v) (session v) (session w)
resumed v w u x a r = (
  r.0 ∙ (λ i. seeing (OfSession (a.number_is i) (a.lent_is i) ∷ a.beyond_is i) (a.sights_are i) (a.events_are i)),
  record {
    phase = sym (ap (λ (p : SessionPart). p.phase) a.lent_is) ∙ r.1.phase ∙ ap (λ (p : SessionPart). p.phase) a.session_is;
    log = subst (λ (l : List LogEntry). IsLeft (since v) (session v).log l) (ap (λ (p : SessionPart). p.log) a.lent_is) (back r.1.log);
  },
)
  where
    back : IsLeft (since u) (session u).log (next_lent u).log → IsLeft (since v) (session v).log (next_lent u).log
    back h = subst (λ (n : ℕ). IsLeft n (session v).log (next_lent u).log) a.since_is (subst (λ (p : SessionPart). IsLeft (since u) p.log (next_lent u).log) a.session_is h)
