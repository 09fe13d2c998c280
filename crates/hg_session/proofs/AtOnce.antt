-- A view that has the parts of all sessions and of the three passes shows all logs and all visits of one state.
use Rattle.std.proofs.Common.{◌≡◌, ℕ, zero, suc, ◌+◌, ◌<◌, ◌≤◌, Bool, true, false, eqb, List, [], ◌∷◌, ◌++◌, length, map, take, drop, refl, sym, ap, ◌∙◌, subst, arith, append_assoc, ne_eqb}
use native.Mathlib.Decide.{dec_le}
use Rattle.std.specs.Prelude.{get_or}
use Rattle.hg_base.specs.Lists.{Each}
use Rattle.hg_core.specs.State.{CoreState}
use Rattle.hg_rule.specs.declared.view.Part.{Part}
use Rattle.hg_rule.specs.declared.view.Part.TheVariants.{OfSession, OfPass}
use Rattle.hg_rule.specs.declared.view.PassPart.{PassPart}
use Rattle.hg_rule.specs.declared.view.View.{View}
use Rattle.hg_rule.specs.Facts.{Shown, StartsWith}
use Rattle.hg_rule.specs.Keys.{pass_key, one, count, shares, whole_share}
use Rattle.hg_rule.specs.Moves.{put_in, joined, meeting}
use Rattle.hg_rule.specs.Rules.{AreUsed, IsBacked}
use Rattle.hg_rule.specs.Seats.{pass_view}
use Rattle.hg_rule.specs.Views.{pass, session}
use Rattle.hg_session.specs.declared.engine.Engine.{Engine}
use Rattle.hg_session.specs.declared.engine.Passes.{Passes}
use Rattle.hg_session.specs.declared.session.Session.{Session}
use Rattle.hg_session.specs.Engines.{engine_sizes}
use Rattle.hg_session.specs.Finished.{logs_of}
use Rattle.hg_session.specs.Lent.{lent_of}
use Rattle.hg_session.specs.Moment.{AreAtOnce}
use Rattle.hg_session.specs.Passing.{AreAlone, visits_of}
use Rattle.hg_session.specs.Sessions.{view_of, number_of}
use Rattle.hg_session.specs.SoFar.{ShowLogs}
use Rattle.hg_session.proofs.AllBack.{parts_show, logs_none}
use Rattle.hg_session.proofs.SoFar.{logs_whole}

-- ---- the parts that were lent

lent_shares : (list : List Session) → shares (map lent_of list) ≡ 0
lent_shares [] = refl
lent_shares (s ∷ list) = omega (arith, lent_shares list)

lent_passes : (p : ℕ) (list : List Session) → count (pass_key p) (map lent_of list) ≡ 0
lent_passes p [] = refl
lent_passes p (s ∷ list) = omega (arith, lent_passes p list)

-- ---- which passes there are

-- where passes 0, 1 and 2 alone are in use, there are three
three_used : (n : ℕ) (used : ℕ → Bool) → AreUsed n used → ((p : ℕ) → one (used p) ≡ one (eqb 2 p) + (one (eqb 1 p) + (one (eqb 0 p) + 0))) → n ≡ 3
three_used n used a is =
    let more : 2 < n = a.below 2 (is_one (used 2) (is 2)) in
    go n more (λ q e. fewer q (a.last q e) (is q) (dec_le q 2))
  where
    is_one : (b : Bool) → one b ≡ 1 → b ≡ true
    is_one true e = refl
    is_one false e = absurd (omega (arith, e))

    none : (k q : ℕ) → k ≤ 2 → 2 < q → one (eqb k q) ≡ 0
    none k q le more = ap one (ne_eqb k q (λ e. omega (arith, le, more, e)))

    fewer : (q : ℕ) → used q ≡ true → one (used q) ≡ one (eqb 2 q) + (one (eqb 1 q) + (one (eqb 0 q) + 0)) → Dec (q ≤ 2) → q ≤ 2
    fewer q e s (yes le) = le
    fewer q e s (no over) =
        let more : 2 < q = omega (arith, over) in
        absurd (omega (arith, ap one e, s, none 2 q (omega arith) more, none 1 q (omega arith) more, none 0 q (omega arith) more))

    go : (n : ℕ) → 2 < n → ((q : ℕ) → suc q ≡ n → q ≤ 2) → n ≡ 3
    go zero more most = absurd (omega (arith, more))
    go (suc q) more most = omega (arith, more, most q refl)

-- ---- what a pass has seen that met the three

pub met_three : (u a b c w : View) → w ≡ meeting (meeting (meeting u a) b) c → StartsWith w.sights u.sights
met_three u a b c w is = (
  a.sights ++ (b.sights ++ c.sights),
  ap (λ (y : View). y.sights) is ∙ append_assoc (u.sights ++ a.sights) b.sights c.sights ∙ append_assoc u.sights a.sights (b.sights ++ c.sights),
)

-- ---- all parts

module _ (e : Engine) (list fs bs : List Session) (x : Session) (u : View) (passes : Passes) (front : fs ≡ take 1 list) (back : bs ≡ drop 1 list)
    (many : length list ≡ (engine_sizes e).sessions) (numbers : (d : Session) (k : ℕ) → k < length list → number_of (get_or list k d) ≡ suc k)
    (held : u.parts ≡ OfSession (number_of (get_or fs 0 x)) (session (view_of (get_or fs 0 x))) ∷ map lent_of bs) (alone : AreAlone e passes) where
  abbrev group : PassPart
  group = pass (pass_view passes.group)

  abbrev table : PassPart
  table = pass (pass_view passes.table)

  abbrev interval : PassPart
  interval = pass (pass_view passes.interval)

  abbrev pub together : View
  together = joined (joined (joined u (pass_view passes.group)) (pass_view passes.table)) (pass_view passes.interval)

  abbrev own : Part
  own = OfSession (number_of (get_or fs 0 x)) (session (view_of (get_or fs 0 x)))

  parts : together.parts ≡ own ∷ OfPass 2 interval ∷ OfPass 1 table ∷ OfPass 0 group ∷ map lent_of bs
  parts = (λ i. put_in (put_in (put_in (held i) (alone.group.only i)) (alone.table.only i)) (alone.interval.only i))

  all_shares : shares together.parts ≡ whole_share
  all_shares = let sum = ap shares parts in let none = lent_shares bs in let a = alone.group.share in let b = alone.table.share in let c = alone.interval.share in
      omega (arith, sum, none, a, b, c)

  counted : (p : ℕ) → count (pass_key p) together.parts ≡ one (eqb 2 p) + (one (eqb 1 p) + (one (eqb 0 p) + 0))
  counted p =
      let all : count (pass_key p) together.parts ≡ 0 + (one (eqb 2 p) + (one (eqb 1 p) + (one (eqb 0 p) + count (pass_key p) (map lent_of bs)))) = ap (count (pass_key p)) parts in
      omega (arith, all, lent_passes p bs)

  show : ShowLogs (engine_sizes e) together.parts (logs_of list)
  show s shown j q =
      let k : Each (Shown s) (own ∷ OfPass 2 interval ∷ OfPass 1 table ∷ OfPass 0 group ∷ map lent_of bs) = subst (Each (Shown s)) parts shown in
      parts_show (engine_sizes e) list fs bs x (own ∷ map lent_of bs) front back many numbers refl s (k.0, k.1.1.1.1) j q

  pub at_once : (mark : ℕ) → IsBacked (engine_sizes e) mark together → AreAtOnce e list passes
  at_once mark k =
      let shown : Each (Shown k.state) (own ∷ OfPass 2 interval ∷ OfPass 1 table ∷ OfPass 0 group ∷ map lent_of bs) = subst (Each (Shown k.state)) parts k.true_of.parts in
      record {
        state = k.state;
        steady = k.steady;
        sized = k.sized;
        logs = logs_whole (engine_sizes e) together mark k (logs_of list) show (logs_none (engine_sizes e) list many);
        three = three_used k.state.passes k.used k.passes (λ p. sym (k.alone all_shares p) ∙ counted p);
        visits = λ p less. go k.state shown p less;
      }
    where
      go : (s : CoreState) → Each (Shown s) (own ∷ OfPass 2 interval ∷ OfPass 1 table ∷ OfPass 0 group ∷ map lent_of bs) → (p : ℕ) → p < 3 → s.visits p ≡ visits_of passes p
      go s shown zero less = shown.1.1.1.0.1.0
      go s shown (suc zero) less = shown.1.1.0.1.0
      go s shown (suc (suc zero)) less = shown.1.0.1.0
      go s shown (suc (suc (suc p))) less = absurd (omega (arith, less))
