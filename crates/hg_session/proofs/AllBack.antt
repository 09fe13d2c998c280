-- All sessions of a list, once the others' parts were with the first one's pass and came back.
use Rattle.std.proofs.Common.{◌≡◌, ℕ, zero, suc, ◌<◌, List, [], ◌∷◌, ◌++◌, length, map, take, drop, set, inl, inr, refl, sym, ap, ◌∙◌, subst, arith}
use Rattle.std.specs.Prelude.{get_or}
use Rattle.hg_base.specs.Lists.{Each}
use Rattle.hg_core.specs.declared.log.LogEntry.{LogEntry}
use Rattle.hg_core.specs.Phases.{IsSession}
use Rattle.hg_rule.specs.declared.passes.SessionPass.{SessionPass}
use Rattle.hg_rule.specs.declared.view.Part.{Part}
use Rattle.hg_rule.specs.declared.view.Part.TheVariants.{OfSession}
use Rattle.hg_rule.specs.declared.view.Sight.{Sight}
use Rattle.hg_rule.specs.declared.view.Sizes.{Sizes}
use Rattle.hg_rule.specs.Facts.{Shown, IsAmong, IsHeard, StartsWith}
use Rattle.hg_rule.specs.Seats.{session_view, IsSessionOf}
use Rattle.hg_rule.specs.Views.{part_number, session, session_there, first_in}
use Rattle.hg_rule.proofs.Lists.{starts_on, among_left}
use Rattle.hg_tracker.specs.Begun.{SawGroups}
use Rattle.hg_session.specs.declared.engine.Engine.{Engine}
use Rattle.hg_session.specs.declared.session.Session.{Session}
use Rattle.hg_session.specs.Engines.{engine_board_id, engine_sizes}
use Rattle.hg_session.specs.Finished.{AreAmong, logs_of}
use Rattle.hg_session.specs.Lent.{lent_of, KeepsAllBut, HasLent, HasBack, HasSeenMore}
use Rattle.hg_session.specs.Sessions.{IsOf, pass_of, view_of, number_of, log_of, seen_by, opened_of, written_of, left_of}
use Rattle.hg_session.specs.SoFar.{ShowLogs}
use Rattle.hg_session.specs.Ties.{Ties}
use Rattle.hg_session.proofs.Handovers.{map_at}

-- ---- one session

heard_still : (j : ℕ) (log : List LogEntry) (sights more : List Sight) → StartsWith more sights → IsHeard j log sights → IsHeard j log more
heard_still j log sights more k (inl e) = inl e
heard_still j log sights more k (inr h) = inr (subst (IsAmong _) (sym k.1) (among_left _ sights k.0 h))

-- with another pass that has the same part, and has seen what the first had
of_pass : (e : Engine) (was : Session) (p : SessionPass) → IsOf e was → (session_view p).parts ≡ (view_of was).parts → StartsWith (session_view p).sights (seen_by was) →
    IsSessionOf (engine_board_id e) (engine_sizes e) p → IsOf e (record was { pass = p })
of_pass e was p is parts kept own = record {
  pass = own;
  only = subst (λ ps. ps ≡ OfSession (part_number ps) (session_there (first_in ps)) ∷ []) (sym parts) is.only;
  ties = subst (λ ps. Ties (engine_sizes e).quota (opened_of was) (written_of was) (left_of was) 0 0 (session_there (first_in ps))) (sym parts) is.ties;
  heard = subst (λ ps. IsHeard (part_number ps) (session_there (first_in ps)).log (session_view p).sights) (sym parts)
      (heard_still (number_of was) (log_of was) (seen_by was) (session_view p).sights kept is.heard);
  cursor = is.cursor;
}

pub is_again : (e : Engine) (was now : Session) → IsOf e was → (view_of now).parts ≡ (view_of was).parts → KeepsAllBut was now → IsSessionOf (engine_board_id e) (engine_sizes e) (pass_of now) →
    HasSeenMore e was now
is_again e was now is parts keeps own = record { parts = parts; keeps = keeps; own = subst (IsOf e) (sym keeps.same) (of_pass e was (pass_of now) is parts keeps.kept own) }

-- its part was away, and is back
pub came_back : (e : Engine) (was mid now : Session) → IsOf e was → HasLent e was mid → HasBack e mid now → HasSeenMore e was now
came_back e was mid now is lent back = is_again e was now is
    (back.parts ∙ (λ i. OfSession (part_number (lent.away i)) (session_there (first_in (lent.away i))) ∷ []) ∙ sym is.only)
    (record {
      kept = starts_on (seen_by now) (seen_by mid) (seen_by was) lent.keeps.kept back.keeps.kept;
      same = back.keeps.same ∙ ap (λ (m : Session). record m { pass = pass_of now }) lent.keeps.same;
    }) back.own

-- ---- the first of a list, and the rest

pub front_is : {X : Type 0} (list fs : List X) (x d : X) → fs ≡ take 1 list → 0 < length list → get_or fs 0 x ≡ get_or list 0 d
front_is [] fs x d e some = absurd (omega arith)
front_is (y ∷ ys) fs x d e some = ap (λ l. get_or l 0 x) e

pub back_is : {X : Type 0} (list bs : List X) (d : X) (k : ℕ) → bs ≡ drop 1 list → get_or bs k d ≡ get_or list (suc k) d
back_is [] bs d k e = ap (λ l. get_or l k d) e ∙ none k
  where
    none : (k : ℕ) → get_or [] k d ≡ get_or [] (suc k) d
    none k = refl
back_is (y ∷ ys) bs d k e = ap (λ l. get_or l k d) e

pub back_long : {X : Type 0} (list bs : List X) → bs ≡ drop 1 list → 0 < length list → suc (length bs) ≡ length list
back_long [] bs e some = absurd (omega arith)
back_long (y ∷ ys) bs e some = ap (λ l. suc (length l)) e

take_whole : {X : Type 0} (xs ys : List X) → take (length xs) (xs ++ ys) ≡ xs
take_whole [] ys = refl
take_whole (x ∷ xs) ys = ap (λ l. x ∷ l) (take_whole xs ys)

pub joined_again : {X : Type 0} (len : ℕ) (list fs ns : List X) (y : X) → fs ≡ take 1 list → 0 < length list → len ≡ length list → suc (length ns) ≡ length list →
    take len ((set fs 0 y ++ ns) ++ drop (length (set fs 0 y ++ ns)) list) ≡ y ∷ ns
joined_again len [] fs ns y e some long many = absurd (omega arith)
joined_again len (z ∷ zs) fs ns y e some long many =
    ap (λ (l : List _). take len ((set l 0 y ++ ns) ++ drop (length (set l 0 y ++ ns)) (z ∷ zs))) e
    ∙ ap (λ n. take n ((y ∷ ns) ++ drop (length (y ∷ ns)) (z ∷ zs))) (long ∙ sym many) ∙ take_whole (y ∷ ns) (drop (length (y ∷ ns)) (z ∷ zs))

-- ---- what the parts show

each_at : {X : Type 0} (f : X → Part) (P : Part → Type 0) (xs : List X) (d : X) (k : ℕ) → Each P (map f xs) → k < length xs → P (f (get_or xs k d))
each_at f P [] d k h within = absurd (omega (arith, within))
each_at f P (x ∷ xs) d zero h within = h.0
each_at f P (x ∷ xs) d (suc k) h within = each_at f P xs d k h.1 (omega (arith, within))

pub parts_show : (z : Sizes) (list fs bs : List Session) (x : Session) (parts : List Part) → fs ≡ take 1 list → bs ≡ drop 1 list → length list ≡ z.sessions →
    ((d : Session) (k : ℕ) → k < length list → number_of (get_or list k d) ≡ suc k) →
    parts ≡ OfSession (number_of (get_or fs 0 x)) (session (view_of (get_or fs 0 x))) ∷ map lent_of bs → ShowLogs z parts (logs_of list)
parts_show z [] fs bs x parts front back many numbers is s shown j q = absurd (let a = q.first in let b = q.last in omega (arith, a, b, many))
parts_show z (y ∷ ys) fs bs x parts front back many numbers is s shown j q = go j q
  where
    now : Each (Shown s) (OfSession (number_of y) (session (view_of y)) ∷ map lent_of ys)
    now = subst (Each (Shown s)) (is ∙ (λ i. OfSession (number_of (get_or (front i) 0 x)) (session (view_of (get_or (front i) 0 x))) ∷ map lent_of (back i))) shown

    go : (j : ℕ) → IsSession z.sessions j → s.log j ≡ logs_of (y ∷ ys) j
    go zero q = absurd (let a = q.first in omega (arith, a))
    go (suc zero) q = ap s.log (sym (numbers y 0 (omega arith))) ∙ now.0.1.0
    go (suc (suc k)) q =
        let last = q.last in
        let within : k < length ys = omega (arith, last, many) in
        ap s.log (sym (numbers y (suc k) (omega (arith, within)))) ∙ (each_at lent_of (Shown s) ys y k now.1 within).1.0 ∙ sym (map_at log_of y [] ys k within)

pub logs_none : (z : Sizes) (list : List Session) → length list ≡ z.sessions → (j : ℕ) → (IsSession z.sessions j → ⊥) → logs_of list j ≡ []
logs_none z list many zero out = refl
logs_none z list many (suc k) out = over list k (λ within. out (record { first = omega arith; last = omega (arith, within, many) }))
  where
    over : (xs : List Session) (k : ℕ) → (k < length xs → ⊥) → get_or (map log_of xs) k [] ≡ []
    over [] k h = refl
    over (x ∷ xs) zero h = absurd (h (omega arith))
    over (x ∷ xs) (suc k) h = over xs k (λ q. h (omega (arith, q)))

pub saw_among : (n : ℕ) (some all : List Sight) → AreAmong some all → SawGroups n some → SawGroups n all
saw_among n some all among saw = (saw.0, saw.1, among _ saw.2)
