-- Sessions whose parts go to one pass, one after the other, and come back.
use Rattle.std.proofs.Common.{◌≡◌, ◌⊎◌, inl, inr, ℕ, zero, suc, ◌<◌, ◌≤◌, Bool, true, false, List, [], ◌∷◌, ◌++◌, length, map, take, drop, set, refl, sym, ap, ◌∙◌, subst, arith}
use Rattle.std.proofs.Common.{append_assoc, append-nil, length-set, get_or-set_same, get_or-set_other, drop-cons}
use Rattle.std.specs.Prelude.{get_or, ◌==◌}
use Rattle.std.proofs.Math.Seq.{take-suc}
use Rattle.std.proofs.lemmas.List.{map-append}
use Rattle.std.proofs.lemmas.Bool.Decides.{nat_tests, Decides-eqb}
use Rattle.hg_rule.specs.declared.view.Part.TheVariants.{OfSession, Away, Lent}
use Rattle.hg_rule.specs.declared.view.Sight.{Sight}
use Rattle.hg_rule.specs.declared.view.SessionPart.{SessionPart}
use Rattle.hg_rule.specs.declared.view.View.{View}
use Rattle.hg_rule.specs.Facts.{StartsWith, IsAmong}
use Rattle.hg_rule.specs.Handing.{HandsOver, HasLent as IsNextLent, received, lent_alone, next_lent, hands_back, resuming}
use Rattle.hg_rule.specs.Moves.{but_second}
use Rattle.hg_rule.specs.Holding.{beyond}
use Rattle.hg_rule.specs.Views.{number, part_number, session, session_there, since, since_there, others, first_in, after_first, HasSession, HasOnlySession}
use Rattle.hg_rule.proofs.Growing.{among_later}
use Rattle.hg_rule.proofs.Lists.{starts_same, starts_on, among_left}
use Rattle.hg_session.specs.declared.engine.Engine.{Engine}
use Rattle.hg_session.specs.declared.session.Session.{Session}
use Rattle.hg_session.specs.Finished.{AreAmong}
use Rattle.hg_session.specs.Lent.{lent_of, HasLent, HasBack}
use Rattle.hg_session.specs.Sessions.{seen_by}

-- ---- lists

pub below_or : (i k : ℕ) → i < suc k → (i ≡ k) ⊎ (i < k)
below_or i k le = go (i == k) refl
  where
    go : (b : Bool) → (i == k) ≡ b → (i ≡ k) ⊎ (i < k)
    go true e = inl ((Decides-eqb i k).0 e)
    go false e = inr (grind (arith, nat_tests, e, le))

pub get_any : {X : Type 0} (d x : X) (xs : List X) (k : ℕ) → k < length xs → get_or xs k d ≡ get_or xs k x
get_any d x [] k h = absurd (omega (arith, h))
get_any d x (y ∷ ys) zero h = refl
get_any d x (y ∷ ys) (suc k) h = get_any d x ys k (omega (arith, h))

pub map_at : {X Y : Type 0} (f : X → Y) (d : X) (y : Y) (xs : List X) (k : ℕ) → k < length xs → get_or (map f xs) k y ≡ f (get_or xs k d)
map_at f d y [] k h = absurd (omega (arith, h))
map_at f d y (x ∷ xs) zero h = refl
map_at f d y (x ∷ xs) (suc k) h = map_at f d y xs k (omega (arith, h))

-- a list in which each has the same of each is the same list of these
pub map_same : {X Y : Type 0} (f : X → Y) (xs ys : List X) → length ys ≡ length xs → ((d : X) (k : ℕ) → k < length xs → f (get_or ys k d) ≡ f (get_or xs k d)) → map f ys ≡ map f xs
map_same f [] [] many same = refl
map_same f [] (y ∷ ys) many same = absurd (omega (arith, many))
map_same f (x ∷ xs) [] many same = absurd (omega (arith, many))
map_same f (x ∷ xs) (y ∷ ys) many same = (λ i. same x 0 (omega arith) i ∷ map_same f xs ys (omega (arith, many)) (λ d k le. same d (suc k) (omega (arith, le))) i)

-- one that is as it was before
pub still : {X : Type 0} (x d : X) (old now : List X) (k : ℕ) → ((d : X) (i : ℕ) → k ≤ i → get_or now i d ≡ get_or old i d) → k < length old → get_or now k x ≡ get_or old k d
still x d old now k rest within = rest x k (omega arith) ∙ get_any x d old k within

pub among_kept : (before after : List Sight) → StartsWith after before → AreAmong before after
among_kept before after k x h = subst (IsAmong x) (sym k.1) (among_left x before k.0 h)

-- ---- one hands its part over

pub away_alone : (v w : View) (n : ℕ) → HasOnlySession v → HandsOver v n w → w.parts ≡ Away (number v) (session v) (since w) ∷ []
away_alone v w n only h =
    let parts : w.parts ≡ Away (number v) (session v) n ∷ [] = ap (λ (x : View). x.parts) h.1.1 ∙ (λ i. Away (number v) (session v) n ∷ after_first (only i)) in
    parts ∙ (λ i. Away (number v) (session v) (since_there (first_in (sym parts i))) ∷ [])

pub away_kept : (v w : View) (n : ℕ) → HandsOver v n w → StartsWith w.sights v.sights
away_kept v w n h = (_, ap (λ (x : View). x.sights) h.1.1)

-- and a pass receives it, which has seen then all that it had seen
pub received_parts : (v w x : View) (j : ℕ) (part : SessionPart) (from : View) → w ≡ received v x → x ≡ lent_alone j part from → w.parts ≡ v.parts ++ Lent j part ∷ []
received_parts v w x j part from e f = ap (λ (y : View). y.parts) e ∙ ap (λ (y : View). v.parts ++ y.parts) f

pub received_kept : (v w x : View) → w ≡ received v x → StartsWith w.sights v.sights
received_kept v w x e = (x.sights, ap (λ (y : View). y.sights) e)

pub received_heard : (v w x : View) (j : ℕ) (part : SessionPart) (from : View) (old : List Sight) → w ≡ received v x → x ≡ lent_alone j part from → StartsWith from.sights old →
    AreAmong old w.sights
received_heard v w x j part from old e f k s h = subst (IsAmong s) (sym (ap (λ (y : View). y.sights) e ∙ ap (λ (y : View). v.sights ++ y.sights) f))
    (among_later s v.sights from.sights (among_kept old from.sights k s h))

-- ---- all of them do

-- the first k of a list have, and the pass v has become u
pub record ArePartlyLent (e : Engine) (v : View) (old now : List Session) (u : View) (k : ℕ) : Type 0 where
  pub many : length now ≡ length old
  pub lent : (d : Session) (i : ℕ) → i < k → HasLent e (get_or old i d) (get_or now i d)
  pub rest : (d : Session) (i : ℕ) → k ≤ i → get_or now i d ≡ get_or old i d
  pub parts : u.parts ≡ v.parts ++ map lent_of (take k old)
  pub kept : StartsWith u.sights v.sights
  pub heard : (d : Session) (i : ℕ) → i < k → AreAmong (seen_by (get_or old i d)) u.sights

pub lent_none : (e : Engine) (v : View) (old : List Session) → ArePartlyLent e v old old v 0
lent_none e v old = record {
  many = refl;
  lent = λ d i le. absurd (omega arith);
  rest = λ d i le. refl;
  parts = sym (append-nil v.parts);
  kept = starts_same v.sights;
  heard = λ d i le. absurd (omega arith);
}

pub lent_more : (e : Engine) (v u w : View) (old now : List Session) (k n : ℕ) (s t : Session) → n ≡ suc k → k < length old → ((d : Session) → s ≡ get_or old k d) → HasLent e s t →
    w.parts ≡ u.parts ++ lent_of s ∷ [] → StartsWith w.sights u.sights → AreAmong (seen_by s) w.sights → ArePartlyLent e v old now u k → ArePartlyLent e v old (set now k t) w n
lent_more e v u w old now k n s t next within is lent parts kept heard h = subst (ArePartlyLent e v old (set now k t) w) (sym next) (record {
  many = length-set now k t ∙ h.many;
  lent = λ d i le. each d i (below_or i k le);
  rest = λ d i le. get_or-set_other now k i t d (λ q. omega (arith, q, le)) ∙ h.rest d i (omega (arith, le));
  parts = parts ∙ ap (λ ps. ps ++ lent_of s ∷ []) h.parts ∙ append_assoc v.parts (map lent_of (take k old)) (lent_of s ∷ [])
      ∙ ap (λ ps. v.parts ++ ps) (sym (map-append lent_of (take k old) (s ∷ [])) ∙ ap (map lent_of) (ap (λ x. take k old ++ x ∷ []) (is s) ∙ sym (take-suc old k s within)));
  kept = starts_on w.sights u.sights v.sights h.kept kept;
  heard = λ d i le. hears d i (below_or i k le);
})
  where
    here : (d : Session) → get_or (set now k t) k d ≡ t
    here d = get_or-set_same now k t d (let m = h.many in omega (arith, m, within))

    each : (d : Session) (i : ℕ) → (i ≡ k) ⊎ (i < k) → HasLent e (get_or old i d) (get_or (set now k t) i d)
    each d i (inl q) = subst (λ j. HasLent e (get_or old j d) (get_or (set now k t) j d)) (sym q) (subst (λ x. HasLent e x (get_or (set now k t) k d)) (is d) (subst (HasLent e s) (sym (here d)) lent))
    each d i (inr l) = subst (HasLent e (get_or old i d)) (sym (get_or-set_other now k i t d (λ q. omega (arith, q, l)))) (h.lent d i l)

    hears : (d : Session) (i : ℕ) → (i ≡ k) ⊎ (i < k) → AreAmong (seen_by (get_or old i d)) w.sights
    hears d i (inl q) = subst (λ j. AreAmong (seen_by (get_or old j d)) w.sights) (sym q) (subst (λ x. AreAmong (seen_by x) w.sights) (is d) heard)
    hears d i (inr l) = λ x a. among_kept u.sights w.sights kept x (h.heard d i l x a)

take_most : {X : Type 0} (xs : List X) (k : ℕ) → length xs ≤ k → take k xs ≡ xs
take_most [] zero le = refl
take_most [] (suc k) le = refl
take_most (x ∷ xs) zero le = absurd (omega (arith, le))
take_most (x ∷ xs) (suc k) le = ap (λ ys. x ∷ ys) (take_most xs k (omega (arith, le)))

pub lent_whole : (e : Engine) (v u : View) (old now : List Session) (k : ℕ) → length old ≤ k → ArePartlyLent e v old now u k → u.parts ≡ v.parts ++ map lent_of old
lent_whole e v u old now k most h = h.parts ∙ ap (λ l. v.parts ++ map lent_of l) (take_most old k most)

-- ---- and they come back

pub record ArePartlyBack (e : Engine) (v : View) (old now : List Session) (u : View) (k : ℕ) : Type 0 where
  pub many : length now ≡ length old
  pub back : (d : Session) (i : ℕ) → i < k → HasBack e (get_or old i d) (get_or now i d)
  pub rest : (d : Session) (i : ℕ) → k ≤ i → get_or now i d ≡ get_or old i d
  pub own : (number u ≡ number v) × (session u ≡ session v)
  pub parts : others u ≡ map lent_of (drop k old)
  pub sights : u.sights ≡ v.sights

pub back_none : (e : Engine) (v : View) (old : List Session) → others v ≡ map lent_of old → ArePartlyBack e v old old v 0
back_none e v old parts = record { many = refl; back = λ d i le. absurd (omega arith); rest = λ d i le. refl; own = (refl, refl); parts = parts; sights = refl }

pub next_is : (e : Engine) (v u : View) (old now : List Session) (k : ℕ) (s : Session) → k < length old → ((d : Session) → s ≡ get_or old k d) → ArePartlyBack e v old now u k →
    others u ≡ lent_of s ∷ beyond u
next_is e v u old now k s within is h =
    let all : others u ≡ lent_of s ∷ map lent_of (drop (suc k) old) = h.parts ∙ ap (map lent_of) (drop-cons old k s within) ∙ ap (λ x. lent_of x ∷ map lent_of (drop (suc k) old)) (sym (is s)) in
    all ∙ ap (λ ps. lent_of s ∷ ps) (sym (ap after_first all))

pub back_more : (e : Engine) (v u w : View) (old now : List Session) (k n : ℕ) (s t : Session) → n ≡ suc k → k < length old → ((d : Session) → s ≡ get_or old k d) → HasBack e s t →
    w.parts ≡ OfSession (number u) (session u) ∷ beyond u → w.sights ≡ u.sights → ArePartlyBack e v old now u k → ArePartlyBack e v old (set now k t) w n
back_more e v u w old now k n s t next within is back parts sights h = subst (ArePartlyBack e v old (set now k t) w) (sym next) (record {
  many = length-set now k t ∙ h.many;
  back = λ d i le. each d i (below_or i k le);
  rest = λ d i le. get_or-set_other now k i t d (λ q. omega (arith, q, le)) ∙ h.rest d i (omega (arith, le));
  own = (ap (λ ps. part_number ps) parts ∙ h.own.0, ap (λ ps. session_there (first_in ps)) parts ∙ h.own.1);
  parts = ap after_first parts ∙ ap after_first h.parts ∙ ap (λ (l : List Session). after_first (map lent_of l)) (drop-cons old k s within);
  sights = sights ∙ h.sights;
})
  where
    here : (d : Session) → get_or (set now k t) k d ≡ t
    here d = get_or-set_same now k t d (let m = h.many in omega (arith, m, within))

    each : (d : Session) (i : ℕ) → (i ≡ k) ⊎ (i < k) → HasBack e (get_or old i d) (get_or (set now k t) i d)
    each d i (inl q) = subst (λ j. HasBack e (get_or old j d) (get_or (set now k t) j d)) (sym q) (subst (λ x. HasBack e x (get_or (set now k t) k d)) (is d) (subst (HasBack e s) (sym (here d)) back))
    each d i (inr l) = subst (HasBack e (get_or old i d)) (sym (get_or-set_other now k i t d (λ q. omega (arith, q, l)))) (h.back d i l)

drop_most : {X : Type 0} (xs : List X) (k : ℕ) → length xs ≤ k → drop k xs ≡ []
drop_most [] zero le = refl
drop_most [] (suc k) le = refl
drop_most (x ∷ xs) zero le = absurd (omega (arith, le))
drop_most (x ∷ xs) (suc k) le = drop_most xs k (omega (arith, le))

pub back_whole : (e : Engine) (v u : View) (old now : List Session) (k : ℕ) → length old ≤ k → HasSession u → ArePartlyBack e v old now u k →
    u.parts ≡ OfSession (number v) (session v) ∷ []
back_whole e v u old now k most has h = has ∙ (λ i. OfSession (h.own.0 i) (h.own.1 i) ∷ (h.parts ∙ ap (map lent_of) (drop_most old k most)) i)

-- ---- one takes its part back

-- the part that follows the pass's own is the session's
pub next_lent_is : (v : View) (j n : ℕ) (part : SessionPart) → others v ≡ Lent j part ∷ beyond v → j ≡ n → (IsNextLent n v) × (next_lent v ≡ part)
next_lent_is v j n part e same =
    let is : next_lent v ≡ part = ap (λ ps. session_there (first_in ps)) e in
    (e ∙ (λ i. Lent (same i) (sym is i) ∷ beyond v), is)

pub handed_parts : (v w : View) → HasSession v → w ≡ hands_back v → w.parts ≡ OfSession (number v) (session v) ∷ beyond v
handed_parts v w has e = ap (λ (x : View). x.parts) e ∙ (λ i. but_second (has i))

pub resumed_parts : (v w x : View) (part : SessionPart) → w ≡ resuming v x → session x ≡ part → others v ≡ [] → w.parts ≡ OfSession (number v) part ∷ []
resumed_parts v w x part e same none = ap (λ (y : View). y.parts) e ∙ (λ i. OfSession (number v) (same i) ∷ none i)

pub resumed_kept : (v w x : View) → w ≡ resuming v x → StartsWith w.sights v.sights
resumed_kept v w x e = (x.sights, ap (λ (y : View). y.sights) e)
