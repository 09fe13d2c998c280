-- Two sessions of a list meet, each in a part of the list of its own.
use Rattle.std.proofs.Common.{◌≡◌, ℕ, zero, suc, ◌<◌, ◌≢◌, List, [], ◌∷◌, ◌++◌, length, take, drop, set, refl, sym, ap, ◌∙◌, subst, arith, length-set, get_or-set_same, get_or-set_other}
use Rattle.std.specs.Prelude.{get_or}
use Rattle.hg_rule.specs.Agreed.{IsMet}
use Rattle.hg_rule.specs.Moves.{joined, meeting}
use Rattle.hg_session.specs.declared.engine.Engine.{Engine}
use Rattle.hg_session.specs.declared.session.Session.{Session}
use Rattle.hg_session.specs.Engines.{engine_sizes}
use Rattle.hg_session.specs.Frames.{KeepsCursor}
use Rattle.hg_session.specs.Sessions.{IsOf, view_of, left_of, cursor_of}
use Rattle.hg_run.specs.Meeting.{HaveMet}
use Rattle.hg_run.proofs.Hiring.{take_whole}

-- ---- a list in two parts

-- one of the first part is one of the list
pub front_one : {X : Type 0} (xs : List X) (i j : ℕ) (x d : X) → i < j → i < length xs → get_or (take j xs) i x ≡ get_or xs i d
front_one [] i j x d below within = absurd (omega (arith, within))
front_one (y ∷ ys) i zero x d below within = absurd (omega (arith, below))
front_one (y ∷ ys) zero (suc j) x d below within = refl
front_one (y ∷ ys) (suc i) (suc j) x d below within = front_one ys i j x d (omega (arith, below)) (omega (arith, within))

-- and so is the first of the second part
pub back_one : {X : Type 0} (xs : List X) (j : ℕ) (x d : X) → j < length xs → get_or (drop j xs) 0 x ≡ get_or xs j d
back_one [] j x d within = absurd (omega (arith, within))
back_one (y ∷ ys) zero x d within = refl
back_one (y ∷ ys) (suc j) x d within = back_one ys j x d (omega (arith, within))

-- the first of the second part is changed
set_back : {X : Type 0} (xs : List X) (j : ℕ) (t : X) → take j xs ++ set (drop j xs) 0 t ≡ set xs j t
set_back [] zero t = refl
set_back [] (suc j) t = refl
set_back (x ∷ xs) zero t = refl
set_back (x ∷ xs) (suc j) t = ap (λ l. x ∷ l) (set_back xs j t)

-- and one of the first part
set_both : {X : Type 0} (xs : List X) (i j : ℕ) (s t : X) → i < j → set (take j xs) i s ++ set (drop j xs) 0 t ≡ set (set xs i s) j t
set_both [] i zero s t below = absurd (omega (arith, below))
set_both [] i (suc j) s t below = refl
set_both (x ∷ xs) i zero s t below = absurd (omega (arith, below))
set_both (x ∷ xs) zero (suc j) s t below = ap (λ l. s ∷ l) (set_back xs j t)
set_both (x ∷ xs) (suc i) (suc j) s t below = ap (λ l. x ∷ l) (set_both xs i j s t (omega (arith, below)))

-- two parts, joined again, are the whole list
pub joined_parts : {X : Type 0} (len i j : ℕ) (xs fs bs : List X) (s t : X) → i < j → len ≡ length xs → fs ≡ take j xs → bs ≡ drop j xs →
    take len ((set fs i s ++ set bs 0 t) ++ drop (length (set fs i s ++ set bs 0 t)) xs) ≡ set (set xs i s) j t
joined_parts {X = X} len i j xs fs bs s t below long front back =
    let ys : List X = set fs i s ++ set bs 0 t in
    let is : ys ≡ set (set xs i s) j t = (λ k. set (front k) i s ++ set (back k) 0 t) ∙ set_both xs i j s t below in
    let many : len ≡ length ys = long ∙ sym (ap (λ (l : List X). length l) is ∙ length-set (set xs i s) j t ∙ length-set xs i s) in
    ap (λ n. take n (ys ++ drop (length ys) xs)) many ∙ take_whole ys (drop (length ys) xs) ∙ is

-- ---- two of a list are changed

pub record HavePut (i j : ℕ) (old new : List Session) (s t : Session) : Type 0 where
  pub many : length new ≡ length old
  pub this : (d : Session) → get_or new i d ≡ s
  pub other : (d : Session) → get_or new j d ≡ t
  pub rest : (d : Session) (k : ℕ) → k ≢ i → k ≢ j → get_or new k d ≡ get_or old k d

-- the later one last
pub put_later : (i j : ℕ) (old : List Session) (s t : Session) → i < j → j < length old → HavePut i j old (set (set old i s) j t) s t
put_later i j old s t below within = record {
  many = length-set (set old i s) j t ∙ length-set old i s;
  this = λ d. get_or-set_other (set old i s) j i t d (λ e. omega (arith, below, e)) ∙ get_or-set_same old i s d (omega (arith, below, within));
  other = λ d. get_or-set_same (set old i s) j t d (let long = length-set old i s in omega (arith, long, within));
  rest = λ d k p q. get_or-set_other (set old i s) j k t d q ∙ get_or-set_other old i k s d p;
}

-- the other way around
pub put_other : (i j : ℕ) (old new : List Session) (s t : Session) → HavePut j i old new t s → HavePut i j old new s t
put_other i j old new s t h = record { many = h.many; this = h.other; other = h.this; rest = λ d k p q. h.rest d k q p }

-- they have met
pub have_met : (e : Engine) (i j : ℕ) (old new : List Session) (a b s t : Session) → HavePut i j old new s t → ((d : Session) → a ≡ get_or old i d) → ((d : Session) → b ≡ get_or old j d) →
    view_of s ≡ meeting (view_of a) (view_of b) → view_of t ≡ meeting (view_of b) (view_of s) → KeepsCursor a s × KeepsCursor b t → IsOf e s × IsOf e t → HaveMet e i j old new
have_met e i j old new a b s t put first second view other kept own = record {
  many = put.many;
  this = λ d. ap view_of (put.this d) ∙ met d;
  other = λ d. ap view_of (put.other d) ∙ other ∙ (λ k. meeting (view_of (second d k)) (met d k));
  left = λ d. (ap left_of (put.this d) ∙ kept.0.0 ∙ ap left_of (first d), ap left_of (put.other d) ∙ kept.1.0 ∙ ap left_of (second d));
  cursor = λ d. (ap cursor_of (put.this d) ∙ kept.0.1 ∙ ap cursor_of (first d), ap cursor_of (put.other d) ∙ kept.1.1 ∙ ap cursor_of (second d));
  rest = put.rest;
  own = λ d. (subst (IsOf e) (sym (put.this d)) own.0, subst (IsOf e) (sym (put.other d)) own.1);
}
  where
    met : (d : Session) → view_of s ≡ meeting (view_of (get_or old i d)) (view_of (get_or old j d))
    met d = view ∙ (λ k. meeting (view_of (first d k)) (view_of (second d k)))

-- which some state of the board backs
pub have_backed : (e : Engine) (i j : ℕ) (old : List Session) (a b : Session) → ((d : Session) → a ≡ get_or old i d) → ((d : Session) → b ≡ get_or old j d) →
    IsMet (engine_sizes e) (joined (view_of a) (view_of b)) → (d : Session) → IsMet (engine_sizes e) (joined (view_of (get_or old i d)) (view_of (get_or old j d)))
have_backed e i j old a b first second met d = subst (λ s. IsMet (engine_sizes e) (joined (view_of s) (view_of (get_or old j d)))) (first d)
    (subst (λ t. IsMet (engine_sizes e) (joined (view_of a) (view_of t))) (second d) met)
