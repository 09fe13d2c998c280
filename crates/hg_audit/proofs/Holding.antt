-- Held snapshots, one after the other.
use Rattle.std.proofs.Common.{◌≡◌, ℕ, ◌+◌, ◌<◌, ◌≤◌, List, [], ◌∷◌, ◌++◌, map, Bool, true, false, arith}
use Rattle.std.specs.Prelude.{not, ⊤}
use Rattle.std.specs.Bool.{MatchBool}
use Rattle.hg_base.specs.declared.report.Told.{Told}
use Rattle.hg_base.specs.Lists.{Each, Ascends}
use Rattle.hg_base.proofs.ListFacts.{each_snoc}

abbrev pub sessions : List Told → List ℕ
sessions held = map (λ (t : Told). t.session) held

-- least is over all sessions so far, and no number below it is
abbrev pub IsLeast : ℕ → List Told → Type 0
IsLeast least held = Each (λ t. t.session < least) held × ((s : ℕ) → Each (λ t. t.session < s) held → least ≤ s)

pub ascends_cons : (a : ℕ) (held : List Told) → Ascends (a ∷ sessions held) → Each (λ t. a < t.session) held × Ascends (sessions held)
ascends_cons a [] h = (tt, tt)
ascends_cons a (p ∷ ps) h =
    let more = ascends_cons p.session ps h.1 in
    ((h.0, over p.session h.0 ps more.0), h.1)
  where
    over : (b : ℕ) → a < b → (rows : List Told) → Each (λ t. b < t.session) rows → Each (λ t. a < t.session) rows
    over b k [] h = tt
    over b k (p ∷ ps) h = let l : b < p.session = h.0 in (omega (arith, k, l), over b k ps h.1)

pub ascends_below : (held rest : List Told) (t : Told) → Ascends (sessions (held ++ t ∷ rest)) → Each (λ p. p.session < t.session) held
ascends_below [] rest t h = tt
ascends_below (p ∷ ps) rest t h =
    let here = ascends_cons p.session (ps ++ t ∷ rest) h in
    (first ps here.0, ascends_below ps rest t here.1)
  where
    first : (ps : List Told) → Each (λ r. p.session < r.session) (ps ++ t ∷ rest) → p.session < t.session
    first [] k = k.0
    first (r ∷ rs) k = first rs k.1

pub ascends_push : (held : List Told) (t : Told) → Ascends (sessions held) → Each (λ p. p.session < t.session) held → Ascends (sessions (held ++ t ∷ []))
ascends_push [] t h k = tt
ascends_push (p ∷ []) t h k = (k.0, tt)
ascends_push (p ∷ r ∷ rs) t h k = (h.0, ascends_push (r ∷ rs) t h.1 k.1)

pub each_at : {X : Type 0} (P : X → Type 0) (xs rest : List X) (x : X) → Each P (xs ++ x ∷ rest) → P x
each_at P [] rest x h = h.0
each_at P (y ∷ ys) rest x h = each_at P ys rest x h.1

pub all_below : (held : List Told) (least s : ℕ) → least ≤ s → Each (λ t. t.session < least) held → Each (λ t. t.session < s) held
all_below [] least s k h = tt
all_below (p ∷ ps) least s k h = let l : p.session < least = h.0 in (omega (arith, k, l), all_below ps least s k h.1)

pub least_push : (held : List Told) (t : Told) (least : ℕ) → IsLeast least held → least ≤ t.session → IsLeast (t.session + 1) (held ++ t ∷ [])
least_push held t least h k = (
  each_snoc (λ p. p.session < t.session + 1) held t (all_below held least (t.session + 1) (omega (arith, k)) h.0) (omega arith),
  λ s b. let l : t.session < s = each_at (λ p. p.session < s) held [] t b in omega (arith, l),
)

-- ---- where a snapshot was moved

pub unless_moved : (m : Bool) (P : Type 0) → not m ≡ true → MatchBool m P ⊤
unless_moved true P e = cc
unless_moved false P e = tt

pub if_moved : (m : Bool) (P : Type 0) → not m ≡ false → P → MatchBool m P ⊤
if_moved true P e p = p
if_moved false P e p = cc

pub moved_if : (m : Bool) (P : Type 0) → not m ≡ false → MatchBool m P ⊤ → P
moved_if true P e p = p
moved_if false P e p = cc
