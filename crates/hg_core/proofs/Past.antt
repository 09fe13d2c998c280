-- On what a history writes to a record, and a group more.
use Rattle.std.proofs.Common.{◌≡◌, ℕ, suc, ◌+◌, ◌≤◌, List, [], ◌∷◌, ◌++◌, length, Option, None, Some, true, refl, ap, ◌∙◌, arith}
use Rattle.std.specs.Prelude.{cond, filter, nat_le, option_map}
use Rattle.std.specs.List.{cons_option}
use Rattle.std.specs.Option.{option_or}
use Rattle.std.proofs.lemmas.Bool.Decides.{nat_tests}
use Rattle.hg_base.specs.declared.rid.Rid.{Rid}
use Rattle.hg_base.specs.declared.image.Image.{Image}
use Rattle.hg_base.specs.Lists.{Each}
use Rattle.hg_base.specs.History.{Group, History, group_image, writes_from, writes, last_image, visible}
use Rattle.hg_base.proofs.HistoryFacts.{writes_from_snoc}
use Rattle.hg_base.proofs.ListFacts.{append_nil}
use Rattle.hg_core.specs.Covered.{image_of, last_pair}

-- ---- the last pair

pub last_image_is : (ws : List (ℕ × Image)) → last_image ws ≡ image_of (last_pair ws)
last_image_is [] = refl
last_image_is (w ∷ []) = refl
last_image_is (w ∷ v ∷ more) = last_image_is (v ∷ more) ∙ go (last_pair more)
  where
    go : (x : Option (ℕ × Image)) → image_of (option_or x (Some v)) ≡ image_of (option_or (option_or x (Some v)) (Some w))
    go None = refl
    go (Some p) = refl

pub last_more : (ws : List (ℕ × Image)) (w : ℕ × Image) → last_pair (ws ++ w ∷ []) ≡ Some w
last_more [] w = refl
last_more (x ∷ ws) w = ap (λ y. option_or y (Some x)) (last_more ws w)

-- ---- numbers

abbrev pub entry : ℕ → Option Image → List (ℕ × Image) → List (ℕ × Image)
entry n o rest = cons_option (option_map (λ image. (n, image)) o) rest

-- each number is at or below the last group's
pub writes_within : (n top : ℕ) (h : History) (r : Rid) → n + length h ≤ suc top → Each (λ (w : ℕ × Image). w.0 ≤ top) (writes_from n h r)
writes_within n top [] r k = tt
writes_within n top (g ∷ gs) r k = go (group_image r g) (writes_within (suc n) top gs r (omega arith))
  where
    go : (o : Option Image) → Each (λ (w : ℕ × Image). w.0 ≤ top) (writes_from (suc n) gs r) → Each (λ (w : ℕ × Image). w.0 ≤ top) (entry n o (writes_from (suc n) gs r))
    go None later = later
    go (Some i) later = (omega arith, later)

filter_all : (s : ℕ) (ws : List (ℕ × Image)) → Each (λ (w : ℕ × Image). w.0 ≤ s) ws → filter (λ (w : ℕ × Image). nat_le w.0 s) ws ≡ ws
filter_all s [] h = refl
filter_all s (w ∷ ws) h = let k : nat_le w.0 s ≡ true = (let le = h.0 in grind (arith, nat_tests)) in
    ap (λ b. cond b (w ∷ filter (λ (v : ℕ × Image). nat_le v.0 s) ws) (filter (λ (v : ℕ × Image). nat_le v.0 s) ws)) k ∙ ap (λ vs. w ∷ vs) (filter_all s ws h.1)

-- a number at or over all groups sees the last write
pub visible_last : (h : History) (r : Rid) (s : ℕ) → length h ≤ s → visible h r s ≡ image_of (last_pair (writes h r))
visible_last h r s k = ap last_image (filter_all s (writes h r) (writes_within 1 s h r (omega arith))) ∙ last_image_is (writes h r)

-- the last number is at or over an earlier one
over_last : (n m : ℕ) (i : Image) (h : History) (r : Rid) → n ≤ m → (p : ℕ × Image) × (option_or (last_pair (writes_from m h r)) (Some (n, i)) ≡ Some p) × (n ≤ p.0)
over_last n m i [] r k = ((n, i), refl, omega arith)
over_last n m i (g ∷ gs) r k = go (group_image r g) (over_last n (suc m) i gs r (omega arith)) (λ b. over_last m (suc m) b gs r (omega arith))
  where
    go : (x : Option Image) → ((p : ℕ × Image) × (option_or (last_pair (writes_from (suc m) gs r)) (Some (n, i)) ≡ Some p) × (n ≤ p.0))
        → ((b : Image) → (p : ℕ × Image) × (option_or (last_pair (writes_from (suc m) gs r)) (Some (m, b)) ≡ Some p) × (m ≤ p.0))
        → (p : ℕ × Image) × (option_or (last_pair (entry m x (writes_from (suc m) gs r))) (Some (n, i)) ≡ Some p) × (n ≤ p.0)
    go None later same = later
    go (Some b) later same = let z = same b in (z.0, ap (λ y. option_or y (Some (n, i))) z.1, omega (arith, z.2))

-- where the last is at or below a bound, each is
pub last_bounds : (n b : ℕ) (h : History) (r : Rid) → ((p : ℕ × Image) → last_pair (writes_from n h r) ≡ Some p → p.0 ≤ b) → Each (λ (w : ℕ × Image). w.0 ≤ b) (writes_from n h r)
last_bounds n b [] r f = tt
last_bounds n b (g ∷ gs) r f = go (group_image r g) f (λ k. last_bounds (suc n) b gs r k)
  where
    go : (o : Option Image) → ((p : ℕ × Image) → last_pair (entry n o (writes_from (suc n) gs r)) ≡ Some p → p.0 ≤ b) →
        (((p : ℕ × Image) → last_pair (writes_from (suc n) gs r) ≡ Some p → p.0 ≤ b) → Each (λ (w : ℕ × Image). w.0 ≤ b) (writes_from (suc n) gs r)) →
        Each (λ (w : ℕ × Image). w.0 ≤ b) (entry n o (writes_from (suc n) gs r))
    go None f later = later f
    go (Some i) f later =
        let z = over_last n (suc n) i gs r (omega arith) in
        let top = f z.0 z.1 in
        (omega (arith, top, z.2), later (λ p e. f p (ap (λ y. option_or y (Some (n, i))) e)))

-- ---- a group more

pub writes_new : (h : History) (g : Group) (r : Rid) (i : Image) → group_image r g ≡ Some i → writes (h ++ g ∷ []) r ≡ writes h r ++ (1 + length h, i) ∷ []
writes_new h g r i e = writes_from_snoc 1 h g r ∙ ap (λ o. writes h r ++ cons_option (option_map (λ image. (1 + length h, image)) o) []) e

pub writes_old : (h : History) (g : Group) (r : Rid) → group_image r g ≡ None → writes (h ++ g ∷ []) r ≡ writes h r
writes_old h g r e = writes_from_snoc 1 h g r ∙ ap (λ o. writes h r ++ cons_option (option_map (λ image. (1 + length h, image)) o) []) e ∙ append_nil (writes h r)
