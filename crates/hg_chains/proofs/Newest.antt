-- The newest version of a place, in front of the others.
use Rattle.std.proofs.Common.{◌≡◌, ℕ, zero, suc, ◌+◌, ◌<◌, List, [], ◌∷◌, ◌++◌, length, true, false, cond, Some, refl, sym, ap, ◌∙◌, subst, arith, inl, inr}
use Rattle.std.specs.Prelude.{IsTrue, ◌⊎◌, option_map, find, ◌==◌}
use Rattle.std.proofs.lemmas.Bool.Decides.{Decides-eqb, nat_tests}
use Rattle.hg_base.specs.declared.writer.Writer.{Writer}
use Rattle.hg_base.specs.declared.image.Image.{Image}
use Rattle.hg_base.proofs.ListFacts.{false_true}
use Rattle.hg_chains.specs.declared.version.Version.{Version}
use Rattle.hg_chains.specs.declared.head.State.{State}
use Rattle.hg_chains.specs.declared.head.State.TheVariants.{Empty, Open, Stamped}
use Rattle.hg_chains.specs.declared.head.Head.{Head}
use Rattle.hg_chains.specs.declared.arena.Arena.{Arena}
use Rattle.hg_chains.specs.Versions.{IsChain, begins_at_most, is_open_by, is_written_by, newest, image_by, open_write}
use Rattle.hg_chains.specs.Strands.{head_at, first_writer, front_by, versions}
use Rattle.hg_chains.specs.Arenas.{IsArena, head_in, front_in, tail_in, list_in}
use Rattle.hg_chains.proofs.Heads.{Single, single, none_first}
use Rattle.hg_chains.proofs.Walks.{tail_many}

-- ---- the newest version

-- where a place has no newest version it has none
pub none_behind : (a : Arena) (place : ℕ) → IsArena a → (head_in a place).state ≡ Empty → tail_in a place ≡ []
none_behind a place s e = ap (λ n. versions a.nodes.items n (head_in a place).strand.first) (s.behind place e)

pub none_there : (a : Arena) (place : ℕ) → IsArena a → (head_in a place).state ≡ Empty → list_in a place ≡ []
none_there a place s e = (λ i. none_first (head_in a place) e i ++ none_behind a place s e i)

pub chain_tail : (a : Arena) (place : ℕ) → IsArena a → IsChain (list_in a place) → IsChain (tail_in a place)
chain_tail a place s h = go (single (head_in a place))
  where
    go : ((head_in a place).state ≡ Empty) ⊎ Single (front_in a place) → IsChain (tail_in a place)
    go (inl e) = subst IsChain (sym (none_behind a place s e)) tt
    go (inr f) = (subst (λ vs. IsChain (vs ++ tail_in a place)) f.is h).1

pub newest_first : (a : Arena) (place : ℕ) → IsArena a → newest (list_in a place) ≡ newest (front_in a place)
newest_first a place s = go (single (head_in a place))
  where
    go : ((head_in a place).state ≡ Empty) ⊎ Single (front_in a place) → newest (list_in a place) ≡ newest (front_in a place)
    go (inl e) = ap newest (none_there a place s e) ∙ sym (ap newest (none_first (head_in a place) e))
    go (inr f) = ap (λ vs. newest (vs ++ tail_in a place)) f.is ∙ sym (ap newest f.is)

pub open_first : (a : Arena) (place : ℕ) (by : Writer) → IsArena a → is_open_by by (list_in a place) ≡ is_open_by by (front_in a place)
open_first a place by s = go (single (head_in a place))
  where
    go : ((head_in a place).state ≡ Empty) ⊎ Single (front_in a place) → is_open_by by (list_in a place) ≡ is_open_by by (front_in a place)
    go (inl e) = ap (is_open_by by) (none_there a place s e) ∙ sym (ap (is_open_by by) (none_first (head_in a place) e))
    go (inr f) = ap (λ vs. is_open_by by (vs ++ tail_in a place)) f.is ∙ sym (ap (is_open_by by) f.is)

-- ---- a head that has a version

pub has_first : (heads : List Head) (p : ℕ) → ((head_at heads p).state ≡ Empty → ⊥) → p < length heads
has_first [] p h = absurd (h refl)
has_first (x ∷ heads) zero h = omega arith
has_first (x ∷ heads) (suc p) h = let k : p < length heads = has_first heads p h in omega (arith, k)

pub open_there : (a : Arena) (place : ℕ) (by : Writer) → IsTrue (is_open_by by (front_in a place)) → place < length a.heads.items
open_there a place by h = has_first a.heads.items place (λ e. false_true (sym (ap (is_open_by by) (none_first (head_in a place) e)) ∙ h))

pub first_there : (a : Arena) (place bound : ℕ) → begins_at_most bound (front_in a place) ≡ true → (head_in a place).state ≡ Empty → ⊥
first_there a place bound h e = false_true (sym (ap (begins_at_most bound) (none_first (head_in a place) e)) ∙ h)

pub at_most_there : (a : Arena) (place bound : ℕ) → begins_at_most bound (front_in a place) ≡ true → place < length a.heads.items
at_most_there a place bound h = has_first a.heads.items place (λ e. false_true (sym (ap (begins_at_most bound) (none_first (head_in a place) e)) ∙ h))

-- ---- whether there is one, and what a transaction reads of it

pub empty_first : (a : Arena) (place : ℕ) → IsArena a → (length (list_in a place) == 0) ≡ (length (front_in a place) == 0)
empty_first a place s = go (single (head_in a place))
  where
    go : ((head_in a place).state ≡ Empty) ⊎ Single (front_in a place) → (length (list_in a place) == 0) ≡ (length (front_in a place) == 0)
    go (inl e) = ap (λ vs. length vs == 0) (none_there a place s e ∙ sym (none_first (head_in a place) e))
    go (inr f) = ap (λ vs. length (vs ++ tail_in a place) == 0) f.is ∙ some (length (tail_in a place)) ∙ sym (ap (λ vs. length vs == 0) f.is)
      where
        some : (n : ℕ) → (suc n == 0) ≡ (1 == 0)
        some n = grind (arith, nat_tests)

pub count_none : (a : Arena) (place : ℕ) → IsArena a → (length (front_in a place) == 0) ≡ true → 0 ≡ length (list_in a place)
count_none a place s e = sym ((Decides-eqb (length (list_in a place)) 0).0 (empty_first a place s ∙ e))

pub count_some : (a : Arena) (place : ℕ) → (length (front_in a place) == 0) ≡ false → (head_in a place).strand.count + 1 ≡ length (list_in a place)
count_some a place e = go (single (head_in a place))
  where
    go : ((head_in a place).state ≡ Empty) ⊎ Single (front_in a place) → (head_in a place).strand.count + 1 ≡ length (list_in a place)
    go (inl none) = absurd (false_true (sym e ∙ ap (λ vs. length vs == 0) (none_first (head_in a place) none) ∙ (Decides-eqb 0 0).1 refl))
    go (inr f) = let l = ap (λ vs. length (vs ++ tail_in a place)) f.is in let m = tail_many a place in omega (arith, l, m)

own_by : (by : Writer) (s : State) (w : Writer) (number : ℕ) (image : Image) (vs : List Version) → (s ≡ Empty → vs ≡ []) → is_open_by by (front_by s w number image ++ vs) ≡ true →
    image_by by (front_by s w number image ++ vs) ≡ Some image
own_by by Empty w number image vs none h = absurd (false_true (sym (ap (is_open_by by) (none refl)) ∙ h))
own_by by Open w number image vs none h = ap (λ b. option_map (λ (v : Version). v.image) (cond b (Some (open_write w image)) (find (is_written_by by) vs))) h
own_by by Stamped w number image vs none h = absurd (false_true h)

pub own_first : (a : Arena) (place : ℕ) (by : Writer) → IsArena a → is_open_by by (list_in a place) ≡ true → image_by by (list_in a place) ≡ Some (head_in a place).image
own_first a place by s e = let h = head_in a place in own_by by h.state (first_writer h) h.number h.image (tail_in a place) (none_behind a place s) e
