-- What callers see of an arena, how many versions there are, and what holds after a call.
use Rattle.std.proofs.Common.{◌≡◌, ◌≢◌, ℕ, zero, suc, ◌+◌, ◌<◌, ◌≤◌, ◌^◌, List, [], ◌∷◌, length, drop, get_or, Bool, true, false, refl, sym, ap, ◌∙◌, subst, arith, inl, inr}
use Rattle.std.specs.Prelude.{IsSome, IsTrue, ◌⊎◌, sum_by, vec_len, vec_capacity, if◌then◌else◌}
use Rattle.std.proofs.lemmas.Bool.{cases_eq}
use Rattle.std.proofs.lemmas.List.Sums.{sum_by-cons}
use Rattle.hg_base.specs.declared.writer.Writer.{Writer}
use Rattle.hg_base.specs.declared.image.Image.{Image}
use Rattle.hg_base.specs.Lists.{Each}
use Rattle.hg_base.proofs.ListFacts.{false_true}
use Rattle.hg_chains.specs.declared.version.Stamp.{Stamp}
use Rattle.hg_chains.specs.declared.version.Stamp.TheVariants.{Written, Numbered}
use Rattle.hg_chains.specs.declared.version.Version.{Version}
use Rattle.hg_chains.specs.declared.arena.Arena.{Arena}
use Rattle.hg_chains.specs.Versions.{IsChain, IsBelow, NoOther, HasNoOther, number_in, is_open_by, open_write, has_writer, installed, stamped}
use Rattle.hg_chains.specs.Places.{Places, list_at, OthersStay}
use Rattle.hg_chains.specs.declared.node.Strand.{Strand}
use Rattle.hg_chains.specs.Strands.{head_at, versions_of, lists_in, IsStrand, strand_of, AreStrands, NoneBehind}
use Rattle.hg_chains.specs.Arenas.{IsArena, HasRoom, OthersStayIn, list_in}
use Rattle.hg_chains.specs.Landmarks.{Holds, HasLandmarks, landmarks_at, landmarks_of, places_in}
use Rattle.hg_chains.specs.declared.landmarks.Landmarks.{Landmarks}
use Rattle.hg_chains.proofs.Cuts.{all_numbered}
use Rattle.hg_chains.proofs.Strands.{list_read, lists_least}
use Rattle.hg_chains.proofs.LandmarkFacts.{landmarks_after, no_landmarks}

pub list_seen : (a : Arena) (free p : ℕ) → list_at (places_in a free) p ≡ list_in a p
list_seen a free p = list_read a.heads.items a.nodes.items p

pub list_was : (a : Arena) (free : ℕ) (w : Places) (p : ℕ) → places_in a free ≡ w → list_at w p ≡ list_in a p
list_was a free w p e = sym (ap (λ x. list_at x p) e) ∙ list_seen a free p

pub others_seen : (a b : Arena) (free free' : ℕ) (w : Places) (place : ℕ) → places_in a free ≡ w → OthersStayIn place a b → OthersStay place w (places_in b free')
others_seen a b free free' w place e others q apart = list_seen b free' q ∙ ap (λ x. x.0) (others q apart) ∙ sym (list_was a free w q e)

-- ---- how many versions there are

-- where only one list changes
sum_others : (xs ys : List (List Version)) (p : ℕ) → ((q : ℕ) → q ≢ p → get_or ys q [] ≡ get_or xs q []) →
    sum_by length ys + length (get_or xs p []) ≡ sum_by length xs + length (get_or ys p [])
sum_others [] [] p f = refl
sum_others [] (y ∷ ys) zero f =
    let k = sum_others [] ys 0 (λ q apart. f (suc q) (λ e. omega (arith, e))) in
    let z = ap length (f 1 (λ e. omega (arith, e))) in
    let s = sum_by-cons length y ys in
    omega (arith, k, z, s)
sum_others [] (y ∷ ys) (suc p) f =
    let k = sum_others [] ys p (λ q apart. f (suc q) (λ e. apart (let l : q ≡ p = omega (arith, e) in l))) in
    let z = ap length (f 0 (λ e. omega (arith, e))) in
    let s = sum_by-cons length y ys in
    omega (arith, k, z, s)
sum_others (x ∷ xs) [] zero f =
    let k = sum_others xs [] 0 (λ q apart. f (suc q) (λ e. omega (arith, e))) in
    let z = ap length (f 1 (λ e. omega (arith, e))) in
    let s = sum_by-cons length x xs in
    omega (arith, k, z, s)
sum_others (x ∷ xs) [] (suc p) f =
    let k = sum_others xs [] p (λ q apart. f (suc q) (λ e. apart (let l : q ≡ p = omega (arith, e) in l))) in
    let z = ap length (f 0 (λ e. omega (arith, e))) in
    let s = sum_by-cons length x xs in
    omega (arith, k, z, s)
sum_others (x ∷ xs) (y ∷ ys) zero f =
    let k = sum_others xs ys 0 (λ q apart. f (suc q) (λ e. omega (arith, e))) in
    let z = ap length (f 1 (λ e. omega (arith, e))) in
    let s = sum_by-cons length x xs in
    let t = sum_by-cons length y ys in
    omega (arith, k, z, s, t)
sum_others (x ∷ xs) (y ∷ ys) (suc p) f =
    let k = sum_others xs ys p (λ q apart. f (suc q) (λ e. apart (let l : q ≡ p = omega (arith, e) in l))) in
    let z = ap length (f 0 (λ e. omega (arith, e))) in
    let s = sum_by-cons length x xs in
    let t = sum_by-cons length y ys in
    omega (arith, k, z, s, t)

-- how many versions there are in an arena
abbrev pub many_in : Arena → ℕ
many_in a = sum_by length (lists_in a.heads.items a.nodes.items)

pub recounted : (a b : Arena) (place : ℕ) → OthersStayIn place a b → many_in b + length (list_in a place) ≡ many_in a + length (list_in b place)
recounted a b place others =
    let k = sum_others (lists_in a.heads.items a.nodes.items) (lists_in b.heads.items b.nodes.items) place
    (λ q apart. list_read b.heads.items b.nodes.items q ∙ ap (λ x. x.0) (others q apart) ∙ sym (list_read a.heads.items a.nodes.items q)) in
    let x = ap length (list_read a.heads.items a.nodes.items place) in
    let y = ap length (list_read b.heads.items b.nodes.items place) in
    omega (arith, k, x, y)

-- a place has no more than all have
pub counted : (a : Arena) (place : ℕ) → length (list_in a place) ≤ many_in a
counted a place =
    let e = ap length (list_read a.heads.items a.nodes.items place) in
    let k = some_of (lists_in a.heads.items a.nodes.items) place in
    omega (arith, e, k)
  where
    some_of : (xs : List (List Version)) (p : ℕ) → length (get_or xs p []) ≤ sum_by length xs
    some_of [] p = omega arith
    some_of (x ∷ xs) zero = let s = sum_by-cons length x xs in omega (arith, s)
    some_of (x ∷ xs) (suc p) = let s = sum_by-cons length x xs in let k = some_of xs p in omega (arith, s, k)

-- there is room for a version
pub has_room : (a : Arena) (place all free : ℕ) → IsArena a → place < length a.heads.items → all ≡ free + many_in a → all ≤ vec_capacity a.nodes → all < 2 ^ 32 →
    (free ≡ 0 → (all + 1 ≤ vec_capacity a.nodes) × (all + 1 < 2 ^ 32)) → HasRoom a place
has_room a place all free s head sum room few more =
    record {
      head = head;
      node = λ none. let l = lists_least a.heads.items a.nodes.items in let e = s.strands.all in go free refl (omega (arith, none, l, e));
    }
  where
    go : (n : ℕ) → free ≡ n → vec_len a.nodes ≤ many_in a → (vec_len a.nodes < vec_capacity a.nodes) × (vec_len a.nodes + 1 < 2 ^ 32)
    go zero e l = let m = more e in let c : all + 1 ≤ vec_capacity a.nodes = m.0 in let f : all + 1 < 2 ^ 32 = m.1 in (omega (arith, e, l, sum, c), omega (arith, e, l, sum, f))
    go (suc n) e l = (omega (arith, e, l, sum, room), omega (arith, e, l, sum, few))

-- ---- what holds after a call

pub holds_after : (a b : Arena) (old new : Landmarks) (place all free all' free' : ℕ) → Holds a old all free → IsArena b → IsChain (list_in b place) → OthersStayIn place a b →
    ((q : ℕ) → q ≢ place → landmarks_of new q ≡ landmarks_of old q) → HasLandmarks b place (landmarks_of new place) → all' + length (list_in a place) + free ≡ all + length (list_in b place) + free' →
    all' ≤ vec_capacity b.nodes → all' < 2 ^ 32 → Holds b new all' free'
holds_after a b old new place all free all' free' h s chain others same landmarks counts room few =
    record {
      arena = s;
      chains = λ p. go p (cases_eq p place);
      landmarks = landmarks_after a b old new place h.landmarks others same landmarks;
      sum = (let k = recounted a b place others in let was = h.sum in omega (arith, k, was, counts));
      room = room;
      few = few;
    }
  where
    go : (p : ℕ) → (p ≡ place) ⊎ (p ≡ place → ⊥) → IsChain (list_in b p)
    go p (inl e) = subst (λ q. IsChain (list_in b q)) (sym e) chain
    go p (inr apart) = subst IsChain (sym (ap (λ x. x.0) (others p apart))) (h.chains p)

-- ---- how many there are after a write

pub some_open : (by : Writer) (vs : List Version) → IsTrue (is_open_by by vs) → 0 < length vs
some_open by [] h = absurd (false_true h)
some_open by (v ∷ vs) h = omega arith

pub stamped_many : (by : Writer) (number : ℕ) (vs : List Version) → length (stamped by number vs) ≡ length vs
stamped_many by number [] = refl
stamped_many by number (v ∷ vs) = refl

pub free_fits : (a : Arena) (ms : Landmarks) (all free : ℕ) → Holds a ms all free → free + many_in a < 2 ^ 32
free_fits a ms all free h = let s = h.sum in let f = h.few in omega (arith, s, f)

pub installed_many : (by : Writer) (image : Image) (vs : List Version) → is_open_by by vs ≡ true → length (installed by image vs) ≡ length vs
installed_many by image [] e = absurd (false_true e)
installed_many by image (v ∷ vs) e = ap (λ b. length (open_write by image ∷ (if b then vs else v ∷ vs))) e

-- ---- chains stay chains

pub chain_behind : (vs : List Version) → IsChain vs → IsChain (drop 1 vs)
chain_behind [] h = tt
chain_behind (v ∷ vs) h = h.1

pub chain_stamped : (by : Writer) (number : ℕ) (vs : List Version) → IsChain vs → Each (IsBelow number) (drop 1 vs) → IsChain (stamped by number vs)
chain_stamped by number [] h below = tt
chain_stamped by number (v ∷ vs) h below = (below, h.1)

numbered_first : (by : Writer) (s : Stamp) → HasNoOther by s → has_writer by s ≡ false → IsSome (number_in s)
numbered_first by (Written w) h e = absurd (false_true (sym e ∙ h))
numbered_first by (Numbered n w) h e = refl

pub chain_installed : (by : Writer) (image : Image) (vs : List Version) → IsChain vs → NoOther by vs → IsChain (installed by image vs)
chain_installed by image [] h other = (tt, tt)
chain_installed by image (v ∷ vs) h other = go (has_writer by v.stamp) refl
  where
    go : (b : Bool) → has_writer by v.stamp ≡ b → IsChain (installed by image (v ∷ vs))
    go true e = subst (λ b. IsChain (record { stamp = Written by; image = image } ∷ (if b then vs else v ∷ vs))) (sym e) (all_numbered v.stamp vs h.0, h.1)
    go false e = subst (λ b. IsChain (record { stamp = Written by; image = image } ∷ (if b then vs else v ∷ vs))) (sym e) ((numbered_first by v.stamp other.0 e, all_numbered v.stamp vs h.0), h)

-- ---- nothing yet

none_yet : AreStrands [] [] (record { first = 0; count = 0 })
none_yet =
    record {
      owner = λ j. 0;
      rank = λ j. 0;
      top = λ who. 0;
      strands = strands;
      all = refl;
      fits = omega arith;
    }
  where
    strands : (who : ℕ) → IsStrand [] (λ j. 0) (λ j. 0) who 0 (strand_of [] (record { first = 0; count = 0 }) who).count (strand_of [] (record { first = 0; count = 0 }) who).first
    strands zero = tt
    strands (suc p) = tt

pub holds_none : (a : Arena) (ms : Landmarks) (none : Strand) → none ≡ record { first = 0; count = 0 } → a.heads.items ≡ [] → a.nodes.items ≡ [] → a.free ≡ none → ms.lists.items ≡ [] →
    Holds a ms 0 0
holds_none a ms none z h n f e =
    record {
      arena = record {
        strands = subst (λ s. AreStrands a.heads.items a.nodes.items s) (sym (f ∙ z)) (subst (λ ns. AreStrands a.heads.items ns (record { first = 0; count = 0 })) (sym n)
            (subst (λ hs. AreStrands hs [] (record { first = 0; count = 0 })) (sym h) none_yet));
        behind = subst NoneBehind (sym h) (λ p same. refl);
      };
      chains = λ p. subst (λ hs. IsChain (versions_of a.nodes.items (head_at hs p))) (sym h) tt;
      landmarks = λ p. no_landmarks a p (landmarks_of ms p) (ap (λ ls. landmarks_at ls p) e);
      sum = (let e : 0 ≡ many_in a = ap (λ hs. sum_by length (lists_in hs a.nodes.items)) (sym h) in omega (arith, e));
      room = omega arith;
      few = omega arith;
    }
