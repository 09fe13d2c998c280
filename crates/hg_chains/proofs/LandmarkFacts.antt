-- Landmarks: which of them a change of a chain leaves, and where a read starts from one.
use Rattle.std.proofs.Common.{◌≡◌, ◌≢◌, ℕ, zero, suc, ◌+◌, ◌-◌, ◌%◌, ◌<◌, ◌≤◌, List, [], ◌∷◌, ◌++◌, map, length, take, drop, get_or, Result, Ok, Err, true, false, Some, refl, sym, ap}
use Rattle.std.proofs.Common.{◌∙◌, subst, arith, inl, inr}
use Rattle.std.specs.Prelude.{IsTrue, IsSome, OnOk, OnErr, ◌⊎◌, nat_le, slice_get}
use Rattle.std.proofs.lemmas.List.{length-drop, length-take, get_or-drop, get_or-take}
use Rattle.std.proofs.lemmas.Option.{none-some, same_Some}
use Rattle.std.proofs.lemmas.Bool.{cases_eq}
use Rattle.std.proofs.lemmas.Bool.Decides.{nat_tests}
use Rattle.hg_base.specs.declared.writer.Writer.{Writer}
use Rattle.hg_base.specs.Lists.{Each, Ascends}
use Rattle.hg_base.proofs.ListFacts.{cases, false_true, each_keeps, each_snoc}
use Rattle.hg_chains.specs.declared.version.Stamp.{Stamp}
use Rattle.hg_chains.specs.declared.version.Stamp.TheVariants.{Written, Numbered}
use Rattle.hg_chains.specs.declared.version.Version.{Version}
use Rattle.hg_chains.specs.declared.node.Node.{Node}
use Rattle.hg_chains.specs.declared.arena.Arena.{Arena}
use Rattle.hg_chains.specs.declared.landmarks.Landmark.{Landmark}
use Rattle.hg_chains.specs.declared.landmarks.Landmarks.{Landmarks}
use Rattle.hg_chains.specs.Versions.{IsChain, is_at_most, is_open_by, has_writer, number_in}
use Rattle.hg_chains.specs.Strands.{blank, node_at, version_in, nodes_along, node_behind}
use Rattle.hg_chains.specs.Arenas.{IsArena, OthersStayIn, PushesIn, PopsIn, head_in, list_in, nodes_in, tail_in, chain_in}
use Rattle.hg_chains.specs.Landmarks.{landmarks_of, movable_by, movable, top_of, IsDue, IsOver, IsLandmark, IsLandmarkIn, HasLandmarks, AreLandmarks}
use Rattle.hg_chains.proofs.Cuts.{falls_at_most, others_numbered}
use Rattle.hg_chains.proofs.Strands.{nodes_many}
use Rattle.hg_chains.proofs.Unlinks.{walk_within}
use Rattle.hg_chains.proofs.Walks.{version_read, tail_many}

-- ---- how many have no landmark

most_by : (s : Stamp) → movable_by (Some s) ≤ 1
most_by (Written w) = omega arith
most_by (Numbered number by) = omega arith

pub most : (vs : List Version) → movable vs ≤ 1
most [] = omega arith
most (v ∷ vs) = most_by v.stamp

open_by : (by : Writer) (s : Stamp) → has_writer by s ≡ true → 1 ≤ movable_by (Some s)
open_by by (Written w) h = omega arith
open_by by (Numbered number other) h = absurd (false_true h)

pub open_one : (by : Writer) (vs : List Version) → IsTrue (is_open_by by vs) → 1 ≤ movable vs
open_one by [] h = absurd (false_true h)
open_one by (v ∷ vs) h = open_by by v.stamp h

numbered_by : (s : Stamp) → IsSome (number_in s) → movable_by (Some s) ≤ 0
numbered_by (Written w) h = absurd (false_true h)
numbered_by (Numbered number by) h = omega arith

pub numbered_none : (vs : List Version) → Each (λ v. IsSome (number_in v.stamp)) vs → movable vs ≤ 0
numbered_none [] h = omega arith
numbered_none (v ∷ vs) h = numbered_by v.stamp h.0

-- ---- after a change

same_node : (ns ms : List ℕ) (k j h : ℕ) → drop j ms ≡ drop k ns → 0 < h → h + k ≤ length ns → get_or ms (length ms - h) 0 ≡ get_or ns (length ns - h) 0
same_node ns ms k j h e some far =
    let l = ap length e in
    let a = length-drop k ns in
    let b = length-drop j ms in
    let was : k + (length ns - k - h) ≡ length ns - h = omega (arith, some, far) in
    let now : j + (length ns - k - h) ≡ length ms - h = omega (arith, l, a, b, some, far) in
    ap (λ n. get_or ms n 0) (sym now) ∙ sym (get_or-drop j ms (length ns - k - h) 0) ∙ ap (λ xs. get_or xs (length ns - k - h) 0) e ∙ get_or-drop k ns (length ns - k - h) 0 ∙
    ap (λ n. get_or ns n 0) was

-- the nodes behind the first few stay
moved : (vs ws : List Version) (ns ms : List ℕ) (k j : ℕ) (m : Landmark) → drop j ms ≡ drop k ns → k ≤ movable vs → movable ws ≤ j → IsLandmark vs ns m → IsLandmark ws ms m
moved vs ws ns ms k j m e low high h =
    let some = h.some in
    let behind = h.behind in
    let l = ap length e in
    let a = length-drop k ns in
    let b = length-drop j ms in
    record {
      some = some;
      stride = h.stride;
      behind = omega (arith, some, behind, low, high, l, a, b);
      node = same_node ns ms k j m.height e some (omega (arith, behind, low)) ∙ h.node;
    }

moved_all : (vs ws : List Version) (ns ms : List ℕ) (k j : ℕ) (ls : List Landmark) → drop j ms ≡ drop k ns → k ≤ movable vs → movable ws ≤ j → Each (IsLandmark vs ns) ls → Each (IsLandmark ws ms) ls
moved_all vs ws ns ms k j ls e low high = each_keeps (IsLandmark vs ns) (IsLandmark ws ms) (λ m. moved vs ws ns ms k j m e low high) ls

pub pushed_landmarks : (a b : Arena) (place : ℕ) (ls : List Landmark) → PushesIn place a b → HasLandmarks a place ls → HasLandmarks b place ls
pushed_landmarks a b place ls e h = record {
  each = moved_all (list_in a place) (list_in b place) (nodes_in a place) (nodes_in b place) 0 1 ls e (omega arith) (most (list_in b place)) h.each;
  rise = h.rise;
}

-- the open write at the front gets another image, or its number
pub written_landmarks : (a b : Arena) (place : ℕ) (by : Writer) (ls : List Landmark) → IsTrue (is_open_by by (list_in a place)) → nodes_in b place ≡ nodes_in a place → HasLandmarks a place ls →
    HasLandmarks b place ls
written_landmarks a b place by ls is_open e h = record {
  each = moved_all (list_in a place) (list_in b place) (nodes_in a place) (nodes_in b place) 1 1 ls (ap (drop 1) e) (open_one by (list_in a place) is_open) (most (list_in b place)) h.each;
  rise = h.rise;
}

pub undone_landmarks : (a b : Arena) (place : ℕ) (by : Writer) (ls : List Landmark) → IsTrue (is_open_by by (list_in a place)) → IsChain (list_in a place) →
    list_in b place ≡ drop 1 (list_in a place) → PopsIn place a b → HasLandmarks a place ls → HasLandmarks b place ls
undone_landmarks a b place by ls is_open chain here e h = record {
  each = moved_all (list_in a place) (list_in b place) (nodes_in a place) (nodes_in b place) 1 0 ls e (open_one by (list_in a place) is_open)
      (subst (λ vs. movable vs ≤ 0) (sym here) (numbered_none (drop 1 (list_in a place)) (others_numbered (list_in a place) chain))) h.each;
  rise = h.rise;
}

-- a place whose chain stays, in the same nodes, keeps its landmarks
pub same_landmarks : (a b : Arena) (place : ℕ) (ls : List Landmark) → chain_in b place ≡ chain_in a place → HasLandmarks a place ls → HasLandmarks b place ls
same_landmarks a b place ls e h = record {
  each = subst (λ (c : List Version × List ℕ). Each (IsLandmark c.0 c.1) ls) (sym e) h.each;
  rise = h.rise;
}

pub no_landmarks : (a : Arena) (place : ℕ) (ls : List Landmark) → ls ≡ [] → HasLandmarks a place ls
no_landmarks a place ls e = subst (HasLandmarks a place) (sym e) (record { each = tt; rise = tt })

-- the landmarks of each place, where those of one change
pub landmarks_after : (a b : Arena) (old new : Landmarks) (place : ℕ) → AreLandmarks a old → OthersStayIn place a b → ((q : ℕ) → q ≢ place → landmarks_of new q ≡ landmarks_of old q) →
    HasLandmarks b place (landmarks_of new place) → AreLandmarks b new
landmarks_after a b old new place h others same here p = go (cases_eq p place)
  where
    go : (p ≡ place) ⊎ (p ≡ place → ⊥) → HasLandmarks b p (landmarks_of new p)
    go (inl e) = subst (λ q. HasLandmarks b q (landmarks_of new q)) (sym e) here
    go (inr apart) = subst (HasLandmarks b p) (sym (same p apart)) (same_landmarks a b p (landmarks_of old p) (others p apart) (h p))

-- ---- a new landmark

-- a landmark that is higher than all others comes last
rise_snoc : (ms : List Landmark) (m : Landmark) → Ascends (map (λ n. n.height) ms) → top_of ms < m.height → Ascends (map (λ n. n.height) (ms ++ m ∷ []))
rise_snoc [] m rise over = tt
rise_snoc (n ∷ []) m rise over = (over, tt)
rise_snoc (n ∷ k ∷ ms) m rise over = (rise.0, rise_snoc (k ∷ ms) m rise.1 over)

pub top_snoc : (ms : List Landmark) (m : Landmark) → top_of (ms ++ m ∷ []) ≡ m.height
top_snoc [] m = refl
top_snoc (n ∷ []) m = refl
top_snoc (n ∷ k ∷ ms) m = top_snoc (k ∷ ms) m

pub top_last : (ms : List Landmark) (i : ℕ) (m : Landmark) → i ≡ length ms - 1 → Some m ≡ slice_get ms i → top_of ms ≡ m.height
top_last [] i m at e = absurd (none-some m (sym e))
top_last (n ∷ []) zero m at e = ap (λ (k : Landmark). k.height) (sym (same_Some m n e))
top_last (n ∷ []) (suc i) m at e = absurd (omega (arith, at))
top_last (n ∷ k ∷ ms) zero m at e = absurd (omega (arith, at))
top_last (n ∷ k ∷ ms) (suc i) m at e = top_last (k ∷ ms) i m (omega (arith, at)) e

-- one more landmark, or memory has run out
pub added : {T E : Type 0} (a : Arena) (place : ℕ) (old new : Landmarks) (m : Landmark) (r : Result T E) → OnOk r (landmarks_of new place ≡ landmarks_of old place ++ m ∷ []) →
    ((q : ℕ) → q ≢ place → landmarks_of new q ≡ landmarks_of old q) → OnErr r ((q : ℕ) → landmarks_of new q ≡ landmarks_of old q) → IsLandmarkIn a place m → top_of (landmarks_of old place) < m.height →
    AreLandmarks a old → AreLandmarks a new
added a place old new m (Ok x) last others refused is over h = landmarks_after a a old new place h (λ q apart. refl) others
    (subst (HasLandmarks a place) (sym last) (record {
      each = each_snoc (IsLandmarkIn a place) (landmarks_of old place) m (h place).each is;
      rise = rise_snoc (landmarks_of old place) m (h place).rise over;
    }))
added a place old new m (Err x) last others refused is over h = λ p. subst (HasLandmarks a p) (sym (refused p)) (h p)

-- ---- a walk from a landmark

node_read : (nodes : List Node) (n i k : ℕ) → k < n → get_or (nodes_along nodes n i) k 0 ≡ node_behind nodes k i
node_read nodes zero i k less = absurd (omega (arith, less))
node_read nodes (suc n) i zero less = refl
node_read nodes (suc n) i (suc k) less = node_read nodes n (node_at nodes i).next k (omega (arith, less))

-- the third version, which is the second that has a node
pub third_landmark : (a : Arena) (place : ℕ) (m : Landmark) → IsDue (head_in a place).strand.count → m.height ≡ (head_in a place).strand.count - 1 →
    m.node ≡ node_behind a.nodes.items 1 (head_in a place).strand.first → IsLandmarkIn a place m
third_landmark a place m due h e =
    let long : 1 < (head_in a place).strand.count = let l = due.0 in omega (arith, l) in
    let many = nodes_many a.nodes.items (head_in a place).strand.count (head_in a place).strand.first in
    let l = most (list_in a place) in
    let one : length (nodes_in a place) - m.height ≡ 1 = omega (arith, many, long, h) in
    record {
      some = omega (arith, long, h);
      stride = ap (λ n. n % 32) h ∙ due.1;
      behind = omega (arith, many, long, h, l);
      node = ap (λ n. get_or (nodes_in a place) n 0) one ∙ node_read a.nodes.items (head_in a place).strand.count (head_in a place).strand.first 1 long ∙ sym e;
    }

pub landmark_low : (a : Arena) (place : ℕ) (m : Landmark) → IsLandmarkIn a place m → m.height ≤ (head_in a place).strand.count
landmark_low a place m h = let many = nodes_many a.nodes.items (head_in a place).strand.count (head_in a place).strand.first in let k = h.behind in omega (arith, many, k)

-- where a landmark stands
pub record LandmarkStands (a : Arena) (place kept node : ℕ) : Type 0 where
  pub less : kept < (head_in a place).strand.count
  pub at : node_behind a.nodes.items kept (head_in a place).strand.first ≡ node

pub landmark_stands : (a : Arena) (place : ℕ) (m : Landmark) → IsLandmarkIn a place m → LandmarkStands a place ((head_in a place).strand.count - m.height) m.node
landmark_stands a place m h =
    let many = nodes_many a.nodes.items (head_in a place).strand.count (head_in a place).strand.first in
    let some = h.some in
    let behind = h.behind in
    let less : (head_in a place).strand.count - m.height < (head_in a place).strand.count = omega (arith, many, some, behind) in
    record {
      less = less;
      at = sym (node_read a.nodes.items (head_in a place).strand.count (head_in a place).strand.first ((head_in a place).strand.count - m.height) less) ∙
          ap (λ n. get_or (nodes_in a place) (n - m.height) 0) (sym many) ∙ h.node;
    }

pub landmark_within : (a : Arena) (place : ℕ) (m : Landmark) → IsArena a → IsLandmarkIn a place m → m.node < length a.nodes.items
landmark_within a place m s h = let k = landmark_stands a place m h in walk_within a.heads.items a.nodes.items a.free s.strands place ((head_in a place).strand.count - m.height) m.node k.less k.at

got : {X : Type 0} (P : X → Type 0) (xs : List X) (k : ℕ) (d : X) → Each P xs → k < length xs → P (get_or xs k d)
got P [] k d h less = absurd (omega (arith, less))
got P (x ∷ xs) zero d h less = h.0
got P (x ∷ xs) (suc k) d h less = got P xs k d h.1 (omega (arith, less))

pub landmark_read : (a : Arena) (place : ℕ) (ls : List Landmark) (k : ℕ) (m : Landmark) → HasLandmarks a place ls → k < length ls → m ≡ get_or ls k m → IsLandmarkIn a place m
landmark_read a place ls k m h less e = subst (IsLandmarkIn a place) (sym e) (got (IsLandmarkIn a place) ls k m h.each less)

-- where a version is over the bound, all in front of it are
newer_front : (bound : ℕ) (vs : List Version) (k : ℕ) (d : Version) → IsChain vs → k < length vs → is_at_most bound (get_or vs k d) ≡ false → Each (λ v. is_at_most bound v ≡ false) (take (suc k) vs)
newer_front bound [] k d h less e = absurd (omega (arith, less))
newer_front bound (v ∷ vs) zero d h less e = (e, tt)
newer_front bound (v ∷ vs) (suc k) d h less e =
    let there : k < length vs = omega (arith, less) in (
      cases (is_at_most bound v) (λ old. absurd (false_true (sym e ∙ got (λ v. is_at_most bound v ≡ true) vs k d (falls_at_most bound v.stamp vs old h.0) there))) (λ new. new),
      newer_front bound vs k d h.1 there e,
    )

pub landmark_newer : (a : Arena) (place bound kept node : ℕ) → IsChain (tail_in a place) → LandmarkStands a place kept node → bound < (node_at a.nodes.items node).number →
    Each (λ v. is_at_most bound v ≡ false) (take (kept + 1) (tail_in a place))
landmark_newer a place bound kept node chain h later =
    let d = version_in blank in
    let less = h.less in
    let many = tail_many a place in
    let one : suc kept ≡ kept + 1 = omega arith in
    let over : nat_le (node_at a.nodes.items node).number bound ≡ false = grind (arith, nat_tests) in
    subst (λ k. Each (λ v. is_at_most bound v ≡ false) (take k (tail_in a place))) one (newer_front bound (tail_in a place) kept d chain (omega (arith, less, many))
    (ap (is_at_most bound) (version_read a.nodes.items (head_in a place).strand.count (head_in a place).strand.first kept d less) ∙
    ap (λ i. is_at_most bound (version_in (node_at a.nodes.items i))) h.at ∙ over))

-- ---- the order of landmarks

-- a list's element at an index
pub read_there : {X : Type 0} (xs : List X) (k : ℕ) (x : X) → k < length xs → x ≡ get_or xs k x → slice_get xs k ≡ Some x
read_there [] k x less e = absurd (omega (arith, less))
read_there (y ∷ xs) zero x less e = ap Some (sym e)
read_there (y ∷ xs) (suc k) x less e = read_there xs k x (omega (arith, less)) e

pub each_there : {X : Type 0} (P : X → Type 0) (xs : List X) (k : ℕ) (x : X) → Each P xs → slice_get xs k ≡ Some x → P x
each_there P [] k x h e = absurd (none-some x e)
each_there P (y ∷ xs) zero x h e = subst P (same_Some y x e) h.0
each_there P (y ∷ xs) (suc k) x h e = each_there P xs k x h.1 e

pub each_of : {X : Type 0} (P : X → Type 0) (xs : List X) → ((k : ℕ) (x : X) → k < length xs → slice_get xs k ≡ Some x → P x) → Each P xs
each_of P [] f = tt
each_of P (x ∷ xs) f = (f 0 x (omega arith) refl, each_of P xs (λ k y less e. f (suc k) y (omega (arith, less)) e))

tail_rises : (m : Landmark) (ms : List Landmark) → Ascends (map (λ n. n.height) (m ∷ ms)) → Ascends (map (λ n. n.height) ms)
tail_rises m [] rise = tt
tail_rises m (n ∷ ms) rise = rise.1

rise_over : (m : Landmark) (ms : List Landmark) (k : ℕ) (n : Landmark) → Ascends (map (λ n. n.height) (m ∷ ms)) → slice_get ms k ≡ Some n → m.height < n.height
rise_over m [] k n rise e = absurd (none-some n e)
rise_over m (x ∷ ms) zero n rise e = subst (λ (k : Landmark). m.height < k.height) (same_Some x n e) rise.0
rise_over m (x ∷ ms) (suc k) n rise e = let over = rise_over x ms k n rise.1 e in let here = rise.0 in omega (arith, over, here)

-- a later landmark is no lower
pub later_higher : (ms : List Landmark) (i j : ℕ) (m n : Landmark) → Ascends (map (λ n. n.height) ms) → i ≤ j → slice_get ms i ≡ Some m → slice_get ms j ≡ Some n → m.height ≤ n.height
later_higher [] i j m n rise up e f = absurd (none-some m e)
later_higher (x ∷ ms) zero zero m n rise up e f = let same = ap (λ (k : Landmark). k.height) (sym (same_Some x m e) ∙ same_Some x n f) in omega (arith, same)
later_higher (x ∷ ms) zero (suc j) m n rise up e f =
    let over = rise_over x ms j n rise f in
    let same = ap (λ (k : Landmark). k.height) (same_Some x m e) in
    omega (arith, over, same)
later_higher (x ∷ ms) (suc i) zero m n rise up e f = absurd (omega (arith, up))
later_higher (x ∷ ms) (suc i) (suc j) m n rise up e f = later_higher ms i j m n (tail_rises x ms rise) (omega (arith, up)) e f

-- where a landmark is over the bound, so is each version before it
pub over_before : (a : Arena) (place bound : ℕ) (m : Landmark) (k : ℕ) → IsChain (tail_in a place) → IsLandmarkIn a place m → k ≤ (head_in a place).strand.count - m.height → IsOver a bound m →
    is_at_most bound (version_in (node_at a.nodes.items (node_behind a.nodes.items k (head_in a place).strand.first))) ≡ false
over_before a place bound m k chain is before over =
    let strand = (head_in a place).strand in
    let d = version_in blank in
    let at = landmark_stands a place m is in
    let inside = at.less in
    let kept = strand.count - m.height in
    let many = tail_many a place in
    let less : k < strand.count = omega (arith, before, inside) in
    let passed : k < kept + 1 = omega (arith, before) in
    let newer = landmark_newer a place bound kept m.node chain at over in
    let within : k < length (take (kept + 1) (tail_in a place)) = (let l = length-take (kept + 1) (tail_in a place) in omega (arith, l, before, many, inside)) in
    let same : get_or (take (kept + 1) (tail_in a place)) k d ≡ version_in (node_at a.nodes.items (node_behind a.nodes.items k strand.first)) =
    get_or-take (kept + 1) (tail_in a place) k d passed ∙ version_read a.nodes.items strand.count strand.first k d less in
    sym (ap (is_at_most bound) same) ∙ got (λ v. is_at_most bound v ≡ false) (take (kept + 1) (tail_in a place)) k d newer within

-- and each landmark that is no lower
pub higher_over : (a : Arena) (place bound : ℕ) (m n : Landmark) → IsChain (tail_in a place) → IsLandmarkIn a place m → IsLandmarkIn a place n → m.height ≤ n.height → IsOver a bound m → IsOver a bound n
higher_over a place bound m n chain is_m is_n low over =
    let at = landmark_stands a place n is_n in
    let before = over_before a place bound m ((head_in a place).strand.count - n.height) chain is_m (omega (arith, low)) over in
    let test : nat_le (node_at a.nodes.items n.node).number bound ≡ false = sym (ap (λ i. is_at_most bound (version_in (node_at a.nodes.items i))) at.at) ∙ before in
    grind (arith, nat_tests, test)
