-- A version is taken out of a place's chain, and its node is free.
use Rattle.std.proofs.Common.{◌≡◌, ◌≢◌, ℕ, zero, suc, ◌+◌, ◌-◌, ◌<◌, List, length, drop, set, refl, sym, ap, ◌∙◌, subst, arith, get_or-set_same, get_or-set_other}
use Rattle.std.proofs.lemmas.List.{length-set}
use Rattle.hg_chains.specs.declared.node.Node.{Node}
use Rattle.hg_chains.specs.declared.node.Strand.{Strand}
use Rattle.hg_chains.specs.declared.head.Head.{Head}
use Rattle.hg_chains.specs.Strands.{blank, node_at, freed, head_at, versions, tail_of, nodes_along, nodes_of, chain_of, IsStrand, AreStrands}
use Rattle.hg_chains.proofs.Strands.{frame, frame_versions, frame_nodes, Given, put, put_apart, gave, gave_others, has_head, head_here}

-- ---- the first version

-- the strand of a place that has a version
pub record First (heads : List Head) (nodes : List Node) (free : Strand) (a : AreStrands heads nodes free) (p : ℕ) (i c : ℕ) : Type 0 where
  pub within : i < length nodes
  pub owned : a.owner i ≡ suc p
  pub low : a.rank i < a.top (suc p)
  pub rest : IsStrand nodes a.owner a.rank (suc p) (a.rank i) c (node_at nodes i).next

pub first : (heads : List Head) (nodes : List Node) (free : Strand) (a : AreStrands heads nodes free) (p c : ℕ) → (head_at heads p).strand.count ≡ suc c →
    First heads nodes free a p (head_at heads p).strand.first c
first heads nodes free a p c e =
    let s : IsStrand nodes a.owner a.rank (suc p) (a.top (suc p)) (suc c) (head_at heads p).strand.first = subst
    (λ n. IsStrand nodes a.owner a.rank (suc p) (a.top (suc p)) n (head_at heads p).strand.first) e (a.strands (suc p)) in
    record {
      within = s.0;
      owned = s.1;
      low = s.2;
      rest = s.3;
    }

abbrev pub behind_first : List Head → List Node → ℕ → ℕ → Head
behind_first heads nodes p c = record (head_at heads p) { strand = record { first = (node_at nodes (head_at heads p).strand.first).next; count = c } }

abbrev pub without : List Node → ℕ → ℕ → List Node
without nodes i next = set nodes i (freed next (node_at nodes i))

pub without_apart : (nodes : List Node) (i next j : ℕ) → j ≢ i → node_at (without nodes i next) j ≡ node_at nodes j
without_apart nodes i next j apart = get_or-set_other nodes i j (freed next (node_at nodes i)) blank apart

pub without_link : (nodes : List Node) (i next : ℕ) → i < length nodes → (node_at (without nodes i next) i).next ≡ next
without_link nodes i next within = ap (λ (n : Node). n.next) (get_or-set_same nodes i (freed next (node_at nodes i)) blank within)

pub popped : (heads : List Head) (nodes : List Node) (free : Strand) (a : AreStrands heads nodes free) (p c : ℕ) → (head_at heads p).strand.count ≡ suc c →
    Given heads nodes free a p (head_at heads p).strand.first (without nodes (head_at heads p).strand.first free.first) (behind_first heads nodes p c) (a.rank (head_at heads p).strand.first)
popped heads nodes free a p c e =
    let i = (head_at heads p).strand.first in
    let f = first heads nodes free a p c e in
    record {
      within = f.within;
      owned = f.owned;
      same = length-set nodes i (freed free.first (node_at nodes i));
      link = without_link nodes i free.first f.within;
      count = e;
      others = λ j other. without_apart nodes i free.first j (λ k. other (ap a.owner k ∙ f.owned));
      strand = frame nodes a.owner a.rank (without nodes i free.first) (put a.owner i 0) (put a.rank i (a.top 0))
          (let s = length-set nodes i (freed free.first (node_at nodes i)) in omega (arith, s)) (suc p) (a.rank i) c (node_at nodes i).next
          (λ j x y z. let apart : j ≢ i = λ k. absurd (let l : a.rank j ≡ a.rank i = ap a.rank k in let m : a.rank j < a.rank i = z in omega (arith, l, m)) in
          record {
            next = ap (λ (n : Node). n.next) (without_apart nodes i free.first j apart);
            owned = put_apart a.owner i 0 j apart;
            ranked = put_apart a.rank i (a.top 0) j apart;
          })
          f.rest;
    }

pub popped_arena : (heads : List Head) (nodes : List Node) (free : Strand) → AreStrands heads nodes free → (p : ℕ) → 0 < (head_at heads p).strand.count →
    AreStrands (set heads p (behind_first heads nodes p ((head_at heads p).strand.count - 1))) (without nodes (head_at heads p).strand.first free.first)
    (record { first = (head_at heads p).strand.first; count = free.count + 1 })
popped_arena heads nodes free a p some = gave heads nodes free a p _ _ _ _ (popped heads nodes free a p ((head_at heads p).strand.count - 1) (omega (arith, some)))

pub popped_others : (heads : List Head) (nodes : List Node) (free : Strand) → AreStrands heads nodes free → (p : ℕ) → 0 < (head_at heads p).strand.count → (q : ℕ) → q ≢ p →
    chain_of (without nodes (head_at heads p).strand.first free.first) (head_at (set heads p (behind_first heads nodes p ((head_at heads p).strand.count - 1))) q) ≡ chain_of
    nodes (head_at heads q)
popped_others heads nodes free a p some =
    let g = popped heads nodes free a p ((head_at heads p).strand.count - 1) (omega (arith, some)) in
    gave_others heads nodes free a p _ _ g.others

pub popped_here : (heads : List Head) (nodes : List Node) (free : Strand) → AreStrands heads nodes free → (p : ℕ) → 0 < (head_at heads p).strand.count →
    tail_of (without nodes (head_at heads p).strand.first free.first) (head_at (set heads p (behind_first heads nodes p ((head_at heads p).strand.count - 1))) p) ≡ drop 1
    (tail_of nodes (head_at heads p))
popped_here heads nodes free a p some =
    let i = (head_at heads p).strand.first in
    let c = (head_at heads p).strand.count - 1 in
    let e : (head_at heads p).strand.count ≡ suc c = omega (arith, some) in
    let f = first heads nodes free a p c e in
    ap (tail_of (without nodes i free.first)) (head_here heads p _ (has_head heads p some))
    ∙ frame_versions nodes a.owner a.rank (without nodes i free.first) (suc p) (a.rank i) c (node_at nodes i).next
    (λ j x y z. without_apart nodes i free.first j (λ k. absurd (let l : a.rank j ≡ a.rank i = ap a.rank k in let m : a.rank j < a.rank i = z in omega (arith, l, m)))) f.rest
    ∙ sym (ap (λ n. drop 1 (versions nodes n i)) e)

pub popped_nodes : (heads : List Head) (nodes : List Node) (free : Strand) → AreStrands heads nodes free → (p : ℕ) → 0 < (head_at heads p).strand.count →
    nodes_of (without nodes (head_at heads p).strand.first free.first) (head_at (set heads p (behind_first heads nodes p ((head_at heads p).strand.count - 1))) p) ≡ drop 1
    (nodes_of nodes (head_at heads p))
popped_nodes heads nodes free a p some =
    let i = (head_at heads p).strand.first in
    let c = (head_at heads p).strand.count - 1 in
    let e : (head_at heads p).strand.count ≡ suc c = omega (arith, some) in
    let f = first heads nodes free a p c e in
    ap (nodes_of (without nodes i free.first)) (head_here heads p _ (has_head heads p some))
    ∙ frame_nodes nodes a.owner a.rank (without nodes i free.first) (suc p) (a.rank i) c (node_at nodes i).next
    (λ j x y z. without_apart nodes i free.first j (λ k. absurd (let l : a.rank j ≡ a.rank i = ap a.rank k in let m : a.rank j < a.rank i = z in omega (arith, l, m)))) f.rest
    ∙ sym (ap (λ n. drop 1 (nodes_along nodes n i)) e)

-- the node of a place's first version is there
pub first_within : (heads : List Head) (nodes : List Node) (free : Strand) → AreStrands heads nodes free → (p : ℕ) → 0 < (head_at heads p).strand.count → (head_at heads p).strand.first < length nodes
first_within heads nodes free a p some = (first heads nodes free a p ((head_at heads p).strand.count - 1) (omega (arith, some))).within

-- the first free node is there
pub free_within : (heads : List Head) (nodes : List Node) (free : Strand) → AreStrands heads nodes free → (free.count ≡ 0 → ⊥) → free.first < length nodes
free_within heads nodes free a some = go free.count refl
  where
    go : (n : ℕ) → free.count ≡ n → free.first < length nodes
    go zero e = absurd (some e)
    go (suc n) e = (subst (λ m. IsStrand nodes a.owner a.rank 0 (a.top 0) m free.first) e (a.strands 0)).0
