-- Strands and the versions in them, where nodes change.
use Rattle.std.proofs.Common.{◌≡◌, ◌≢◌, ℕ, zero, suc, ◌+◌, ◌<◌, ◌≤◌, List, [], ◌∷◌, ◌++◌, length, set, get_or, cond, refl, sym, ap, ◌∙◌, subst, arith, get_or-set_same}
use Rattle.std.proofs.Common.{get_or-set_other, inl, inr}
use Rattle.std.specs.Prelude.{sum_by, ◌==◌, ◌⊎◌}
use Rattle.std.proofs.lemmas.List.{length-append}
use Rattle.std.proofs.lemmas.List.Sums.{sum_by-set, sum_by-cons}
use Rattle.std.proofs.lemmas.Bool.Decides.{Decides-eqb}
use Rattle.std.proofs.lemmas.Bool.{cases_eq}
use Rattle.hg_base.proofs.ListFacts.{cases}
use Rattle.hg_chains.specs.declared.node.Node.{Node}
use Rattle.hg_chains.specs.declared.node.Strand.{Strand}
use Rattle.hg_chains.specs.declared.head.Head.{Head}
use Rattle.hg_chains.specs.Strands.{node_at, no_head, head_at, front_of, tail_of, version_in, versions, versions_of, nodes_along, chain_of, lists_in, IsStrand, strand_of, AreStrands}

-- ---- reads

pub versions_many : (nodes : List Node) (n i : ℕ) → length (versions nodes n i) ≡ n
versions_many nodes zero i = refl
versions_many nodes (suc n) i = ap suc (versions_many nodes n (node_at nodes i).next)

pub nodes_many : (nodes : List Node) (n i : ℕ) → length (nodes_along nodes n i) ≡ n
nodes_many nodes zero i = refl
nodes_many nodes (suc n) i = ap suc (nodes_many nodes n (node_at nodes i).next)

pub list_read : (heads : List Head) (nodes : List Node) (p : ℕ) → get_or (lists_in heads nodes) p [] ≡ versions_of nodes (head_at heads p)
list_read [] nodes p = refl
list_read (h ∷ heads) nodes zero = refl
list_read (h ∷ heads) nodes (suc p) = list_read heads nodes p

-- the strands of the places have no more nodes than there are versions
pub lists_least : (heads : List Head) (nodes : List Node) → sum_by (λ h. h.strand.count) heads ≤ sum_by length (lists_in heads nodes)
lists_least [] nodes = omega arith
lists_least (h ∷ heads) nodes =
    let a = length-append (front_of h) (tail_of nodes h) in
    let e : length (tail_of nodes h) ≡ h.strand.count = versions_many nodes h.strand.count h.strand.first in
    let more : sum_by (λ h. h.strand.count) heads ≤ sum_by length (lists_in heads nodes) = lists_least heads nodes in
    let l = sum_by-cons length (versions_of nodes h) (lists_in heads nodes) in
    let r = sum_by-cons (λ (h : Head). h.strand.count) h heads in
    omega (arith, a, e, more, l, r)

-- a place with versions has a head
pub has_head : (heads : List Head) (p : ℕ) → 0 < (head_at heads p).strand.count → p < length heads
has_head [] p h = absurd (omega (arith, h))
has_head (x ∷ heads) zero h = omega arith
has_head (x ∷ heads) (suc p) h = let k : p < length heads = has_head heads p h in omega (arith, k)

-- the counts, where the head of a place is another one
pub recount : (heads : List Head) (p : ℕ) (h : Head) → p < length heads → sum_by (λ h. h.strand.count) (set heads p h) + (head_at heads p).strand.count ≡ sum_by
    (λ h. h.strand.count) heads + h.strand.count
recount heads p h within = sum_by-set (λ (h : Head). h.strand.count) heads p h no_head within

-- ---- a function that differs in one place

abbrev pub put : (ℕ → ℕ) → ℕ → ℕ → ℕ → ℕ
put f i x j = cond (j == i) x (f j)

pub put_here : (f : ℕ → ℕ) (i x : ℕ) → put f i x i ≡ x
put_here f i x = ap (λ b. cond b x (f i)) ((Decides-eqb i i).1 refl)

pub put_apart : (f : ℕ → ℕ) (i x j : ℕ) → j ≢ i → put f i x j ≡ f j
put_apart f i x j h = cases (j == i) (λ e. absurd (h ((Decides-eqb j i).0 e))) (λ e. ap (λ b. cond b x (f j)) e)

-- ---- a strand of which no node changes

pub record Stays (nodes : List Node) (owner rank : ℕ → ℕ) (nodes' : List Node) (owner' rank' : ℕ → ℕ) (j : ℕ) : Type 0 where
  pub next : (node_at nodes' j).next ≡ (node_at nodes j).next
  pub owned : owner' j ≡ owner j
  pub ranked : rank' j ≡ rank j

pub frame : (nodes : List Node) (owner rank : ℕ → ℕ) (nodes' : List Node) (owner' rank' : ℕ → ℕ) → length nodes ≤ length nodes' → (who bound n i : ℕ) →
    ((j : ℕ) → j < length nodes → owner j ≡ who → rank j < bound → Stays nodes owner rank nodes' owner' rank' j) → IsStrand nodes owner rank who bound n i → IsStrand nodes' owner' rank' who bound n i
frame nodes owner rank nodes' owner' rank' more who bound zero i f h = tt
frame nodes owner rank nodes' owner' rank' more who bound (suc n) i f h =
    let s = f i h.0 h.1 h.2 in
    let low : rank i < bound = h.2 in
    let rest = frame nodes owner rank nodes' owner' rank' more who (rank i) n (node_at nodes i).next (λ j a b c. f j a b (let k : rank j < rank i = c in omega (arith, k, low))) h.3 in (
      (let k : i < length nodes = h.0 in omega (arith, k, more)),
      s.owned ∙ h.1,
      (let e : rank' i ≡ rank i = s.ranked in omega (arith, e, low)),
      subst (λ b. IsStrand nodes' owner' rank' who b n (node_at nodes' i).next) (sym s.ranked) (subst (IsStrand nodes' owner' rank' who (rank i) n) (sym s.next) rest),
    )

pub frame_versions : (nodes : List Node) (owner rank : ℕ → ℕ) (nodes' : List Node) (who bound n i : ℕ) →
    ((j : ℕ) → j < length nodes → owner j ≡ who → rank j < bound → node_at nodes' j ≡ node_at nodes j) → IsStrand nodes owner rank who bound n i →
    versions nodes' n i ≡ versions nodes n i
frame_versions nodes owner rank nodes' who bound zero i f h = refl
frame_versions nodes owner rank nodes' who bound (suc n) i f h =
    let s = f i h.0 h.1 h.2 in
    let low : rank i < bound = h.2 in
    let rest = frame_versions nodes owner rank nodes' who (rank i) n (node_at nodes i).next (λ j a b c. f j a b (let k : rank j < rank i = c in omega (arith, k, low))) h.3 in
    (λ k. version_in (s k) ∷ versions nodes' n (s k).next) ∙ ap (λ vs. version_in (node_at nodes i) ∷ vs) rest

pub frame_nodes : (nodes : List Node) (owner rank : ℕ → ℕ) (nodes' : List Node) (who bound n i : ℕ) →
    ((j : ℕ) → j < length nodes → owner j ≡ who → rank j < bound → node_at nodes' j ≡ node_at nodes j) → IsStrand nodes owner rank who bound n i → nodes_along nodes' n i ≡ nodes_along nodes n i
frame_nodes nodes owner rank nodes' who bound zero i f h = refl
frame_nodes nodes owner rank nodes' who bound (suc n) i f h =
    let s = f i h.0 h.1 h.2 in
    let low : rank i < bound = h.2 in
    let rest = frame_nodes nodes owner rank nodes' who (rank i) n (node_at nodes i).next (λ j a b c. f j a b (let k : rank j < rank i = c in omega (arith, k, low))) h.3 in
    (λ k. i ∷ nodes_along nodes' n (s k).next) ∙ ap (λ js. i ∷ js) rest

pub frame_chain : (nodes : List Node) (owner rank : ℕ → ℕ) (nodes' : List Node) (h : Head) (who bound : ℕ) →
    ((j : ℕ) → j < length nodes → owner j ≡ who → rank j < bound → node_at nodes' j ≡ node_at nodes j) → IsStrand nodes owner rank who bound h.strand.count h.strand.first →
    chain_of nodes' h ≡ chain_of nodes h
frame_chain nodes owner rank nodes' h who bound f s =
    (λ k. (front_of h ++ frame_versions nodes owner rank nodes' who bound h.strand.count h.strand.first f s k, frame_nodes nodes owner rank nodes' who bound h.strand.count h.strand.first f s k))

pub weaken : (nodes : List Node) (owner rank : ℕ → ℕ) (who bound bound' n i : ℕ) → bound ≤ bound' → IsStrand nodes owner rank who bound n i → IsStrand nodes owner rank who bound' n i
weaken nodes owner rank who bound bound' zero i le h = tt
weaken nodes owner rank who bound bound' (suc n) i le h = (h.0, h.1, (let k : rank i < bound = h.2 in omega (arith, k, le)), h.3)

-- ---- a node of a place is freed: only nodes of that place change

pub record Given (heads : List Head) (nodes : List Node) (free : Strand) (a : AreStrands heads nodes free) (p i : ℕ) (nodes' : List Node) (h : Head) (bound : ℕ) : Type 0 where
  pub within : i < length nodes
  pub owned : a.owner i ≡ suc p
  pub same : length nodes' ≡ length nodes
  pub link : (node_at nodes' i).next ≡ free.first
  pub count : (head_at heads p).strand.count ≡ suc h.strand.count
  pub others : (j : ℕ) → a.owner j ≢ suc p → node_at nodes' j ≡ node_at nodes j
  pub strand : IsStrand nodes' (put a.owner i 0) (put a.rank i (a.top 0)) (suc p) bound h.strand.count h.strand.first

pub head_here : (heads : List Head) (p : ℕ) (h : Head) → p < length heads → head_at (set heads p h) p ≡ h
head_here heads p h within = get_or-set_same heads p h no_head within

pub head_apart : (heads : List Head) (p q : ℕ) (h : Head) → q ≢ p → head_at (set heads p h) q ≡ head_at heads q
head_apart heads p q h apart = get_or-set_other heads p q h no_head apart

-- the tops, where those of the free nodes and of a place are others
abbrev pub tops : (ℕ → ℕ) → ℕ → ℕ → ℕ → ℕ → ℕ
tops top t p bound zero = t
tops top t p bound (suc q) = put (λ q. top (suc q)) p bound q

pub gave : (heads : List Head) (nodes : List Node) (free : Strand) (a : AreStrands heads nodes free) (p i : ℕ) (nodes' : List Node) (h : Head) (bound : ℕ) →
    Given heads nodes free a p i nodes' h bound → AreStrands (set heads p h) nodes' (record { first = i; count = free.count + 1 })
gave heads nodes free a p i nodes' h bound g =
    let some : 0 < (head_at heads p).strand.count = (let e = g.count in omega (arith, e)) in
    let within : p < length heads = has_head heads p some in
    record {
      owner = put a.owner i 0;
      rank = put a.rank i (a.top 0);
      top = tops a.top (suc (a.top 0)) p bound;
      strands = strands within;
      all = (let e = recount heads p h within in let c = g.count in let s = g.same in let all = a.all in omega (arith, e, c, s, all));
      fits = (let s = g.same in let f = a.fits in omega (arith, s, f));
    }
  where
    stays : (who : ℕ) → who ≢ suc p → (j : ℕ) → j < length nodes → a.owner j ≡ who → Stays nodes a.owner a.rank nodes' (put a.owner i 0) (put a.rank i (a.top 0)) j
    stays who other j within e =
        let apart : j ≢ i = λ k. other (sym e ∙ ap a.owner k ∙ g.owned) in
        record {
          next = ap (λ n. n.next) (g.others j (λ k. other (sym e ∙ k)));
          owned = put_apart a.owner i 0 j apart;
          ranked = put_apart a.rank i (a.top 0) j apart;
        }

    kept : (who : ℕ) → who ≢ suc p → (bound n first : ℕ) → IsStrand nodes a.owner a.rank who bound n first → IsStrand nodes' (put a.owner i 0) (put a.rank i (a.top 0)) who bound n first
    kept who other bound n first s = frame nodes a.owner a.rank nodes' (put a.owner i 0) (put a.rank i (a.top 0)) (let e = g.same in
        omega (arith, e)) who bound n first (λ j x y z. stays who other j x y) s

    zero_suc : (0 ≡ suc p) → ⊥
    zero_suc e = omega (arith, e)

    free_strand : (n : ℕ) → n ≡ suc free.count → IsStrand nodes' (put a.owner i 0) (put a.rank i (a.top 0)) 0 (suc (a.top 0)) n i
    free_strand zero e = tt
    free_strand (suc n) e = (
      (let k = g.within in let s = g.same in omega (arith, k, s)),
      put_here a.owner i 0,
      (let k = put_here a.rank i (a.top 0) in omega (arith, k)),
      subst (λ b. IsStrand nodes' (put a.owner i 0) (put a.rank i (a.top 0)) 0 b n (node_at nodes' i).next) (sym (put_here a.rank i (a.top 0)))
          (subst (IsStrand nodes' (put a.owner i 0) (put a.rank i (a.top 0)) 0 (a.top 0) n) (sym g.link)
          (subst (λ m. IsStrand nodes' (put a.owner i 0) (put a.rank i (a.top 0)) 0 (a.top 0) m free.first) (let k : free.count ≡ n = omega (arith, e) in
          k) (kept 0 zero_suc (a.top 0) free.count free.first (a.strands 0)))),
    )

    strands : p < length heads → (who : ℕ) → IsStrand nodes' (put a.owner i 0) (put a.rank i (a.top 0)) who (tops a.top (suc (a.top 0)) p bound who)
        (strand_of (set heads p h) (record { first = i; count = free.count + 1 }) who).count (strand_of (set heads p h) (record { first = i; count = free.count + 1 }) who).first
    strands within zero = free_strand (free.count + 1) (omega arith)
    strands within (suc q) = go (cases_eq q p)
      where
        go : (q ≡ p) ⊎ (q ≡ p → ⊥) → IsStrand nodes' (put a.owner i 0) (put a.rank i (a.top 0)) (suc q) (put (λ q. a.top (suc q)) p bound q)
            (head_at (set heads p h) q).strand.count (head_at (set heads p h) q).strand.first
        go (inl e) =
            subst (λ r. IsStrand nodes' (put a.owner i 0) (put a.rank i (a.top 0)) (suc r) (put (λ q. a.top (suc q)) p bound r) (head_at (set heads p h) r).strand.count
            (head_at (set heads p h) r).strand.first) (sym e)
            (subst (λ (x : Head). IsStrand nodes' (put a.owner i 0) (put a.rank i (a.top 0)) (suc p) (put (λ q. a.top (suc q)) p bound p) x.strand.count x.strand.first)
            (sym (head_here heads p h within))
            (subst (λ b. IsStrand nodes' (put a.owner i 0) (put a.rank i (a.top 0)) (suc p) b h.strand.count h.strand.first) (sym (put_here (λ q. a.top (suc q)) p bound)) g.strand))
        go (inr apart) =
            subst (λ (x : Head). IsStrand nodes' (put a.owner i 0) (put a.rank i (a.top 0)) (suc q) (put (λ q. a.top (suc q)) p bound q) x.strand.count x.strand.first)
            (sym (head_apart heads p q h apart))
            (subst (λ b. IsStrand nodes' (put a.owner i 0) (put a.rank i (a.top 0)) (suc q) b (head_at heads q).strand.count (head_at heads q).strand.first)
            (sym (put_apart (λ q. a.top (suc q)) p bound q apart))
            (kept (suc q) (λ e. apart (let k : q ≡ p = omega (arith, e) in k)) (a.top (suc q)) (head_at heads q).strand.count (head_at heads q).strand.first (a.strands (suc q))))

-- the others have the versions that they had
pub gave_others : (heads : List Head) (nodes : List Node) (free : Strand) (a : AreStrands heads nodes free) (p : ℕ) (nodes' : List Node) (h : Head) →
    ((j : ℕ) → a.owner j ≢ suc p → node_at nodes' j ≡ node_at nodes j) → (q : ℕ) → q ≢ p → chain_of nodes' (head_at (set heads p h) q) ≡ chain_of nodes (head_at heads q)
gave_others heads nodes free a p nodes' h others q apart =
    ap (chain_of nodes') (head_apart heads p q h apart)
    ∙ frame_chain nodes a.owner a.rank nodes' (head_at heads q) (suc q) (a.top (suc q))
    (λ j x y z. others j (λ e. apart (let k : suc q ≡ suc p = sym y ∙ e in let l : q ≡ p = omega (arith, k) in l))) (a.strands (suc q))
