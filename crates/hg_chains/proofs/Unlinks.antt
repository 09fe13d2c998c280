-- A version behind another is taken out of a place's chain.
use Rattle.std.proofs.Common.{◌≡◌, ◌≢◌, ℕ, zero, suc, ◌+◌, ◌-◌, ◌<◌, ◌≤◌, List, ◌∷◌, ◌++◌, length, take, drop, set, refl, sym, ap, ◌∙◌, subst, arith, get_or-set_same}
use Rattle.std.proofs.Common.{get_or-set_other}
use Rattle.std.proofs.lemmas.List.{length-set}
use Rattle.hg_chains.specs.declared.node.Node.{Node}
use Rattle.hg_chains.specs.declared.node.Strand.{Strand}
use Rattle.hg_chains.specs.declared.head.Head.{Head}
use Rattle.hg_chains.specs.Strands.{blank, node_at, head_at, version_in, versions, tail_of, chain_of, node_behind, IsStrand, AreStrands}
use Rattle.hg_chains.specs.Arenas.{IsLast}
use Rattle.hg_chains.proofs.Strands.{frame, frame_versions, weaken, Given, put, put_apart, gave, gave_others, has_head, head_here}
use Rattle.hg_chains.proofs.Removals.{without, without_apart, without_link}

-- ---- along a strand

-- a node of a strand is there, has its owner, and ranks below the bound
pub record Stands (nodes : List Node) (own rk : ℕ → ℕ) (who bound i : ℕ) : Type 0 where
  pub within : i < length nodes
  pub owned : own i ≡ who
  pub low : rk i < bound

pub behind_stands : (nodes : List Node) (own rk : ℕ → ℕ) (who bound n i k : ℕ) → k < n → IsStrand nodes own rk who bound n i → Stands nodes own rk who bound (node_behind nodes k i)
behind_stands nodes own rk who bound zero i k less h = absurd (omega (arith, less))
behind_stands nodes own rk who bound (suc n) i zero less h =
    record {
      within = h.0;
      owned = h.1;
      low = h.2;
    }
behind_stands nodes own rk who bound (suc n) i (suc k) less h =
    let s = behind_stands nodes own rk who (rk i) n (node_at nodes i).next k (omega (arith, less)) h.3 in
    record {
      within = s.within;
      owned = s.owned;
      low = (let a = s.low in let b : rk i < bound = h.2 in omega (arith, a, b));
    }

pub behind_next : (nodes : List Node) (k i : ℕ) → (node_at nodes (node_behind nodes k i)).next ≡ node_behind nodes (suc k) i
behind_next nodes zero i = refl
behind_next nodes (suc k) i = behind_next nodes k (node_at nodes i).next

-- ---- the nodes where one is unlinked from the one before it

abbrev pub relinked : List Node → ℕ → ℕ → List Node
relinked nodes last next = set nodes last (record (node_at nodes last) { next = next })

abbrev pub unlinked : List Node → ℕ → ℕ → ℕ → List Node
unlinked nodes last at free = without (relinked nodes last (node_at nodes at).next) at free

pub unlinked_length : (nodes : List Node) (last at free : ℕ) → length (unlinked nodes last at free) ≡ length nodes
unlinked_length nodes last at free = length-set (relinked nodes last (node_at nodes at).next) at _ ∙ length-set nodes last _

pub unlinked_apart : (nodes : List Node) (last at free j : ℕ) → j ≢ last → j ≢ at → node_at (unlinked nodes last at free) j ≡ node_at nodes j
unlinked_apart nodes last at free j a b = without_apart (relinked nodes last (node_at nodes at).next) at free j b ∙ get_or-set_other nodes last j _ blank a

pub unlinked_last : (nodes : List Node) (last at free : ℕ) → last ≢ at → last < length nodes →
    node_at (unlinked nodes last at free) last ≡ record (node_at nodes last) { next = (node_at nodes at).next }
unlinked_last nodes last at free a within = without_apart (relinked nodes last (node_at nodes at).next) at free last a ∙ get_or-set_same nodes last _ blank within

pub unlinked_link : (nodes : List Node) (last at free : ℕ) → at < length nodes → (node_at (unlinked nodes last at free) at).next ≡ free
unlinked_link nodes last at free within = without_link (relinked nodes last (node_at nodes at).next) at free
    (let e = length-set nodes last (record (node_at nodes last) { next = (node_at nodes at).next }) in omega (arith, e, within))

-- ---- the strand

pub record Shorter (nodes : List Node) (own rk : ℕ → ℕ) (who bound n i k at free t : ℕ) (nodes' : List Node) : Type 0 where
  pub strand : IsStrand nodes' (put own at 0) (put rk at t) who bound n i
  pub left : versions nodes' n i ≡ take (suc k) (versions nodes (suc n) i) ++ drop (suc (suc k)) (versions nodes (suc n) i)
  pub here : node_behind nodes' k i ≡ node_behind nodes k i
  pub next : node_behind nodes' (suc k) i ≡ (node_at nodes at).next

ranks_apart : (rk : ℕ → ℕ) (i j : ℕ) → rk j < rk i → i ≢ j
ranks_apart rk i j h e = let k : rk i ≡ rk j = ap rk e in absurd (omega (arith, h, k))

pub shorter : (nodes : List Node) (own rk : ℕ → ℕ) (who bound n i k last at free t : ℕ) → k < n → node_behind nodes k i ≡ last → (node_at nodes last).next ≡ at →
    IsStrand nodes own rk who bound (suc n) i → Shorter nodes own rk who bound n i k at free t (unlinked nodes last at free)
shorter nodes own rk who bound zero i k last at free t less e f h = absurd (omega (arith, less))
shorter nodes own rk who bound (suc n) i zero last at free t less e f h = subst (λ l. (node_at nodes l).next ≡ at →
    Shorter nodes own rk who bound (suc n) i zero at free t (unlinked nodes l at free)) e (λ g. subst (λ l. Shorter nodes own rk who bound (suc n) i zero l free t (unlinked nodes i l free)) g here) f
  where
    apart : i ≢ (node_at nodes i).next
    apart = ranks_apart rk i (node_at nodes i).next h.3.2

    others : (j : ℕ) → j < length nodes → own j ≡ who → rk j < rk (node_at nodes i).next → node_at (unlinked nodes i (node_at nodes i).next free) j ≡ node_at nodes j
    others j x y z = unlinked_apart nodes i (node_at nodes i).next free j (ranks_apart' j z) (λ k. ranks_apart rk (node_at nodes i).next j z (sym k))
      where
        ranks_apart' : (j : ℕ) → rk j < rk (node_at nodes i).next → j ≢ i
        ranks_apart' j z k = let a : rk (node_at nodes i).next < rk i = h.3.2 in let b : rk j ≡ rk i = ap rk k in absurd (omega (arith, a, b, z))

    now : node_at (unlinked nodes i (node_at nodes i).next free) i ≡ record (node_at nodes i) { next = (node_at nodes (node_at nodes i).next).next }
    now = unlinked_last nodes i (node_at nodes i).next free apart h.0

    length_same : length nodes ≤ length (unlinked nodes i (node_at nodes i).next free)
    length_same = let e = unlinked_length nodes i (node_at nodes i).next free in omega (arith, e)

    rest : IsStrand (unlinked nodes i (node_at nodes i).next free) (put own (node_at nodes i).next 0) (put rk (node_at nodes i).next t) who (rk (node_at nodes i).next) n
        (node_at nodes (node_at nodes i).next).next
    rest =
        frame nodes own rk (unlinked nodes i (node_at nodes i).next free) (put own (node_at nodes i).next 0) (put rk (node_at nodes i).next t) length_same who
        (rk (node_at nodes i).next) n (node_at nodes (node_at nodes i).next).next
        (λ j x y z. let other : j ≢ (node_at nodes i).next = λ k. ranks_apart rk (node_at nodes i).next j z (sym k) in
        record {
          next = ap (λ (m : Node). m.next) (others j x y z);
          owned = put_apart own (node_at nodes i).next 0 j other;
          ranked = put_apart rk (node_at nodes i).next t j other;
        })
        h.3.3

    here : Shorter nodes own rk who bound (suc n) i zero (node_at nodes i).next free t (unlinked nodes i (node_at nodes i).next free)
    here =
        record {
          strand = (
            (let a : i < length nodes = h.0 in let b = length_same in omega (arith, a, b)),
            put_apart own (node_at nodes i).next 0 i apart ∙ h.1,
            (let a = put_apart rk (node_at nodes i).next t i apart in let b : rk i < bound = h.2 in omega (arith, a, b)),
            subst (λ b. IsStrand (unlinked nodes i (node_at nodes i).next free) (put own (node_at nodes i).next 0) (put rk (node_at nodes i).next t) who b n
                (node_at (unlinked nodes i (node_at nodes i).next free) i).next) (sym (put_apart rk (node_at nodes i).next t i apart))
                (subst (λ (m : Node). IsStrand (unlinked nodes i (node_at nodes i).next free) (put own (node_at nodes i).next 0) (put rk (node_at nodes i).next t) who (rk i) n m.next) (sym now)
                (weaken (unlinked nodes i (node_at nodes i).next free) (put own (node_at nodes i).next 0) (put rk (node_at nodes i).next t) who (rk (node_at nodes i).next) (rk i) n
                (node_at nodes (node_at nodes i).next).next (let a : rk (node_at nodes i).next < rk i = h.3.2 in omega (arith, a)) rest)),
          );
          left = (λ x. version_in (now x) ∷ versions (unlinked nodes i (node_at nodes i).next free) n (now x).next) ∙ ap (λ vs. version_in (node_at nodes i) ∷ vs)
              (frame_versions nodes own rk (unlinked nodes i (node_at nodes i).next free) who (rk (node_at nodes i).next) n (node_at nodes (node_at nodes i).next).next others h.3.3);
          here = refl;
          next = ap (λ (m : Node). m.next) now;
        }
shorter nodes own rk who bound (suc n) i (suc k) last at free t less e f h = made (shorter nodes own rk who (rk i) n (node_at nodes i).next k last at free t (omega (arith, less)) e f h.3)
  where
    last_stands : Stands nodes own rk who (rk i) last
    last_stands = subst (Stands nodes own rk who (rk i)) e (behind_stands nodes own rk who (rk i) (suc n) (node_at nodes i).next k (omega (arith, less)) h.3)

    at_stands : Stands nodes own rk who (rk i) at
    at_stands = subst (Stands nodes own rk who (rk i)) (sym (behind_next nodes k (node_at nodes i).next) ∙ ap (λ l. (node_at nodes l).next) e ∙ f)
        (behind_stands nodes own rk who (rk i) (suc n) (node_at nodes i).next (suc k) (omega (arith, less)) h.3)

    apart : i ≢ at
    apart = ranks_apart rk i at at_stands.low

    now : node_at (unlinked nodes last at free) i ≡ node_at nodes i
    now = unlinked_apart nodes last at free i (ranks_apart rk i last last_stands.low) apart

    made : Shorter nodes own rk who (rk i) n (node_at nodes i).next k at free t (unlinked nodes last at free) → Shorter nodes own rk who bound (suc n) i (suc k) at free t (unlinked nodes last at free)
    made s =
        record {
          strand = (
            (let a : i < length nodes = h.0 in let b = unlinked_length nodes last at free in omega (arith, a, b)),
            put_apart own at 0 i apart ∙ h.1,
            (let a = put_apart rk at t i apart in let b : rk i < bound = h.2 in omega (arith, a, b)),
            subst (λ b. IsStrand (unlinked nodes last at free) (put own at 0) (put rk at t) who b n (node_at (unlinked nodes last at free) i).next) (sym (put_apart rk at t i apart))
                (subst (λ (m : Node). IsStrand (unlinked nodes last at free) (put own at 0) (put rk at t) who (rk i) n m.next) (sym now) s.strand),
          );
          left = (λ x. version_in (now x) ∷ versions (unlinked nodes last at free) n (now x).next) ∙ ap (λ vs. version_in (node_at nodes i) ∷ vs) s.left;
          here = ap (λ (m : Node). node_behind (unlinked nodes last at free) k m.next) now ∙ s.here;
          next = ap (λ (m : Node). node_behind (unlinked nodes last at free) (suc k) m.next) now ∙ s.next;
        }

-- ---- all of it

abbrev pub one_less : List Head → ℕ → Head
one_less heads p = record (head_at heads p) { strand = record { first = (head_at heads p).strand.first; count = (head_at heads p).strand.count - 1 } }

pub record Unlinked (heads : List Head) (nodes : List Node) (free : Strand) (p kept last at : ℕ) : Type 0 where
  pub last_within : last < length nodes
  pub at_within : at < length nodes
  pub arena : AreStrands (set heads p (one_less heads p)) (unlinked nodes last at free.first) (record { first = at; count = free.count + 1 })
  pub left : tail_of (unlinked nodes last at free.first) (head_at (set heads p (one_less heads p)) p) ≡
      take kept (tail_of nodes (head_at heads p)) ++ drop (kept + 1) (tail_of nodes (head_at heads p))
  pub walk : node_behind (unlinked nodes last at free.first) kept (head_at (set heads p (one_less heads p)) p).strand.first ≡ (node_at nodes at).next
  pub behind : IsLast (unlinked nodes last at free.first) (head_at (set heads p (one_less heads p)) p).strand.first kept last
  pub others : (q : ℕ) → q ≢ p → chain_of (unlinked nodes last at free.first) (head_at (set heads p (one_less heads p)) q) ≡ chain_of nodes (head_at heads q)

pub unlink : (heads : List Head) (nodes : List Node) (free : Strand) → AreStrands heads nodes free → (p kept last at : ℕ) → 0 < kept → kept < (head_at heads p).strand.count →
    node_behind nodes kept (head_at heads p).strand.first ≡ at → IsLast nodes (head_at heads p).strand.first kept last → Unlinked heads nodes free p kept last at
unlink heads nodes free a p zero last at some less e f = absurd (omega (arith, some))
unlink heads nodes free a p (suc k) last at some less e f =
    record {
      last_within = last_stands.within;
      at_within = at_stands.within;
      arena = gave heads nodes free a p at (unlinked nodes last at free.first) (one_less heads p) (a.top (suc p)) given;
      left = ap (tail_of (unlinked nodes last at free.first)) same_head ∙ short.left ∙
          (λ i. take (suc k) (versions nodes (sym many i) (head_at heads p).strand.first) ++ drop (next_kept i) (versions nodes (sym many i) (head_at heads p).strand.first));
      walk = ap (λ (h : Head). node_behind (unlinked nodes last at free.first) (suc k) h.strand.first) same_head ∙ short.next;
      behind = ap (λ (h : Head). node_behind (unlinked nodes last at free.first) k h.strand.first) same_head ∙ short.here ∙ f;
      others = gave_others heads nodes free a p (unlinked nodes last at free.first) (one_less heads p) apart;
    }
  where
    many : (head_at heads p).strand.count ≡ suc ((head_at heads p).strand.count - 1)
    many = omega (arith, less)

    next_kept : suc (suc k) ≡ suc k + 1
    next_kept = omega arith

    strand : IsStrand nodes a.owner a.rank (suc p) (a.top (suc p)) (suc ((head_at heads p).strand.count - 1)) (head_at heads p).strand.first
    strand = subst (λ m. IsStrand nodes a.owner a.rank (suc p) (a.top (suc p)) m (head_at heads p).strand.first) many (a.strands (suc p))

    linked : (node_at nodes last).next ≡ at
    linked = ap (λ l. (node_at nodes l).next) (sym f) ∙ behind_next nodes k (head_at heads p).strand.first ∙ e

    last_stands : Stands nodes a.owner a.rank (suc p) (a.top (suc p)) last
    last_stands = subst (Stands nodes a.owner a.rank (suc p) (a.top (suc p))) f (behind_stands nodes a.owner a.rank (suc p) (a.top (suc p)) (head_at heads p).strand.count
        (head_at heads p).strand.first k (omega (arith, less)) (a.strands (suc p)))

    at_stands : Stands nodes a.owner a.rank (suc p) (a.top (suc p)) at
    at_stands = subst (Stands nodes a.owner a.rank (suc p) (a.top (suc p))) e (behind_stands nodes a.owner a.rank (suc p) (a.top (suc p)) (head_at heads p).strand.count
        (head_at heads p).strand.first (suc k) less (a.strands (suc p)))

    short : Shorter nodes a.owner a.rank (suc p) (a.top (suc p)) ((head_at heads p).strand.count - 1) (head_at heads p).strand.first k at free.first (a.top 0) (unlinked nodes last at free.first)
    short = shorter nodes a.owner a.rank (suc p) (a.top (suc p)) ((head_at heads p).strand.count - 1) (head_at heads p).strand.first k last at free.first (a.top 0)
        (omega (arith, less)) f linked strand

    apart : (j : ℕ) → a.owner j ≢ suc p → node_at (unlinked nodes last at free.first) j ≡ node_at nodes j
    apart j other = unlinked_apart nodes last at free.first j (λ k. other (ap a.owner k ∙ last_stands.owned)) (λ k. other (ap a.owner k ∙ at_stands.owned))

    same_head : head_at (set heads p (one_less heads p)) p ≡ one_less heads p
    same_head = head_here heads p (one_less heads p) (has_head heads p (omega (arith, less)))

    given : Given heads nodes free a p at (unlinked nodes last at free.first) (one_less heads p) (a.top (suc p))
    given =
        record {
          within = at_stands.within;
          owned = at_stands.owned;
          same = unlinked_length nodes last at free.first;
          link = unlinked_link nodes last at free.first at_stands.within;
          count = many;
          others = apart;
          strand = short.strand;
        }

-- the node before which a walk stands is there
pub walk_within : (heads : List Head) (nodes : List Node) (free : Strand) → AreStrands heads nodes free → (p kept at : ℕ) → kept < (head_at heads p).strand.count →
    node_behind nodes kept (head_at heads p).strand.first ≡ at → at < length nodes
walk_within heads nodes free a p kept at less e =
    (subst (Stands nodes a.owner a.rank (suc p) (a.top (suc p))) e (behind_stands nodes a.owner a.rank (suc p) (a.top (suc p)) (head_at heads p).strand.count
    (head_at heads p).strand.first kept less (a.strands (suc p)))).within
