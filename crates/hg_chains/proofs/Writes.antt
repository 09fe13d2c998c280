-- A version is put before those of a place that stand in nodes.
use Rattle.std.proofs.Common.{◌≡◌, ◌≢◌, ℕ, zero, suc, ◌+◌, ◌<◌, ◌≤◌, ◌^◌, List, ◌∷◌, length, drop, set, refl, sym, ap, ◌∙◌, subst, arith}
use Rattle.std.proofs.Common.{inl, inr}
use Rattle.std.specs.Prelude.{◌⊎◌}
use Rattle.std.proofs.lemmas.Bool.{cases_eq}
use Rattle.hg_chains.specs.declared.node.Node.{Node}
use Rattle.hg_chains.specs.declared.node.Strand.{Strand}
use Rattle.hg_chains.specs.declared.head.Head.{Head}
use Rattle.hg_chains.specs.Strands.{node_at, head_at, version_in, versions, tail_of, nodes_along, nodes_of, chain_of, IsStrand, strand_of, AreStrands}
use Rattle.hg_chains.proofs.Strands.{Stays, frame, frame_versions, frame_nodes, frame_chain, put, put_here, put_apart, head_here, head_apart, recount, tops}

pub record Took (nodes : List Node) (free : Strand) (x : Node) (i : ℕ) (nodes' : List Node) (free' : Strand) : Type 0 where
  pub here : node_at nodes' i ≡ x
  pub within : i < length nodes'
  pub others : (j : ℕ) → j < length nodes → j ≢ i → node_at nodes' j ≡ node_at nodes j
  pub grown : free.count ≡ 0 → (i ≡ length nodes) × (length nodes' ≡ length nodes + 1) × (free' ≡ free)
  pub reused : 0 < free.count → (i ≡ free.first) × (length nodes' ≡ length nodes) × (free'.first ≡ (node_at nodes free.first).next) × (free'.count + 1 ≡ free.count)

-- the node was in no strand of a place, and isn't in what is left of the free ones
pub record Loose (heads : List Head) (nodes : List Node) (free : Strand) (a : AreStrands heads nodes free) (i : ℕ) (nodes' : List Node) (free' : Strand) : Type 0 where
  pub bound : ℕ
  pub strand : IsStrand nodes a.owner a.rank 0 bound free'.count free'.first
  pub owned : i < length nodes → a.owner i ≡ 0
  pub over : i < length nodes → bound ≤ a.rank i
  pub more : length nodes ≤ length nodes'
  pub count : length nodes' + free.count ≡ length nodes + free'.count + 1
  pub fits : length nodes' < 2 ^ 32

pub loose : (heads : List Head) (nodes : List Node) (free : Strand) (a : AreStrands heads nodes free) (i : ℕ) (nodes' : List Node) (free' : Strand) →
    (free.count ≡ 0 → (i ≡ length nodes) × (length nodes' ≡ length nodes + 1) × (free' ≡ free)) →
    (0 < free.count → (i ≡ free.first) × (length nodes' ≡ length nodes) × (free'.first ≡ (node_at nodes free.first).next) × (free'.count + 1 ≡ free.count)) →
    (free.count ≡ 0 → length nodes + 1 < 2 ^ 32) → Loose heads nodes free a i nodes' free'
loose heads nodes free a i nodes' free' grown reused room = go free.count refl
  where
    go : (n : ℕ) → free.count ≡ n → Loose heads nodes free a i nodes' free'
    go zero e =
        let g = grown e in
        let past : i ≡ length nodes = g.0 in
        let longer : length nodes' ≡ length nodes + 1 = g.1 in
        let same : free'.count ≡ free.count = ap (λ (s : Strand). s.count) g.2 in
        let small : length nodes + 1 < 2 ^ 32 = room e in
        record {
          bound = a.top 0;
          strand = subst (λ (s : Strand). IsStrand nodes a.owner a.rank 0 (a.top 0) s.count s.first) (sym g.2) (a.strands 0);
          owned = λ within. absurd (omega (arith, past, within));
          over = λ within. absurd (omega (arith, past, within));
          more = omega (arith, longer);
          count = omega (arith, longer, e, same);
          fits = omega (arith, longer, small);
        }
    go (suc n) e =
        let r = reused (omega (arith, e)) in
        let s : IsStrand nodes a.owner a.rank 0 (a.top 0) (suc n) free.first = subst (λ m. IsStrand nodes a.owner a.rank 0 (a.top 0) m free.first) e (a.strands 0) in
        let less : free'.count + 1 ≡ free.count = r.3 in
        let n_left : n ≡ free'.count = omega (arith, less, e) in
        let same : length nodes' ≡ length nodes = r.1 in
        let was : length nodes < 2 ^ 32 = a.fits in
        let here : i ≡ free.first = r.0 in
        record {
          bound = a.rank free.first;
          strand = subst (λ m. IsStrand nodes a.owner a.rank 0 (a.rank free.first) m free'.first) n_left (subst (IsStrand nodes a.owner a.rank 0 (a.rank free.first) n) (sym r.2) s.3);
          owned = λ within. ap a.owner here ∙ s.1;
          over = λ within. (let k : a.rank i ≡ a.rank free.first = ap a.rank here in omega (arith, k));
          more = omega (arith, same);
          count = omega (arith, same, less, e);
          fits = omega (arith, same, was);
        }

abbrev pub with_front : List Head → ℕ → ℕ → Head
with_front heads p i = record (head_at heads p) { strand = record { first = i; count = (head_at heads p).strand.count + 1 } }

pub record Pushed (heads : List Head) (nodes : List Node) (p : ℕ) (x : Node) (i : ℕ) (nodes' : List Node) (free' : Strand) : Type 0 where
  pub arena : AreStrands (set heads p (with_front heads p i)) nodes' free'
  pub here : tail_of nodes' (head_at (set heads p (with_front heads p i)) p) ≡ version_in x ∷ tail_of nodes (head_at heads p)
  pub behind : drop 1 (nodes_of nodes' (head_at (set heads p (with_front heads p i)) p)) ≡ nodes_of nodes (head_at heads p)
  pub others : (q : ℕ) → q ≢ p → chain_of nodes' (head_at (set heads p (with_front heads p i)) q) ≡ chain_of nodes (head_at heads q)

pub pushed : (heads : List Head) (nodes : List Node) (free : Strand) (a : AreStrands heads nodes free) (p : ℕ) (x : Node) (i : ℕ) (nodes' : List Node) (free' : Strand) →
    p < length heads → x.next ≡ (head_at heads p).strand.first → Took nodes free x i nodes' free' → Loose heads nodes free a i nodes' free' → Pushed heads nodes p x i nodes' free'
pushed heads nodes free a p x i nodes' free' within link t l =
    record {
      arena = record {
        owner = put a.owner i (suc p);
        rank = put a.rank i (a.top (suc p));
        top = tops a.top l.bound p (suc (a.top (suc p)));
        strands = strands;
        all = (let e = recount heads p (with_front heads p i) within in let c = l.count in let all = a.all in omega (arith, e, c, all));
        fits = l.fits;
      };
      here = ap (tail_of nodes') (head_here heads p (with_front heads p i) within) ∙ ap (λ n. versions nodes' n i) next_count ∙
          (λ k. version_in (t.here k) ∷ versions nodes' (head_at heads p).strand.count (t.here k).next) ∙
          ap (λ j. version_in x ∷ versions nodes' (head_at heads p).strand.count j) link ∙
          ap (λ vs. version_in x ∷ vs) (frame_versions nodes a.owner a.rank nodes' (suc p) (a.top (suc p)) (head_at heads p).strand.count (head_at heads p).strand.first
          (λ k x y z. t.others k x (apart_from (suc p) (suc_zero p) k x y)) (a.strands (suc p)));
      behind = ap (λ (h : Head). drop 1 (nodes_of nodes' h)) (head_here heads p (with_front heads p i) within) ∙ ap (λ n. drop 1 (nodes_along nodes' n i)) next_count ∙
          (λ k. nodes_along nodes' (head_at heads p).strand.count (t.here k).next) ∙ ap (λ j. nodes_along nodes' (head_at heads p).strand.count j) link ∙
          frame_nodes nodes a.owner a.rank nodes' (suc p) (a.top (suc p)) (head_at heads p).strand.count (head_at heads p).strand.first
          (λ k x y z. t.others k x (apart_from (suc p) (suc_zero p) k x y)) (a.strands (suc p));
      others = λ q apart. ap (chain_of nodes') (head_apart heads p q (with_front heads p i) apart) ∙
          frame_chain nodes a.owner a.rank nodes' (head_at heads q) (suc q) (a.top (suc q)) (λ k x y z. t.others k x (apart_from (suc q) (suc_zero q) k x y)) (a.strands (suc q));
    }
  where
    next_count : (head_at heads p).strand.count + 1 ≡ suc (head_at heads p).strand.count
    next_count = omega arith

    suc_zero : (q : ℕ) → suc q ≢ 0
    suc_zero q e = omega (arith, e)

    apart_from : (who : ℕ) → who ≢ 0 → (j : ℕ) → j < length nodes → a.owner j ≡ who → j ≢ i
    apart_from who some j x e k = some (sym e ∙ ap a.owner k ∙ l.owned (subst (λ m. m < length nodes) k x))

    stays : (j : ℕ) → j < length nodes → j ≢ i → Stays nodes a.owner a.rank nodes' (put a.owner i (suc p)) (put a.rank i (a.top (suc p))) j
    stays j within apart =
        record {
          next = ap (λ (n : Node). n.next) (t.others j within apart);
          owned = put_apart a.owner i (suc p) j apart;
          ranked = put_apart a.rank i (a.top (suc p)) j apart;
        }

    kept : (who : ℕ) → who ≢ 0 → (bound n j : ℕ) → IsStrand nodes a.owner a.rank who bound n j → IsStrand nodes' (put a.owner i (suc p)) (put a.rank i (a.top (suc p))) who bound n j
    kept who some bound n j s = frame nodes a.owner a.rank nodes' (put a.owner i (suc p)) (put a.rank i (a.top (suc p))) l.more who bound n j (λ k x y z. stays k x (apart_from who some k x y)) s

    free_strand : IsStrand nodes' (put a.owner i (suc p)) (put a.rank i (a.top (suc p))) 0 l.bound free'.count free'.first
    free_strand =
        frame nodes a.owner a.rank nodes' (put a.owner i (suc p)) (put a.rank i (a.top (suc p))) l.more 0 l.bound free'.count free'.first
        (λ k x y z. stays k x (λ e. absurd (let o = l.over (subst (λ m. m < length nodes) e x) in let r : a.rank k ≡ a.rank i = ap a.rank e in omega (arith, o, r, z)))) l.strand

    front : (n : ℕ) → n ≡ suc (head_at heads p).strand.count → IsStrand nodes' (put a.owner i (suc p)) (put a.rank i (a.top (suc p))) (suc p) (suc (a.top (suc p))) n i
    front zero e = tt
    front (suc n) e = (
      t.within,
      put_here a.owner i (suc p),
      (let k = put_here a.rank i (a.top (suc p)) in omega (arith, k)),
      subst (λ b. IsStrand nodes' (put a.owner i (suc p)) (put a.rank i (a.top (suc p))) (suc p) b n (node_at nodes' i).next) (sym (put_here a.rank i (a.top (suc p))))
          (subst (IsStrand nodes' (put a.owner i (suc p)) (put a.rank i (a.top (suc p))) (suc p) (a.top (suc p)) n) (sym (ap (λ (m : Node). m.next) t.here ∙ link))
          (subst (λ m. IsStrand nodes' (put a.owner i (suc p)) (put a.rank i (a.top (suc p))) (suc p) (a.top (suc p)) m (head_at heads p).strand.first)
          (let k : (head_at heads p).strand.count ≡ n = omega (arith, e) in
          k) (kept (suc p) (suc_zero p) (a.top (suc p)) (head_at heads p).strand.count (head_at heads p).strand.first (a.strands (suc p))))),
    )

    strands : (who : ℕ) → IsStrand nodes' (put a.owner i (suc p)) (put a.rank i (a.top (suc p))) who (tops a.top l.bound p (suc (a.top (suc p))) who)
        (strand_of (set heads p (with_front heads p i)) free' who).count (strand_of (set heads p (with_front heads p i)) free' who).first
    strands zero = free_strand
    strands (suc q) = go (cases_eq q p)
      where
        go : (q ≡ p) ⊎ (q ≡ p → ⊥) → IsStrand nodes' (put a.owner i (suc p)) (put a.rank i (a.top (suc p))) (suc q) (put (λ q. a.top (suc q)) p (suc (a.top (suc p))) q)
            (head_at (set heads p (with_front heads p i)) q).strand.count (head_at (set heads p (with_front heads p i)) q).strand.first
        go (inl e) =
            subst (λ r. IsStrand nodes' (put a.owner i (suc p)) (put a.rank i (a.top (suc p))) (suc r) (put (λ q. a.top (suc q)) p (suc (a.top (suc p))) r)
            (head_at (set heads p (with_front heads p i)) r).strand.count (head_at (set heads p (with_front heads p i)) r).strand.first) (sym e)
            (subst (λ (h : Head). IsStrand nodes' (put a.owner i (suc p)) (put a.rank i (a.top (suc p))) (suc p)
            (put (λ q. a.top (suc q)) p (suc (a.top (suc p))) p) h.strand.count h.strand.first) (sym (head_here heads p (with_front heads p i) within))
            (subst (λ b. IsStrand nodes' (put a.owner i (suc p)) (put a.rank i (a.top (suc p))) (suc p) b ((head_at heads p).strand.count + 1) i)
            (sym (put_here (λ q. a.top (suc q)) p (suc (a.top (suc p))))) (front ((head_at heads p).strand.count + 1) next_count)))
        go (inr apart) =
            subst (λ (h : Head). IsStrand nodes' (put a.owner i (suc p)) (put a.rank i (a.top (suc p))) (suc q)
            (put (λ q. a.top (suc q)) p (suc (a.top (suc p))) q) h.strand.count h.strand.first) (sym (head_apart heads p q (with_front heads p i) apart))
            (subst (λ b. IsStrand nodes' (put a.owner i (suc p)) (put a.rank i (a.top (suc p))) (suc q) b (head_at heads q).strand.count (head_at heads q).strand.first)
            (sym (put_apart (λ q. a.top (suc q)) p (suc (a.top (suc p))) q apart))
            (kept (suc q) (suc_zero q) (a.top (suc q)) (head_at heads q).strand.count (head_at heads q).strand.first (a.strands (suc q))))
