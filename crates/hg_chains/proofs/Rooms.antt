-- Heads of places that have no version.
use Rattle.std.proofs.Common.{◌≡◌, ℕ, zero, suc, ◌+◌, List, [], ◌∷◌, ◌++◌, get_or, refl, sym, ap, ◌∙◌, subst, arith}
use Rattle.std.specs.Prelude.{sum_by, replicate}
use Rattle.std.proofs.lemmas.List.{append_assoc, replicate-append-replicate}
use Rattle.std.proofs.lemmas.List.Sums.{sum_by-append, sum_by-cons}
use Rattle.hg_chains.specs.declared.node.Node.{Node}
use Rattle.hg_chains.specs.declared.node.Strand.{Strand}
use Rattle.hg_chains.specs.declared.head.Head.{Head}
use Rattle.hg_chains.specs.declared.head.State.TheVariants.{Empty}
use Rattle.hg_chains.specs.Strands.{no_head, head_at, IsStrand, strand_of, AreStrands, NoneBehind}

read_empty : {X : Type 0} (k q : ℕ) (d : X) → get_or (replicate k d) q d ≡ d
read_empty zero q d = refl
read_empty (suc k) zero d = refl
read_empty (suc k) (suc q) d = read_empty k q d

read_longer : {X : Type 0} (xs : List X) (k q : ℕ) (d : X) → get_or (xs ++ replicate k d) q d ≡ get_or xs q d
read_longer [] k q d = read_empty k q d
read_longer (x ∷ xs) k zero d = refl
read_longer (x ∷ xs) k (suc q) d = read_longer xs k q d

none_counted : (k : ℕ) → sum_by (λ (h : Head). h.strand.count) (replicate k no_head) ≡ 0
none_counted zero = refl
none_counted (suc k) = let e = sum_by-cons (λ (h : Head). h.strand.count) no_head (replicate k no_head) in let f = none_counted k in omega (arith, e, f)

-- more heads, of places that have no version
abbrev pub padded : List Head → ℕ → List Head
padded heads k = heads ++ replicate k no_head

pub padded_more : (heads : List Head) (k : ℕ) → padded heads k ++ no_head ∷ [] ≡ padded heads (k + 1)
padded_more heads k = append_assoc heads (replicate k no_head) (no_head ∷ []) ∙ ap (λ hs. heads ++ hs) (replicate-append-replicate k 1 no_head)

pub padded_read : (heads : List Head) (k q : ℕ) → head_at (padded heads k) q ≡ head_at heads q
padded_read heads k q = read_longer heads k q no_head

pub padded_arena : (heads : List Head) (nodes : List Node) (free : Strand) → AreStrands heads nodes free → (k : ℕ) → AreStrands (padded heads k) nodes free
padded_arena heads nodes free a k =
    record {
      owner = a.owner;
      rank = a.rank;
      top = a.top;
      strands = strands;
      all = (let f = sum_by-append (λ (h : Head). h.strand.count) heads (replicate k no_head) in let g = none_counted k in let all = a.all in omega (arith, f, g, all));
      fits = a.fits;
    }
  where
    strands : (who : ℕ) → IsStrand nodes a.owner a.rank who (a.top who) (strand_of (padded heads k) free who).count (strand_of (padded heads k) free who).first
    strands zero = a.strands 0
    strands (suc q) = subst (λ (h : Head). IsStrand nodes a.owner a.rank (suc q) (a.top (suc q)) h.strand.count h.strand.first) (sym (padded_read heads k q)) (a.strands (suc q))

pub padded_behind : (heads : List Head) (k : ℕ) → NoneBehind heads → NoneBehind (padded heads k)
padded_behind heads k b q = subst (λ (h : Head). h.state ≡ Empty → h.strand.count ≡ 0) (sym (padded_read heads k q)) (b q)
