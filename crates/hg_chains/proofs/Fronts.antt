-- Arenas in which another version has come to a head, or none.
use Rattle.std.proofs.Common.{◌≡◌, ℕ, zero, suc, ◌<◌, List, ◌∷◌, ◌++◌, length, drop, set, refl, ap, ◌∙◌}
use Rattle.hg_chains.specs.declared.arena.Arena.{Arena}
use Rattle.hg_chains.specs.declared.head.State.TheVariants.{Empty}
use Rattle.hg_chains.specs.declared.head.Head.{Head}
use Rattle.hg_chains.specs.declared.node.Node.{Node}
use Rattle.hg_chains.specs.Strands.{node_at, version_in, front_of, tail_of, versions}
use Rattle.hg_chains.specs.Arenas.{IsArena, FrontsStay, OthersStayIn, head_in, front_in, tail_in, list_in, nodes_in}
use Rattle.hg_chains.proofs.Strands.{head_here}
use Rattle.hg_chains.proofs.Heads.{swapped}

pub record Headed (a b : Arena) (place : ℕ) (h : Head) : Type 0 where
  pub arena : IsArena b
  pub head : head_in b place ≡ h
  pub here : list_in b place ≡ front_of h ++ tail_in a place
  pub tail : tail_in b place ≡ tail_in a place
  pub stay : nodes_in b place ≡ nodes_in a place
  pub others : OthersStayIn place a b

pub headed : (a b : Arena) (place : ℕ) (h : Head) → IsArena a → place < length a.heads.items → h.strand ≡ (head_in a place).strand → (h.state ≡ Empty → (head_in a place).strand.count ≡ 0) →
    b.heads.items ≡ set a.heads.items place h → b.nodes ≡ a.nodes → b.free ≡ a.free → Headed a b place h
headed a b place h s within same none heads nodes free =
    let k = swapped a.heads.items a.nodes.items a.free s.strands s.behind place h within same none in
    let items = ap (λ ns. ns.items) nodes in
    let now = head_here a.heads.items place h within in
    record {
      arena = record { strands = rw (heads, items, free) k.strands; behind = rw heads k.behind };
      head = rw heads now;
      here = rw (heads, items) k.here;
      tail = rw (heads, items) (ap (tail_of a.nodes.items) now ∙ ap (λ s. versions a.nodes.items s.count s.first) same);
      stay = rw (heads, items) k.stay;
      others = λ q apart. rw (heads, items) (k.others q apart);
    }

-- the first of several in nodes
pub tail_first : (nodes : List Node) (n i : ℕ) → (n ≡ 0 → ⊥) → versions nodes n i ≡ version_in (node_at nodes i) ∷ drop 1 (versions nodes n i)
tail_first nodes zero i some = absurd (some refl)
tail_first nodes (suc n) i some = refl

-- heads that stay but for their strands have the newest versions that they had
pub front_stays : (a b : Arena) (q : ℕ) → FrontsStay a b → front_in b q ≡ front_in a q
front_stays a b q f = ap front_of (f q)

pub fronts_stay : (a b c : Arena) → FrontsStay a b → FrontsStay b c → FrontsStay a c
fronts_stay a b c f g q = g q ∙ ap (λ (h : Head). record h { strand = (head_in c q).strand }) (f q)
