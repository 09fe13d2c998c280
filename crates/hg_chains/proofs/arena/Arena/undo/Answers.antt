use Rattle.std.proofs.Common.{◌≡◌, ℕ, ◌<◌, List, [], ◌∷◌, ◌++◌, length, drop, refl, sym, ap, ◌∙◌, arith, inl, inr}
use Rattle.std.specs.Prelude.{◌⊎◌}
use Rattle.hg_chains.specs.declared.head.State.TheVariants.{Empty}
use Rattle.hg_chains.specs.declared.head.Head.{Head}
use Rattle.hg_chains.specs.declared.version.Version.{Version}
use Rattle.hg_chains.specs.declared.version.Stamp.TheVariants.{Numbered}
use Rattle.hg_chains.specs.declared.node.Strand.{Strand}
use Rattle.hg_chains.specs.Strands.{node_at, versions, nodes_along, front_of, with_number}
use Rattle.hg_chains.specs.Arenas.{head_in, tail_in, nodes_in}
use Rattle.hg_chains.proofs.Removals.{first_within}
use Rattle.hg_chains.proofs.Heads.{Single, single, none_first}
use Rattle.hg_chains.proofs.Fronts.{Headed, headed, tail_first}
use Rattle.hg_chains.proofs.Newest.{has_first}
use Rattle.hg_chains.proofs.arena.Arena.undo.Goals as goal

-- behind a newest version there are others
others_there : (s n : ℕ) → s ≡ n → (s ≡ 0 → ⊥) → 0 < n
others_there s n e some = omega (arith, e, some)

pub writer-by-requires : goal.writer-by-requires
writer-by-requires c =
    let a = c.args.self.now in
    let f = ap (λ (s : Strand). s.first) c.strand-strand.ensures in
    let k = first_within a.heads.items a.nodes.items a.free c.requires.arena.strands c.args.place
    (others_there c.strand-strand.result.count (head_in a c.args.place).strand.count (ap (λ (s : Strand). s.count) c.strand-strand.ensures) c.if-strand-eq0.false) in
    omega (arith, f, k)

within : (c : goal.After-set_first) → c.args.place < length c.pop-number.new.self.heads.items
within c = has_first c.pop-number.new.self.heads.items c.args.place
    (λ e. c.if-strand-eq0.false (ap (λ (s : Strand). s.count) c.strand-strand.ensures ∙
    c.requires.arena.behind c.args.place (sym (ap (λ (h : Head). h.state) (c.pop-number.ensures.fronts c.args.place)) ∙ e)))

all : (c : goal.After-set_first) → Headed c.pop-number.new.self c.set_first.new.self c.args.place
    (with_number c.writer-by.result c.pop-number.result.0 c.pop-number.result.1 (head_in c.pop-number.new.self c.args.place))
all c =
    let a = c.args.self.now in
    let b = c.pop-number.new.self in
    headed b c.set_first.new.self c.args.place (with_number c.writer-by.result c.pop-number.result.0 c.pop-number.result.1 (head_in b c.args.place)) c.pop-number.ensures.arena (within c) refl
    (λ e. absurd (let k = e in cc)) c.set_first.ensures.heads c.set_first.ensures.nodes c.set_first.ensures.free

pub returns-else-strand-eq0-clause-arena : goal.returns-else-strand-eq0-clause-arena
returns-else-strand-eq0-clause-arena c = let k = all c in k.arena

-- drop the newest of a list that has one, or nothing
dropped : (h : Head) (vs : List Version) → (h.state ≡ Empty → vs ≡ []) → drop 1 (front_of h ++ vs) ≡ vs
dropped h vs none = go (single h)
  where
    go : (h.state ≡ Empty) ⊎ Single (front_of h) → drop 1 (front_of h ++ vs) ≡ vs
    go (inl e) = (λ i. drop 1 (none_first h e i ++ none e i)) ∙ sym (none e)
    go (inr f) = ap (λ fs. drop 1 (fs ++ vs)) f.is

pub returns-else-strand-eq0-clause-here : goal.returns-else-strand-eq0-clause-here
returns-else-strand-eq0-clause-here c =
    let a = c.args.self.now in
    let h = head_in a c.args.place in
    let k = all c in
    let count = ap (λ (s : Strand). s.count) c.strand-strand.ensures in
    let f : c.strand-strand.result.first ≡ h.strand.first = ap (λ (s : Strand). s.first) c.strand-strand.ensures in
    let some : h.strand.count ≡ 0 → ⊥ = λ e. c.if-strand-eq0.false (count ∙ e) in
    k.here
    ∙ (λ i. (let v : Version = record { stamp = Numbered (c.pop-number.ensures.held i).0 (c.writer-by.ensures i); image = (c.pop-number.ensures.held i).1 } in v) ∷ c.pop-number.ensures.here i)
    ∙ (λ i. (let v : Version = record {
      stamp = Numbered (node_at a.nodes.items h.strand.first).number (record {
        session = (node_at a.nodes.items (f i)).session;
        transaction = (node_at a.nodes.items (f i)).transaction;
      });
      image = (node_at a.nodes.items h.strand.first).image;
    } in v) ∷ drop 1 (tail_in a c.args.place))
    ∙ sym (tail_first a.nodes.items h.strand.count h.strand.first some)
    ∙ sym (dropped h (tail_in a c.args.place) (λ e. absurd (some (c.requires.arena.behind c.args.place e))))

pub returns-else-strand-eq0-clause-behind : goal.returns-else-strand-eq0-clause-behind
returns-else-strand-eq0-clause-behind c = let k = all c in k.stay ∙ c.pop-number.ensures.nodes

pub returns-else-strand-eq0-clause-others : goal.returns-else-strand-eq0-clause-others
returns-else-strand-eq0-clause-others c = λ q apart. let k = all c in k.others q apart ∙ c.pop-number.ensures.others q apart

pub returns-then-strand-eq0-clause-here : goal.returns-then-strand-eq0-clause-here
returns-then-strand-eq0-clause-here c =
    let a = c.args.self.now in
    let h = head_in a c.args.place in
    let alone : h.strand.count ≡ 0 = sym (ap (λ (s : Strand). s.count) c.strand-strand.ensures) ∙ c.if-strand-eq0.true in
    let bare : tail_in a c.args.place ≡ [] = ap (λ n. versions a.nodes.items n h.strand.first) alone in
    c.empty.ensures.here ∙ sym bare ∙ sym (dropped h (tail_in a c.args.place) (λ e. bare))

pub returns-then-strand-eq0-clause-behind : goal.returns-then-strand-eq0-clause-behind
returns-then-strand-eq0-clause-behind c =
    let a = c.args.self.now in
    let h = head_in a c.args.place in
    let alone : h.strand.count ≡ 0 = sym (ap (λ (s : Strand). s.count) c.strand-strand.ensures) ∙ c.if-strand-eq0.true in
    let bare : nodes_in a c.args.place ≡ [] = ap (λ n. nodes_along a.nodes.items n h.strand.first) alone in
    c.empty.ensures.nodes ∙ sym (ap (drop 1) bare)
