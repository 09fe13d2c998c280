use Rattle.std.proofs.Common.{◌≡◌, ℕ, ◌<◌, [], ◌∷◌, ◌++◌, length, drop, set, refl, sym, ap, ◌∙◌, arith, inl, inr}
use Rattle.std.specs.Prelude.{◌⊎◌}
use Rattle.std.proofs.lemmas.List.{length-set}
use Rattle.hg_base.specs.declared.writer.Writer.{Writer}
use Rattle.hg_base.specs.declared.image.Image.{Image}
use Rattle.hg_chains.specs.declared.arena.Arena.{Arena}
use Rattle.hg_chains.specs.declared.head.State.{State}
use Rattle.hg_chains.specs.declared.head.State.TheVariants.{Empty, Open, Stamped}
use Rattle.hg_chains.specs.declared.head.Head.{Head}
use Rattle.hg_chains.specs.declared.node.Node.{Node}
use Rattle.hg_chains.specs.Versions.{open_write}
use Rattle.hg_chains.specs.Strands.{version_in, nodes_along, front_of, with_open}
use Rattle.hg_chains.specs.Arenas.{IsArena, HasRoom, head_in, front_in, tail_in, nodes_in}
use Rattle.hg_chains.proofs.Heads.{none_first, closed, stamped_first}
use Rattle.hg_chains.proofs.Fronts.{Headed, headed, front_stays}
use Rattle.hg_chains.proofs.arena.Arena.write.Goals as goal

begun : (a b : Arena) (place : ℕ) (by : Writer) (image : Image) → IsArena a → place < length a.heads.items → b.heads.items ≡ set a.heads.items place (with_open by image (head_in a place)) →
    b.nodes ≡ a.nodes → b.free ≡ a.free → Headed a b place (with_open by image (head_in a place))
begun a b place by image s within heads nodes free = headed a b place (with_open by image (head_in a place)) s within refl (λ e. absurd (let k = e in cc)) heads nodes free

room : (a b : Arena) (place : ℕ) (h : Head) → HasRoom a place → b.heads.items ≡ set a.heads.items place h → b.nodes ≡ a.nodes → b.free ≡ a.free → HasRoom b place
room a b place h r heads nodes free =
    record {
      head = (let e = ap length heads in let l = length-set a.heads.items place h in let k = r.head in omega (arith, e, l, k));
      node = rw (nodes, free) r.node;
    }

pub push-requires : goal.push-requires
push-requires c =
    let a = c.args.self.now in
    let b = c.begin-state.new.self in
    let e = c.begin-state.ensures in
    let k = begun a b c.args.place c.args.by c.args.image c.requires.arena c.requires.room.head e.heads e.nodes e.free in
    let begins : (head_in b c.args.place).state ≡ Open = ap (λ (h : Head). h.state) k.head in
    record {
      arena = k.arena;
      room = room a b c.args.place (with_open c.args.by c.args.image (head_in a c.args.place)) c.requires.room e.heads e.nodes e.free;
      some = λ none. absurd (let l = sym begins ∙ none in cc);
      link = ap (λ (r : State × Node). r.1.next) e.held ∙ sym (ap (λ (h : Head). h.strand.first) k.head);
    }

-- there was no version

pub returns-in-Empty-clause-arena : goal.returns-in-Empty-clause-arena
returns-in-Empty-clause-arena c =
    let e = c.begin-state.ensures in
    let k = begun c.args.self.now c.begin-state.new.self c.args.place c.args.by c.args.image c.requires.arena c.requires.room.head e.heads e.nodes e.free in
    k.arena

pub returns-in-Empty-clause-here : goal.returns-in-Empty-clause-here
returns-in-Empty-clause-here c =
    let a = c.args.self.now in
    let e = c.begin-state.ensures in
    let k = begun a c.begin-state.new.self c.args.place c.args.by c.args.image c.requires.arena c.requires.room.head e.heads e.nodes e.free in
    let none : (head_in a c.args.place).state ≡ Empty = sym (ap (λ (r : State × Node). r.0) e.held) ∙ c.in-Empty.is in
    k.here ∙ ap (λ vs. open_write c.args.by c.args.image ∷ (vs ++ tail_in a c.args.place)) (sym (none_first (head_in a c.args.place) none))

pub returns-in-Empty-clause-behind : goal.returns-in-Empty-clause-behind
returns-in-Empty-clause-behind c =
    let a = c.args.self.now in
    let e = c.begin-state.ensures in
    let k = begun a c.begin-state.new.self c.args.place c.args.by c.args.image c.requires.arena c.requires.room.head e.heads e.nodes e.free in
    let none : (head_in a c.args.place).state ≡ Empty = sym (ap (λ (r : State × Node). r.0) e.held) ∙ c.in-Empty.is in
    let bare : nodes_in a c.args.place ≡ [] = ap (λ n. nodes_along a.nodes.items n (head_in a c.args.place).strand.first) (c.requires.arena.behind c.args.place none) in
    ap (drop 1) (k.stay ∙ bare) ∙ sym bare

pub returns-in-Empty-clause-others : goal.returns-in-Empty-clause-others
returns-in-Empty-clause-others c =
    let e = c.begin-state.ensures in
    let k = begun c.args.self.now c.begin-state.new.self c.args.place c.args.by c.args.image c.requires.arena c.requires.room.head e.heads e.nodes e.free in
    k.others

-- the version that was there goes to a node

pub returns-in-Open-clause-here : goal.returns-in-Open-clause-here
returns-in-Open-clause-here c =
    let a = c.args.self.now in
    let b = c.begin-state.new.self in
    let e = c.begin-state.ensures in
    let h = head_in a c.args.place in
    let k = begun a b c.args.place c.args.by c.args.image c.requires.arena c.requires.room.head e.heads e.nodes e.free in
    let front : front_in c.push.new.self c.args.place ≡ open_write c.args.by c.args.image ∷ [] = front_stays b c.push.new.self c.args.place c.push.ensures.fronts ∙ ap front_of k.head in
    let covered : version_in c.begin-state.result.1 ∷ [] ≡ front_of h = ap (λ (r : State × Node). version_in r.1 ∷ []) e.held ∙ sym (stamped_first h (stamped c)) in
    (λ i. front i ++ c.push.ensures.here i)
    ∙ (λ i. open_write c.args.by c.args.image ∷ version_in c.begin-state.result.1 ∷ k.tail i)
    ∙ ap (λ vs. open_write c.args.by c.args.image ∷ (vs ++ tail_in a c.args.place)) covered
  where
    stamped : (c : goal.After-push) → (head_in c.args.self.now c.args.place).state ≡ Stamped
    stamped c = go c.in-Open.is
      where
        was : c.begin-state.result.0 ≡ (head_in c.args.self.now c.args.place).state
        was = ap (λ (r : State × Node). r.0) c.begin-state.ensures.held

        go : (c.begin-state.result.0 ≡ Open) ⊎ (c.begin-state.result.0 ≡ Stamped) → (head_in c.args.self.now c.args.place).state ≡ Stamped
        go (inl e) = absurd (closed c.args.by (head_in c.args.self.now c.args.place) (tail_in c.args.self.now c.args.place) c.requires.no_other c.requires.not_open (sym was ∙ e))
        go (inr e) = sym was ∙ e

pub returns-in-Open-clause-behind : goal.returns-in-Open-clause-behind
returns-in-Open-clause-behind c =
    let e = c.begin-state.ensures in
    let k = begun c.args.self.now c.begin-state.new.self c.args.place c.args.by c.args.image c.requires.arena c.requires.room.head e.heads e.nodes e.free in
    c.push.ensures.behind ∙ k.stay

pub returns-in-Open-clause-others : goal.returns-in-Open-clause-others
returns-in-Open-clause-others c =
    λ q apart.
    let e = c.begin-state.ensures in
    let k = begun c.args.self.now c.begin-state.new.self c.args.place c.args.by c.args.image c.requires.arena c.requires.room.head e.heads e.nodes e.free in
    c.push.ensures.others q apart ∙ k.others q apart
