use Rattle.std.proofs.Common.{◌≡◌, ◌+◌, ◌-◌, ◌<◌, ◌≤◌, ◌++◌, List, Option, Some, Bool, true, false, ℕ, length, get_or, refl, sym, ap, ◌∙◌, subst, arith}
use Rattle.std.specs.Prelude.{cond}
use Rattle.std.proofs.lemmas.List.{length-append}
use Rattle.hg_chains.specs.declared.arena.Arena.{Arena}
use Rattle.hg_chains.specs.declared.version.Version.{Version}
use Rattle.hg_chains.specs.declared.node.Strand.{Strand}
use Rattle.hg_chains.specs.Versions.{number_in}
use Rattle.hg_base.specs.Lifetimes.{goes}
use Rattle.hg_chains.specs.Merging.{Follows}
use Rattle.hg_chains.specs.Strands.{first_number, node_at, version_in}
use Rattle.hg_chains.specs.Sweeps.{swept, swept_away, last_number}
use Rattle.hg_chains.specs.Arenas.{FrontsStay, head_in, front_in, list_in, tail_in}
use Rattle.hg_chains.proofs.Walks.{at_there, version_here, tail_many}
use Rattle.hg_chains.proofs.Fronts.{front_stays, fronts_stay}
use Rattle.hg_chains.proofs.Newest.{chain_tail}
use Rattle.hg_chains.proofs.Tops.{under_first, swept_first, last_first, away_first, passed_none}
use Rattle.hg_chains.proofs.Settling.{Settled, Ended, begun, here, follows, next, ended}
use Rattle.hg_chains.proofs.walk.sweep_all.Goals as goal

pub loop-turn-init : goal.loop-turn-init
loop-turn-init g c =
    let a = c.args.arena.now in
    let old = tail_in a c.args.place in
    let h = head_in a c.args.place in
    let many = tail_many a c.args.place in
    let count : length old ≡ c.strand-all.result.count = many ∙ sym (ap (λ (s : Strand). s.count) c.strand-all.ensures) in
    record {
      arena = c.requires.arena;
      at = c.start-cursor.ensures.at;
      settled = rw (c.start-cursor.ensures.kept, c.first_number.ensures) (begun c.args.horizon c.args.snapshots.now (first_number h) old (c.strand-all.result.count - 0)
          (omega (arith, count)) (under_first h old c.requires.chain) (chain_tail a c.args.place c.requires.arena c.requires.chain));
      fronts = λ q. refl;
      others = λ q apart. refl;
      nodes = (refl, refl);
      passed = passed_none c.first_number.result c.args.snapshots.now;
      within = omega arith;
      count = sym count;
      most = (let l = length-append (front_in a c.args.place) old in omega (arith, l, count));
      few = (let k = c.start-cursor.ensures.kept in omega (arith, k));
      same = λ e. refl;
      cost = omega arith;
    }

-- a walk that has turns left stands before a version
stands : (rest items count kept : ℕ) → items ≡ kept + rest → items ≡ count → 0 < rest → kept < count
stands rest items count kept a b h = omega (arith, a, b, h)

pub number-number-requires : goal.number-number-requires
number-number-requires g c =
    let more = c.loop-turn-test.true in
    at_there c.loop-turn.arena c.args.place c.loop-turn.cursor c.loop-turn.invariant.arena c.loop-turn.invariant.at
    (stands (c.strand-all.result.count - c.loop-turn._turn) (length (tail_in c.loop-turn.arena c.args.place))
    (head_in c.loop-turn.arena c.args.place).strand.count c.loop-turn.cursor.kept c.loop-turn.invariant.settled.many (tail_many c.loop-turn.arena c.args.place) (omega (arith, more)))

pub remove_or_pass-requires-clause-some : goal.remove_or_pass-requires-clause-some
remove_or_pass-requires-clause-some g c =
    let more = c.loop-turn-test.true in
    stands (c.strand-all.result.count - c.loop-turn._turn) (length (tail_in c.loop-turn.arena c.args.place))
    (head_in c.loop-turn.arena c.args.place).strand.count c.loop-turn.cursor.kept c.loop-turn.invariant.settled.many (tail_many c.loop-turn.arena c.args.place) (omega (arith, more))

-- a turn that removes no version changes nothing
fewer_left : (kept kept' all turn : ℕ) (gone : Bool) → turn < all → kept + (all - turn) ≤ all → kept' ≡ kept + cond gone 0 1 → kept' + (all - (turn + 1)) ≤ all
fewer_left kept kept' all turn true more few e = omega (arith, more, few, e)
fewer_left kept kept' all turn false more few e = omega (arith, more, few, e)

unchanged : (first a b : Arena) (kept kept' all turn : ℕ) (gone : Bool) → turn < all → kept + (all - turn) ≤ all → kept' ≡ kept + cond gone 0 1 →
    (kept + (all - turn) ≡ all → a ≡ first) → (gone ≡ false → b ≡ a) → kept' + (all - (turn + 1)) ≡ all → b ≡ first
unchanged first a b kept kept' all turn true more few e f g h = absurd (omega (arith, more, few, e, h))
unchanged first a b kept kept' all turn false more few e f g h = g refl ∙ f (let k : kept + (all - turn) ≡ all = omega (arith, more, e, h) in k)

pub loop-turn-preserved : goal.loop-turn-preserved
loop-turn-preserved g c =
    let top = first_number (head_in c.args.arena.now c.args.place) in
    let old = tail_in c.args.arena.now c.args.place in
    let items = tail_in c.loop-turn.arena c.args.place in
    let kept = c.loop-turn.cursor.kept in
    let rest = c.strand-all.result.count - c.loop-turn._turn in
    let up = c.loop-turn.merge.successor in
    let more = c.loop-turn-test.true in
    let some : 0 < rest = omega (arith, more) in
    let less = stands rest (length items) (head_in c.loop-turn.arena c.args.place).strand.count kept c.loop-turn.invariant.settled.many (tail_many c.loop-turn.arena c.args.place) some in
    let v : Version = version_in (node_at c.loop-turn.arena.nodes.items c.loop-turn.cursor.at) in
    let is_here : get_or items kept v ≡ v = version_here c.loop-turn.arena c.args.place c.loop-turn.cursor v c.loop-turn.invariant.at less in
    let number : Some c.number-number.result ≡ number_in v.stamp = ap (λ n. Some n) c.number-number.ensures in
    let first = here c.args.horizon c.args.snapshots.now top old items kept rest up v v some is_here c.loop-turn.invariant.settled in
    let falls : Follows up (Some c.number-number.result) = subst (Follows up) (sym number) (follows c.args.horizon c.args.snapshots.now top old items kept up v first) in
    let settled = next c.args.horizon c.args.snapshots.now top old items (tail_in c.remove_or_pass.new.self c.args.place) kept c.remove_or_pass.new.cursor.kept rest up v v
    c.settle-goes.result some is_here c.loop-turn.invariant.settled (ap (goes c.args.horizon c.args.snapshots.now up) (sym number) ∙
    sym c.settle-goes.ensures.goes) c.remove_or_pass.ensures.here c.remove_or_pass.ensures.kept in
    let fewer : rest - 1 ≡ c.strand-all.result.count - (c.loop-turn._turn + 1) = omega arith in
    record {
      arena = c.remove_or_pass.ensures.arena;
      at = c.remove_or_pass.ensures.at;
      settled = subst (Settled c.args.horizon c.args.snapshots.now top old (tail_in c.remove_or_pass.new.self c.args.place) c.remove_or_pass.new.cursor.kept
          (c.strand-all.result.count - (c.loop-turn._turn + 1))) (sym (c.settle-goes.ensures.successor ∙ number))
          (subst (λ m. Settled c.args.horizon c.args.snapshots.now top old (tail_in c.remove_or_pass.new.self c.args.place) c.remove_or_pass.new.cursor.kept m (number_in v.stamp)) fewer settled);
      fronts = fronts_stay c.args.arena.now c.loop-turn.arena c.remove_or_pass.new.self c.loop-turn.invariant.fronts c.remove_or_pass.ensures.fronts;
      others = λ q apart. c.remove_or_pass.ensures.others q apart ∙ c.loop-turn.invariant.others q apart;
      nodes = (c.remove_or_pass.ensures.nodes.0 ∙ c.loop-turn.invariant.nodes.0, c.remove_or_pass.ensures.nodes.1 ∙ c.loop-turn.invariant.nodes.1);
      passed = rw c.settle-goes.ensures.successor (c.settle-goes.ensures.passed falls);
      within = c.settle-goes.ensures.within;
      count = c.loop-turn.invariant.count;
      most = c.loop-turn.invariant.most;
      few = fewer_left c.loop-turn.cursor.kept c.remove_or_pass.new.cursor.kept c.strand-all.result.count c.loop-turn._turn c.settle-goes.result more c.loop-turn.invariant.few
          c.remove_or_pass.ensures.kept;
      same = λ e. unchanged c.args.arena.now c.loop-turn.arena c.remove_or_pass.new.self c.loop-turn.cursor.kept c.remove_or_pass.new.cursor.kept c.strand-all.result.count
          c.loop-turn._turn c.settle-goes.result more c.loop-turn.invariant.few c.remove_or_pass.ensures.kept c.loop-turn.invariant.same c.remove_or_pass.ensures.same e;
      cost = (let a = c.settle-goes.ensures.cost in let b = c.loop-turn.invariant.cost in omega (arith, a, b));
    }

-- what is known once no turn is left
done : (horizon : ℕ) (snapshots : List ℕ) (top : Option ℕ) (old items : List Version) (kept all turn : ℕ) (up : Option ℕ) → all ≤ turn →
    Settled horizon snapshots top old items kept (all - turn) up → Ended horizon snapshots top old items kept up
done horizon snapshots top old items kept all turn up past s = ended horizon snapshots top old items kept up
    (subst (λ m. Settled horizon snapshots top old items kept m up) (let e : all - turn ≡ 0 = omega (arith, past) in e) s)

pub overflow_sub-all : goal.overflow_sub-all
overflow_sub-all g c =
    let past = c.loop-turn-test.false in
    let few = c.loop-turn.invariant.few in
    omega (arith, past, few)

-- what the turns have left of all versions, and how many went
record Left (horizon : ℕ) (snapshots : List ℕ) (a b : Arena) (place all kept : ℕ) (up : Option ℕ) : Type 0 where
  left : list_in b place ≡ swept horizon snapshots (list_in a place)
  gone : all - kept ≡ swept_away horizon snapshots (list_in a place)
  last : up ≡ last_number (list_in a place)

lifted : (horizon : ℕ) (snapshots : List ℕ) (a b : Arena) (place all kept : ℕ) (up : Option ℕ) → FrontsStay a b → all ≡ length (tail_in a place) →
    Ended horizon snapshots (first_number (head_in a place)) (tail_in a place) (tail_in b place) kept up → Left horizon snapshots a b place all kept up
lifted horizon snapshots a b place all kept up fronts count e =
    let h = head_in a place in
    let vs = tail_in a place in
    let gone = e.gone in
    let away = away_first horizon snapshots h vs in
    record {
      left = (λ i. front_stays a b place fronts i ++ e.left i) ∙ sym (swept_first horizon snapshots h vs);
      gone = omega (arith, gone, away, count);
      last = e.last ∙ last_first h vs;
    }

after : (horizon : ℕ) (snapshots : List ℕ) (a b : Arena) (place all kept turn : ℕ) (up : Option ℕ) → all ≤ turn → FrontsStay a b → all ≡ length (tail_in a place) →
    Settled horizon snapshots (first_number (head_in a place)) (tail_in a place) (tail_in b place) kept (all - turn) up → Left horizon snapshots a b place all kept up
after horizon snapshots a b place all kept turn up past fronts count s =
    lifted horizon snapshots a b place all kept up fronts count (done horizon snapshots (first_number (head_in a place)) (tail_in a place) (tail_in b place) kept all turn up past s)

pub returns-then-is_some-clause-left : goal.returns-then-is_some-clause-left
returns-then-is_some-clause-left g c =
    let i = c.loop-turn.invariant in
    let l = after c.args.horizon c.args.snapshots.now c.args.arena.now c.loop-turn.arena c.args.place c.strand-all.result.count c.loop-turn.cursor.kept c.loop-turn._turn
    c.loop-turn.merge.successor c.loop-turn-test.false i.fronts i.count i.settled in
    l.left

pub returns-then-is_some-clause-gone : goal.returns-then-is_some-clause-gone
returns-then-is_some-clause-gone g c =
    let i = c.loop-turn.invariant in
    let l = after c.args.horizon c.args.snapshots.now c.args.arena.now c.loop-turn.arena c.args.place c.strand-all.result.count c.loop-turn.cursor.kept c.loop-turn._turn
    c.loop-turn.merge.successor c.loop-turn-test.false i.fronts i.count i.settled in
    c.from.ensures ∙ l.gone

pub returns-then-is_some-clause-stay : goal.returns-then-is_some-clause-stay
returns-then-is_some-clause-stay g c =
    let past = c.loop-turn-test.false in
    let few = c.loop-turn.invariant.few in
    let from = c.from.ensures in (
      c.loop-turn.invariant.nodes,
      λ none. c.loop-turn.invariant.same (let k : c.loop-turn.cursor.kept + (c.strand-all.result.count - c.loop-turn._turn) ≡ c.strand-all.result.count = omega
          (arith, past, few, from, none) in k),
    )

pub returns-else-is_some-clause-left : goal.returns-else-is_some-clause-left
returns-else-is_some-clause-left g c =
    let i = c.loop-turn.invariant in
    let l = after c.args.horizon c.args.snapshots.now c.args.arena.now c.loop-turn.arena c.args.place c.strand-all.result.count c.loop-turn.cursor.kept c.loop-turn._turn
    c.loop-turn.merge.successor c.loop-turn-test.false i.fronts i.count i.settled in
    l.left

pub returns-else-is_some-clause-gone : goal.returns-else-is_some-clause-gone
returns-else-is_some-clause-gone g c =
    let i = c.loop-turn.invariant in
    let l = after c.args.horizon c.args.snapshots.now c.args.arena.now c.loop-turn.arena c.args.place c.strand-all.result.count c.loop-turn.cursor.kept c.loop-turn._turn
    c.loop-turn.merge.successor c.loop-turn-test.false i.fronts i.count i.settled in
    c.from.ensures ∙ l.gone

pub returns-else-is_some-clause-stay : goal.returns-else-is_some-clause-stay
returns-else-is_some-clause-stay g c =
    let past = c.loop-turn-test.false in
    let few = c.loop-turn.invariant.few in
    let from = c.from.ensures in (
      c.loop-turn.invariant.nodes,
      λ none. c.loop-turn.invariant.same (let k : c.loop-turn.cursor.kept + (c.strand-all.result.count - c.loop-turn._turn) ≡ c.strand-all.result.count = omega
          (arith, past, few, from, none) in k),
    )

pub returns-then-is_some-clause-base_gone : goal.returns-then-is_some-clause-base_gone
returns-then-is_some-clause-base_gone g c =
    let i = c.loop-turn.invariant in
    let l = after c.args.horizon c.args.snapshots.now c.args.arena.now c.loop-turn.arena c.args.place c.strand-all.result.count c.loop-turn.cursor.kept c.loop-turn._turn
    c.loop-turn.merge.successor c.loop-turn-test.false i.fronts i.count i.settled in
    c.settle.ensures.goes ∙ ap (λ n. goes c.args.horizon c.args.snapshots.now n c.args.base) l.last
