use Rattle.std.proofs.Common.{◌≡◌, ℕ, ◌+◌, ◌-◌, ◌≤◌, List, ◌++◌, length, take, drop, refl, sym, ap, ◌∙◌, arith}
use Rattle.std.proofs.lemmas.List.{length-append, length-drop, length-take-le, take-append-drop}
use Rattle.hg_chains.specs.declared.version.Version.{Version}
use Rattle.hg_chains.specs.Arenas.{tail_in}
use Rattle.hg_chains.proofs.Fronts.{fronts_stay}
use Rattle.hg_chains.proofs.Walks.{tail_many}
use Rattle.hg_chains.proofs.Settling.{one_more, none_behind}
use Rattle.hg_chains.proofs.walk.remove_rest.Goals as goal

-- how many are left of those that were there
many_left : (xs ys : List Version) (kept m : ℕ) → ys ≡ take kept xs ++ drop m xs → kept ≤ length xs → length ys ≡ kept + (length xs - m)
many_left xs ys kept m e within =
    let a = ap length e in
    let b = length-append (take kept xs) (drop m xs) in
    let f = length-take-le kept xs within in
    let d = length-drop m xs in
    omega (arith, a, b, f, d)

pub loop-version-init : goal.loop-version-init
loop-version-init c =
    let none : c.args.cursor.kept ≡ c.args.cursor.kept + 0 = omega arith in
    record {
      arena = c.requires.arena;
      at = c.requires.at;
      kept = refl;
      left = sym (take-append-drop c.args.cursor.kept (tail_in c.args.arena.now c.args.place)) ∙
          ap (λ n. take c.args.cursor.kept (tail_in c.args.arena.now c.args.place) ++ drop n (tail_in c.args.arena.now c.args.place)) none;
      fronts = λ q. refl;
      others = λ q apart. refl;
      nodes = (refl, refl);
    }

pub remove-requires-clause-some : goal.remove-requires-clause-some
remove-requires-clause-some c =
    let all = tail_many c.args.arena.now c.args.place in
    let now = tail_many c.loop-version.arena c.args.place in
    let k = c.loop-version.invariant.kept in
    let r = c.requires.many in
    let more = c.loop-version-test.true in
    let left = many_left (tail_in c.args.arena.now c.args.place) (tail_in c.loop-version.arena c.args.place) c.loop-version.cursor.kept
    (c.loop-version.cursor.kept + c.loop-version._version) c.loop-version.invariant.left (omega (arith, all, k, r)) in
    omega (arith, all, now, k, r, more, left)

pub loop-version-preserved : goal.loop-version-preserved
loop-version-preserved c =
    let old = tail_in c.args.arena.now c.args.place in
    let kept = c.loop-version.cursor.kept in
    let m = kept + c.loop-version._version in
    let all = tail_many c.args.arena.now c.args.place in
    let k = c.loop-version.invariant.kept in
    let r = c.requires.many in
    let within : kept ≤ length old = omega (arith, all, k, r) in
    let same : c.remove.new.cursor.kept ≡ kept = c.remove.ensures.kept in
    let next : m + 1 ≡ c.remove.new.cursor.kept + (c.loop-version._version + 1) = omega (arith, same) in
    record {
      arena = c.remove.ensures.arena;
      at = c.remove.ensures.at;
      kept = same ∙ k;
      left = c.remove.ensures.here ∙ ap (λ vs. take kept vs ++ drop (kept + 1) vs) c.loop-version.invariant.left ∙ one_more old kept m within ∙ (λ i. take (sym same i) old ++ drop (next i) old);
      fronts = fronts_stay c.args.arena.now c.loop-version.arena c.remove.new.self c.loop-version.invariant.fronts c.remove.ensures.fronts;
      others = λ q apart. c.remove.ensures.others q apart ∙ c.loop-version.invariant.others q apart;
      nodes = (c.remove.ensures.nodes.0 ∙ c.loop-version.invariant.nodes.0, c.remove.ensures.nodes.1 ∙ c.loop-version.invariant.nodes.1);
    }

pub returns-clause-left : goal.returns-clause-left
returns-clause-left c =
    let old = tail_in c.args.arena.now c.args.place in
    let kept = c.loop-version.cursor.kept in
    let all = tail_many c.args.arena.now c.args.place in
    let k = c.loop-version.invariant.kept in
    let r = c.requires.many in
    let done = c.loop-version-test.false in
    c.loop-version.invariant.left ∙ none_behind old kept (kept + c.loop-version._version) (omega (arith, all, k, r, done)) ∙ ap (λ n. take n old) k
