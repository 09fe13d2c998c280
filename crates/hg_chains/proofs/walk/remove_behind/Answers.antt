use Rattle.std.proofs.Common.{◌≡◌, ◌+◌, length, take, drop, ap, ◌∙◌, arith}
use Rattle.std.proofs.lemmas.List.{length-append, length-drop, length-take-le, take_at}
use Rattle.hg_chains.specs.Arenas.{tail_in}
use Rattle.hg_chains.proofs.Walks.{tail_many}
use Rattle.hg_chains.proofs.Fronts.{fronts_stay}
use Rattle.hg_chains.proofs.walk.remove_behind.Goals as goal

pub remove_rest-requires-clause-many : goal.remove_rest-requires-clause-many
remove_rest-requires-clause-many c =
    let old = tail_in c.args.arena.now c.args.place in
    let all = tail_many c.args.arena.now c.args.place in
    let now = tail_many c.remove-first.new.self c.args.place in
    let r = c.requires.others in
    let k = c.remove-first.ensures.kept in
    let e = ap length c.remove-first.ensures.here in
    let a = length-append (take c.args.cursor.kept old) (drop (c.args.cursor.kept + 1) old) in
    let f = length-take-le c.args.cursor.kept old (omega (arith, all, r)) in
    let d = length-drop (c.args.cursor.kept + 1) old in
    omega (arith, all, now, r, k, e, a, f, d)

pub returns-clause-left : goal.returns-clause-left
returns-clause-left c =
    let old = tail_in c.args.arena.now c.args.place in
    let kept = c.args.cursor.kept in
    let all = tail_many c.args.arena.now c.args.place in
    let r = c.requires.others in
    let f : length (take kept old) ≡ kept = length-take-le kept old (omega (arith, all, r)) in
    c.remove_rest.ensures.left ∙ (λ i. take (c.remove-first.ensures.kept i) (c.remove-first.ensures.here i)) ∙ take_at (take kept old) (drop (kept + 1) old) kept f

pub returns-clause-fronts : goal.returns-clause-fronts
returns-clause-fronts c = fronts_stay c.args.arena.now c.remove-first.new.self c.remove_rest.new.arena c.remove-first.ensures.fronts c.remove_rest.ensures.fronts
