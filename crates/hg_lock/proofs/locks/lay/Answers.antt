use Rattle.std.proofs.Common.{◌≡◌, ◌++◌, ◌∷◌, ◌-◌, ◌+◌, ◌∙◌, [], ap, suc, replicate, Some, None, append_assoc, arith, rules}
use Rattle.hg_lock.proofs.Values.{replicate-next}
use Rattle.hg_lock.proofs.locks.lay.Goals as goal

pub loop-turn-init : goal.loop-turn-init
loop-turn-init g c = search rules

pub loop-turn-preserved : goal.loop-turn-preserved
loop-turn-preserved g c =
    let n = c.loop-turn.turn - 1 in
    let xs = c.args.slots.now.items in
    let more : suc n ≡ c.loop-turn.turn + 1 - 1 = omega (arith, c.loop-turn.auto.turn) in
    search rules ∙ ap (λ l. l ++ None ∷ []) c.loop-turn.invariant ∙ append_assoc xs (Some c.args.value ∷ replicate n None) (None ∷ []) ∙
    ap (λ l. xs ++ Some c.args.value ∷ l) (replicate-next n None ∙ ap (λ m. replicate m None) more)

pub returns : goal.returns
returns g c =
    let all : c.loop-turn.turn - 1 ≡ 7 = search rules in
    c.loop-turn.invariant ∙ ap (λ m. c.args.slots.now.items ++ Some c.args.value ∷ replicate m None) all
