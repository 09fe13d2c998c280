use Rattle.std.proofs.Common.{◌≡◌, ◌++◌, ◌∷◌, ◌∙◌, [], ap, sym, append_assoc, rules}
use Rattle.hg_lock.specs.Guarded.{spread}
use Rattle.hg_lock.proofs.Values.{spread-append}
use Rattle.hg_lock.proofs.locks.lines.Goals as goal

pub loop-value-preserved : goal.loop-value-preserved
loop-value-preserved g c =
    let xs = c.loop-value.yielded in
    let rest : c.loop-value.value-iterator.rest.items ≡ c.in-Some.value ∷ c.next.new.self.rest.items = search rules in
    let told : c.lay.new.slots.items ≡ c.loop-value.slots.items ++ spread (c.in-Some.value ∷ []) = search rules in (
      told ∙ ap (λ l. l ++ spread (c.in-Some.value ∷ [])) c.loop-value.invariant.0 ∙ sym (spread-append xs (c.in-Some.value ∷ [])),
      c.loop-value.invariant.1 ∙ ap (λ r. xs ++ r) rest ∙ sym (append_assoc xs (c.in-Some.value ∷ []) c.next.new.self.rest.items),
    )
