use Rattle.std.proofs.Common.{ap, sym, ◌∙◌, ◌∷◌, Some}
use Rattle.atomic_table.specs.Table.{rest}
use Rattle.hg_lock.specs.Guarded.{line_of}
use Rattle.hg_lock.proofs.locks.Locks.take.Goals as goal

pub exchange-value-requires : goal.exchange-value-requires
exchange-value-requires g c =
    let t = c.claim-seat.ensures.value in
    (c.claim-seat.ensures.list, (Some t.0, t.1 ∙ ap (λ l. (line_of c.args.lock, Some t.0) ∷ rest l) (sym t.1)))
