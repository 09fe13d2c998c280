use Rattle.std.proofs.Common.{rules, ap, ◌∙◌, ◌∷◌, Some}
use Rattle.atomic_table.specs.Table.{rest}
use Rattle.hg_lock.specs.Guarded.{line_of}
use Rattle.hg_lock.proofs.Steps.{releases}
use Rattle.hg_lock.proofs.locks.Locks.free.Goals as goal

pub swap-found-requires : goal.swap-found-requires
swap-found-requires g c = (
  search rules,
  search rules,
  releases (g.X.Fits.fits c.args.self.now.table.shared.key) _ _ _ _ c.args.value (search rules) (ap (λ m. m.1) c.exchange.ensures.3 ∙
      ap (λ l. (line_of c.args.loan.lock, Some c.args.value) ∷ rest l) c.args.loan.out) c.requires.fits,
)
