use Rattle.std.proofs.Common.{◌≡◌, refl, rules, arith}
use Rattle.hg_lock.proofs.Steps.{swaps}
use Rattle.hg_lock.proofs.locks.Locks.seize.Goals as goal

pub swap_new_seat-found-requires : goal.swap_new_seat-found-requires
swap_new_seat-found-requires g c = (
  search rules,
  swaps (g.X.Fits.fits c.args.self.now.table.shared.key)
      (λ v. v.left ≡ c.args.word) _ _ _ record { tag = c.args.self.now.table.shared.key; found = 0; left = c.args.word } refl (omega (arith, c.requires.lock, c.args.self.now.slots)) c.requires.held,
)
