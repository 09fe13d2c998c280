use Rattle.hg_exact.proofs.Fits.{sound_fits}
use Rattle.hg_exact.proofs.fit.what_is_sound_fits.Goals as goal

pub returns : goal.returns
returns c = sound_fits
