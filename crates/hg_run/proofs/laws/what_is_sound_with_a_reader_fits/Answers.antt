use Rattle.hg_run.proofs.FitsDump.{fits_with_reader}
use Rattle.hg_run.proofs.laws.what_is_sound_with_a_reader_fits.Goals as goal

pub returns : goal.returns
returns c = fits_with_reader
