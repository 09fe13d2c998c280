use Rattle.hg_audit.proofs.Sounding.{sound_of, of_sound}
use Rattle.hg_audit.proofs.fault.what_is_right_is_sound.Goals as goal

pub returns : goal.returns
returns c = record { sound = sound_of; right = of_sound }
