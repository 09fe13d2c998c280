use Rattle.std.specs.Fmt.{digits}
use Rattle.std.proofs.Common.{refl}
use Rattle.hg_script.specs.Meaning.{first_code, with_row}
use Rattle.hg_exact.specs.Conversed.{answered_from}
use Rattle.hg_exact.specs.Talk.{short_answers}
use Rattle.hg_exact.proofs.worked.short_talk_is_answered.Goals as goal

pub returns : goal.returns
unfolding answered_from digits first_code with_row
returns c = record { answers = short_answers; exact = refl; written = refl; balanced = (tt, (tt, (tt, (tt, (tt, (tt, (tt, (tt, (refl, (tt, tt)))))))))) }
