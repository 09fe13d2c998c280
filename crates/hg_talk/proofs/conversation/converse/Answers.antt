use Rattle.std.proofs.Common.{arith}
use Rattle.hg_talk.proofs.Talking.{going_first}
use Rattle.hg_talk.proofs.conversation.converse.Goals as goal

pub loop-init : goal.loop-init
loop-init g c = record { going = going_first _ _ _ _ c.requires.new c.requires.unheard c.new-framer.ensures c.requires.none; ready = c.requires.ready; later = omega arith }
