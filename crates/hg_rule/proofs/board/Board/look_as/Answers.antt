use Rattle.hg_rule.proofs.Lent.{has_words, lent}
use Rattle.hg_rule.proofs.Evidence.{looks}
use Rattle.hg_rule.proofs.board.Board.look_as.Goals as goal

pub load-requires : goal.load-requires
load-requires g c = ((lent _ _ _ c.seat.ensures.now c.requires.own).0, has_words c.args.self.now, looks _ _ _ _ _ c.requires.sizes)
