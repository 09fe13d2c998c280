use Rattle.std.proofs.Common.{rules}
use Rattle.hg_rule.proofs.Entrance.{probes}
use Rattle.hg_rule.proofs.board.Board.probe.Goals as goal

pub load-requires : goal.load-requires
load-requires c = (search rules, search rules, probes _ _ _ _ _ c.args.self.now.room c.requires.own.3 c.requires.declared)
