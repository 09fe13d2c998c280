use Rattle.std.proofs.Common.{rules}
use Rattle.hg_rule.proofs.Shifts.{gives_second}
use Rattle.hg_rule.proofs.Handing.{may_lend}
use Rattle.hg_rule.proofs.board.Board.hand_over.Goals as goal

pub load-mark-requires : goal.load-mark-requires
load-mark-requires c = (search rules, search rules, may_lend _ _ _ _ c.args.self.now.room c.requires.own.3)

pub split_seat-seat-requires : goal.split_seat-seat-requires
split_seat-seat-requires c = (search rules, search rules, gives_second _ _ _)
