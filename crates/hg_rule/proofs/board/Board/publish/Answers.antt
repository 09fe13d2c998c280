use Rattle.std.proofs.Common.{rules}
use Rattle.hg_rule.proofs.Publication.{may_publish}
use Rattle.hg_rule.proofs.board.Board.publish.Goals as goal

pub store-requires : goal.store-requires
store-requires c = (search rules, search rules, may_publish _ _ _ _ _ c.args.self.now.room c.requires.own.3 c.requires.held c.requires.received c.requires.next c.requires.may)
