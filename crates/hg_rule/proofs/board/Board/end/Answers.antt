use Rattle.std.proofs.Common.{rules, arith, sym, ap, ◌∙◌}
use Rattle.hg_rule.specs.Words.{register_at}
use Rattle.hg_rule.proofs.Lifetimes.{ends}
use Rattle.hg_rule.proofs.board.Board.end.Goals as goal

pub store-requires : goal.store-requires
store-requires c = (
  search rules,
  omega (arith, c.requires.own.2.last, c.requires.own.1.0, c.args.self.now.words, c.register_at.ensures),
  ends _ _ _ _ _ c.requires.own.3
      c.requires.own.2 c.requires.live c.requires.none (c.register_at.ensures ∙ ap register_at (sym c.requires.own.1.0)),
)
