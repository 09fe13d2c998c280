use Rattle.std.proofs.Common.{rules, arith, sym, ap, ◌∙◌}
use Rattle.hg_rule.specs.Words.{mask_at}
use Rattle.hg_rule.proofs.Entrance.{declares}
use Rattle.hg_rule.proofs.board.Board.declare_as.Goals as goal

pub store-requires : goal.store-requires
store-requires g c = (
  search rules,
  omega (arith, c.requires.own.2.last, c.requires.own.1.0, c.args.self.now.words, c.mask_at.ensures),
  declares _ _ _ _ _ _ _ _ c.requires.own.3 c.requires.own.2 c.requires.rests c.requires.room c.requires.tables c.requires.picked (c.mask_at.ensures ∙
      ap mask_at (sym c.requires.own.1.0)) c.mask_word.ensures,
)
