use Rattle.std.proofs.Common.{rules, arith, sym, ap, ◌∙◌, false}
use Rattle.hg_core.specs.declared.register.Register.TheVariants.{Live}
use Rattle.hg_core.specs.Words.{word_of}
use Rattle.hg_rule.specs.Words.{register_at}
use Rattle.hg_rule.proofs.Lifetimes.{goes_live}
use Rattle.hg_rule.proofs.board.Board.go_live.Goals as goal

pub store-requires : goal.store-requires
store-requires c = (
  search rules,
  omega (arith, c.requires.own.2.last, c.requires.own.1.0, c.args.self.now.words, c.register_at.ensures),
  goes_live _ _ _ _ _ _ _ _ _
      c.requires.own.3 c.requires.own.2 c.requires.fixed.0 (c.register_at.ensures ∙ ap register_at (sym c.requires.own.1.0)) (c.word.ensures ∙
      ap (λ b. word_of (Live c.args.m b false)) c.is_declared.ensures),
)
