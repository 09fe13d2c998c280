use Rattle.std.proofs.Common.{rules, arith, refl, sym, subst}
use Rattle.hg_rule.specs.Views.{HasPass}
use Rattle.hg_rule.proofs.Records.{samples_mask}
use Rattle.hg_rule.proofs.board.Board.sample_mask.Goals as goal

pub load-requires : goal.load-requires
load-requires c = (search rules, omega (arith, c.requires.session.last, c.args.self.now.words, c.mask_at.ensures), samples_mask _ _ _ _ _ _ c.requires.own.1 c.requires.loaded c.mask_at.ensures)

pub returns-clause-step : goal.returns-clause-step
returns-clause-step c = c.load.ensures.2.0 c.args.j c.mask_at.ensures

pub returns-clause-own : goal.returns-clause-own
returns-clause-own c = ((search rules, search rules), subst HasPass (sym (c.load.ensures.2.0 c.args.j c.mask_at.ensures)) refl)
