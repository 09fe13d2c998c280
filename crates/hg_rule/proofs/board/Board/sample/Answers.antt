use Rattle.std.proofs.Common.{rules, arith, refl, sym, subst}
use Rattle.hg_rule.specs.Steps.{Samples}
use Rattle.hg_rule.specs.Views.{HasPass}
use Rattle.hg_rule.specs.Seats.{pass_view}
use Rattle.hg_rule.proofs.Records.{samples}
use Rattle.hg_rule.proofs.board.Board.sample.Goals as goal

pub load-word-requires : goal.load-word-requires
load-word-requires c = (
  search rules,
  omega (arith, c.requires.session.last, c.args.self.now.words, c.register_at.ensures),
  samples _ _ _ _ _ _ c.args.self.now.room
      c.requires.own.1 c.requires.session c.requires.fresh c.register_at.ensures,
)

loaded : (c : goal.After-from_word) → Samples (pass_view c.args.pass.now) c.args.j c.from_word.result c.load-word.new.seat.me.0
loaded c = subst (λ register. Samples (pass_view c.args.pass.now) c.args.j register c.load-word.new.seat.me.0) (sym c.from_word.ensures) (c.load-word.ensures.2.0 c.args.j c.register_at.ensures)

pub returns-clause-step : goal.returns-clause-step
returns-clause-step c = loaded c

pub returns-clause-own : goal.returns-clause-own
returns-clause-own c = ((search rules, search rules), subst HasPass (sym (loaded c)) refl)
