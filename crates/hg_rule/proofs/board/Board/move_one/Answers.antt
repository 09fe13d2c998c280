use Rattle.std.proofs.Common.{rules, arith, ap, ◌∙◌, subst, ◌≡◌, ◌==◌, ℕ}
use Rattle.hg_core.specs.Words.{number_of, word_of, register_of}
use Rattle.hg_rule.specs.Steps.{Moves}
use Rattle.hg_rule.specs.Seats.{pass_view}
use Rattle.hg_rule.proofs.Exchange.{tries_register, own_tried}
use Rattle.hg_rule.proofs.Registers.{word_back}
use Rattle.hg_rule.proofs.board.Board.move_one.Goals as goal

pub compare_exchange-found-requires : goal.compare_exchange-found-requires
compare_exchange-found-requires c = (
  search rules,
  omega (arith, c.requires.session.last, c.args.self.now.words, c.register_at.ensures),
  tries_register _ _ _ _ _ _ _ _ _ c.args.self.now.room c.requires.own.1 c.requires.session c.requires.movable.0 c.requires.movable.1 c.requires.loaded c.register_at.ensures
      c.word-unmoved.ensures (c.word.ensures ∙ ap word_of c.moved.ensures),
)

moved_or_not : (c : goal.After-compare_exchange-found) → Moves (pass_view c.args.pass.now) c.args.j (number_of c.args.from)
    (c.compare_exchange-found.result == c.word-unmoved.result) c.compare_exchange-found.new.seat.me.0
moved_or_not c =
    let old : ℕ = c.word-unmoved.result in
    let says : number_of (register_of old) ≡ number_of c.args.from = ap (λ x. number_of (register_of x)) c.word-unmoved.ensures ∙ ap number_of (word_back c.args.from c.requires.movable.1) in
    subst (λ k. Moves (pass_view c.args.pass.now) c.args.j k (c.compare_exchange-found.result == old) c.compare_exchange-found.new.seat.me.0) says
    (c.compare_exchange-found.ensures.2.0 c.args.j c.register_at.ensures)

pub returns-clause-step : goal.returns-clause-step
returns-clause-step c = moved_or_not c

pub returns-clause-own : goal.returns-clause-own
returns-clause-own c = ((search rules, search rules), own_tried (c.compare_exchange-found.result == c.word-unmoved.result) _ _ _ _ c.requires.own.1 (moved_or_not c))
