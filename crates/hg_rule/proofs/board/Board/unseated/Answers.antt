use Rattle.std.proofs.Common.{rules, ◌≡◌, ℕ, List, [], replicate, sym, subst}
use Rattle.atomic_table.specs.Table.{opening}
use Rattle.hg_rule.specs.Words.{words_for}
use Rattle.hg_rule.specs.Rules.{Rule}
use Rattle.hg_rule.specs.Moves.{first_view}
use Rattle.hg_rule.proofs.Opening.{opens}
use Rattle.hg_rule.proofs.board.Board.unseated.Goals as goal

pub of_words-requires : goal.of_words-requires
of_words-requires c =
    let e : c.as_slice.result.now ≡ replicate (words_for c.args.sizes.now.sessions) 0 = search rules in
    subst (λ (ws : List ℕ). Rule c.args.sizes.now (opening ws [] (first_view c.args.sizes.now))) (sym e) (opens c.args.sizes.now)
