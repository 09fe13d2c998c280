use Rattle.std.proofs.Common.{sym, subst}
use Rattle.std.specs.Prelude.{IfOk}
use Rattle.hg_rule.specs.declared.board.Board.{Board}
use Rattle.hg_rule.specs.Seats.{board_id, sizes_of}
use Rattle.hg_collectors.specs.Collecting.{AreCollectorsOf, view_in}
use Rattle.hg_collectors.specs.Rounding.{IsRoundBy}
use Rattle.hg_collectors.specs.Swept.{HasSwept}
use Rattle.hg_run.proofs.gc.round.Goals as goal

pub collect-requires-clause-own : goal.collect-requires-clause-own
collect-requires-clause-own g c κs lives = subst (λ (b : Board). AreCollectorsOf (board_id b) (sizes_of b) c.args.collectors.now) (sym c.lent_by.ensures) c.requires.own

pub returns-clause-round : goal.returns-clause-round
returns-clause-round g c = subst (λ (b : Board). IfOk c.collect.result (λ sweep. IsRoundBy c.args.kind (sizes_of b) c.args.long (view_in c.args.kind c.args.collectors.now) sweep
    (view_in c.args.kind c.collect.new.self))) c.lent_by.ensures c.collect.ensures.round

pub returns-clause-swept : goal.returns-clause-swept
returns-clause-swept g c = subst (λ (b : Board). IfOk c.collect.result (λ sweep. HasSwept c.args.kind (sizes_of b).sessions (view_in c.args.kind c.args.collectors.now) sweep
    (view_in c.args.kind c.collect.new.self))) c.lent_by.ensures c.collect.ensures.swept

pub returns-clause-own : goal.returns-clause-own
returns-clause-own g c = subst (λ (b : Board). AreCollectorsOf (board_id b) (sizes_of b) c.collect.new.self) c.lent_by.ensures c.collect.ensures.own
