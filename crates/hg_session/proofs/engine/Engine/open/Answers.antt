use Rattle.std.proofs.Common.{◌≡◌, length, sym, ap, ◌∙◌, subst, arith}
use Rattle.hg_rule.specs.declared.board.Board.{Board}
use Rattle.hg_rule.specs.declared.view.Sizes.{Sizes}
use Rattle.hg_rule.specs.New.{EachFrom, IsNewSession, IsNewPass}
use Rattle.hg_rule.specs.Seats.{board_id, sizes_of}
use Rattle.hg_session.specs.Engines.{engine_board, engine_sizes}
use Rattle.hg_session.proofs.Seating.{new_alone, opened_row}
use Rattle.hg_session.proofs.engine.Engine.open.Goals as goal

pub returns-clause-sizes : goal.returns-clause-sizes
returns-clause-sizes c = ap sizes_of c.in_ok-engine.ensures ∙ c.in_ok-board.ensures.sizes

pub returns-clause-passes : goal.returns-clause-passes
returns-clause-passes c =
    let board = c.in_ok-board.board in
    subst (λ (b : Board). IsNewPass (board_id b) 0 c.in_ok-board.seats.group × IsNewPass (board_id b) 1 c.in_ok-board.seats.table × IsNewPass (board_id b) 2 c.in_ok-board.seats.interval)
    (sym c.in_ok-engine.ensures) c.in_ok-board.ensures.passes

pub returns-clause-sessions : goal.returns-clause-sessions
returns-clause-sessions c =
    let board = c.in_ok-board.board in
    let engine = c.in_ok-engine.engine in
    let ps = c.into_vec.result.items in
    let same : engine_board engine ≡ board = c.in_ok-engine.ensures in
    let sizes : engine_sizes engine ≡ record {
      sessions = c.args.sessions;
      tables = length c.args.tables.now;
      buckets = c.args.buckets;
      quota = c.args.quota;
    } = ap sizes_of same ∙ c.in_ok-board.ensures.sizes in
    let row : EachFrom (IsNewSession (board_id (engine_board engine))) 1 ps = subst (λ (b : Board). EachFrom (IsNewSession (board_id b)) 1 ps) (sym same)
    (subst (EachFrom (IsNewSession (board_id board)) 1) (sym c.into_vec.ensures) c.in_ok-board.ensures.sessions.1) in
    let count : length ps ≡ c.args.sessions = ap length c.into_vec.ensures ∙ c.in_ok-board.ensures.sessions.0 in
    let quota : (engine_sizes engine).quota ≡ c.args.quota = ap (λ (z : Sizes). z.quota) sizes in
    let sessions : (engine_sizes engine).sessions ≡ c.args.sessions = ap (λ (z : Sizes). z.sessions) sizes in
    opened_row engine c.args.alloc c.args.quota ps _ (c.from.ensures ∙ c.in-Ok.ensures) (omega (arith, quota)) (omega (arith, count, sessions)) row

pub returns-clause-alone : goal.returns-clause-alone
returns-clause-alone c =
    let board = c.in_ok-board.board in
    let passes = subst (λ (b : Board). IsNewPass (board_id b) 0 c.in_ok-board.seats.group × IsNewPass (board_id b) 1 c.in_ok-board.seats.table × IsNewPass (board_id b) 2 c.in_ok-board.seats.interval)
    (sym c.in_ok-engine.ensures) c.in_ok-board.ensures.passes in
    record { group = new_alone _ 0 _ passes.0; table = new_alone _ 1 _ passes.1; interval = new_alone _ 2 _ passes.2 }
