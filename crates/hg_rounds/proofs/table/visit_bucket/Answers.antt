use Rattle.std.proofs.Common.{subst, arith}
use Rattle.hg_base.specs.declared.report.Kind.TheVariants.{Table}
use Rattle.hg_rule.specs.Places.{HoldsBucket}
use Rattle.hg_rule.specs.Seats.{sizes_of, pass_view}
use Rattle.hg_store.specs.Stores.{held_number}
use Rattle.hg_store.proofs.Holding.{total_at}
use Rattle.hg_rounds.proofs.Visiting.{visit_is, visit_few}
use Rattle.hg_rounds.specs.Cutting.{IsCutBy}
use Rattle.hg_rounds.proofs.table.visit_bucket.Goals as goal

pub cut_tables-gone-requires-clause-few : goal.cut_tables-gone-requires-clause-few
cut_tables-gone-requires-clause-few g c =
    let z = sizes_of c.board-board.result.now in
    let t = c.take-held.ensures.backed in
    let most = total_at z t.0 (held_number c.take-held.result) (pass_view c.take-held.new.pass) t.1 c.take-held.ensures.holds.has in
    omega (arith, most, c.board-board.result.now.room.begins)

pub returns-clause-visits : goal.returns-clause-visits
returns-clause-visits g c =
    let v = pass_view c.args.pass.now in
    let x = pass_view c.take-held.new.pass in
    let t = c.take-held.ensures.backed in
    visit_is Table v x c.args.b c.requires.own.1 c.take-held.ensures.view (sizes_of c.board-board.result.now) t.0 t.1
    IsCutBy (λ p r. tt) c.cut_tables-gone.result (pass_view c.cut_tables-gone.new.pass) (pass_view c.give.new.pass) c.cut_tables-gone.ensures.own.1
    c.cut_tables-gone.ensures.clears c.give.ensures.view

pub returns-clause-few : goal.returns-clause-few
returns-clause-few g c =
    let v = pass_view c.args.pass.now in
    let x = pass_view c.take-held.new.pass in
    let t = c.take-held.ensures.backed in
    let holds = subst (λ n. HoldsBucket n x) c.take-held.ensures.held.1 c.take-held.ensures.holds.has in
    visit_few Table v x c.args.b c.requires.own.1 c.take-held.ensures.view (sizes_of c.board-board.result.now) t.0 t.1
    IsCutBy (λ p r. tt) c.cut_tables-gone.result (pass_view c.cut_tables-gone.new.pass) (pass_view c.give.new.pass) c.cut_tables-gone.ensures.own.1
    c.cut_tables-gone.ensures.clears c.give.ensures.view c.board-board.result.now.room holds
