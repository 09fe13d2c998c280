use Rattle.std.proofs.Common.{subst, arith}
use Rattle.hg_base.specs.declared.report.Kind.TheVariants.{Interval}
use Rattle.hg_core.specs.Passes.{PassRecord}
use Rattle.hg_rule.specs.declared.board.Board.{Board}
use Rattle.hg_rule.specs.Facts.{record_of}
use Rattle.hg_rule.specs.Places.{HoldsBucket}
use Rattle.hg_rule.specs.Views.{pass}
use Rattle.hg_rule.specs.Seats.{sizes_of, pass_view}
use Rattle.hg_store.specs.Stores.{held_number}
use Rattle.hg_store.proofs.Holding.{total_at}
use Rattle.hg_rounds.proofs.Visiting.{record_taken, visit_is, visit_few}
use Rattle.hg_rounds.specs.Sweeping.{IsCleanBy}
use Rattle.hg_rounds.specs.Costs.{SpendsTables, VisitCosts}
use Rattle.hg_rounds.proofs.interval.visit_bucket.Goals as goal

pub sweep_tables-gone-requires-clause-few : goal.sweep_tables-gone-requires-clause-few
sweep_tables-gone-requires-clause-few g c =
    let z = sizes_of c.board-board.result.now in
    let t = c.take-held.ensures.backed in
    let most = total_at z t.0 (held_number c.take-held.result) (pass_view c.take-held.new.pass) t.1 c.take-held.ensures.holds.has in
    omega (arith, most, c.board-board.result.now.room.begins)

pub returns-clause-visits : goal.returns-clause-visits
returns-clause-visits g c =
    let v = pass_view c.args.pass.now in
    let x = pass_view c.take-held.new.pass in
    let t = c.take-held.ensures.backed in
    visit_is Interval v x c.args.b c.requires.own.1 c.take-held.ensures.view (sizes_of c.board-board.result.now) t.0 t.1
    IsCleanBy (λ p r. tt) c.sweep_tables-gone.result (pass_view c.sweep_tables-gone.new.pass) (pass_view c.give.new.pass) c.sweep_tables-gone.ensures.own.1
    c.sweep_tables-gone.ensures.clears c.give.ensures.view

pub returns-clause-few : goal.returns-clause-few
returns-clause-few g c =
    let v = pass_view c.args.pass.now in
    let x = pass_view c.take-held.new.pass in
    let t = c.take-held.ensures.backed in
    let holds = subst (λ n. HoldsBucket n x) c.take-held.ensures.held.1 c.take-held.ensures.holds.has in
    visit_few Interval v x c.args.b c.requires.own.1 c.take-held.ensures.view (sizes_of c.board-board.result.now) t.0 t.1
    IsCleanBy (λ p r. tt) c.sweep_tables-gone.result (pass_view c.sweep_tables-gone.new.pass) (pass_view c.give.new.pass) c.sweep_tables-gone.ensures.own.1
    c.sweep_tables-gone.ensures.clears c.give.ensures.view c.board-board.result.now.room holds

pub returns-clause-cost : goal.returns-clause-cost
returns-clause-cost g c =
    let v = pass_view c.args.pass.now in
    let x = pass_view c.take-held.new.pass in
    let t = c.take-held.ensures.backed in
    let same = record_taken Interval v x c.args.b c.requires.own.1 c.take-held.ensures.view in
    let z = c.board-board.result.now in
    subst (λ (b : Board). VisitCosts (sizes_of b) (record_of (pass v)) c.args.b c.args.steps.now c.sweep_tables-gone.new.steps) c.board-board.ensures record {
      taken = x;
      holds = subst (λ n. HoldsBucket n x) c.take-held.ensures.held.1 c.take-held.ensures.holds.has;
      mark = t.0;
      backed = t.1;
      spends = subst (λ (p : PassRecord). SpendsTables (sizes_of z).tables p x c.args.steps.now c.sweep_tables-gone.new.steps) same c.sweep_tables-gone.ensures.cost;
    }
