use Rattle.std.proofs.Common.{◌≡◌, ℕ, ◌+◌, ◌∙◌, suc, length, sym, ap, subst, arith}
use Rattle.hg_base.specs.declared.rid.Rid.{Rid}
use Rattle.hg_base.specs.declared.rid.TableId.{TableId}
use Rattle.hg_base.specs.declared.report.Kind.TheVariants.{Interval}
use Rattle.hg_core.specs.Clean.{IsClean}
use Rattle.hg_core.specs.Passes.{horizon, PassRecord, IsWhole, recorded}
use Rattle.hg_rule.specs.Facts.{record_of}
use Rattle.hg_rule.specs.Holding.{held}
use Rattle.hg_rule.specs.Views.{pass}
use Rattle.hg_rule.specs.Seats.{sizes_of, pass_view}
use Rattle.hg_tracker.specs.Entries.{times}
use Rattle.hg_rounds.specs.Tables.{ClearsTables}
use Rattle.hg_rounds.proofs.Tables.{record_still, tables_more}
use Rattle.hg_rounds.proofs.Snapshots.{have_same, same_length, whole_record}
use Rattle.hg_rounds.specs.Sweeping.{IsCleanBy}
use Rattle.hg_rounds.specs.Costs.{SpendsTables}
use Rattle.hg_rounds.proofs.Spending.{spends_more}
use Rattle.hg_rounds.proofs.interval.sweep_tables.Goals as goal

abbrev at : TableId → ℕ → Rid
at t k = record { table = t; key = k }

pub sweep-gone-requires-clause-whole : goal.sweep-gone-requires-clause-whole
sweep-gone-requires-clause-whole g c =
    let v = pass_view c.args.pass.now in
    let same = record_still Interval (IsCleanBy (record_of (pass v))) c.loop-number.number c.loop-number.gone v (pass_view c.loop-number.pass) c.loop-number.invariant.0 in
    subst (IsWhole (sizes_of c.args.board.now).sessions) (sym same) (whole_record (sizes_of c.args.board.now).sessions (pass v) c.args.gathered.now c.requires.shown)

pub sweep-gone-requires-clause-gathered : goal.sweep-gone-requires-clause-gathered
sweep-gone-requires-clause-gathered g c =
    let v = pass_view c.args.pass.now in
    let t : TableId = record { 0 = c.loop-number.number } in
    let same = record_still Interval (IsCleanBy (record_of (pass v))) c.loop-number.number c.loop-number.gone v (pass_view c.loop-number.pass) c.loop-number.invariant.0 in (
      c.horizon-horizon.ensures _ _ c.requires.shown ∙ ap horizon (sym same),
      c.for_table-snapshots.ensures.rises _ _ c.requires.shown,
      have_same c.for_table-snapshots.result.now (recorded t (record_of (pass (pass_view c.loop-number.pass)))) (λ n. c.for_table-snapshots.ensures.numbers _ _ c.requires.shown n ∙
          ap (λ p. times n (recorded t p)) (sym same)),
    )

pub loop-number-preserved : goal.loop-number-preserved
loop-number-preserved g c =
    let v = pass_view c.args.pass.now in
    let w = pass_view c.loop-number.pass in
    let x = pass_view c.sweep-gone.new.pass in
    let n = c.loop-number.number in
    let t : TableId = record { 0 = n } in
    let Q = IsCleanBy (record_of (pass v)) in
    let same = record_still Interval Q n c.loop-number.gone v w c.loop-number.invariant.0 in
    let low = c.horizon-horizon.ensures _ _ c.requires.shown in
    let left : (k : ℕ) → Q (at t k) (held x (at t k)) = λ k. subst (λ (p : ℕ × PassRecord). IsClean p.0 (recorded t p.1) (held x (at t k))) (λ i. (low i, same i)) (c.sweep-gone.ensures.clean k) in
    let next : suc n ≡ n + 1 = omega arith in
    let xs = c.for_table-snapshots.result.now in
    let many = same_length xs (recorded t (record_of (pass v))) (c.for_table-snapshots.ensures.numbers _ _ c.requires.shown) in
    let cost = spends_more (record_of (pass v)) v w n (length xs) c.args.steps.now c.loop-number.steps c.sweep-gone.new.steps t
    (omega arith) many c.loop-number.invariant.5 c.loop-number.invariant.0.rest c.sweep-gone.ensures.spends in
    let more : ClearsTables Interval Q (suc n) (c.loop-number.gone + c.sweep-gone.result) v x = tables_more Interval Q v w x n c.loop-number.gone c.sweep-gone.result t
    (omega arith) c.loop-number.invariant.0 c.sweep-gone.ensures.steps c.sweep-gone.ensures.gone left c.sweep-gone.ensures.left.1 in (
      subst (λ k. ClearsTables Interval Q k (c.loop-number.gone + c.sweep-gone.result) v x) next more,
      c.sweep-gone.ensures.holds.0.1,
      c.sweep-gone.ensures.holds.0.0,
      c.sweep-gone.ensures.holds.1.0 ∙ c.loop-number.invariant.3,
      c.sweep-gone.ensures.holds.1.1 ∙ c.loop-number.invariant.4,
      subst (λ k. SpendsTables k (record_of (pass v)) v c.args.steps.now c.sweep-gone.new.steps) next cost,
    )
