use Rattle.std.proofs.Common.{◌≡◌, ℕ, ◌+◌, ◌∙◌, suc, sym, ap, subst, arith}
use Rattle.hg_base.specs.declared.rid.Rid.{Rid}
use Rattle.hg_base.specs.declared.rid.TableId.{TableId}
use Rattle.hg_base.specs.declared.report.Kind.TheVariants.{Table}
use Rattle.hg_core.specs.Clean.{IsCutAt}
use Rattle.hg_core.specs.Passes.{IsWhole, table_bound}
use Rattle.hg_rule.specs.Facts.{record_of}
use Rattle.hg_rule.specs.Holding.{held}
use Rattle.hg_rule.specs.Views.{pass}
use Rattle.hg_rule.specs.Seats.{sizes_of, pass_view}
use Rattle.hg_rounds.specs.Tables.{ClearsTables}
use Rattle.hg_rounds.proofs.Tables.{record_still, tables_more}
use Rattle.hg_rounds.proofs.Snapshots.{whole_record}
use Rattle.hg_rounds.specs.Cutting.{IsCutBy}
use Rattle.hg_rounds.proofs.table.cut_tables.Goals as goal

abbrev at : TableId → ℕ → Rid
at t k = record { table = t; key = k }

pub cut_table-gone-requires-clause-whole : goal.cut_table-gone-requires-clause-whole
cut_table-gone-requires-clause-whole c =
    let v = pass_view c.args.pass.now in
    let same = record_still Table (IsCutBy (record_of (pass v))) c.loop-number.number c.loop-number.gone v (pass_view c.loop-number.pass) c.loop-number.invariant.0 in
    subst (IsWhole (sizes_of c.args.board.now).sessions) (sym same) (whole_record (sizes_of c.args.board.now).sessions (pass v) c.args.gathered.now c.requires.shown)

pub cut_table-gone-requires-clause-bound : goal.cut_table-gone-requires-clause-bound
cut_table-gone-requires-clause-bound c =
    let v = pass_view c.args.pass.now in
    let t : TableId = record { 0 = c.loop-number.number } in
    let same = record_still Table (IsCutBy (record_of (pass v))) c.loop-number.number c.loop-number.gone v (pass_view c.loop-number.pass) c.loop-number.invariant.0 in
    c.bound-bound.ensures _ _ c.requires.shown ∙ ap (table_bound t) (sym same)

pub loop-number-preserved : goal.loop-number-preserved
loop-number-preserved c =
    let v = pass_view c.args.pass.now in
    let w = pass_view c.loop-number.pass in
    let x = pass_view c.cut_table-gone.new.pass in
    let n = c.loop-number.number in
    let t : TableId = record { 0 = n } in
    let Q = IsCutBy (record_of (pass v)) in
    let low = c.bound-bound.ensures _ _ c.requires.shown in
    let left : (k : ℕ) → Q (at t k) (held x (at t k)) = λ k. subst (λ b. IsCutAt b (held x (at t k))) low (c.cut_table-gone.ensures.cut k) in
    let next : suc n ≡ n + 1 = omega arith in
    let more : ClearsTables Table Q (suc n) (c.loop-number.gone + c.cut_table-gone.result) v x = tables_more Table Q v w x n c.loop-number.gone c.cut_table-gone.result t
    (omega arith) c.loop-number.invariant.0 c.cut_table-gone.ensures.steps c.cut_table-gone.ensures.gone left c.cut_table-gone.ensures.left.1 in (
      subst (λ k. ClearsTables Table Q k (c.loop-number.gone + c.cut_table-gone.result) v x) next more,
      c.cut_table-gone.ensures.holds.0.1,
      c.cut_table-gone.ensures.holds.0.0,
      c.cut_table-gone.ensures.holds.1.0 ∙ c.loop-number.invariant.3,
      c.cut_table-gone.ensures.holds.1.1 ∙ c.loop-number.invariant.4,
    )
