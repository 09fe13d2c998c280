use Rattle.std.proofs.Common.{◌≡◌, ◌<◌, ◌∙◌, sym, subst, arith, length, min}
use Rattle.std.proofs.lemmas.Bool.Decides.{nat_tests}
use Rattle.hg_base.specs.Shape.{IsLineOf}
use Rattle.hg_decide.specs.Audit.{FirstOutOfShape}
use Rattle.hg_base.proofs.ListFacts.{false_true}
use Rattle.hg_audit.proofs.Shaping.{Fit, first_wrong, all_fit, one_missing, fit_more, line_at, at_line_of}
use Rattle.hg_audit.proofs.shape.first_out_of_shape.Goals as goal

pub returns-then-not-is_line_of : goal.returns-then-not-is_line_of
returns-then-not-is_line_of c =
    let records = c.args.records.now in
    let lines = c.args.lines.now in
    let k = c.loop-k.k in
    let less : k < length records = omega (arith, c.min-count.ensures, c.len.ensures) in
    let short : k < length lines = omega (arith, c.min-count.ensures, c.len.ensures) in
    first_wrong records lines k less short c.loop-k.invariant
    (λ r line is. false_true (sym c.if-not-is_line_of.true ∙ c.is_line_of.ensures.1
    (subst (IsLineOf c.in_ok-asked.asked) (sym c.index-lines-k.is) (at_line_of records lines k c.in_ok-asked.asked c.index-lines-k.result r line less short c.in_ok-asked.ensures is))))

pub loop-k-preserved : goal.loop-k-preserved
loop-k-preserved c =
    let records = c.args.records.now in
    let lines = c.args.lines.now in
    let k = c.loop-k.k in
    let less : k < length records = omega (arith, c.min-count.ensures, c.len.ensures) in
    let short : k < length lines = omega (arith, c.min-count.ensures, c.len.ensures) in
    fit_more records lines k c.loop-k.invariant
    (λ r line. line_at records lines k c.in_ok-asked.asked c.index-lines-k.result r line less short c.in_ok-asked.ensures
    (subst (IsLineOf c.in_ok-asked.asked) c.index-lines-k.is (c.is_line_of.ensures.0 c.if-not-is_line_of.false)))

pub returns-then-len-lines : goal.returns-then-len-lines
returns-then-len-lines c =
    let records = c.args.records.now in
    let lines = c.args.lines.now in
    let same : length records ≡ length lines = let h = c.if-len-lines.true in let many = c.len-2.ensures in grind (arith, nat_tests, h, many) in
    let done : c.loop-k.k ≡ length records = omega (arith, same, c.min-count.ensures) in
    all_fit records lines same (subst (Fit records lines) done c.loop-k.invariant)

pub returns : goal.returns
returns c =
    let records = c.args.records.now in
    let lines = c.args.lines.now in
    let done : c.loop-k.k ≡ min (length records) (length lines) = omega (arith, c.min-count.ensures, c.len.ensures) in
    let count : min (length records) (length lines) ≡ c.min-count.result = omega (arith, c.min-count.ensures, c.len.ensures) in
    subst (FirstOutOfShape records lines) count
    (one_missing records lines (λ e. let h = c.if-len-lines.false in let many = c.len-2.ensures in let same = e in grind (arith, nat_tests, h, many, same))
    (subst (Fit records lines) done c.loop-k.invariant))
