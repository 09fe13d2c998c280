use Rattle.std.proofs.Common.{◌<◌, ◌∙◌, length, ap, arith}
use Rattle.std.specs.List.{flat_map}
use Rattle.hg_base.specs.declared.line.Line.{Line}
use Rattle.hg_base.specs.Text.{line_records}
use Rattle.hg_known.proofs.Walking.{AtLine, at_line}
use Rattle.hg_audit.proofs.Placing.{records_next, same_before}
use Rattle.hg_audit.proofs.verdict.count_before.Goals as goal

pub loop-k-preserved : goal.loop-k-preserved
loop-k-preserved c =
    λ tables.
    let xs = c.args.lines.now in
    let k = c.loop-k.k in
    let line : Line = c.index-lines-k.result in
    let less : k < length xs = omega (arith, c.min-k-end.ensures) in
    let at : AtLine xs k line = at_line xs k line less c.index-lines-k.is in
    let next = records_next tables xs k line at in
    let here = c.count_records.ensures tables in
    let was = c.loop-k.invariant tables in
    let sum = c.in-Some.ensures in
    omega (arith, next, here, was, sum.1)

pub returns : goal.returns
returns c =
    λ tables. c.loop-k.invariant tables ∙ ap (λ ys. length (flat_map (line_records tables) ys))
    (same_before c.args.lines.now c.loop-k.k c.args.many (omega (arith, c.min-k-end.ensures)) (λ less. omega (arith, c.min-k-end.ensures, less)))
