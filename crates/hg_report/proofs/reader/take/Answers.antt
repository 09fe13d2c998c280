use Rattle.std.proofs.Common.{◌≡◌, ◌∙◌, Some, refl, sym}
use Rattle.hg_report.specs.Progress.{guess_after}
use Rattle.hg_report.specs.Fields.{fields_of}
use Rattle.hg_report.proofs.Taking.{takes_none, total_below}
use Rattle.hg_report.proofs.reader.take.Goals as goal

pub returns-in-Ok-None : goal.returns-in-Ok-None
returns-in-Ok-None c =
    let guess : Some c.in-Some.piece ≡ guess_after c.args.script.now c.args.progress.now.last (fields_of c.args.row.now) = sym c.in-Some.is ∙ c.in_ok-piece.ensures in
    takes_none c.args.script.now c.args.progress.now c.args.progress.now (fields_of c.args.row.now) c.args.bytes.now _ c.in-Some.piece guess refl
    (rw c.in-Ok-None.field-0-is at c.in-Ok-None.ensures)

pub take-requires : goal.take-requires
take-requires c = total_below c.args.script.now c.args.progress.now.last (fields_of c.args.row.now) c.in-Some.piece (sym c.in-Some.is ∙ c.in_ok-piece.ensures)

pub returns-in-Ok-Some : goal.returns-in-Ok-Some
returns-in-Ok-Some c =
    let guess : Some c.in-Some.piece ≡ guess_after c.args.script.now c.args.progress.now.last (fields_of c.args.row.now) = sym c.in-Some.is ∙ c.in_ok-piece.ensures in
    (c.in-Some.piece, sym guess, rw c.in-Ok-Some.field-0-is at c.in-Ok-Some.ensures, c.in_ok-take-in-Ok-Some.ensures)
