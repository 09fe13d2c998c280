use Rattle.std.proofs.Common.{◌≡◌, ◌==◌, false, arith}
use Rattle.std.proofs.lemmas.Bool.Decides.{nat_tests}
use Rattle.hg_report.specs.Fields.{fields_of, session_in}
use Rattle.hg_report.proofs.guess.head_guess.Goals as goal

pub returns : goal.returns
returns c =
    let fields = fields_of c.args.row.now in
    let session = c.session_in-session.ensures in
    let other : (session_in fields 0 == 0) ≡ false = grind (arith, nat_tests, session, c.if-session-eq0.false) in
    rw other (rw (session, c.natural_at-place.ensures) at c.reply_guess.ensures)
