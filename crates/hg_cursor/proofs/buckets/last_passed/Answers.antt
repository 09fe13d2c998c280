use Rattle.std.proofs.Common.{◌≡◌, ◌-◌, ◌≤◌, false, sym, ap, ◌∙◌, rules, arith}
use Rattle.std.specs.Prelude.{length, nat_lt, if◌then◌else◌, slice_get, Some}
use Rattle.std.proofs.lemmas.Bool.Decides.{nat_tests}
use Rattle.std.proofs.lemmas.Option.{slice_get_within}
use Rattle.hg_base.specs.Transcript.{last_key}
use Rattle.hg_cursor.proofs.Cutting.{last_got}
use Rattle.hg_cursor.proofs.buckets.last_passed.Goals as goal

pub returns-in-Some : goal.returns-in-Some
returns-in-Some c =
    let got : slice_get c.args.rows.now (length c.args.rows.now - 1) ≡ Some c.in-Some.row.now = search rules in
    let within = slice_get_within c.args.rows.now (length c.args.rows.now - 1) c.in-Some.row.now got in
    let many : c.args.most ≤ length c.args.rows.now = search rules in
    let test : nat_lt (length c.args.rows.now) c.args.most ≡ false = grind (arith, nat_tests, many) in
    sym (ap (λ b. if b then c.args.high else last_key c.args.high c.args.rows.now) test ∙ last_got c.args.high c.args.rows.now (length c.args.rows.now - 1) c.in-Some.row.now
    (omega (arith, within)) got)
