use Rattle.std.proofs.Common.{◌≡◌, nat_lt, false, sym, ap, ◌∙◌, arith}
use Rattle.std.proofs.lemmas.Bool.Decides.{nat_tests}
use Rattle.hg_base.specs.Transcript.{has}
use Rattle.hg_base.proofs.Masks.{no_bit}
use Rattle.hg_base.proofs.scope.Scope.has.Goals as goal

pub returns-else-table-lt-MOST_TABLES : goal.returns-else-table-lt-MOST_TABLES
returns-else-table-lt-MOST_TABLES c =
    let over : nat_lt c.args.table.0 64 ≡ false = grind (arith, nat_tests, c.if-table-lt-MOST_TABLES.false) in
    over ∙ sym (no_bit c.in-Declared.mask c.args.table.0 (omega arith) c.if-table-lt-MOST_TABLES.false) ∙ ap (λ s. has s c.args.table) (sym c.in-Declared.is)
