use Rattle.std.proofs.Common.{◌≤◌, ◌∙◌, sym, arith}
use Rattle.std.proofs.lemmas.Bool.{ltb-false, or_parts}
use Rattle.std.specs.Prelude.{nat_lt}
use Rattle.hg_base.specs.declared.limits.TheConstants.{MOST_RECORDS}
use Rattle.hg_script.proofs.reader.take.Goals as goal

pub add-requires-clause-room : goal.add-requires-clause-room
add-requires-clause-room c =
    let few : c.args.place ≤ MOST_RECORDS = ltb-false MOST_RECORDS c.args.place (or_parts (nat_lt MOST_RECORDS c.args.place) _ (sym c.breaks_count.ensures ∙ c.if-breaks_count.false)).0 in
    omega (arith, few, c.requires.next)

pub returns-clause-most : goal.returns-clause-most
returns-clause-most c = ltb-false MOST_RECORDS c.args.place (or_parts (nat_lt MOST_RECORDS c.args.place) _ (sym c.breaks_count.ensures ∙ c.if-breaks_count.false)).0
