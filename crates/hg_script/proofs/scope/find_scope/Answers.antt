use Rattle.std.proofs.Common.{◌≡◌, ◌∙◌, ◌<◌, ◌≤◌, ap, sym, arith, rules, None, Some, option_map, length}
use Rattle.std.proofs.lemmas.Nat.{one_shl}
use Rattle.csv.specs.Records.{fields_of}
use Rattle.hg_base.specs.declared.scope.Scope.TheVariants.{Declared}
use Rattle.hg_script.specs.Draft.{table_named}
use Rattle.hg_script.specs.Fields.{nth}
use Rattle.hg_script.proofs.Scopes.{by-set, named-all, named-more, named-none}
use Rattle.hg_script.proofs.scope.find_scope.Goals as goal

pub returns-in_err-table : goal.returns-in_err-table
returns-in_err-table c =
    let r = fields_of c.args.row.now in
    let at : c.loop-i.i < length r = omega (arith, c.loop-i-test.true, c.len-i-end.ensures) in
    let named : table_named c.args.tables.now (nth r c.loop-i.i) ≡ None = sym (c.find.ensures.found ∙ ap (table_named c.args.tables.now) c.field.ensures) ∙ c.in_err-table.was in
    let none = named-none c.args.tables.now r c.loop-i.i (Some c.loop-i.mask) _ at named c.loop-i.invariant in
    let is : c.from_residual.result ≡ None = search rules in
    is ∙ sym (by-set c.args.tables.now r (omega (arith, at, c.loop-i.auto.i)) ∙ ap (option_map Declared) none)

pub loop-i-preserved : goal.loop-i-preserved
loop-i-preserved c =
    let r = fields_of c.args.row.now in
    let at : c.loop-i.i < length r = omega (arith, c.loop-i-test.true, c.len-i-end.ensures) in
    let named : table_named c.args.tables.now (nth r c.loop-i.i) ≡ Some c.in_ok-table.table = sym (c.find.ensures.found ∙ ap (table_named c.args.tables.now) c.field.ensures) ∙ c.in_ok-table.was in
    let below : c.in_ok-table.table.0 < 64 = omega (arith, c.in_ok-table.ensures.bound, c.in_ok-table.ensures.most) in
    rw (one_shl c.in_ok-table.table.0 64 below) (rw named at (named-more c.args.tables.now r c.loop-i.i (Some c.loop-i.mask) _ at c.loop-i.invariant))

pub returns : goal.returns
returns c =
    let r = fields_of c.args.row.now in
    let end : length r ≤ c.loop-i.i = omega (arith, c.loop-i-test.false, c.len-i-end.ensures) in
    let some : 2 < length r = omega (arith, c.requires.some, c.if-len-eq2.false, c.len.ensures) in
    sym (by-set c.args.tables.now r some ∙ ap (option_map Declared) (named-all c.args.tables.now r c.loop-i.i (Some c.loop-i.mask) _ end c.loop-i.invariant))
