use Rattle.std.proofs.Common.{◌≡◌, ◌≢◌, ◌-◌, ◌∙◌, ap, sym, drop, length, length-drop, true, arith}
use Rattle.csv.specs.Records.{fields_of}
use Rattle.std.specs.List.{list_all}
use Rattle.hg_script.specs.declared.values.Values.TheVariants.{Bad}
use Rattle.hg_script.specs.Typed.{holds_numbers, or_bad}
use Rattle.hg_script.proofs.Typed.{bad-many, typed-numbers}
use Rattle.hg_script.proofs.values.Values.read_typed.Goals as goal

pub returns-then-count-kinds : goal.returns-then-count-kinds
returns-then-count-kinds c =
    let fields = drop 4 (fields_of c.args.row.now) in
    let many : length fields ≡ c.len-count.result - 4 = omega (arith, length-drop 4 (fields_of c.args.row.now), c.len-count.ensures) in
    let other : length fields ≢ length c.args.kinds.now = λ e. c.if-count-kinds.true (sym many ∙ e) in
    ap Bad (sym many) ∙ sym (bad-many c.args.kinds.now fields other)

pub returns-then-hold_numbers : goal.returns-then-hold_numbers
returns-then-hold_numbers c =
    let fields = drop 4 (fields_of c.args.row.now) in
    let count : length fields ≡ c.len-count.result - 4 = omega (arith, length-drop 4 (fields_of c.args.row.now), c.len-count.ensures) in
    let many : length fields ≡ length c.args.kinds.now = count ∙ c.if-count-kinds.false in
    let all : list_all holds_numbers c.args.kinds.now ≡ true = sym c.if-hold_numbers.ensures in
    c.or_bad.ensures ∙ ap (λ n. or_bad n c.in_ok-read_numbers.field-0) (sym count) ∙ ap (or_bad (length fields)) c.in_ok-read_numbers.ensures ∙ sym (typed-numbers c.args.kinds.now fields all many)
