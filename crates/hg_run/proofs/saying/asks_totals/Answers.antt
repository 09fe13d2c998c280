use Rattle.std.proofs.Common.{◌≡◌, sym, ap, ◌∙◌, arith, []}
use Rattle.std.specs.Prelude.{bytes_eq}
use Rattle.csv.proofs.RecordFacts.{field-get}
use Rattle.csv.specs.Records.{fields_of}
use Rattle.hg_script.proofs.Rows.{field-none}
use Rattle.hg_run.proofs.Accepting.{asks_one}
use Rattle.hg_run.proofs.saying.asks_totals.Goals as goal

pub returns-in-Some : goal.returns-in-Some
returns-in-Some c =
    c.eq.ensures ∙ ap (λ b. bytes_eq c.in-Some.word.now b) c.as_slice.ensures
    ∙ asks_one (fields_of c.args.row.now) c.in-Some.word.now (sym c.len.ensures ∙ c.if-len-ne1.false) (sym (field-get _ _ _ (sym c.in-Some.ensures.value)))

pub returns-in-None : goal.returns-in-None
returns-in-None c = asks_one (fields_of c.args.row.now) [] (sym c.len.ensures ∙ c.if-len-ne1.false) (sym (field-none _ _ (sym c.in-None.ensures.value)))
