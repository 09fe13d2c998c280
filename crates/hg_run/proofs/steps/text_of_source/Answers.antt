use Rattle.std.proofs.Common.{rules, subst}
use Rattle.std.specs.Prelude.{IfOk}
use Rattle.std.proofs.lemmas.Result.{IfOk-weaker}
use Rattle.hg_base.specs.Script.{Script}
use Rattle.hg_run.specs.Printing.{IsPrintedFor}
use Rattle.hg_run.specs.Words.{settings_of}
use Rattle.hg_run.proofs.steps.text_of_source.Goals as goal

pub returns-clause-text : goal.returns-clause-text
returns-clause-text g c =
    let settings = settings_of c.args.options.now in
    let read = c.in_ok-script.ensures.read in
    let printed : IfOk c.map_err.result (λ text. IsPrintedFor settings c.in_ok-script.script text.items) = search rules in
    IfOk-weaker c.map_err.result _ _ (λ text p. record {
      bytes = read.bytes;
      all = read.all;
      text_for = record { valid = read.valid; printed = subst (λ (s : Script). IsPrintedFor settings s text.items) read.same p };
    }) printed
