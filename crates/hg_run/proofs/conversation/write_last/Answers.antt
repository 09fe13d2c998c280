use Rattle.std.proofs.Common.{◌++◌, ◌∙◌, ap}
use Rattle.hg_run.specs.Conversing.{totals_bytes}
use Rattle.hg_run.proofs.Conversing.{answers_failed, totals_failed}
use Rattle.hg_run.proofs.conversation.write_last.Goals as goal

pub returns-in-Err : goal.returns-in-Err
returns-in-Err g c = answers_failed _ _ _ _ c.args.text.now c.args.totals.now c.in-Err.ensures.part c.in-Err.ensures.last c.in-Err.ensures.cause.failed

pub returns : goal.returns
returns g c =
    let failed = c.in-Err-write_all.ensures in
    totals_failed _ _ _ _ _ _ c.args.text.now _ c.args.totals.now c.in-Ok.ensures.done
    (c.deref.ensures.value ∙ c.in-Ok-totals_text.ensures.text ∙ ap (λ l. l ++ totals_bytes c.args.totals.now) c.new-last.ensures.items) failed.part failed.last
    c.in-Ok.ensures.cause.later failed.cause.failed
