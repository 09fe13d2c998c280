use Rattle.std.proofs.Common.{sym}
use Rattle.std.proofs.lemmas.Result.{IfOk-weaker}
use Rattle.hg_run.proofs.run_text.run_all.Goals as goal

pub returns : goal.returns
returns g c =
    let ended = c.in_ok-ended.ended in
    let o = c.in_ok-ended.ensures in
    IfOk-weaker c.into_text.result _ _ (λ text same. record {
      printed = record { lines = ended.transcript.lines; totals = ended.totals };
      sound = o.sound;
      exact = tt;
      few = tt;
      fit = o.fit;
      one_run = o.one_run;
      same = same;
    }) (c.into_text.ensures c.args.script.now (sym o.tables))
