use Rattle.std.proofs.Common.{[], ◌∷◌, sym, arith}
use Rattle.hg_base.specs.Script.{run}
use Rattle.hg_run.specs.Words.{settings_in}
use Rattle.hg_run.proofs.Dumped.{on_text}
use Rattle.hg_run.proofs.FitsDump.{fits_with_reader}
use Rattle.hg_run.proofs.dump_text.dump_all.Goals as goal

pub returns : goal.returns
returns g c =
    let script = c.args.script.now in
    let lines = c.in_ok-ended.ended.transcript.lines in
    let totals = c.in_ok-ended.ended.totals in
    let dumps = c.run_and_read.new.dumps in
    let read = c.in_ok-ended.ensures.read in
    let most = c.requires.within.most_rounds in
    on_text (settings_in (run c.args.options.now.rounds) c.args.options.now) script lines totals dumps c.text_with.result (λ text. text.items) c.requires.lawful read
    (fits_with_reader c.args.options.now.rounds script (dumps.at ∷ []) (record { lines = lines; totals = totals }) (omega (arith, most)) c.requires.lawful read.sound)
    (c.text_with.ensures script (sym c.in_ok-ended.ensures.tables))
