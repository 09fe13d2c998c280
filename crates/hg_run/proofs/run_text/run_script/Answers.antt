use Rattle.std.proofs.Common.{arith, ℕ}
use Rattle.std.proofs.lemmas.Result.{IfOk-weaker}
use Rattle.hg_base.specs.Script.{run}
use Rattle.hg_exact.proofs.Fits.{sound_fits}
use Rattle.hg_run.specs.Words.{settings_in}
use Rattle.hg_run.proofs.Closing.{run_one, run_sound}
use Rattle.hg_run.proofs.run_text.run_script.Goals as goal

pub returns-clause-sound : goal.returns-clause-sound
returns-clause-sound g c =
    let o = c.args.options.now in
    IfOk-weaker c.run_crew-ended.result _ _ (λ e h. run_sound (settings_in (run o.rounds) o) o.rounds c.args.script.now c.requires.lawful c.in_ok-engine.engine c.in_ok-engine.crew.sessions.items
    c.in_ok-engine.crew.collectors c.in_ok-engine.ensures.opened e.transcript.lines e.totals h) c.run_crew-ended.ensures.ended

pub returns-clause-fit : goal.returns-clause-fit
returns-clause-fit g c =
    let rounds : ℕ = c.args.options.now.rounds in
    let most = c.requires.within.most_rounds in
    IfOk-weaker c.run_crew-ended.result _ _ (λ o. sound_fits (run rounds) c.args.script.now (record { lines = o.transcript.lines; totals = o.totals }) (omega (arith, most))
    c.requires.lawful) (returns-clause-sound g c)

pub returns-clause-one_run : goal.returns-clause-one_run
returns-clause-one_run g c =
    let o = c.args.options.now in
    IfOk-weaker c.run_crew-ended.result _ _ (λ e h. run_one (settings_in (run o.rounds) o) o.rounds c.args.script.now c.requires.lawful c.in_ok-engine.engine c.in_ok-engine.crew.sessions.items
    c.in_ok-engine.crew.collectors c.in_ok-engine.ensures.opened e.transcript.lines e.totals h) c.run_crew-ended.ensures.ended
