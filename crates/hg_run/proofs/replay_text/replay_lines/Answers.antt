use Rattle.std.proofs.Common.{arith}
use Rattle.std.proofs.lemmas.Result.{IfOk-weaker}
use Rattle.hg_base.specs.Script.{replay}
use Rattle.hg_exact.proofs.Fits.{sound_fits}
use Rattle.hg_run.specs.Words.{settings_in}
use Rattle.hg_run.proofs.Closing.{replay_exact, replay_one, replay_sound}
use Rattle.hg_run.proofs.replay_text.replay_lines.Goals as goal

pub returns-clause-sound : goal.returns-clause-sound
returns-clause-sound g c =
    let o = c.args.options.now in
    IfOk-weaker c.replay_crew-ended.result _ _ (λ e h. replay_sound (settings_in replay o) c.args.script.now c.requires.lawful c.in_ok-engine.engine c.in_ok-engine.crew.sessions.items
    c.in_ok-engine.crew.collectors c.in_ok-engine.ensures.opened e.transcript.lines e.totals h) c.replay_crew-ended.ensures.ended

pub returns-clause-exact : goal.returns-clause-exact
returns-clause-exact g c =
    let o = c.args.options.now in
    IfOk-weaker c.replay_crew-ended.result _ _ (λ e h. replay_exact (settings_in replay o) c.args.script.now c.requires.lawful c.in_ok-engine.engine c.in_ok-engine.crew.sessions.items
    c.in_ok-engine.crew.collectors c.in_ok-engine.ensures.opened e.transcript.lines e.totals h) c.replay_crew-ended.ensures.ended

pub returns-clause-few : goal.returns-clause-few
returns-clause-few g c = IfOk-weaker c.replay_crew-ended.result _ _ (λ e h. h.played.few c.in_ok-engine.ensures.opened.none) c.replay_crew-ended.ensures.ended

pub returns-clause-fit : goal.returns-clause-fit
returns-clause-fit g c =
    IfOk-weaker c.replay_crew-ended.result _ _ (λ o. sound_fits replay c.args.script.now (record { lines = o.transcript.lines; totals = o.totals }) (omega arith) c.requires.lawful)
    (returns-clause-sound g c)

pub returns-clause-one_run : goal.returns-clause-one_run
returns-clause-one_run g c =
    let o = c.args.options.now in
    IfOk-weaker c.replay_crew-ended.result _ _ (λ e h. replay_one (settings_in replay o) c.args.script.now c.requires.lawful c.in_ok-engine.engine c.in_ok-engine.crew.sessions.items
    c.in_ok-engine.crew.collectors c.in_ok-engine.ensures.opened e.transcript.lines e.totals h) c.replay_crew-ended.ensures.ended
