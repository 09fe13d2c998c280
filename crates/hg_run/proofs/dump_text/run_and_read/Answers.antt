use Rattle.std.proofs.Common.{sym, subst}
use Rattle.std.proofs.lemmas.Result.{IfOk-weaker}
use Rattle.hg_run.specs.Reader.{IsOpenedBeside}
use Rattle.hg_run.proofs.ReadBoth.{has_read_both}
use Rattle.hg_run.proofs.dump_text.run_and_read.Goals as goal

pub read_crew-ended-requires-clause-opened : goal.read_crew-ended-requires-clause-opened
read_crew-ended-requires-clause-opened g c = λ lifetimes bounds.
    let o = c.in_ok-engine.ensures.opened in
    subst (λ b. IsOpenedBeside c.args.script.now b c.in_ok-engine.engine c.in_ok-engine.crew.sessions.items c.in_ok-engine.crew.collectors c.in_ok-engine.extra)
    (sym o.opened.buckets_are) o

pub returns-clause-read : goal.returns-clause-read
returns-clause-read g c =
    IfOk-weaker c.read_crew-ended.result _ _ (λ o h. has_read_both c.args.options.now.buckets c.args.options.now.long c.args.options.now.rounds c.args.script.now c.requires.lawful c.in_ok-engine.engine
    c.in_ok-engine.crew.sessions.items c.in_ok-engine.crew.collectors c.in_ok-engine.extra c.in_ok-engine.ensures.opened c.args.alloc c.args.dumps.now c.requires.empty
    o.transcript.lines o.totals c.read_crew-ended.new.dumps h) c.read_crew-ended.ensures.ended
