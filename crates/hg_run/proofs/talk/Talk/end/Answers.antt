use Rattle.hg_talk.specs.Talking.{asked_in}
use Rattle.hg_talk.specs.declared.trouble.Stop.TheVariants as stop
use Rattle.hg_run.proofs.Desking.{going_ended}
use Rattle.hg_run.proofs.talk.Talk.end.Goals as goal

pub returns-clause-exact : goal.returns-clause-exact
returns-clause-exact g c =
    let t = c.requires.1 in
    record { answers = t.answers; exact = c.end.ensures.exact (asked_in c.args.self.minutes.exchanges) t.answers c.requires.0 t.ended; written = t.heard; balanced = t.ended.balanced }

pub returns-clause-told : goal.returns-clause-told
returns-clause-told g c ready =
    let t = c.args.self in
    let sent = asked_in t.minutes.exchanges in
    record {
      exact = record {
        answers = ready.answers;
        exact = c.end.ensures.exact sent ready.answers stop.NoMemory (going_ended t.desk sent ready.answers stop.NoMemory ready.going tt);
        written = ready.heard;
        balanced = ready.going.balanced;
      };
      final = c.end.ensures.totals sent ready.answers ready.going;
    }
