use Rattle.std.proofs.Common.{◌≡◌, ◌≤◌, arith, List, [], refl, sym, subst}
use Rattle.hg_base.specs.declared.report.Kind.{Kind}
use Rattle.hg_script.specs.Judging.{Knows}
use Rattle.hg_base.specs.Script.{Script}
use Rattle.hg_exact.proofs.Due.{due_none}
use Rattle.hg_run.specs.Live.{IsLive}
use Rattle.hg_run.proofs.Desking.{live_first}
use Rattle.hg_run.proofs.desk.Desk.new.Goals as goal

pub returns : goal.returns
returns c =
    let o = c.in_ok-engine.ensures in
    let e = c.in_ok-engine.engine in
    let crew = c.in_ok-engine.crew in
    record {
      due = due_none.0;
      balanced = tt;
      place = refl;
      knows = subst (Knows c.new.result) (sym due_none.1) c.new.ensures;
      live = subst (λ (s : Script). IsLive e crew.sessions.items 0 s.records []) (sym due_none.1) (live_first e crew.sessions.items crew.collectors o);
      told = λ kind. omega arith;
      collectors = o.opened.collectors_are;
      for_all = o.for_all;
    }
