use Rattle.std.proofs.Common.{◌≡◌, List, length, sym, ap, ◌∙◌, subst}
use Rattle.hg_rule.specs.declared.view.Sizes.{Sizes}
use Rattle.hg_rule.specs.declared.passes.CollectorPass.{CollectorPass}
use Rattle.hg_rule.specs.Facts.{new_pass}
use Rattle.hg_rule.specs.New.{EachFrom}
use Rattle.hg_rule.specs.Seats.{pass_view}
use Rattle.hg_rule.specs.Views.{pass}
use Rattle.hg_session.specs.declared.session.Session.{Session}
use Rattle.hg_session.specs.Engines.{engine_board_id, engine_sizes}
use Rattle.hg_session.specs.Opened.{IsNewOf}
use Rattle.hg_collectors.specs.Collecting.{view_in}
use Rattle.hg_collectors.proofs.Among.{by_kind}
use Rattle.hg_run.specs.Collecting.{passes_of, removed_in}
use Rattle.hg_run.proofs.Alone.{lone}
use Rattle.hg_run.proofs.Closes.{new_part_of, new_removed}
use Rattle.hg_run.proofs.engine.open.Goals as goal

pub returns-clause-opened : goal.returns-clause-opened
returns-clause-opened c =
    let e = c.in_ok-engine.engine in
    let sizes = c.in_ok-engine.ensures.sizes in
    let size : (engine_sizes e).sessions ≡ c.args.room.sessions = ap (λ (z : Sizes). z.sessions) sizes in
    let tables : (engine_sizes e).tables ≡ c.args.room.tables = ap (λ (z : Sizes). z.tables) sizes ∙ sym c.requires.tables.1 in
    let quota : (engine_sizes e).quota ≡ c.args.quota = ap (λ (z : Sizes). z.quota) sizes in
    let t = engine_board_id e in
    let passes = c.in_ok-engine.passes in
    let alone = c.in_ok-engine.ensures.alone in
    let is = c.in-Ok.ensures.same in
    let same : passes_of c.in-Ok.collectors ≡ passes = λ i. record { group = is.0 i; table = is.1 i; interval = is.2 i } in
    record {
      sizes = sizes ∙ ap (λ n. record { sessions = c.args.room.sessions; tables = n; buckets = c.args.buckets; quota = c.args.quota }) (sym c.requires.tables.1);
      all = ap (λ (l : List Session). length l) c.into_vec.ensures ∙ (c.in_ok-engine.ensures.count ∙ sym size);
      new = subst (EachFrom (IsNewOf e (engine_sizes e).quota) 1) (sym c.into_vec.ensures) (subst (λ q. EachFrom (IsNewOf e q) 1 c.in_ok-engine.list) (sym quota) c.in_ok-engine.ensures.sessions);
      collectors_are = c.in-Ok.ensures.own t (engine_sizes e)
          (lone t 0 passes.group alone.group, lone t 1 passes.table alone.table, lone t 2 passes.interval alone.interval) size tables;
      none = λ k. ap (removed_in k) same ∙ new_removed e passes k c.in_ok-engine.ensures.passes;
      fresh = by_kind (λ k. pass (view_in k c.in-Ok.collectors) ≡ new_pass)
          (ap (λ (p : CollectorPass). pass (pass_view p)) is.0 ∙ new_part_of t 0 passes.group c.in_ok-engine.ensures.passes.0)
          (ap (λ (p : CollectorPass). pass (pass_view p)) is.1 ∙ new_part_of t 1 passes.table c.in_ok-engine.ensures.passes.1)
          (ap (λ (p : CollectorPass). pass (pass_view p)) is.2 ∙ new_part_of t 2 passes.interval c.in_ok-engine.ensures.passes.2);
    }
