use Rattle.std.proofs.Common.{◌≡◌, ◌+◌, ◌*◌, ◌≤◌, List, length, sym, ap, ◌∙◌, subst, arith, rules}
use Rattle.std.specs.Prelude.{◌==◌, max, IfOk}
use Rattle.std.proofs.lemmas.Nat.{mul-le}
use Rattle.hg_base.specs.declared.statement.Record.{Record}
use Rattle.hg_rule.specs.declared.view.Sizes.{Sizes}
use Rattle.hg_session.specs.Engines.{engine_sizes}
use Rattle.hg_collectors.specs.Workers.{HasHelpers}
use Rattle.hg_collectors.proofs.Among.{if_ok}
use Rattle.hg_exact.proofs.Sessions.{sessions_within}
use Rattle.hg_run.specs.Driven.{sessions_in}
use Rattle.hg_run.specs.ForAll.{IsOpenedOf}
use Rattle.hg_run.proofs.Hiring.{few}
use Rattle.hg_run.proofs.engine.open_with.Goals as goal

pub overflow_add-sessions : goal.overflow_add-sessions
overflow_add-sessions c =
    let most = sessions_within c.args.script.now c.requires.lawful in
    omega (arith, most, c.sessions.ensures, c.requires.few)

pub open-requires-clause-room : goal.open-requires-clause-room
open-requires-clause-room c =
    let most = sessions_within c.args.script.now c.requires.lawful in
    let sessions : c.sessions.result + c.args.more ≤ 65 = omega (arith, most, c.sessions.ensures, c.requires.few) in
    let quota : c.max-quota.result ≤ 1048578 = omega (arith, c.max-quota.ensures, c.record_count.ensures.same, c.record_count.ensures.most, c.requires.few) in
    let product = mul-le (c.sessions.result + c.args.more) c.max-quota.result 65 1048578 sessions quota in
    omega (arith, product)

pub returns-clause-opened : goal.returns-clause-opened
returns-clause-opened c =
    let tables : c.len.result ≡ length c.args.script.now.tables = search rules in
    let sessions : c.sessions.result + c.args.more ≡ c.args.more + sessions_in c.args.script.now = (let s = c.sessions.ensures in omega (arith, s)) in
    let most : length c.args.script.now.records ≤ c.max-quota.result = omega (arith, c.max-quota.ensures, c.record_count.ensures.same) in
    if_ok (λ o. IsOpenedOf (record { sessions = c.sessions.result + c.args.more; tables = c.len.result; buckets = c.args.options.now.buckets; quota = c.max-quota.result }) o.0 o.1.sessions.items o.1.collectors)
    _ c.open.result (λ o is.
    let quota : (engine_sizes o.0).quota ≡ c.max-quota.result = ap (λ (z : Sizes). z.quota) is.sizes in
    let all : length c.args.script.now.records ≤ (engine_sizes o.0).quota = omega (arith, quota, most) in
    record {
      sessions_are = ap (λ (z : Sizes). z.sessions) is.sizes ∙ sessions;
      tables = ap (λ (z : Sizes). z.tables) is.sizes ∙ tables;
      buckets_are = ap (λ (z : Sizes). z.buckets) is.sizes;
      quota = all;
      statements = λ j. let fewer = few (λ (r : Record). r.session == j) c.args.script.now.records in omega (arith, fewer, all);
      all = is.all;
      new = is.new;
      collectors_are = is.collectors_are;
      none = is.none;
      fresh = is.fresh;
    }) c.open.ensures.opened

pub returns-clause-helpers : goal.returns-clause-helpers
returns-clause-helpers c = subst (λ n. IfOk c.open.result (λ o. HasHelpers n o.1.collectors.interval)) c.sweepers_of.ensures.asked c.open.ensures.helpers

pub returns-clause-quota : goal.returns-clause-quota
returns-clause-quota c =
    let same : c.max-quota.result ≡ max 1 (length c.args.script.now.records + 2 * c.args.more) = omega (arith, c.max-quota.ensures, c.record_count.ensures.same) in
    if_ok (λ o. IsOpenedOf (record { sessions = c.sessions.result + c.args.more; tables = c.len.result; buckets = c.args.options.now.buckets; quota = c.max-quota.result }) o.0 o.1.sessions.items o.1.collectors)
    _ c.open.result (λ o is. ap (λ (z : Sizes). z.quota) is.sizes ∙ same) c.open.ensures.opened
