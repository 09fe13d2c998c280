use Rattle.std.proofs.Common.{◌≡◌, ◌<◌, length, sym, ap, ◌∙◌, subst, arith, rules}
use Rattle.hg_base.specs.declared.limits.TheConstants.{MOST_SESSIONS, MOST_TABLES}
use Rattle.hg_rule.specs.declared.view.Sizes.{Sizes}
use Rattle.hg_session.specs.Engines.{engine_sizes}
use Rattle.hg_collectors.proofs.Among.{if_ok}
use Rattle.hg_run.specs.declared.engine.TheConstants.{MOST_STATEMENTS}
use Rattle.hg_run.specs.ForAll.{IsOpenedOf}
use Rattle.hg_run.proofs.engine.open_for_all.Goals as goal

pub returns : goal.returns
returns c =
    let some = c.requires in
    let tables : c.into.result ≡ MOST_TABLES = search rules in
    if_ok (λ o. IsOpenedOf (record { sessions = MOST_SESSIONS; tables = c.into.result; buckets = c.args.buckets; quota = MOST_STATEMENTS }) o.0 o.1.sessions.items o.1.collectors)
    _ c.open.result (λ o is.
    let buckets : (engine_sizes o.0).buckets ≡ c.args.buckets = ap (λ (z : Sizes). z.buckets) is.sizes in
    record {
      for_all = record {
        sessions = ap (λ (z : Sizes). z.sessions) is.sizes;
        tables = ap (λ (z : Sizes). z.tables) is.sizes ∙ tables;
        quota = ap (λ (z : Sizes). z.quota) is.sizes;
        some = omega (arith, some, buckets);
      };
      opened = subst (λ z. IsOpenedOf z o.0 o.1.sessions.items o.1.collectors) (sym is.sizes) is;
    }) c.open.ensures.opened
