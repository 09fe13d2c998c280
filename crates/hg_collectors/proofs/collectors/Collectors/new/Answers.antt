use Rattle.std.proofs.Common.{sym, subst}
use Rattle.hg_collectors.specs.Collecting.{IsLone}
use Rattle.hg_collectors.proofs.collectors.Collectors.new.Goals as goal

pub returns-clause-own : goal.returns-clause-own
returns-clause-own c t z lone sessions tables = record {
  group_is = c.in-Ok.ensures.collector t z lone.0.own sessions tables;
  table_is = c.in-Ok-new.ensures.collector t z lone.1.own sessions tables;
  interval_is = c.in_ok-interval.ensures.own t z lone.2.own lone.2.share sessions tables;
  alone = record {
    group = subst (IsLone t 0) (sym c.in-Ok.ensures.same) lone.0;
    table = subst (IsLone t 1) (sym c.in-Ok-new.ensures.same) lone.1;
    interval = subst (IsLone t 2) (sym c.in_ok-interval.ensures.same) lone.2;
  };
}
