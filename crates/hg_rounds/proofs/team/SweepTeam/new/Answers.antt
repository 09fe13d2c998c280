use Rattle.std.proofs.Common.{rules, refl, sym, subst}
use Rattle.hg_rule.specs.declared.passes.CollectorPass.{CollectorPass}
use Rattle.hg_rule.specs.Sharing.{MaySplit}
use Rattle.hg_rule.specs.Views.{pass}
use Rattle.hg_rule.specs.Seats.{pass_view}
use Rattle.hg_rounds.specs.Word.{IsFresh}
use Rattle.hg_rounds.proofs.team.SweepTeam.new.Goals as goal

pub returns-in-Ok-new-2-clause-team : goal.returns-in-Ok-new-2-clause-team
returns-in-Ok-new-2-clause-team c t z own may sessions tables = record {
  own = c.in-Ok-new-2.ensures.rounds t z own sessions tables;
  may = subst (λ (p : CollectorPass). MaySplit c.args.helpers (pass (pass_view p)).share) (sym c.in-Ok-new-2.ensures.same) may;
  some = c.requires.helpers.0;
  few = c.requires.helpers.1;
  none = c.in-Ok.ensures.items;
  places = search rules;
  drawer = c.in-Ok-new.ensures.own;
  fresh_is = subst IsFresh (sym c.in-Ok-new.ensures.fresh) record { left = refl; numbers = refl; joined = refl };
}
