use Rattle.std.proofs.Common.{◌∙◌, sym, ap, subst}
use Rattle.hg_rule.specs.declared.passes.CollectorPass.{CollectorPass}
use Rattle.hg_rule.specs.Seats.{pass_view}
use Rattle.hg_rule.specs.Views.{pass}
use Rattle.hg_session.specs.Finished.{AreAmong, AreDone, HaveGone}
use Rattle.hg_session.specs.Passing.{AreAlone, passes_with, journals_of, visits_of}
use Rattle.hg_collectors.specs.Collecting.{view_in}
use Rattle.hg_collectors.proofs.Among.{by_kind}
use Rattle.hg_run.proofs.Alone.{all_alone}
use Rattle.hg_run.proofs.end.bring.Goals as goal

pub join_all-requires : goal.join_all-requires
join_all-requires c = record {
  alone = subst (AreAlone c.args.engine.now) (λ i. passes_with (sym c.into_pass.ensures i) (sym c.lend.ensures.pass i) (sym c.into_pass-2.ensures i))
      (all_alone c.args.engine.now c.args.collectors c.requires.collectors);
}

pub returns-clause-brought : goal.returns-clause-brought
returns-clause-brought c =
    let u = pass_view c.join_all.new.pass in
    let h = c.join_all.ensures in
    record {
      joined = u;
      passes = record {
        own = h.own.1;
        passes = h.passes;
        three = h.count;
        none = h.none;
        visits = h.visits ∙ (λ i. visits_of (passes_with (c.into_pass.ensures i) (c.lend.ensures.pass i) (c.into_pass-2.ensures i)));
        journals = h.journals ∙ (λ i. journals_of (passes_with (c.into_pass.ensures i) (c.lend.ensures.pass i) (c.into_pass-2.ensures i)));
        stays = (h.stays.0, h.stays.1 ∙ ap (λ (p : CollectorPass). pass (pass_view p)) c.lend.ensures.pass);
        seen = by_kind (λ kind. AreAmong (view_in kind c.args.collectors).sights u.sights)
            (subst (λ (p : CollectorPass). AreAmong (pass_view p).sights u.sights) c.into_pass.ensures h.seen.0)
            (subst (λ (p : CollectorPass). AreAmong (pass_view p).sights u.sights) c.lend.ensures.pass h.seen.1)
            (subst (λ (p : CollectorPass). AreAmong (pass_view p).sights u.sights) c.into_pass-2.ensures h.seen.2);
        did = (
          subst (λ (p : CollectorPass). AreDone (pass_view p).events u.sights) c.into_pass.ensures h.did.0,
          subst (λ (p : CollectorPass). AreDone (pass_view p).events u.sights) c.into_pass-2.ensures h.did.1,
        );
        events = h.events ∙ ap (λ (p : CollectorPass). (pass_view p).events) c.lend.ensures.pass;
      };
      went = subst (λ (p : CollectorPass). HaveGone c.args.list.items (pass_view p) (pass_view c.finish_some.new.pass)) c.lend-2.ensures.pass c.finish_some.ensures.went;
    }
