use Rattle.std.proofs.Common.{◌++◌, ◌∷◌, [], refl, sym, ap, ◌∙◌, append_assoc, append-nil}
use Rattle.hg_rule.specs.Seats.{pass_view}
use Rattle.hg_group.specs.Oldest.{records_of}
use Rattle.hg_group.proofs.NextGroup.{pops_none, pops_more, records_more}
use Rattle.hg_group.proofs.contexts.pop_some.Goals as goal

pub loop-context-init : goal.loop-context-init
loop-context-init c = record {
  popped = ([], (sym (append-nil c.args.into.now.items), pops_none (pass_view c.args.pass.now) c.args.bound c.requires.own.1 c.requires.held));
  contexts = c.requires.contexts;
  own = c.requires.own;
  same = refl;
}

pub returns-then-len-capacity-clause-popped : goal.returns-then-len-capacity-clause-popped
returns-then-len-capacity-clause-popped c =
    let p = c.loop-context.invariant.popped in
    record {
      contexts = p.0;
      listed = p.1.0;
      pops = pops_more (pass_view c.args.pass.now) (pass_view c.loop-context.pass) (pass_view c.pop_below.new.pass) c.args.bound p.0 c.in-Some.context p.1.1 c.in-Some.ensures.popped;
      enough = λ e. absurd cc;
    }

pub loop-context-preserved : goal.loop-context-preserved
loop-context-preserved c =
    let p = c.loop-context.invariant.popped in
    let old = c.args.into.now.items in
    let new = c.in-Some.context.records.list in
    record {
      popped = (
        p.0 ++ c.in-Some.context ∷ [],
        (
          c.push_all.ensures.pushed ∙ ((λ i. p.1.0 i ++ c.as_slice.ensures i) ∙ (append_assoc old (records_of p.0) new ∙ ap (λ l. old ++ l) (sym (records_more p.0 c.in-Some.context)))),
          pops_more (pass_view c.args.pass.now) (pass_view c.loop-context.pass) (pass_view c.pop_below.new.pass) c.args.bound p.0 c.in-Some.context p.1.1 c.in-Some.ensures.popped,
        ),
      );
      contexts = c.in-Some.ensures.contexts;
      own = c.in-Some.ensures.own;
      same = c.push_all.ensures.same ∙ c.loop-context.invariant.same;
    }
