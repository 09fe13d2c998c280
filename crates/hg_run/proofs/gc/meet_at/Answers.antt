use Rattle.std.proofs.Common.{◌≡◌, ◌∙◌, sym, subst, rules}
use Rattle.std.specs.Prelude.{get_or}
use Rattle.hg_session.specs.Finished.{AreAmong}
use Rattle.hg_session.specs.Sessions.{seen_by}
use Rattle.hg_collectors.specs.Collecting.{view_in}
use Rattle.hg_run.proofs.Listing.{get_any}
use Rattle.hg_run.proofs.gc.meet_at.Goals as goal

pub returns-clause-heard : goal.returns-clause-heard
returns-clause-heard c d =
    let x = c.index_mut.result.now in
    let here : get_or c.args.list.now.items c.args.i x ≡ x = search rules in
    let same : x ≡ get_or c.args.list.now.items c.args.i d = sym here ∙ get_any x d c.args.list.now.items c.args.i c.requires.within in
    subst (λ s. AreAmong (seen_by s) (view_in c.args.kind c.meet.new.collectors).sights) same c.meet.ensures.heard
