use Rattle.std.proofs.Common.{inl, inr}
use Rattle.hg_session.specs.Passing.{passes_with}
use Rattle.hg_session.proofs.Passing.{all_passes, three_passes, no_session, all_visits, all_journals, own_stays, all_seen, all_done, events_stay}
use Rattle.hg_session.proofs.finish.join_all.Goals as goal

pub returns-clause-passes : goal.returns-clause-passes
returns-clause-passes c = all_passes c.args.engine.now (passes_with c.args.group c.args.pass.now c.args.interval) _ _ c.requires.alone c.join.ensures.view c.join-2.ensures.view

pub returns-clause-none : goal.returns-clause-none
returns-clause-none c = no_session c.args.engine.now (passes_with c.args.group c.args.pass.now c.args.interval) _ _ c.requires.alone c.join.ensures.view c.join-2.ensures.view

pub returns-clause-visits : goal.returns-clause-visits
returns-clause-visits c = all_visits c.args.engine.now (passes_with c.args.group c.args.pass.now c.args.interval) _ _ c.requires.alone c.join.ensures.view c.join-2.ensures.view

pub returns-clause-journals : goal.returns-clause-journals
returns-clause-journals c = all_journals c.args.engine.now (passes_with c.args.group c.args.pass.now c.args.interval) _ _ c.requires.alone c.join.ensures.view c.join-2.ensures.view

pub returns-clause-stays : goal.returns-clause-stays
returns-clause-stays c = own_stays c.args.engine.now (passes_with c.args.group c.args.pass.now c.args.interval) _ _ c.requires.alone c.join.ensures.view c.join-2.ensures.view

pub returns-clause-seen : goal.returns-clause-seen
returns-clause-seen c =
    let all = all_seen c.args.engine.now (passes_with c.args.group c.args.pass.now c.args.interval) _ _ c.requires.alone c.join.ensures.view c.join-2.ensures.view in
    (λ s i. all s (inl i), λ s i. all s (inr (inl i)), λ s i. all s (inr (inr i)))

pub returns-clause-did : goal.returns-clause-did
returns-clause-did c =
    let all = all_done c.args.engine.now (passes_with c.args.group c.args.pass.now c.args.interval) _ _ c.requires.alone c.join.ensures.view c.join-2.ensures.view in
    (λ x i. all x (inl i), λ x i. all x (inr i))

pub returns-clause-events : goal.returns-clause-events
returns-clause-events c = events_stay c.args.engine.now (passes_with c.args.group c.args.pass.now c.args.interval) _ _ c.requires.alone c.join.ensures.view c.join-2.ensures.view

pub returns-clause-count : goal.returns-clause-count
returns-clause-count c = three_passes c.args.engine.now (passes_with c.args.group c.args.pass.now c.args.interval) _ _ c.requires.alone c.join.ensures.view c.join-2.ensures.view
