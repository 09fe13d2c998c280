use Rattle.hg_run.proofs.live.collect_unasked.Goals as goal

pub round_unasked-requires-2-clause-live : goal.round_unasked-requires-2-clause-live
round_unasked-requires-2-clause-live g c κs within = let l = c.requires.live in (l.0, l.1, c.round_unasked.ensures.live l.0 l.1 l.2)

pub round_unasked-requires-3-clause-live : goal.round_unasked-requires-3-clause-live
round_unasked-requires-3-clause-live g c κs within =
    let l = c.requires.live in
    (l.0, l.1, c.round_unasked-2.ensures.live l.0 l.1 (c.round_unasked.ensures.live l.0 l.1 l.2))

pub returns-clause-live : goal.returns-clause-live
returns-clause-live g c records lines live =
    c.round_unasked-3.ensures.live records lines (c.round_unasked-2.ensures.live records lines (c.round_unasked.ensures.live records lines live))

pub returns-clause-told : goal.returns-clause-told
returns-clause-told g c lines told = c.round_unasked-3.ensures.told lines (c.round_unasked-2.ensures.told lines (c.round_unasked.ensures.told lines told))
