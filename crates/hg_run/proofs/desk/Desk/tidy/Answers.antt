use Rattle.hg_run.proofs.desk.Desk.tidy.Goals as goal

pub count_live-totals-requires-clause-live : goal.count_live-totals-requires-clause-live
count_live-totals-requires-clause-live g c = let l = c.requires.live in (l.0, l.1, c.collect_unasked.ensures.live l.0 l.1 l.2)

pub returns-clause-live : goal.returns-clause-live
returns-clause-live g c records lines live = c.count_live-totals.ensures.live records lines (c.collect_unasked.ensures.live records lines live)
