use Rattle.std.proofs.Common.{◌+◌, length}
use Rattle.hg_journal.specs.Device.{Grown}
use Rattle.hg_journal.proofs.Moments.{started, goes_on}
use Rattle.hg_journal.proofs.Grows.{after_first, after_second, not_grown}
use Rattle.hg_journal.proofs.synced.extend.Goals as goal

-- the two writes, and the sync
pub returns-clause-any_moment : goal.returns-clause-any_moment
returns-clause-any_moment g c =
    let d = c.args.device.now in
    let file = g.D.Device.seen d in
    let n = length c.args.text.now in
    let P = Grown (n + 1) file in
    let first = after_first file n c.args.end c.requires.end _ _ c.requires.durable c.write_at.ensures.crash in
    let second = after_second file n c.args.end c.requires.end _ _ _ c.requires.durable c.write_at.ensures.crash c.write_at-2.ensures.crash in
    let at_start = started g.D.Device.moment g.D.Device.left_since d P (λ f left. not_grown file (n + 1) f (c.requires.durable f (g.met.D.Device.only_now d f left))) in
    let begun = goes_on g.D.Device.moment g.D.Device.left_since d d c.write_at.new.self P _ at_start c.write_at.ensures.time first in
    let written = goes_on g.D.Device.moment g.D.Device.left_since d c.write_at.new.self c.write_at-2.new.self P _ begun c.write_at-2.ensures.time second in
    goes_on g.D.Device.moment g.D.Device.left_since d c.write_at-2.new.self c.sync.new.self P _ written c.sync.ensures.time (λ f now. second f (c.sync.ensures.crash f now))
