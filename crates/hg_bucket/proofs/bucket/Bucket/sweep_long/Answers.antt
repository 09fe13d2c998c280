use Rattle.std.proofs.Common.{ap, ◌∙◌}
use Rattle.hg_bucket.specs.BucketModel.{versions_of, read_at}
use Rattle.hg_bucket.proofs.Sweeps.{read_same}
use Rattle.hg_bucket.proofs.bucket.Bucket.sweep_long.Goals as goal

pub returns-clause-seen : goal.returns-clause-seen
returns-clause-seen g c =
    λ s own protected.
    let vs = versions_of c.self.inside.records.records c.args.rid in
    ap (read_at own s) c.sweep_long-swept.ensures.here
    ∙ read_same own c.args.horizon s c.args.snapshots.now vs protected
    ∙ ap (λ h. read_at own s (versions_of h.records c.args.rid)) c.self.view_is
