use Rattle.std.proofs.Common.{ap, ◌∙◌}
use Rattle.hg_bucket.specs.BucketModel.{versions_of, read_at, record_at}
use Rattle.hg_bucket.proofs.Sweeps.{read_same}
use Rattle.hg_bucket.proofs.bucket.Bucket.sweep.Goals as goal

pub returns-clause-seen : goal.returns-clause-seen
returns-clause-seen g c =
    λ k s own protected.
    let vs = versions_of c.self.inside.records.records (record_at c.args.table k) in
    ap (read_at own s) (c.sweep_table-gone.ensures.each k)
    ∙ read_same own c.args.horizon s c.args.snapshots.now vs protected
    ∙ ap (λ h. read_at own s (versions_of h.records (record_at c.args.table k))) c.self.view_is
