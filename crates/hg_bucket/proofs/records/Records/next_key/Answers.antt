use Rattle.std.proofs.Common.{ap, ◌<◌, length, subst}
use Rattle.std.specs.Prelude.{IfSome}
use Rattle.hg_bucket.specs.BucketModel.{versions_of, record_at, IsNextKey}
use Rattle.hg_bucket.proofs.Reading.{next_of_records}
use Rattle.hg_bucket.proofs.Settling.{some_at}
use Rattle.hg_bucket.specs.Parts.{Recorded}
use Rattle.hg_bucket.proofs.records.Records.next_key.Goals as goal

pub returns-clause-next : goal.returns-clause-next
returns-clause-next c =
    subst (λ h. IsNextKey h c.args.table c.args.from c.next_key.result) (ap (λ (h : Recorded). h.records) c.self.view_is)
    (next_of_records c.self.inside.index c.self.inside.chains c.self.inside.space.places c.args.table c.args.from c.next_key.result c.next_key.ensures)

pub returns-clause-there : goal.returns-clause-there
returns-clause-there c =
    let b = c.self.inside in
    let next = next_of_records b.index b.chains b.space.places c.args.table c.args.from c.next_key.result c.next_key.ensures in
    subst (λ h. IfSome c.next_key.result (λ key. 0 < length (versions_of h (record_at c.args.table key)))) (ap (λ (h : Recorded). h.records) c.self.view_is)
    (some_at b.index b.chains b.space.places c.args.table c.args.from c.next_key.result c.self.invariant.whole next)
