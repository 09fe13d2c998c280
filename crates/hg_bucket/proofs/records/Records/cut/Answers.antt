use Rattle.std.proofs.Common.{sym, ap, ◌∙◌}
use Rattle.hg_bucket.specs.BucketModel.{versions_of, cut_at}
use Rattle.hg_bucket.specs.Parts.{Recorded}
use Rattle.hg_bucket.proofs.Reading.{no_versions}
use Rattle.hg_bucket.proofs.records.Records.cut.Goals as goal

pub returns-in_default-clause-here : goal.returns-in_default-clause-here
returns-in_default-clause-here c =
    let b = c.self.inside in
    let empty = ap (λ h. versions_of h c.args.rid) (sym (ap (λ (h : Recorded). h.records) c.self.view_is)) ∙
    no_versions b.index b.chains b.space.places c.args.rid (sym c.place.ensures.place ∙ c.in_default.is) in
    empty ∙ ap (cut_at c.args.bound) (sym empty)
