use Rattle.std.proofs.Common.{slice_get, ap, ◌∙◌}
use Rattle.hg_bucket.specs.BucketModel.{keys_in}
use Rattle.hg_bucket.specs.Parts.{Recorded}
use Rattle.hg_bucket.proofs.Listed.{listed_at, listed_within}
use Rattle.hg_bucket.proofs.records.Records.cut_long.Goals as goal

pub place-place-requires : goal.place-place-requires
place-place-requires c = listed_within c.self.inside.longs c.args.rid c.args.at (ap (λ (h : Recorded). slice_get (keys_in h.long c.args.rid.table) c.args.at) c.self.view_is ∙ c.requires.stands)

pub cut-requires-clause-has : goal.cut-requires-clause-has
cut-requires-clause-has c =
    let b = c.self.inside in
    (listed_at b.index b.chains b.longs c.args.rid c.place-place.result c.args.at c.self.invariant.listed
    (ap (λ (h : Recorded). slice_get (keys_in h.long c.args.rid.table) c.args.at) c.self.view_is ∙ c.requires.stands) c.place-place.ensures).0
