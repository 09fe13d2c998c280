use Rattle.std.proofs.Common.{length, sym, ap, ◌∙◌, subst}
use Rattle.std.proofs.lemmas.List.{length-map}
use Rattle.hg_space.specs.Rosters.{list_of}
use Rattle.hg_bucket.specs.BucketModel.{keys_in}
use Rattle.hg_bucket.specs.Long.{AreLong}
use Rattle.hg_bucket.specs.Parts.{Recorded}
use Rattle.hg_bucket.proofs.Listed.{keys_seen, all_long}
use Rattle.hg_bucket.proofs.records.Records.long_count.Goals as goal

pub returns-clause-count : goal.returns-clause-count
returns-clause-count c =
    let b = c.self.inside in
    let t = c.args.table in
    c.count.ensures
    ∙ sym (length-map (list_of b.longs t.0) (λ e. e.key))
    ∙ sym (ap (λ ks. length ks) (keys_seen b.longs t))
    ∙ ap (λ (h : Recorded). length (keys_in h.long t)) c.self.view_is

pub returns-clause-whole : goal.returns-clause-whole
returns-clause-whole c =
    let b = c.self.inside in
    let t = c.args.table in
    subst (λ (h : Recorded). AreLong (keys_in h.long t) t h.records) c.self.view_is
    (all_long b.index b.chains b.space.places b.longs t c.self.invariant.whole c.self.invariant.listed c.stand_once.ensures)
