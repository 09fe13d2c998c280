use Rattle.std.proofs.Common.{◌<◌, length, sym, ap, ◌∙◌, subst, slice_get}
use Rattle.std.proofs.lemmas.List.{length-map}
use Rattle.hg_space.specs.Rosters.{list_of}
use Rattle.hg_bucket.specs.BucketModel.{keys_in}
use Rattle.hg_bucket.specs.Parts.{Recorded}
use Rattle.hg_bucket.proofs.Listed.{keys_seen}
use Rattle.hg_bucket.proofs.records.Records.long_key.Goals as goal

pub key-requires : goal.key-requires
key-requires c =
    let b = c.self.inside in
    let t = c.args.table in
    subst (λ n. c.args.at < n)
    (sym (ap (λ (h : Recorded). length (keys_in h.long t)) c.self.view_is) ∙ ap (λ ks. length ks) (keys_seen b.longs t) ∙ length-map (list_of b.longs t.0) (λ e. e.key))
    c.requires

pub returns : goal.returns
returns c =
    let b = c.self.inside in
    let t = c.args.table in
    ap (λ (h : Recorded). slice_get (keys_in h.long t) c.args.at) (sym c.self.view_is)
    ∙ ap (λ ks. slice_get ks c.args.at) (keys_seen b.longs t)
    ∙ c.key.ensures
