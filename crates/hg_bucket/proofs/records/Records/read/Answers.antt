use Rattle.std.proofs.Common.{◌≡◌, sym, ap, ◌∙◌, subst, None}
use Rattle.std.specs.Option.{option_copied, option_or}
use Rattle.hg_space.specs.Places.{image_at}
use Rattle.hg_bucket.specs.BucketModel.{read_at, versions_of}
use Rattle.hg_bucket.specs.Parts.{oldest_by}
use Rattle.hg_bucket.proofs.Reading.{read_there, read_absent}
use Rattle.hg_bucket.specs.Parts.{Recorded}
use Rattle.hg_bucket.proofs.records.Records.read.Goals as goal

pub returns-in_err-place : goal.returns-in_err-place
returns-in_err-place c =
    let b = c.self.inside in
    let none = read_absent b.index b.chains b.space.places c.args.rid c.args.own c.args.snapshot (sym c.place.ensures.place ∙ c.in_err-place.was) in
    ap option_copied c.from_residual.ensures
    ∙ subst (λ h. None ≡ read_at c.args.own c.args.snapshot (versions_of h c.args.rid)) (ap (λ (h : Recorded). h.records) c.self.view_is) (sym none)

pub returns-in-Some : goal.returns-in-Some
returns-in-Some c =
    let b = c.self.inside in
    let p = c.in_ok-place.place in
    let there = read_there b.index b.chains b.space.places c.args.rid p c.args.own c.args.snapshot (sym c.place.ensures.place ∙ c.in_ok-place.was) in
    ap (λ x. option_or x (oldest_by c.args.snapshot (image_at b.space.places p))) (sym (ap option_copied c.in-Some.is) ∙ c.read_chain.ensures)
    ∙ sym there
    ∙ ap (λ h. read_at c.args.own c.args.snapshot (versions_of h c.args.rid)) (ap (λ (h : Recorded). h.records) c.self.view_is)

pub returns-in-None : goal.returns-in-None
returns-in-None c =
    let b = c.self.inside in
    let p = c.in_ok-place.place in
    let there = read_there b.index b.chains b.space.places c.args.rid p c.args.own c.args.snapshot (sym c.place.ensures.place ∙ c.in_ok-place.was) in
    c.read.ensures
    ∙ ap (λ x. option_or x (oldest_by c.args.snapshot (image_at b.space.places p))) (sym (ap option_copied c.in-None.is) ∙ c.read_chain.ensures)
    ∙ sym there
    ∙ ap (λ h. read_at c.args.own c.args.snapshot (versions_of h c.args.rid)) (ap (λ (h : Recorded). h.records) c.self.view_is)
